use Rattle.reg_file.proofs.HoldLemmas as registers
use Rattle.reg_file.proofs.SummaryLemmas as summaries
use Rattle.reg_file.proofs.PieceLemmas as pieces
use Rattle.reg_file.proofs.KindLemmas.{one_part_fault}
use Rattle.reg_file.proofs.laws.one_first_fault.Goals as goal

pub returns-clause-register : goal.returns-clause-register
returns-clause-register c = registers.one_first_fault

pub returns-clause-seen : goal.returns-clause-seen
returns-clause-seen c = summaries.one_first_fault

pub returns-clause-piece : goal.returns-clause-piece
returns-clause-piece c = pieces.one_first_fault

pub returns-clause-part : goal.returns-clause-part
returns-clause-part c = one_part_fault
