use Rattle.reg_file.proofs.HoldLemmas as registers
use Rattle.reg_file.proofs.SummaryLemmas as summaries
use Rattle.reg_file.proofs.PieceLemmas as pieces
use Rattle.reg_file.proofs.laws.one_version.Goals as goal

pub returns-clause-register : goal.returns-clause-register
returns-clause-register c = registers.one_version

pub returns-clause-seen : goal.returns-clause-seen
returns-clause-seen c = summaries.one_version

pub returns-clause-piece : goal.returns-clause-piece
returns-clause-piece c = pieces.one_version
