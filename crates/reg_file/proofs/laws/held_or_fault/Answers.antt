use Rattle.std.proofs.Common.{true, false, subst}
use Rattle.reg_file.specs.Reading.{FaultBy}
use Rattle.reg_file.proofs.HoldLemmas as registers
use Rattle.reg_file.proofs.SummaryLemmas as summaries
use Rattle.reg_file.proofs.PieceLemmas as pieces
use Rattle.reg_file.proofs.KindLemmas.{register_says, piece_says}
use Rattle.reg_file.proofs.laws.held_or_fault.Goals as goal

pub returns-clause-register : goal.returns-clause-register
returns-clause-register c = λ bytes x f place h k. registers.held_or_fault bytes x k.0 h k.1

pub returns-clause-seen : goal.returns-clause-seen
returns-clause-seen c = λ bytes ids f place h k. summaries.held_or_fault bytes ids k.0 h k.1

pub returns-clause-piece : goal.returns-clause-piece
returns-clause-piece c = λ bytes p f place h k. pieces.held_or_fault bytes p k.0 h k.1

pub returns-clause-part_register : goal.returns-clause-part_register
returns-clause-part_register c = λ bytes x f place h k.
    let fails : FaultBy false bytes f place = subst (λ b. FaultBy b bytes f place) (register_says bytes x h) k in
    registers.held_or_fault bytes x fails.0 h fails.1

pub returns-clause-part_piece : goal.returns-clause-part_piece
returns-clause-part_piece c = λ bytes p f place h k.
    let fails : FaultBy true bytes f place = subst (λ b. FaultBy b bytes f place) (piece_says bytes p h) k in
    pieces.held_or_fault bytes p fails.0 h fails.1
