use Rattle.std.proofs.Common.{map, length}
use Rattle.reg_sense.specs.Claimants.{voice}
use Rattle.reg_lint.specs.Details.{voice_of}
use Rattle.reg_lint.specs.Disputes.{is_open, sifted}
use Rattle.reg_lint.specs.Subjects.{Subject}
use Rattle.reg_lint.proofs.KeptLemmas.{Maps}
use Rattle.reg_lint.proofs.voices.claimants_of.Given as goal

abbrev pub invariant-loop-one : goal.invariant-loop-one
invariant-loop-one l = Maps (λ (s : Subject). sifted (is_open l.disputes l.rule) (voice_of l.rule s)) l.kept l.rest (map voice l.made.items)

abbrev pub decreases-loop-one : goal.decreases-loop-one
decreases-loop-one l = length l.rest
