use Rattle.std.proofs.Common.{sym, ◌∙◌, subst}
use Rattle.reg_journal.specs.Standing.{Leasts}
use Rattle.reg_journal.proofs.LeastLemmas.{leasts_first, leasts_second}
use Rattle.reg_journal.proofs.forged.lesser.Goals as goal

pub returns-then-is_before : goal.returns-then-is_before
returns-then-is_before c = λ t u h k.
    leasts_second t u c.in-Some.one c.in-Some-b.other (subst (Leasts t) c.in-Some.is h) (subst (Leasts u) c.in-Some-b.is k) (sym c.is_before.ensures ∙ c.if-is_before.true)

pub returns : goal.returns
returns c = λ t u h k.
    leasts_first t u c.in-Some.one c.in-Some-b.other (subst (Leasts t) c.in-Some.is h) (subst (Leasts u) c.in-Some-b.is k) (sym c.is_before.ensures ∙ c.if-is_before.false)
