use Rattle.std.proofs.Common.{◌≡◌, ◌∙◌, ap, sym, true, false}
use Rattle.std.proofs.lemmas.Option.{same_Some}
use Rattle.uuid.specs.Text.{hyphenated_text, lower, parsed}
use Rattle.reg_journal.proofs.LineLemmas.{replica_is}
use Rattle.reg_journal.proofs.head.office_in.Goals as goal

pub returns-in_default-clause-none : goal.returns-in_default-clause-none
returns-in_default-clause-none c = λ h is e.
    let t : false ≡ true = c.in_default.ensures.ok.1 (h.replica, ap parsed e ∙ replica_is h is) in
    absurd cc

pub returns-then-not-is_small-clause-none : goal.returns-then-not-is_small-clause-none
returns-then-not-is_small-clause-none c = λ h is e.
    let same = same_Some _ _ (c.in-Ok.ensures.bytes ∙ ap parsed e ∙ replica_is h is) in
    let small = c.is_small.ensures.1 (e ∙ ap (hyphenated_text lower) (sym same)) in
    absurd cc
