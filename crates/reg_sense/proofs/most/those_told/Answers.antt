use Rattle.std.proofs.Common.{◌++◌, Option, Bor, ap, ◌∙◌, sym}
use Rattle.std.specs.Option.{option_copied}
use Rattle.reg_sense.specs.declared.tally.ClaimTally.{ClaimTally}
use Rattle.reg_sense.specs.Claimants.{voice, key_text}
use Rattle.reg_sense.specs.Most.{more_told}
use Rattle.reg_sense.specs.Tallies.{counted}
use Rattle.reg_sense.proofs.MostLemmas.{those_some, those_none}
use Rattle.reg_sense.proofs.most.those_told.Goals as goal

pub returns-in_default : goal.returns-in_default
returns-in_default c = λ w d vs is. c.new.ensures.items ∙ those_none w d vs (sym is ∙ ap (λ (o : Option (Bor ClaimTally)). counted (option_copied o)) c.in_default.is)

pub returns : goal.returns
returns c = λ w d vs is.
    let t = c.in-Some.tally.now in
    c.in_ok-extend_from_slice.ensures.items
    ∙ (λ j. c.in_ok-text.ensures j ++ c.deref.ensures.value j)
    ∙ (λ j. key_text (voice t.first.now) ++ c.in_ok-others.ensures j)
    ∙ (λ j. key_text (voice t.first.now) ++ more_told (c.saturating_sub.ensures j))
    ∙ those_some w d vs (record { first = voice t.first.now; place = t.place; count = t.count }) (sym is ∙ ap (λ (o : Option (Bor ClaimTally)). counted (option_copied o)) c.in-Some.is)
