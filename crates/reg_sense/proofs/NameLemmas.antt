-- Sets of names, and sentences one claim at a time.
use Rattle.std.proofs.Common.{◌≡◌, ◌||◌, ℕ, Bool, true, false, cond, List, ◌∷◌, refl, sym, ◌∙◌}
use Rattle.std.specs.Borrow.{Bor}
use Rattle.std.specs.Ordering.{is_eq}
use Rattle.std.specs.Cmp.Lexicographic.{texts_ties}
use Rattle.reg_sense.specs.Tallies.{bytes_cmp}
use Rattle.reg_sense.specs.Names.{is_among}

or_cond : (b t : Bool) → cond b true t ≡ (b || t)
or_cond true t = refl
or_cond false t = refl

-- one more name
pub name_step : (name q : Bor (List ℕ)) (names : List (List ℕ)) (old new : Bool) → new ≡ cond (is_eq (bytes_cmp name q)) true old → old ≡ is_among names q.now → new ≡ is_among (name.now ∷ names) q.now
name_step name q names old new put had =
    put
    ∙ or_cond (is_eq (bytes_cmp name q)) old
    ∙ (λ j. sym (texts_ties name.now q.now) j || had j)
