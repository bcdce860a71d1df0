-- The first texts of an import, one of which is no definition: they are refused as all texts are.
use Rattle.std.proofs.Common.{◌≡◌, ℕ, ◌+◌, Bool, true, false, not, ◌&&◌, List, [], ◌∷◌, ◌++◌, length, take, Some, refl, sym, ap, ◌∙◌, subst, zero, suc}
use Rattle.std.specs.List.{list_any, slice_get}
use Rattle.std.proofs.lemmas.List.{map-append}
use Rattle.std.proofs.lemmas.Bool.{true≢false, or_right}
use Rattle.reg_op.specs.Contents.{Content}
use Rattle.reg_op.specs.declared.operation.OpBody.{OpBody as Body}
use Rattle.reg_office.specs.Making.{greatest}
use Rattle.reg_import.specs.declared.reading.ReadText.{ReadText}
use Rattle.reg_import.specs.declared.reading.ReadText.TheVariants as reading
use Rattle.reg_import.specs.declared.action.Differs.{Differs}
use Rattle.reg_import.specs.declared.action.Problem.{Problem}
use Rattle.reg_import.specs.declared.action.TextAction.{TextAction}
use Rattle.reg_import.specs.declared.action.TextAction.TheVariants as told
use Rattle.reg_import.specs.declared.import.ImportRefusal.{ImportRefusal}
use Rattle.reg_import.specs.declared.import.ImportRefusal.TheVariants as refusal
use Rattle.reg_import.specs.Known.{At, by_key}
use Rattle.reg_import.specs.Readings.{is_unread}
use Rattle.reg_import.specs.Imports.{told_at, bodies_at, then_at, Step, imports, tolds, is_refused, NoneRefused}
use Rattle.reg_import.specs.Plans.{AreSteps, IsFirstRefused, begins_unread, Imports, IsImportRefusal}

-- ---- lists

-- an element of the first list has the same index in both
pub get_front : {A : Type 0} (xs ys : List A) (i : ℕ) (x : A) → slice_get xs i ≡ Some x → slice_get (xs ++ ys) i ≡ Some x
get_front [] ys i x h = absurd cc
get_front (w ∷ xs) ys zero x h = h
get_front (w ∷ xs) ys (suc i) x h = get_front xs ys i x h

-- and the same elements before it
take_front : {A : Type 0} (xs ys : List A) (i : ℕ) (x : A) → slice_get xs i ≡ Some x → take i (xs ++ ys) ≡ take i xs
take_front [] ys i x h = absurd cc
take_front (w ∷ xs) ys zero x h = refl
take_front (w ∷ xs) ys (suc i) x h = ap (λ l. w ∷ l) (take_front xs ys i x h)

-- ---- steps

begins_front : (xs ys : List ReadText) → list_any is_unread xs ≡ true → begins_unread (xs ++ ys) ≡ begins_unread xs
begins_front [] ys h = absurd cc
begins_front (x ∷ xs) ys h = refl

-- the steps of all texts begin with those of the first
steps_on : (d : Differs) (r : List ℕ) (n : ℕ) (at : At) (xs ys : List ReadText) → (later : List Step) × (imports d r n at (xs ++ ys) ≡ imports d r n at xs ++ later)
steps_on d r n at [] ys = (imports d r n at ys, refl)
steps_on d r n at (x ∷ xs) ys =
    let t : TextAction = told_at d r n at x in
    let bodies : List Body = bodies_at t at x in
    let step : Step = record { told = t; bodies = bodies } in
    let rest = steps_on d r (n + length bodies) (then_at t at x) xs ys in
    (rest.0, ap (λ l. step ∷ l) rest.1)

-- a text that is no definition is refused
unread_refused : (d : Differs) (r : List ℕ) (n : ℕ) (at : At) (xs : List ReadText) → list_any is_unread xs ≡ true → list_any is_refused (tolds (imports d r n at xs)) ≡ true
unread_refused d r n at [] h = absurd cc
unread_refused d r n at (reading.Unread f ∷ xs) h = refl
unread_refused d r n at (reading.Defined text key ∷ xs) h =
    let x : ReadText = reading.Defined text key in
    let t : TextAction = told_at d r n at x in
    or_right (is_refused t) _ (unread_refused d r (n + length (bodies_at t at x)) (then_at t at x) xs h)

unread_told : (x : Content) (r : List ℕ) (d : Differs) (xs : List ReadText) (steps : List Step) → list_any is_unread xs ≡ true → AreSteps x r d xs steps → NoneRefused (tolds steps) → ⊥
unread_told x r d xs steps unread are none =
    true≢false (sym (unread_refused d r (greatest r x.seen + 1) (by_key are.0) xs unread) ∙ ap (λ (s : List Step). list_any is_refused (tolds s)) (sym are.2) ∙ none)

-- ---- an import that passes over no refused text

pub first_on : (ts us : List TextAction) (i : ℕ) (p : Problem) → IsFirstRefused ts i p → IsFirstRefused (ts ++ us) i p
first_on ts us i p h = record {
  refused = get_front ts us i (told.Refused p) h.refused;
  first = subst NoneRefused (sym (take_front ts us i (told.Refused p) h.refused)) h.first;
}

module _ (x : Content) (r note : List ℕ) (d : Differs) (keep_going : Bool) (xs : List ReadText) (ends : keep_going ≡ false) (unread : list_any is_unread xs ≡ true) where
  -- the first texts are not imported
  pub none_imported : (y : Content) (ts : List TextAction) → Imports x r note d keep_going xs y ts → ⊥
  none_imported y ts m = unread_told x r d xs m.steps unread m.are_steps (subst NoneRefused m.told (m.passes ends))

  -- and the reason is that of all
  pub refusal_on : (ys : List ReadText) (f : ImportRefusal) → IsImportRefusal x r note d keep_going xs f → IsImportRefusal x r note d keep_going (xs ++ ys) f
  refusal_on ys refusal.NoteTooLong h = h
  refusal_on ys refusal.Memory h = (h.0, ap (λ b. not keep_going && b) (begins_front xs ys unread) ∙ h.1)
  refusal_on ys refusal.CountSpent h = absurd (unread_told x r d xs h.1.0 unread h.1.1 (h.1.2.0 ends))
  refusal_on ys (refusal.Refused i p) h =
      let es = h.1.1.0 in
      let n : ℕ = greatest r x.seen + 1 in
      let on = steps_on d r n (by_key es) xs ys in
      let are : tolds (imports d r n (by_key es) (xs ++ ys)) ≡ tolds h.1.0 ++ tolds on.0 =
      ap tolds on.1 ∙ map-append (λ (s : Step). s.told) (imports d r n (by_key es) xs) on.0 ∙ ap (λ (s : List Step). tolds s ++ tolds on.0) (sym h.1.1.2) in
      (h.0, (imports d r n (by_key es) (xs ++ ys), (es, h.1.1.1, refl), (h.1.2.0, subst (λ ts. IsFirstRefused ts i p) (sym are) (first_on (tolds h.1.0) (tolds on.0) i p h.1.2.1))))
