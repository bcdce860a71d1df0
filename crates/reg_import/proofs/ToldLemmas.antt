-- The action for a text, case by case.
use Rattle.std.proofs.Common.{◌≡◌, ℕ, ◌+◌, ◌≤◌, nat_le, true, false, cond, List, length, Option, Some, None, refl}
use Rattle.std.specs.Prelude.{option_map}
use Rattle.std.specs.Option.{unwrap_or}
use Rattle.std.proofs.lemmas.Bool.{leb-true}
use Rattle.reg_op.specs.Ids.{Id}
use Rattle.reg_import.specs.declared.action.Differs.{Differs}
use Rattle.reg_import.specs.declared.action.Differs.TheVariants as differs
use Rattle.reg_import.specs.declared.action.Problem.TheVariants as problem
use Rattle.reg_import.specs.declared.action.TextAction.{TextAction}
use Rattle.reg_import.specs.declared.action.TextAction.TheVariants as told
use Rattle.reg_import.specs.Known.{OfKey}
use Rattle.reg_import.specs.Imports.{least, any_entry, has_text, has_text_and_is_valid, unless_spent, told_of_new, told_of}

module _ (P : TextAction → Type 0) where
  or_else : (f : Id → TextAction) (o : Option Id) (t : TextAction) → ((i : Id) → P (f i)) → P t → P (unwrap_or (option_map f o) t)
  or_else f None t h k = k
  or_else f (Some i) t h k = h i

  has_unless : (last : ℕ) (t : TextAction) → P told.Spent → (last ≤ 4294967295 → P t) → P (unless_spent last t)
  has_unless last t s h = elim (nat_le last 4294967295) as (λ b. nat_le last 4294967295 ≡ b → P (cond b t told.Spent)) [
    | true ↦ λ e. h (leb-true last 4294967295 e)
    | false ↦ λ e. s
  ] refl

  -- a property that each of these actions has, the action for a text has
  pub record Each (new : Id) (there : OfKey) : Type 0 where
    pub same : (i : Id) → P (told.Same i)
    pub superseded : (i : Id) → P (told.Superseded i)
    pub entered : new.count ≤ 4294967295 → P (told.Entered new)
    pub beside : new.count ≤ 4294967295 → P (told.Beside new)
    pub revised : there.ours ≡ false → new.count + length there.known ≤ 4294967295 → P (told.Revised new)
    pub taken : (i : Id) → P (told.Refused (problem.KeyTaken i))
    pub spent : P told.Spent

  new_has : (o : Option Id) (d : Differs) (new : Id) (there : OfKey) → Each new there → P (told_of_new o d new there)
  new_has None d new there h = has_unless new.count (told.Entered new) h.spent h.entered
  new_has (Some other) differs.Refuse new there h = h.taken other
  new_has (Some other) differs.Beside new there h = has_unless new.count (told.Beside new) h.spent h.beside
  new_has (Some other) differs.Revise new there h =
      elim there.ours as (λ b. there.ours ≡ b → P (cond b (told.Refused (problem.KeyTaken other)) (unless_spent (new.count + length there.known) (told.Revised new)))) [
        | true ↦ λ e. h.taken other
        | false ↦ λ e. has_unless (new.count + length there.known) (told.Revised new) h.spent (h.revised e)
      ] refl

  pub told_has : (d : Differs) (new : Id) (there : OfKey) (text : List ℕ) → Each new there → P (told_of d new there text)
  told_has d new there text h =
      or_else told.Same (least (has_text_and_is_valid text) there.known) _ h.same
      (or_else told.Superseded (least (has_text text) there.known) _ h.superseded (new_has (least any_entry there.known) d new there h))
