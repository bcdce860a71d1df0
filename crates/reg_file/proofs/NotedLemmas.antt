-- The least id of an operation with a note.
use Rattle.std.proofs.Common.{◌≡◌, ◌≢◌, ◌↔◌, Bool, true, false, not, cond, eqb, List, [], ◌∷◌, length, Some, None, refl, sym, ap, ◌∙◌, subst}
use Rattle.std.proofs.lemmas.Bool.{true≢false}
use Rattle.std.proofs.lemmas.Option.{same_Some, none-some}
use Rattle.std.specs.List.{list_any, find}
use Rattle.std.specs.Option.{option_map}
use Rattle.reg_op.specs.Set as set
use Rattle.reg_op.specs.Set.{contains-items}
use Rattle.reg_op.specs.Ids.{Id, is_before}
use Rattle.reg_op.specs.Operations.{Op, Ops}
use Rattle.reg_op.proofs.ClashLemmas.{found, find_none, any_of, items_rise, same_id}
use Rattle.reg_file.specs.Files.{AreUnnoted, IsLeastNoted, first_in, first_noted}
use Rattle.reg_file.proofs.FirstLemmas.{some_bytes, unnoted}

abbrev is_noted : Op → Bool
is_noted o = not (eqb (length o.note) 0)

as_find : (os : List Op) → first_in os ≡ option_map (λ (o : Op). o.id) (find is_noted os)
as_find [] = refl
as_find (o ∷ os) = elim (eqb (length o.note) 0) as (λ b. cond b (first_in os) (Some o.id) ≡ option_map (λ (p : Op). p.id) (cond (not b) (Some o) (find is_noted os))) [ true ↦ as_find os | false ↦ refl ]

noted : (o : Op) → o.note ≢ [] → is_noted o ≡ true
noted o some = ap not (some_bytes o.note some)

has_note : (o : Op) → is_noted o ≡ true → o.note ≢ []
has_note o h e = true≢false (sym h ∙ ap (λ n. not (eqb (length n) 0)) e)

noted_found : (s : Ops) → list_any is_noted (set.items s) ≡ true → (i : Id) × (first_noted s ≡ Some i) × IsLeastNoted s i
noted_found s h =
    let r = found is_noted (set.items s) (items_rise s) h in (
      r.0.id,
      as_find (set.items s) ∙ ap (option_map (λ (o : Op). o.id)) r.1,
      record {
        one = r.0;
        there = contains-items s r.0 ∙ r.2.there;
        noted = has_note r.0 r.2.passes;
        at = refl;
        least = λ o k some. r.2.least o (sym (contains-items s o) ∙ k) (noted o some);
      },
    )

some_noted : (s : Ops) (o : Op) → set.contains s o ≡ true → o.note ≢ [] → list_any is_noted (set.items s) ≡ true
some_noted s o h some = any_of is_noted (set.items s) o (sym (contains-items s o) ∙ h) (noted o some)

none_of : (s : Ops) → list_any is_noted (set.items s) ≡ false → first_noted s ≡ None
none_of s h = as_find (set.items s) ∙ ap (option_map (λ (o : Op). o.id)) (find_none is_noted (set.items s) h)

pub noted_least : (s : Ops) (i : Id) → (first_noted s ≡ Some i) ↔ IsLeastNoted s i
noted_least s i = (
  λ h. elim (list_any is_noted (set.items s)) as (λ b. list_any is_noted (set.items s) ≡ b → IsLeastNoted s i) [
    | true ↦ λ e. let r = noted_found s e in subst (IsLeastNoted s) (same_Some r.0 i (sym r.1 ∙ h)) r.2
    | false ↦ λ e. absurd (none-some i (sym (none_of s e) ∙ h))
  ] refl,
  λ l.
      let r = noted_found s (some_noted s l.one l.there l.noted) in
      let not_sooner : is_before r.0 i ≡ false = subst (λ j. is_before j i ≡ false) r.2.at (l.least r.2.one r.2.there r.2.noted) in
      let not_later : is_before i r.0 ≡ false = subst (λ j. is_before j r.0 ≡ false) l.at (r.2.least l.one l.there l.noted) in
      r.1 ∙ ap Some (same_id r.0 i not_sooner not_later),
)

pub noted_none : (s : Ops) → (first_noted s ≡ None) ↔ AreUnnoted s
noted_none s = (
  unnoted s,
  λ plain. elim (list_any is_noted (set.items s)) as (λ b. list_any is_noted (set.items s) ≡ b → first_noted s ≡ None) [
    | true ↦ λ e. let r = noted_found s e in absurd (r.2.noted (plain r.2.one r.2.there))
    | false ↦ λ e. none_of s e
  ] refl,
)
