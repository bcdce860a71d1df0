-- The texts in places, after each further entry.
use Rattle.std.proofs.Common.{◌≡◌, ℕ, Bool, true, false, ◌&&◌, cond, List, [], ◌∷◌, ◌++◌, Option, Some, None, refl, sym, ap, ◌∙◌}
use Rattle.std.specs.Cmp.{IsTotalOrder, then_total, on_total, int_cmp_total, alike_right, Equal-is}
use Rattle.std.specs.Cmp.Lexicographic.{nat_list_cmp_total, options_total}
use Rattle.std.specs.Ordering.{is_eq}
use Rattle.std.proofs.Math.Bool.{and-false}
use Rattle.crs_export.specs.declared.filed.Filed.{Filed}
use Rattle.crs_export.specs.Boxes.{value_of}
use Rattle.crs_export.specs.Places.{PlaceBytes, place_of, place_cmp, is_same_place}
use Rattle.crs_export.specs.Held.{with_text}
use Rattle.crs_export.specs.Sql.{fits, has_place, text_at}

place_total : IsTotalOrder place_cmp
place_total = then_total (on_total (λ p. p.authority) nat_list_cmp_total) (then_total (on_total (λ p. p.number) (options_total (on_total value_of int_cmp_total))) (on_total (λ p. p.code) nat_list_cmp_total))

-- equal places have the same text
same_text : (a p : PlaceBytes) → is_same_place a p ≡ true → (fs : List Filed) → text_at a fs ≡ text_at p fs
same_text a p e [] = refl
same_text a p e (f ∷ fs) =
    let same = alike_right place_total a p (place_of f.keyed) ((Equal-is (place_cmp a p)).0 e) in
    let others = same_text a p e fs in
    λ j. cond (fits f && is_eq (same j)) (Some f.keyed.text.now) (others j)

abbrev or_else : Option (List ℕ) → Option (List ℕ) → Option (List ℕ)
or_else None o = o
or_else (Some t) o = Some t

or_none : (o : Option (List ℕ)) → or_else o None ≡ o
or_none None = refl
or_none (Some t) = refl

or_some : (o l : Option (List ℕ)) (t : List ℕ) → o ≡ Some t → or_else o l ≡ o
or_some o l t e = ap (λ x. or_else x l) e ∙ sym e

appended : (p : PlaceBytes) (fs : List Filed) (f : Filed) → text_at p (fs ++ f ∷ []) ≡ or_else (text_at p fs) (text_at p (f ∷ []))
appended p [] f = refl
appended p (g ∷ gs) f = by (has_place p g) (appended p gs f)
  where
    by : (b : Bool) → text_at p (gs ++ f ∷ []) ≡ or_else (text_at p gs) (text_at p (f ∷ []))
        → cond b (Some g.keyed.text.now) (text_at p (gs ++ f ∷ [])) ≡ or_else (cond b (Some g.keyed.text.now) (text_at p gs)) (text_at p (f ∷ []))
    by true e = refl
    by false e = e

elsewhere : (p : PlaceBytes) (fs : List Filed) (f : Filed) → has_place p f ≡ false → text_at p (fs ++ f ∷ []) ≡ text_at p fs
elsewhere p fs f e = appended p fs f ∙ ap (λ b. or_else (text_at p fs) (cond b (Some f.keyed.text.now) None)) e ∙ or_none (text_at p fs)

-- an entry that does not fit changes the text of no place
pub skipped : (p : PlaceBytes) (fs : List Filed) (f : Filed) → fits f ≡ false → text_at p (fs ++ f ∷ []) ≡ text_at p fs
skipped p fs f e = elsewhere p fs f (ap (λ b. b && is_same_place (place_of f.keyed) p) e)

-- an entry whose place already has a text changes the text of no place
pub taken : (p : PlaceBytes) (fs : List Filed) (f : Filed) (t : List ℕ) → text_at (place_of f.keyed) fs ≡ Some t → text_at p (fs ++ f ∷ []) ≡ text_at p fs
taken p fs f t e = by (is_same_place (place_of f.keyed) p) refl
  where
    by : (b : Bool) → is_same_place (place_of f.keyed) p ≡ b → text_at p (fs ++ f ∷ []) ≡ text_at p fs
    by true same = appended p fs f ∙ or_some (text_at p fs) (text_at p (f ∷ [])) t (sym (same_text (place_of f.keyed) p same fs) ∙ e)
    by false other = elsewhere p fs f (ap (λ b. fits f && b) other ∙ and-false (fits f))

-- an entry that fits, and whose place has no text yet, gives its text to its place and to no other
pub given : (p : PlaceBytes) (fs : List Filed) (f : Filed) → fits f ≡ true → text_at (place_of f.keyed) fs ≡ None → with_text (place_of f.keyed) f.keyed.text.now (λ q. text_at q fs) p ≡ text_at p (fs ++ f ∷ [])
given p fs f e none = by (is_same_place (place_of f.keyed) p) refl
  where
    by : (b : Bool) → is_same_place (place_of f.keyed) p ≡ b → cond (is_same_place (place_of f.keyed) p) (Some f.keyed.text.now) (text_at p fs) ≡ text_at p (fs ++ f ∷ [])
    by true same =
        ap (λ b. cond b (Some f.keyed.text.now) (text_at p fs)) same
        ∙ sym (appended p fs f ∙ ap (λ o. or_else o (text_at p (f ∷ []))) (sym (same_text (place_of f.keyed) p same fs) ∙ none) ∙ (λ j. cond (e j && same j) (Some f.keyed.text.now) None))
    by false other = ap (λ b. cond b (Some f.keyed.text.now) (text_at p fs)) other ∙ sym (elsewhere p fs f (ap (λ b. fits f && b) other ∙ and-false (fits f)))
