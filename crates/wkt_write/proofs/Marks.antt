-- Doubled marks, and margins.
use Rattle.std.proofs.Common.{◌≡◌, ℕ, zero, suc, ◌+◌, ◌*◌, ◌<◌, true, false, List, [], ◌∷◌, ◌++◌, length, take, drop, get_or, replicate, Some, None, refl, sym, ap, ◌∙◌, subst, append_assoc, arith, inl, inr}
use Rattle.std.specs.Prelude.{position, Result, Ok, Err, OnOk, is_ok, if◌then◌else◌}
use Rattle.std.specs.List.{flat_map, position_from}
use Rattle.std.proofs.lemmas.List.{replicate-append-replicate}
use Rattle.std.proofs.lemmas.List.Quantifiers.{position-Some}
use Rattle.std.proofs.lemmas.Iterator.Adapters.{position_from-zero}
use Rattle.std.proofs.lemmas.Option.{none-some}
use Rattle.wkt_tree.specs.Tokens.{doubled, is_mark}
use Rattle.wkt_tree.proofs.Lexemes.{by_mark, body-plain}

pub plain_is : (b : ℕ) → (b ≡ 34 → ⊥) → is_mark b ≡ false
plain_is b h = grind arith

mark_is : (b : ℕ) → is_mark b ≡ true → b ≡ 34
mark_is b h = grind arith

marked : (xs : List ℕ) (i : ℕ) → i < length xs → is_mark (get_or xs i 0) ≡ true → ((k : ℕ) → k < i → is_mark (get_or xs k 0) ≡ false) → flat_map doubled xs ≡ take (suc i) xs ++ (34 ∷ flat_map doubled (drop (suc i) xs))
marked [] i below m others = absurd (omega arith)
marked (x ∷ xs) zero below m others = subst (λ y. flat_map doubled (y ∷ xs) ≡ y ∷ (34 ∷ flat_map doubled xs)) (sym (mark_is x m)) refl
marked (x ∷ xs) (suc i) below m others =
    elim (by_mark x) [
      | inl e ↦ let no : is_mark x ≡ false = others 0 (omega arith) in let is : is_mark x ≡ true = ap is_mark e.0 in absurd (cc)
      | inr e ↦ body-plain x xs e.1 ∙ ap (λ (l : List ℕ). x ∷ l) (marked xs i (omega arith) m (λ k h. others (suc k) (omega arith)))
    ]

-- doubling the marks of bytes with a mark: the bytes up to the first mark, a mark, and the rest with its marks doubled
pub up_to_mark : (xs : List ℕ) (i : ℕ) → position is_mark xs ≡ Some i → flat_map doubled xs ≡ take (i + 1) xs ++ (34 ∷ flat_map doubled (drop (i + 1) xs))
up_to_mark xs i e =
    let s = position-Some is_mark xs i 0 e in
    let n : suc i ≡ i + 1 = omega arith in
    subst (λ k. flat_map doubled xs ≡ take k xs ++ (34 ∷ flat_map doubled (drop k xs))) n (marked xs i s.0 s.1 s.2)

unmarked_from : (i : ℕ) (xs : List ℕ) → position_from is_mark i xs ≡ None → flat_map doubled xs ≡ xs
unmarked_from i [] e = refl
unmarked_from i (x ∷ xs) e =
    elim (by_mark x) [
      | inl m ↦ let is : is_mark x ≡ true = ap is_mark m.0 in absurd (none-some i (sym e ∙ rw is refl))
      | inr n ↦ body-plain x xs n.1 ∙ ap (λ (l : List ℕ). x ∷ l) (unmarked_from (i + 1) xs (sym (rw (plain_is x n.0) refl) ∙ e))
    ]

-- doubling marks does not change bytes without a mark
pub no_mark : (xs : List ℕ) → position is_mark xs ≡ None → flat_map doubled xs ≡ xs
no_mark xs e = unmarked_from 0 xs (sym (position_from-zero is_mark xs) ∙ e)

pub step : (old mid new xs piece rest : List ℕ) (i : ℕ) → position is_mark xs ≡ Some i → piece ≡ take (i + 1) xs → rest ≡ drop (i + 1) xs → new ≡ (mid ++ piece) ++ 34 ∷ [] → mid ++ flat_map doubled xs ≡ old → new ++ flat_map doubled rest ≡ old
step old mid new xs piece rest i e p r n h =
    let regroup : ((mid ++ piece) ++ 34 ∷ []) ++ flat_map doubled rest ≡ mid ++ (piece ++ (34 ∷ flat_map doubled rest)) = simp append_assoc in
    ap (λ l. l ++ flat_map doubled rest) n ∙ (regroup ∙ (ap (λ l. mid ++ (l ++ (34 ∷ flat_map doubled rest))) p ∙ (ap (λ l. mid ++ (take (i + 1) xs ++ (34 ∷ flat_map doubled l))) r ∙ (ap (λ l. mid ++ l) (sym (up_to_mark xs i e)) ∙ h))))

-- ---- margins

pub wider : (old mid new : List ℕ) (n : ℕ) → mid ≡ old ++ (10 ∷ replicate (4 * n) 32) → new ≡ mid ++ (32 ∷ 32 ∷ 32 ∷ 32 ∷ []) → new ≡ old ++ (10 ∷ replicate (4 * (n + 1)) 32)
wider old mid new n e f =
    let more : replicate (4 * n) 32 ++ (32 ∷ 32 ∷ 32 ∷ 32 ∷ []) ≡ replicate (4 * (n + 1)) 32 = replicate-append-replicate (4 * n) 4 32 ∙ ap (λ k. replicate {A = ℕ} k 32) (omega arith) in
    f ∙ (ap (λ l. l ++ (32 ∷ 32 ∷ 32 ∷ 32 ∷ [])) e ∙ (append_assoc old (10 ∷ replicate (4 * n) 32) (32 ∷ 32 ∷ 32 ∷ 32 ∷ []) ∙ ap (λ l. old ++ (10 ∷ l)) more))

-- ---- results

pub ok_items : {E : Type 0} (r : Result (Unit {0}) E) (new a b : List ℕ) → new ≡ (if is_ok r then a else b) → OnOk r (new ≡ a)
ok_items (Ok u) new a b e = e
ok_items (Err x) new a b e = tt
