-- Places behind a byte order mark at the front of a file.
use Rattle.std.proofs.Common.{◌≡◌, ℕ, zero, suc, ◌+◌, ◌-◌, ◌≤◌, ◌<◌, true, false, ◌&&◌, nat_eq, cond, List, [], ◌∷◌, length, take, drop, refl, ap, sym, subst, ◌∙◌, arith}
use Rattle.std.proofs.lemmas.List.{drop-take, length-take, drop-drop}
use Rattle.std.proofs.Math.Bool.{and-false}
use Rattle.wkt_explain.specs.Position.{begins_mark, behind_mark}
use Rattle.wkt_explain.specs.declared.walk.Spot.{Spot}
use Rattle.wkt_explain.specs.Walk.{IsSpot}

pub kept : (bytes : List ℕ) → begins_mark bytes ≡ false → behind_mark bytes ≡ bytes
kept bytes h = ap (λ b. cond b (drop 3 bytes) bytes) h

pub cut : (bytes : List ℕ) → begins_mark bytes ≡ true → behind_mark bytes ≡ drop 3 bytes
cut bytes h = ap (λ b. cond b (drop 3 bytes) bytes) h

few : (bytes : List ℕ) → length bytes < 3 → begins_mark bytes ≡ false
few [] h = refl
few (a ∷ []) h = and-false (nat_eq 239 a)
few (a ∷ b ∷ []) h = ap (λ x. nat_eq 239 a && x) (and-false (nat_eq 187 b)) ∙ and-false (nat_eq 239 a)
few (a ∷ b ∷ c ∷ bytes) h = absurd (omega (arith, h))

far_front : (n : ℕ) (file : List ℕ) → begins_mark (take (suc (suc (suc n))) file) ≡ begins_mark file
far_front n [] = refl
far_front n (a ∷ []) = refl
far_front n (a ∷ b ∷ []) = refl
far_front n (a ∷ b ∷ c ∷ bytes) = refl

same_front : (place : ℕ) (file : List ℕ) → 3 ≤ place → begins_mark (take place file) ≡ begins_mark file
same_front zero file le = absurd (omega (arith, le))
same_front (suc zero) file le = absurd (omega (arith, le))
same_front (suc (suc zero)) file le = absurd (omega (arith, le))
same_front (suc (suc (suc n))) file le = far_front n file

short_front : (place : ℕ) (file : List ℕ) → place < 3 → behind_mark (take place file) ≡ take place file
short_front place file l = let n = length-take place file in kept (take place file) (few (take place file) (omega (arith, n, l)))

pub without_mark : (place : ℕ) (file : List ℕ) → begins_mark file ≡ false → behind_mark (take place file) ≡ take place file
without_mark zero file h = short_front zero file (omega arith)
without_mark (suc zero) file h = short_front (suc zero) file (omega arith)
without_mark (suc (suc zero)) file h = short_front (suc (suc zero)) file (omega arith)
without_mark (suc (suc (suc n))) file h = kept (take (suc (suc (suc n))) file) (far_front n file ∙ h)

front_cut : (place : ℕ) (file : List ℕ) → begins_mark file ≡ true → 3 ≤ place → behind_mark (take place file) ≡ take (place - 3) (behind_mark file)
front_cut place file h le =
    let whole : 3 + (place - 3) ≡ place = omega arith in
    cut (take place file) (same_front place file le ∙ h)
    ∙ ap (λ n. drop 3 (take n file)) (sym whole)
    ∙ drop-take 3 (place - 3) file
    ∙ ap (take (place - 3)) (sym (cut file h))

rest_cut : (place : ℕ) (file : List ℕ) → begins_mark file ≡ true → 3 ≤ place → drop place file ≡ drop (place - 3) (behind_mark file)
rest_cut place file h le =
    let whole : 3 + (place - 3) ≡ place = omega arith in
    ap (λ n. drop n file) (sym whole) ∙ sym (drop-drop (place - 3) 3 file) ∙ ap (drop (place - 3)) (sym (cut file h))

-- ---- the spot of a place of the file, by that of a place in the walk

pub spot_kept : (spot : Spot) (place : ℕ) (file walked : List ℕ) → begins_mark file ≡ false → walked ≡ behind_mark file → IsSpot spot (take place walked) (drop place walked)
    → IsSpot spot (behind_mark (take place file)) (drop place file)
spot_kept spot place file walked h e s =
    let same : walked ≡ file = e ∙ kept file h in
    subst (λ (b : List ℕ). IsSpot spot b (drop place file)) (sym (without_mark place file h))
    (subst (λ (w : List ℕ). IsSpot spot (take place w) (drop place w)) same s)

pub spot_within : (spot : Spot) (place : ℕ) (file : List ℕ) → place < 3 → IsSpot spot (take place file) (drop place file) → IsSpot spot (behind_mark (take place file)) (drop place file)
spot_within spot place file l s = subst (λ (b : List ℕ). IsSpot spot b (drop place file)) (sym (short_front place file l)) s

pub spot_cut : (spot : Spot) (place : ℕ) (file walked : List ℕ) → begins_mark file ≡ true → 3 ≤ place → walked ≡ behind_mark file
    → IsSpot spot (take (place - 3) walked) (drop (place - 3) walked) → IsSpot spot (behind_mark (take place file)) (drop place file)
spot_cut spot place file walked h le e s =
    subst (λ (b : List ℕ). IsSpot spot b (drop place file)) (sym (front_cut place file h le))
    (subst (λ (r : List ℕ). IsSpot spot (take (place - 3) (behind_mark file)) r) (sym (rest_cut place file h le))
    (subst (λ (w : List ℕ). IsSpot spot (take (place - 3) w) (drop (place - 3) w)) e s))
