-- Texts of ASCII.
use Rattle.std.proofs.Common.{◌≡◌, ℕ, zero, suc, ◌+◌, ◌%◌, ◌^◌, ◌<◌, ◌≤◌, eqb, leb, true, false, cond, List, [], ◌∷◌, map, length, take, get_or, replicate, w8, refl, sym, ap, ◌∙◌, arith, inl, inr}
use Rattle.wkt_tree.specs.Marks.{IsPlain, IsPlainRun}
use Rattle.wkt_tree.proofs.PlainRuns.{first_at, plain_on}
use Rattle.wkt_canonical.specs.Ends.{IsLow, IsEndOfText}
use Rattle.std.specs.Bool.{OnTrue}
use Rattle.std.specs.Str.{is_utf8}
use Rattle.std.proofs.lemmas.Bool.{cases_lt, eqb-true, leb-false}
use Rattle.std.proofs.lemmas.List.{get_or-take, length-take-le, length-map}
use Rattle.std.proofs.lemmas.Str.{IsUtf8-from_ascii, is_utf8-from_IsUtf8}
use Rattle.std.proofs.lemmas.Simd.{length-chunk, tops_compared, zip2_splat_left, mask_l-mod, none_from_empty_mask}
use lib.Lanes.{chunk, zip2, mask_l, top}

abbrev highs_of : List ℕ → ℕ
highs_of lanes = mask_l (map (top 7) (zip2 (λ a b. cond (leb a b) 255 0) (replicate 16 128) lanes)) % 2 ^ 64

past_end : (xs : List ℕ) (i : ℕ) → length xs ≤ i → get_or xs i 0 < 128
past_end [] i le = omega arith
past_end (x ∷ xs) zero le = absurd (omega arith)
past_end (x ∷ xs) (suc i) le = past_end xs i (omega arith)

none_high : (bytes : List ℕ) (at : ℕ) → at + 16 ≤ length bytes → highs_of (chunk at 16 bytes) ≡ 0 → IsLow bytes at (at + 16)
none_high bytes at room none =
    let lanes = chunk at 16 bytes in
    let long = length-chunk at 16 bytes room in
    let mask = ap (λ ms. mask_l ms % 2 ^ 64) (tops_compared w8 leb (replicate 16 128) lanes ∙ zip2_splat_left leb 128 16 lanes long) ∙ mask_l-mod (map (λ x. leb 128 x) lanes) 64 (omega (arith, length-map lanes (λ x. leb 128 x), long)) in
    let low = none_from_empty_mask (λ x. leb 128 x) bytes at 16 0 room (sym mask ∙ none) in
    λ k from to. leb-false 128 _ (low k from to)

-- if no byte of sixteen is in the mask of bytes above 127, these bytes are ASCII
pub all_low : (bytes : List ℕ) (at : ℕ) → at + 16 ≤ length bytes → OnTrue (eqb (highs_of (chunk at 16 bytes)) 0) (IsLow bytes at (at + 16))
all_low bytes at room =
    elim (eqb (highs_of (chunk at 16 bytes)) 0) as (λ t. eqb (highs_of (chunk at 16 bytes)) 0 ≡ t → OnTrue t (IsLow bytes at (at + 16))) [
      | true ↦ λ e. none_high bytes at room (eqb-true _ _ e)
      | false ↦ λ e. tt
    ] refl

pub low_on : (bytes : List ℕ) (i n : ℕ) → IsLow bytes 0 i → IsLow bytes i (i + n) → IsLow bytes 0 (i + n)
low_on bytes i n front more k from to = elim (cases_lt k i) [ inl early ↦ front k from early | inr late ↦ more k (omega arith) to ]

pub low_is_utf8 : (bytes : List ℕ) (place end : ℕ) → place ≤ end → end ≤ length bytes → IsLow bytes 0 end → is_utf8 (take place bytes) ≡ true
low_is_utf8 bytes place end short room low =
    is_utf8-from_IsUtf8 (take place bytes) (IsUtf8-from_ascii (take place bytes) (λ i. elim (cases_lt i place) [
      | inl inside ↦ omega (arith, get_or-take place bytes i 0 inside, low i (omega arith) (omega arith))
      | inr past ↦ past_end (take place bytes) i (omega (arith, length-take-le place bytes (omega arith)))
    ]))

pub ascii_ends : (bytes : List ℕ) (at run : ℕ) → at + 16 ≤ length bytes → IsPlain bytes 0 at → IsLow bytes 0 at → IsLow bytes at (at + 16) → IsPlainRun bytes at 16 run → run < 16 → IsEndOfText bytes (at + run)
ascii_ends bytes at run room plain low more stop short = record {
  first = sym (first_at bytes (at + run) (omega arith) (plain_on bytes at run plain stop.plain) (stop.stops short));
  within = omega arith;
  utf8 = low_is_utf8 bytes (at + run) (at + 16) (omega arith) room (low_on bytes at 16 low more);
}
