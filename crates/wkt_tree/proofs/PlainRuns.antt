-- Runs of bytes without a mark, found sixteen bytes at a time.
use Rattle.std.proofs.Common.{◌≡◌, ℕ, ◌+◌, ◌%◌, ◌^◌, ◌<◌, ◌≤◌, eqb, true, not, cond, List, map, length, get_or, replicate, Some, None, w8, sym, ap, ◌∙◌, arith, inl, inr}
use Rattle.std.specs.Prelude.{position}
use Rattle.std.proofs.lemmas.Bool.{cases_lt, eq-eqb, ne_eqb, cond-true, cond-false}
use Rattle.std.proofs.lemmas.Simd.{length-chunk, bitmask_splat, first_set_mask_l, run_in_chunk_le, run_in_chunk_fails, run_in_chunk_stops}
use Rattle.std.proofs.lemmas.Grind.{common_steps}
use Rattle.std.proofs.lemmas.List.Sums.{position_or_len_is}
use Rattle.std.specs.List.{prefix_len, position_or_len}
use lib.Lanes.{chunk, zip2, mask_l, top}
use lib.Count.{count_trailing_zeros}
use Rattle.wkt_tree.specs.Tokens.{is_mark}
use Rattle.wkt_tree.specs.Marks.{IsPlain, IsPlainRun}

abbrev marks_of : List ℕ → ℕ
marks_of lanes = mask_l (map (top 7) (zip2 (λ a b. cond (eqb a b) 255 0) lanes (replicate 16 34))) % 2 ^ 64

abbrev first_set : ℕ → ℕ
first_set marks = cond (eqb marks 0) 16 (count_trailing_zeros 64 marks)

run_found : (bytes : List ℕ) (at run : ℕ) → at + 16 ≤ length bytes → run ≡ first_set (marks_of (chunk at 16 bytes)) → IsPlainRun bytes at 16 run
run_found bytes at run room found =
    let lanes = chunk at 16 bytes in
    let long = length-chunk at 16 bytes room in
    let counted : run ≡ prefix_len (λ x. not (is_mark x)) lanes =
    found ∙ (ap first_set (bitmask_splat w8 eqb lanes 16 34 long (omega arith)) ∙ first_set_mask_l is_mark lanes 16 long (omega arith)) in
    record {
      within = run_in_chunk_le is_mark bytes at 16 run 0 room counted;
      plain = run_in_chunk_fails is_mark bytes at 16 run 0 room counted;
      stops = run_in_chunk_stops is_mark bytes at 16 run 0 room counted;
    }

pub no_mark_set : (bytes : List ℕ) (at : ℕ) → at + 16 ≤ length bytes → marks_of (chunk at 16 bytes) ≡ 0 → IsPlainRun bytes at 16 16
no_mark_set bytes at room none = run_found bytes at 16 room (sym (cond-true _ _ _ (eq-eqb _ _ none)))

pub mark_set : (bytes : List ℕ) (at : ℕ) → at + 16 ≤ length bytes → (marks_of (chunk at 16 bytes) ≡ 0 → ⊥) → IsPlainRun bytes at 16 (count_trailing_zeros 64 (marks_of (chunk at 16 bytes)))
mark_set bytes at room some = run_found bytes at _ room (sym (cond-false _ _ _ (ne_eqb _ _ some)))

pub first_at : (bytes : List ℕ) (i : ℕ) → i < length bytes → IsPlain bytes 0 i → is_mark (get_or bytes i 0) ≡ true → Some i ≡ position is_mark bytes
first_at bytes i inside plain mark =
    let at : position_or_len is_mark bytes ≡ i = position_or_len_is is_mark bytes i 0 (omega arith) (λ k below. plain k (omega arith) below) (λ _. mark) in
    grind (arith, common_steps)

pub first_nowhere : (bytes : List ℕ) (i : ℕ) → length bytes ≤ i → i ≤ length bytes → IsPlain bytes 0 i → None ≡ position is_mark bytes
first_nowhere bytes i end within plain =
    let at : position_or_len is_mark bytes ≡ i = position_or_len_is is_mark bytes i 0 within (λ k below. plain k (omega arith) below) (λ inside. absurd (omega arith)) in
    let all : i ≡ length bytes = omega arith in
    grind (arith, common_steps)

pub plain_on : (bytes : List ℕ) (i n : ℕ) → IsPlain bytes 0 i → IsPlain bytes i (i + n) → IsPlain bytes 0 (i + n)
plain_on bytes i n front more k from to = elim (cases_lt k i) [ inl early ↦ front k from early | inr late ↦ more k (omega arith) to ]
