-- The loop that finds the mark that closes a quoted text.
use Rattle.std.proofs.Common.{◌≡◌, ℕ, zero, suc, ◌+◌, ◌<◌, ◌≤◌, true, false, not, List, length, drop, get_or, Some, None, sym, ap, ◌∙◌, subst, arith}
use Rattle.std.specs.Prelude.{position}
use Rattle.std.specs.List.{position_or_len}
use Rattle.std.proofs.lemmas.Grind.{common_steps}
use Rattle.std.proofs.lemmas.List.{get_or-drop, length-drop}
use Rattle.std.proofs.lemmas.List.Sums.{fails_before_first, prefix_len-le-length}
use Rattle.std.proofs.lemmas.List.Quantifiers.{position-Some}
use Rattle.wkt_tree.specs.Tokens.{is_mark, IsUnclosed}
use Rattle.wkt_tree.proofs.Lexemes.{Inside, plain_more, none_closes}

no_mark_is : (x : ℕ) → is_mark x ≡ false → x ≡ 34 → ⊥
no_mark_is x e h = grind arith

-- a position inside a quoted text stays inside it after n bytes that are not marks
run_on : (bytes : List ℕ) (i n : ℕ) → i + n ≤ length bytes → ((k : ℕ) → k < n → is_mark (get_or (drop i bytes) k 0) ≡ false) → Inside bytes i → Inside bytes (i + n)
run_on bytes i zero room plain w = subst (λ k. Inside bytes k) (omega arith) w
run_on bytes i (suc n) room plain w =
    let front = run_on bytes i n (omega arith) (λ k below. plain k (omega arith)) w in
    let this : is_mark (get_or bytes (i + n) 0) ≡ false = ap is_mark (sym (get_or-drop i bytes n 0)) ∙ plain n (omega arith) in
    subst (λ k. Inside bytes k) (omega arith) (plain_more bytes (i + n) (omega arith) (no_mark_is _ this) front)

pub record IsAtMark (bytes : List ℕ) (i : ℕ) : Type 0 where
  pub inside : i < length bytes
  pub mark : get_or bytes i 0 ≡ 34
  pub front : Inside bytes i

mark_is : (x : ℕ) → is_mark x ≡ true → x ≡ 34
mark_is x e = grind arith

pub at_mark : (bytes rest : List ℕ) (i n : ℕ) → i ≤ length bytes → rest ≡ drop i bytes → position is_mark rest ≡ Some n → Inside bytes i → IsAtMark bytes (i + n)
at_mark bytes rest i n within back found w =
    let s = position-Some is_mark (drop i bytes) n 0 (ap (position is_mark) (sym back) ∙ found) in
    let room : i + n < length bytes = omega (arith, s.0, length-drop i bytes) in
    record {
      inside = room;
      mark = mark_is _ (ap is_mark (sym (get_or-drop i bytes n 0)) ∙ s.1);
      front = run_on bytes i n (omega arith) s.2 w;
    }

pub never_closed : (bytes rest : List ℕ) (i : ℕ) → i ≤ length bytes → rest ≡ drop i bytes → position is_mark rest ≡ None → Inside bytes i → IsUnclosed bytes
never_closed bytes rest i within back none w =
    let left = drop i bytes in
    let long : i + length left ≡ length bytes = omega (arith, length-drop i bytes) in
    let none_left : position is_mark left ≡ None = ap (position is_mark) (sym back) ∙ none in
    let most : position_or_len is_mark left ≤ length left = prefix_len-le-length (λ x. not (is_mark x)) left in
    let all : position_or_len is_mark left ≡ length left = grind (arith, common_steps) in
    none_closes bytes (i + length left) (omega arith) (run_on bytes i (length left) (omega arith) (λ k below. fails_before_first is_mark left k 0 (omega (arith, all))) w)
