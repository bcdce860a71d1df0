-- How many delimiters are open.
use Rattle.std.proofs.Common.{◌≡◌, ℕ, zero, suc, ◌/◌, ◌≤◌, List, length, refl, sym, ap, ◌∙◌, arith, nat_eq, leb}
use Rattle.wkt_tree.specs.declared.token.Delimiter.{Delimiter}
use Rattle.wkt_tree.specs.Bits.{delimiters}

length-delimiters : (n bits : ℕ) → length (delimiters n bits) ≡ n
length-delimiters zero bits = refl
length-delimiters (suc n) bits = ap suc (length-delimiters n (bits / 2))

eq_le : (n m : ℕ) → n ≤ m → nat_eq n m ≡ leb m n
eq_le n m h = grind arith

pub full_open : (n m bits : ℕ) (s : List Delimiter) → delimiters n bits ≡ s → n ≤ m → nat_eq n m ≡ leb m (length s)
full_open n m bits s e h = eq_le n m h ∙ ap (leb m) (sym (length-delimiters n bits) ∙ ap length e)
