-- Texts without marks inside.
use Rattle.std.proofs.Common.{◌≡◌, ℕ, zero, suc, ◌+◌, ◌<◌, true, false, List, [], ◌∷◌, length, take, get_or, Some, refl, ap, arith}
use Rattle.std.specs.Prelude.{position}
use Rattle.std.proofs.lemmas.List.Quantifiers.{position-Some}
use Rattle.wkt_tree.specs.Tokens.{is_mark}
use Rattle.wkt_grammar.specs.Leaves.{undoubled}

-- bytes whose only mark is the last one are read as the bytes before it
ended : (xs : List ℕ) (i : ℕ) → i + 1 ≡ length xs → is_mark (get_or xs i 0) ≡ true → ((k : ℕ) → k < i → is_mark (get_or xs k 0) ≡ false) → take i xs ≡ undoubled false xs
ended [] i last m others = absurd (omega (arith, last))
ended (x ∷ []) zero last m others = rw m refl
ended (x ∷ y ∷ xs) zero last m others = absurd (omega (arith, last))
ended (x ∷ xs) (suc i) last m others = rw (others 0 (omega arith)) (ap (λ (l : List ℕ). x ∷ l) (ended xs i (omega (arith, last)) m (λ k h. others (suc k) (omega (arith, h)))))

-- if the first mark is the last byte, the content is the bytes before it
pub plain_is : (bytes : List ℕ) (i : ℕ) → position is_mark bytes ≡ Some i → i + 1 ≡ length bytes → take i bytes ≡ undoubled false bytes
plain_is bytes i e last = let s = position-Some is_mark bytes i 0 e in ended bytes i last s.1 s.2
