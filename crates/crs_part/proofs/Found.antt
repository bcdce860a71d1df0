-- A search in a list for the value that a word means.
use Rattle.std.proofs.Common.{◌≡◌, ℕ, zero, suc, ◌<◌, List, [], ◌∷◌, drop, get_or, length, false, map, Some, ap, arith}
use Rattle.std.specs.Prelude.{if◌then◌else◌}
use Rattle.std.specs.Char.{to_ascii_lowercase}
use Rattle.std.specs.Str.{bytes_eq}
use Rattle.crs_part.specs.Words.{first_word}

-- a value with another word does not change the result of the search
pub passed_over : {A : Type 0} (f : A → List ℕ) (vs : List A) (l : List ℕ) (i : ℕ) (d : A) → i < length vs → bytes_eq (map to_ascii_lowercase (f (get_or vs i d))) l ≡ false → first_word f (drop i vs) l ≡ first_word f (drop (suc i) vs) l
passed_over f [] l i d h e = absurd (omega arith)
passed_over f (v ∷ vs) l zero d h e = ap (λ t. if t then Some v else first_word f vs l) e
passed_over f (v ∷ vs) l (suc i) d h e = passed_over f vs l i d (omega arith) e
