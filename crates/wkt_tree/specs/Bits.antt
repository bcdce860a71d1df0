-- Open delimiters, as the bits of a number.
use Rattle.std.specs.Prelude.{ℕ, zero, suc, ◌/◌, ◌%◌, List, [], ◌∷◌}
use Rattle.wkt_tree.specs.declared.token.Delimiter.{Delimiter}
use Rattle.wkt_tree.specs.declared.token.Delimiter.TheVariants.{Square, Round}

-- the delimiter of a bit
abbrev pub delimiter : ℕ → Delimiter
delimiter zero = Square
delimiter (suc bit) = Round

-- the delimiters of the lowest bits of a number, the lowest first
abbrev pub delimiters : ℕ → ℕ → List Delimiter
delimiters zero bits = []
delimiters (suc n) bits = delimiter (bits % 2) ∷ delimiters n (bits / 2)
