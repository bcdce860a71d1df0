-- Words of a command line that name standard input.
use Rattle.std.specs.Prelude.{ℕ, Bool, List, codes, bytes_eq}

-- this word names it
abbrev pub is_dash : List ℕ → Bool
is_dash word = bytes_eq word (codes "-")
