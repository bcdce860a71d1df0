-- Pieces of a text that are kept or left out as a whole.
use Rattle.std.specs.Prelude.{◌≡◌, ℕ, ◌-◌, ◌<◌, ◌≤◌, Bool, true, List, [], ◌++◌, length, take, drop, ◌&&◌, not, if◌then◌else◌}
use Rattle.wkt_tree.specs.Bytes.{is_blank}
use Rattle.wkt_tree.specs.Tokens.{is_mark}
use Rattle.wkt_write.specs.Alike.{SameNumber}
use Rattle.wkt_write.specs.Condensed.{Before, delimiter, other, is_delimiter, Shuts, Condenses}
use Rattle.wkt_write.specs.declared.condensing.pieces.FrontRun.{FrontRun}

-- a delimiter, a blank, a quotation mark, or any other byte
abbrev pub class_of : ℕ → ℕ
class_of b = if is_delimiter b then 1 else (if is_blank b then 2 else (if is_mark b then 3 else 0))

abbrev pub is_plain : ℕ → Bool
is_plain b = not (is_blank b) && not (is_mark b)

-- and no delimiter
abbrev pub is_inner : ℕ → Bool
is_inner b = is_plain b && not (is_delimiter b)

-- the context outside quoted texts
abbrev pub before : Bool → Before
before shut = if shut then delimiter else other

-- if the rest is condensed to some bytes, all is condensed to the first bytes followed by those
abbrev pub Leads : Before → List ℕ → List ℕ → Before → List ℕ → Type 0
Leads p bytes first q rest = (c : List ℕ) → Condenses q rest c → Condenses p bytes (first ++ c)

pub record IsPiece (shut : Bool) (bytes : List ℕ) (piece : FrontRun) : Type 0 where
  pub some : 0 < piece.len
  pub within : piece.len ≤ length bytes
  pub leads : Leads (before shut) bytes (if piece.kept then take piece.len bytes else []) (before piece.shut) (drop piece.len bytes)

-- the first bytes, this many, are after a delimiter or the start, and before a delimiter or the end, blanks aside
pub record IsNumeralFront (shut : Bool) (bytes : List ℕ) (len : ℕ) : Type 0 where
  pub behind : shut ≡ true
  pub some : 0 < len
  pub within : len ≤ length bytes
  pub shuts : Shuts (drop len bytes)

-- the new bytes are the old ones, and a numeral of the same number
pub record IsSpelledAnew (old numeral new : List ℕ) : Type 0 where
  pub again : List ℕ
  pub is : new ≡ old ++ again
  pub same : SameNumber again numeral

-- the bytes of a text from one place up to another
abbrev pub between : List ℕ → ℕ → ℕ → List ℕ
between text from at = take (at - from) (drop from text)

-- the new bytes are the old ones and these
abbrev pub IsCopied : List ℕ → List ℕ → ℕ → ℕ → List ℕ → Type 0
IsCopied old text from at new = new ≡ old ++ between text from at
