-- The texts of a file: where each begins and ends.
use Rattle.std.specs.Prelude.{◌≡◌, ℕ, ◌+◌, ◌<◌, ◌≤◌, ◌==◌, ◌||◌, nat_eq, Bool, false, not, List, [], ◌∷◌, ◌++◌, ◌⊎◌, length, take, drop, count_by, if◌then◌else◌}
use Rattle.std.specs.List.{AllPass, starts_with}
use Rattle.wkt_tree.specs.Bytes.{is_blank}
use Rattle.wkt_tree.specs.Tree.{Piece}
use Rattle.wkt_tree.specs.Tokens.{is_mark, Stops, Blanks}
use Rattle.wkt_compare.specs.declared.splitting.cutting.Cut.{Cut}

-- a delimiter that opens
abbrev pub is_opening : ℕ → Bool
is_opening b = b == 91 || b == 40

-- a delimiter that closes
abbrev pub is_closing : ℕ → Bool
is_closing b = b == 93 || b == 41

-- the bytes outside quotation marks; whether a mark is open before them
abbrev pub outside : Bool → List ℕ → List ℕ
outside quoted [] = []
outside quoted (b ∷ bs) = if is_mark b then outside (not quoted) bs else (if quoted then outside quoted bs else b ∷ outside quoted bs)

-- outside marks there is a closing delimiter, and no more open than close
pub record IsClosed (bytes : List ℕ) : Type 0 where
  pub closes : 0 < count_by is_closing (outside false bytes)
  pub enough : count_by is_opening (outside false bytes) ≤ count_by is_closing (outside false bytes)

-- the length of the first text: the least that is closed, or all
pub record IsFirstText (bytes : List ℕ) (n : ℕ) : Type 0 where
  pub within : n ≤ length bytes
  pub fewest : (k : ℕ) → k < n → ¬ (IsClosed (take k bytes))
  pub ends : IsClosed (take n bytes) ⊎ (n ≡ length bytes)

-- from place on, the bytes are blanks, a text, which begins with no blank, and the rest
pub record IsNext (place : ℕ) (bytes : List ℕ) (cut : Piece) (rest : List ℕ) : Type 0 where
  pub from : List ℕ
  pub blank : Blanks place bytes cut.place from
  pub some : 0 < length from
  pub begins : Stops is_blank from
  pub whole : from ≡ cut.bytes ++ rest
  pub text : IsFirstText from (length cut.bytes)

-- from place on, the bytes are these texts with blanks around them
abbrev pub AreTexts : ℕ → List ℕ → List Piece → Type 0
AreTexts place bytes [] = AllPass is_blank bytes
AreTexts place bytes (cut ∷ cuts) = (rest : List ℕ) × IsNext place bytes cut rest × AreTexts (cut.place + length cut.bytes) rest cuts

-- the byte order mark of UTF-8
abbrev pub order_mark : List ℕ
order_mark = 239 ∷ 187 ∷ 191 ∷ []

-- the offset at which the texts of a file may begin: after a byte order mark
abbrev pub begin : List ℕ → ℕ
begin file = if starts_with nat_eq file order_mark then 3 else 0

-- these are the texts of a file
abbrev pub IsCutInto : List ℕ → List Piece → Type 0
IsCutInto file cuts = AreTexts (begin file) (drop (begin file) file) cuts

-- the place and the bytes of a text
abbrev pub piece_of : Cut → Piece
piece_of c = record { place = c.place; bytes = c.bytes.now }
