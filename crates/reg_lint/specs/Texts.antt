-- The texts of a file as what is looked at.
use Rattle.std.specs.Prelude.{◌≡◌, ◌⊎◌, ℕ, List, [], ◌∷◌, ◌++◌, length, decimal, Option, Some, None}
use Rattle.crs_value.specs.declared.crs.Crs.{Crs}
use Rattle.wkt_tree.specs.Tree.{Piece}
use Rattle.wkt_crs.specs.declared.fault.Unspelled.{Unspelled}
use Rattle.wkt_crs.specs.Unspelled.{as_read}
use Rattle.wkt_crs.specs.Spells.{Spells}
use Rattle.wkt_crs.specs.Faults.{FirstFault}
use Rattle.wkt_compare.specs.Texts.{IsCutInto}
use Rattle.reg_lint.specs.declared.kept.KeptSubject.{KeptSubject}
use Rattle.reg_lint.specs.Subjects.{Subject, IsKept}
use Rattle.reg_lint.specs.declared.texts.Unread.{Unread}
use Rattle.reg_lint.specs.declared.texts.Unread.TheVariants as why

-- a file and an offset
abbrev pub label_of : List ℕ → ℕ → List ℕ
label_of name place = name ++ (58 ∷ decimal place)

-- the reference system that a text of the file spells
abbrev pub IsTextSubject : List ℕ → Piece → Subject → Type 0
IsTextSubject name c s = (s.label ≡ label_of name c.place) × Spells c.bytes s.crs

-- what is kept of such a one
abbrev pub IsTextKept : List ℕ → Piece → KeptSubject → Type 0
IsTextKept name c k = (s : Subject) × IsTextSubject name c s × IsKept k s

-- those of some texts come after the old ones, in order
abbrev pub AreTextsKept : List ℕ → List Piece → List KeptSubject → List KeptSubject → Type 0
AreTextsKept name [] old new = new ≡ old
AreTextsKept name (c ∷ cs) old new = (k : KeptSubject) × IsTextKept name c k × AreTextsKept name cs (old ++ k ∷ []) new

-- those of all texts of a file
abbrev pub AreKeptOf : List ℕ → List ℕ → List KeptSubject → List KeptSubject → Type 0
AreKeptOf name file old new = (cuts : List Piece) × IsCutInto file cuts × AreTextsKept name cuts old new

-- the text spells no reference system, for this reason; or memory ran out
abbrev pub IsUnread : Piece → Unread → Type 0
IsUnread c (why.Refused f place len) = FirstFault c.bytes (as_read f) × (place ≡ c.place) × (len ≡ length c.bytes)
IsUnread c why.Memory = Unit {0}

abbrev pub why_of : Piece → Option Unspelled → Unread
why_of c (Some f) = why.Refused f c.place (length c.bytes)
why_of c None = why.Memory

-- why the first of some texts that spell none does not
abbrev pub IsFirstUnread : List Piece → Unread → Type 0
IsFirstUnread [] f = f ≡ why.Memory
IsFirstUnread (c ∷ cs) f = IsUnread c f ⊎ (((v : Crs) × Spells c.bytes v) × IsFirstUnread cs f)

-- the same of the texts of a file
abbrev pub IsFileUnread : List ℕ → Unread → Type 0
IsFileUnread file (why.Refused f place len) = (cuts : List Piece) × IsCutInto file cuts × IsFirstUnread cuts (why.Refused f place len)
IsFileUnread file why.Memory = Unit {0}
