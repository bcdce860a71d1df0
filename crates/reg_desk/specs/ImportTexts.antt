-- The texts of files: their places and readings.
use Rattle.std.specs.Prelude.{◌≡◌, ◌⊎◌, ◌+◌, ◌++◌, ℕ, Bool, true, false, List, [], ◌∷◌, map}
use Rattle.std.specs.List.{list_any}
use Rattle.wkt_tree.specs.Tree.{Piece}
use Rattle.wkt_compare.specs.Texts.{IsCutInto}
use Rattle.reg_import.specs.declared.reading.FileText.{FileText}
use Rattle.reg_import.specs.Readings.{IsFileText, is_unread, readings}
use Rattle.reg_desk.specs.declared.import.texts.FileCut.{FileCut}

-- a text: the index of its file, from 0, the place of its first byte there, and its bytes
pub record TextAt : Type 0 where
  pub file : ℕ
  pub place : ℕ
  pub bytes : List ℕ

abbrev pub text_at : FileCut → TextAt
text_at c = record { file = c.file; place = c.place; bytes = c.bytes.now }

abbrev pub in_file : ℕ → Piece → TextAt
in_file file p = record { file = file; place = p.place; bytes = p.bytes }

-- files with these bytes, numbered from this one, are split into these texts, in order
abbrev pub AreCuts : ℕ → List (List ℕ) → List TextAt → Type 0
AreCuts file [] cuts = cuts ≡ []
AreCuts file (bytes ∷ others) cuts = (these : List Piece) × (rest : List TextAt) × IsCutInto bytes these × AreCuts (file + 1) others rest
    × (cuts ≡ map (in_file file) these ++ rest)

-- each has its reading
abbrev pub AreRead : List TextAt → List FileText → Type 0
AreRead [] [] = Unit {0}
AreRead [] (t ∷ ts) = ⊥
AreRead (c ∷ cs) [] = ⊥
AreRead (c ∷ cs) (t ∷ ts) = IsFileText c.file c.place c.bytes t × AreRead cs ts

-- files of these bytes have these texts, which are read as these
pub record HaveTexts (files : List (List ℕ)) (cuts : List TextAt) (texts : List FileText) : Type 0 where
  pub cut : AreCuts 0 files cuts
  pub read : AreRead cuts texts

-- files of these bytes begin with these texts, which are read as these, and one of them is no definition
pub record BeginWith (files : List (List ℕ)) (cuts : List TextAt) (texts : List FileText) : Type 0 where
  pub later : List TextAt
  pub cut : AreCuts 0 files (cuts ++ later)
  pub read : AreRead cuts texts
  pub unread : list_any is_unread (readings texts) ≡ true

-- they are all texts of the files; or, unless refused ones are passed over, the first, one of which is no definition
abbrev pub AreGiven : Bool → List (List ℕ) → List TextAt → List FileText → Type 0
AreGiven keep_going files cuts texts = HaveTexts files cuts texts ⊎ ((keep_going ≡ false) × BeginWith files cuts texts)
