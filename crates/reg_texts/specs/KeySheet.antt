-- A row for each key, for spreadsheets and databases.
use Rattle.std.specs.Prelude.{◌≡◌, ℕ, List, [], ◌∷◌, ◌++◌}
use Rattle.csv.specs.Writing.{row_text, default_writer}
use Rattle.crs_value.specs.declared.crs.Crs.{Crs}
use Rattle.wkt_crs.specs.Spells.{Spells}
use Rattle.reg_op.specs.Contents.{Content}
use Rattle.reg_op.specs.Rows.{Row, rows}
use Rattle.reg_texts.specs.Gathered.{Each, AreOfRow}
use Rattle.reg_texts.specs.KeyFields.{sheet_header, key_fields}
use Rattle.reg_texts.specs.Listing.{Run, runs}
use Rattle.reg_texts.specs.Said.{Said}
use Rattle.reg_texts.specs.Texts.{IsInOrder}

-- the line of a text, given the statements about it
pub record IsKeyLine (s : Said) (others : List Said) (line : List ℕ) : Type 0 where
  pub crs : Crs
  pub spelled : Spells s.text crs
  pub is : line ≡ row_text default_writer (key_fields s others crs.parts)

-- a line for each run
abbrev pub AreKeyLines : List Run → List ℕ → Type 0
AreKeyLines [] text = text ≡ []
AreKeyLines (r ∷ rs) text = (line : List ℕ) × (rest : List ℕ) × IsKeyLine r.first r.others line × AreKeyLines rs rest × (text ≡ line ++ rest)

-- a line for each text with a statement
abbrev pub AreLinesOf : List Said → List ℕ → Type 0
AreLinesOf ss text = AreKeyLines (runs ss) text

-- what the content says of the texts of some rows, in order: by key
pub record AreSaidOf (x : Content) (rs : List Row) (once : List Said) : Type 0 where
  pub all : List Said
  pub gathered : Each (AreOfRow (rows x.ops)) rs all
  pub order : IsInOrder all once

-- a header, and a line for each of these texts
pub record IsKeySheet (x : Content) (rs : List Row) (text : List ℕ) : Type 0 where
  pub once : List Said
  pub said : AreSaidOf x rs once
  pub lines : List ℕ
  pub are : AreLinesOf once lines
  pub is : text ≡ row_text default_writer sheet_header ++ lines
