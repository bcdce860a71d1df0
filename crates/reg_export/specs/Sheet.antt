-- The sheet of keys, as a reader of CSV reads it.
use Rattle.std.specs.Prelude.{◌≡◌, ℕ, List, [], ◌∷◌, map}
use Rattle.csv.specs.Reading.{AreRecords, default_config}
use Rattle.csv.specs.Writing.{read_back}
use Rattle.csv.specs.declared.parser.State.TheVariants as st
use Rattle.crs_value.specs.declared.crs.Crs.{Crs}
use Rattle.wkt_crs.specs.Spells.{Spells}
use Rattle.reg_op.specs.Contents.{Content}
use Rattle.reg_op.specs.Rows.{Row}
use Rattle.reg_texts.specs.KeyFields.{sheet_header, key_fields}
use Rattle.reg_texts.specs.KeySheet.{AreSaidOf}
use Rattle.reg_texts.specs.Listing.{Run, runs}
use Rattle.reg_texts.specs.Said.{Said}

-- the fields of a text, given the statements about it
pub record AreKeyFields (s : Said) (others : List Said) (fields : List (List ℕ)) : Type 0 where
  pub crs : Crs
  pub spelled : Spells s.text crs
  pub are : fields ≡ key_fields s others crs.parts

-- those of each text with a statement
abbrev pub AreKeyRows : List Run → List (List (List ℕ)) → Type 0
AreKeyRows [] rows = rows ≡ []
AreKeyRows (r ∷ rs) rows = (fields : List (List ℕ)) × (later : List (List (List ℕ))) × AreKeyFields r.first r.others fields × AreKeyRows rs later × (rows ≡ fields ∷ later)

-- the records that are read are the header, and the rows of the texts of some rows of a content, by key
pub record ReadsKeys (x : Content) (rs : List Row) (text : List ℕ) : Type 0 where
  pub once : List Said
  pub said : AreSaidOf x rs once
  pub fields : List (List (List ℕ))
  pub are : AreKeyRows (runs once) fields
  pub read : (records : List (List (List ℕ))) → AreRecords default_config st.StartRecord text records → records ≡ map read_back (sheet_header ∷ fields)
