-- The records of the sheet of keys.
use Rattle.std.proofs.Common.{◌≡◌, ℕ, List, [], ◌∷◌, ◌++◌, map, refl, sym, ap, ◌∙◌, subst}
use Rattle.std.specs.List.{flat_map}
use Rattle.csv.specs.Reading.{AreRecords, default_config}
use Rattle.csv.specs.Writing.{default_writer, read_back, row_text}
use Rattle.csv.specs.declared.parser.State.TheVariants as st
use Rattle.reg_op.specs.Contents.{Content}
use Rattle.reg_op.specs.Rows.{Row}
use Rattle.reg_texts.specs.KeyFields.{sheet_header, key_fields}
use Rattle.reg_texts.specs.KeySheet.{AreKeyLines, IsKeySheet}
use Rattle.reg_texts.specs.Listing.{Run, runs}
use Rattle.reg_export.specs.Sheet.{AreKeyRows, ReadsKeys}

-- written rows are read back
abbrev pub ReadBack : Type 0
ReadBack = (rows records : List (List (List ℕ))) → AreRecords default_config st.StartRecord (flat_map (row_text default_writer) rows) records → records ≡ map read_back rows

rows_of : (rs : List Run) (text : List ℕ) → AreKeyLines rs text → (rows : List (List (List ℕ))) × AreKeyRows rs rows × (text ≡ flat_map (row_text default_writer) rows)
rows_of [] text is = ([], refl, is)
rows_of (r ∷ rs) text (line, rest, one, others, is) =
    let later = rows_of rs rest others in
    let fields = key_fields r.first r.others one.crs.parts in (
      fields ∷ later.0,
      (fields, later.0, record { crs = one.crs; spelled = one.spelled; are = refl }, later.1, refl),
      is ∙ (λ j. one.is j ++ later.2 j),
    )

pub keys_read : ReadBack → (x : Content) (rs : List Row) (text : List ℕ) → IsKeySheet x rs text → ReadsKeys x rs text
keys_read back x rs text sheet =
    let rows = rows_of (runs sheet.once) sheet.lines sheet.are in
    let whole : text ≡ flat_map (row_text default_writer) (sheet_header ∷ rows.0) = sheet.is ∙ ap (λ l. row_text default_writer sheet_header ++ l) rows.2 in
    record {
      once = sheet.once;
      said = sheet.said;
      fields = rows.0;
      are = rows.1;
      read = λ records are. back (sheet_header ∷ rows.0) records (subst (λ t. AreRecords default_config st.StartRecord t records) whole are);
    }
