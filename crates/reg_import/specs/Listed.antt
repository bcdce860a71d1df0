-- The lines of an import, as far as its texts are taken.
use Rattle.std.specs.Prelude.{◌≡◌, ℕ, List, ◌++◌, length, map, filter, Option, Some, None}
use Rattle.std.specs.Borrow.{Bor}
use Rattle.std.specs.BTreeSet.{BTreeSet}
use Rattle.std.specs.String.{string_bytes}
use Rattle.csv.specs.Writing.{row_text, default_writer}
use Rattle.reg_import.specs.declared.indexed_key.IndexedKey.{IndexedKey}
use Rattle.reg_import.specs.declared.listing.Listing.{Listing}
use Rattle.reg_import.specs.declared.listing.ImportLines.{ImportLines}
use Rattle.reg_import.specs.declared.reading.FileText.{FileText}
use Rattle.reg_import.specs.declared.reading.ReadText.{ReadText}
use Rattle.reg_import.specs.declared.action.TextAction.{TextAction}
use Rattle.reg_import.specs.Readings.{readings, keys_in}
use Rattle.reg_import.specs.Gone.{HasKeys}
use Rattle.reg_import.specs.Lines.{lines_of, is_shown, import_header, IsImportLine}
use Rattle.reg_import.specs.Listing.{PacksLines}

-- the set has the keys of these readings, if entries are listed that no text has
abbrev pub HasKeysOf : Option (Bor (List ℕ)) → List ReadText → BTreeSet IndexedKey → Type 0
HasKeysOf None rs keys = Unit {0}
HasKeysOf (Some authority) rs keys = HasKeys keys (keys_in rs)

-- the lines of the first of these texts follow the header; the others wait
pub record HasListed (l : Listing) (texts : List FileText) (ts : List TextAction) (w : ImportLines) : Type 0 where
  pub before : List FileText
  pub did : List TextAction
  pub paired : length before ≡ length did
  pub waiting : length w.texts.items ≡ length w.told.items
  pub texts_are : texts ≡ before ++ w.texts.items
  pub told_are : ts ≡ did ++ w.told.items
  pub packed : PacksLines (IsImportLine (map string_bytes l.names.now)) (filter (is_shown l.changes) (lines_of before did)) (row_text default_writer import_header) w.packed.value
  pub keys : HasKeysOf l.gone (readings texts) w.keys
