-- The whole output of an import.
use Rattle.std.specs.Prelude.{◌≡◌, ℕ, List, [], ◌++◌, map, filter, Option, Some, None}
use Rattle.std.specs.Borrow.{Bor}
use Rattle.std.specs.String.{string_bytes}
use Rattle.csv.specs.Writing.{row_text, default_writer}
use Rattle.reg_op.specs.Operations.{Ops}
use Rattle.reg_op.specs.Rows.{Row, rows}
use Rattle.reg_report.specs.Lines.{Sheet, sheet_text, IsReady, AreLines}
use Rattle.reg_import.specs.declared.listing.Listing.{Listing}
use Rattle.reg_import.specs.declared.reading.FileText.{FileText}
use Rattle.reg_import.specs.declared.reading.ReadText.{ReadText}
use Rattle.reg_import.specs.declared.action.TextAction.{TextAction}
use Rattle.reg_import.specs.Readings.{readings, keys_in}
use Rattle.reg_import.specs.Gone.{AreGone}
use Rattle.reg_import.specs.Lines.{lines_of, is_shown, import_header, IsImportLine, IsLinkedLine, IsGoneLine}

-- lines of these items were appended
pub record WritesLines {T : Type 0} (R : T → List (List ℕ) → Type 0) (items : List T) (old new : Sheet) : Type 0 where
  pub lines : List ℕ
  pub are : AreLines R items lines
  pub text : sheet_text new ≡ sheet_text old ++ lines
  pub ready : IsReady new

-- the entries of this authority that no text has, if one is asked for
abbrev pub AreGoneOf : Option (Bor (List ℕ)) → List ReadText → List Row → List Row → Type 0
AreGoneOf None rs all gone = gone ≡ []
AreGoneOf (Some authority) rs all gone = AreGone authority.now (keys_in rs) all gone

-- lines of these items were appended to packed rows
pub record PacksLines {T : Type 0} (R : T → List (List ℕ) → Type 0) (items : List T) (old new : List ℕ) : Type 0 where
  pub lines : List ℕ
  pub are : AreLines R items lines
  pub text : new ≡ old ++ lines

-- a header; a line for each text that is not left out; a line for each entry to which a supersession passed on; a line for each
-- entry that no text has
pub record IsListing (l : Listing) (s : Ops) (texts : List FileText) (ts : List TextAction) (linked : List Row) (text : List ℕ) : Type 0 where
  pub gone : List Row
  pub are_gone : AreGoneOf l.gone (readings texts) (rows s) gone
  pub lines : List ℕ
  pub of_texts : AreLines (IsImportLine (map string_bytes l.names.now)) (filter (is_shown l.changes) (lines_of texts ts)) lines
  pub more : List ℕ
  pub of_linked : AreLines IsLinkedLine linked more
  pub last : List ℕ
  pub of_gone : AreLines IsGoneLine gone last
  pub is : text ≡ row_text default_writer import_header ++ (lines ++ more) ++ last
