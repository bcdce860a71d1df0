-- The lines of an import, one text at a time.
use Rattle.std.proofs.Common.{◌≡◌, ℕ, Bool, List, [], ◌∷◌, ◌++◌, append_assoc, append-nil, filter, refl, sym, ap, ◌∙◌, subst}
use Rattle.std.proofs.lemmas.List.Elements.{filter-append}
use Rattle.csv.specs.Writing.{row_text, default_writer}
use Rattle.reg_report.specs.Lines.{Sheet, sheet_text, WritesRow, AreLines}
use Rattle.reg_import.specs.declared.reading.FileText.{FileText}
use Rattle.reg_import.specs.declared.action.TextAction.{TextAction}
use Rattle.reg_import.specs.Lines.{Line, lines_of, is_shown, import_header, IsImportLine, IsLinkedLine, IsGoneLine}
use Rattle.std.specs.Prelude.{map}
use Rattle.std.specs.String.{string_bytes}
use Rattle.reg_op.specs.Operations.{Ops}
use Rattle.reg_op.specs.Rows.{Row, rows}
use Rattle.reg_import.specs.Readings.{readings}
use Rattle.reg_import.specs.declared.listing.Listing.{Listing}
use Rattle.reg_import.specs.Listing.{AreGoneOf, WritesLines, PacksLines, IsListing}

-- ---- lines of some items

module _ {T : Type 0} (R : T → List (List ℕ) → Type 0) where
  lines-append : (xs ys : List T) (a b : List ℕ) → AreLines R xs a → AreLines R ys b → AreLines R (xs ++ ys) (a ++ b)
  lines-append [] ys a b e more = subst (AreLines R ys) (sym (ap (λ l. l ++ b) e)) more
  lines-append (x ∷ xs) ys a b l more = (l.0, l.1 ++ b, l.2, lines-append xs ys l.1 b l.3 more, ap (λ t. t ++ b) l.4 ∙ append_assoc (row_text default_writer l.0) l.1 b)

  pub one_line : (x : T) (fields : List (List ℕ)) (old new : Sheet) → R x fields → WritesRow old new fields → WritesLines R (x ∷ []) old new
  one_line x fields old new is row = record { lines = row_text default_writer fields; are = (fields, [], is, refl, sym (append-nil (row_text default_writer fields))); text = row.text; ready = row.ready }

  pub then_lines : (xs ys : List T) (old now new : Sheet) → WritesLines R xs old now → WritesLines R ys now new → WritesLines R (xs ++ ys) old new
  then_lines xs ys old now new one two = record {
    lines = one.lines ++ two.lines;
    are = lines-append xs ys one.lines two.lines one.are two.are;
    text = two.text ∙ ap (λ t. t ++ two.lines) one.text ∙ append_assoc (sheet_text old) one.lines two.lines;
    ready = two.ready;
  }

  -- the lines that a new writer has
  pub lines_alone : (items : List T) (first last : Sheet) (text : List ℕ) → sheet_text first ≡ [] → WritesLines R items first last → text ≡ sheet_text last → AreLines R items text
  lines_alone items first last text empty w e = subst (AreLines R items) (sym (e ∙ w.text ∙ ap (λ t. t ++ w.lines) empty)) w.are

  pub pack_none : (rows : List ℕ) → PacksLines R [] rows rows
  pack_none rows = record { lines = []; are = refl; text = sym (append-nil rows) }

  pub pack_more : (xs ys : List T) (old now new text : List ℕ) → PacksLines R xs old now → AreLines R ys text → new ≡ now ++ text → PacksLines R (xs ++ ys) old new
  pack_more xs ys old now new text p are e = record {
    lines = p.lines ++ text;
    are = lines-append xs ys p.lines text p.are are;
    text = e ∙ ap (λ t. t ++ text) p.text ∙ append_assoc old p.lines text;
  }

pub row_alone : (fields : List (List ℕ)) (first last : Sheet) (text : List ℕ) → sheet_text first ≡ [] → WritesRow first last fields → text ≡ sheet_text last → text ≡ row_text default_writer fields
row_alone fields first last text empty w e = e ∙ w.text ∙ ap (λ t. t ++ row_text default_writer fields) empty

-- the header, the lines of the texts, of linked entries, and of entries that no text has
pub whole_listing : (l : Listing) (s : Ops) (texts : List FileText) (ts : List TextAction) (linked gone : List Row) (head made more text : List ℕ) → head ≡ row_text default_writer import_header
    → PacksLines (IsImportLine (map string_bytes l.names.now)) (filter (is_shown l.changes) (lines_of texts ts)) head made → PacksLines IsLinkedLine linked made more
    → AreGoneOf l.gone (readings texts) (rows s) gone → PacksLines IsGoneLine gone more text → IsListing l s texts ts linked text
whole_listing l s texts ts linked gone head made more text h m k are g = record {
  gone = gone;
  are_gone = are;
  lines = m.lines;
  of_texts = m.are;
  more = k.lines;
  of_linked = k.are;
  last = g.lines;
  of_gone = g.are;
  is = g.text ∙ ap (λ t. t ++ g.lines) (k.text ∙ ap (λ t. t ++ k.lines) (m.text ∙ ap (λ t. t ++ m.lines) h)
      ∙ append_assoc (row_text default_writer import_header) m.lines k.lines);
}

-- ---- a loop over the texts

-- the lines of all texts before the remaining ones are written
pub record SoFar (names : List (List ℕ)) (changes : Bool) (all : List Line) (texts : List FileText) (told : List TextAction) (old now : Sheet) : Type 0 where
  pub done : List Line
  pub split : all ≡ done ++ lines_of texts told
  pub writes : WritesLines (IsImportLine names) (filter (is_shown changes) done) old now

module _ (names : List (List ℕ)) (changes : Bool) (all : List Line) where
  pub one_more : (texts others : List FileText) (told later : List TextAction) (x : FileText) (t : TextAction) (old now new : Sheet) → texts ≡ x ∷ others → told ≡ t ∷ later
      → WritesLines (IsImportLine names) (filter (is_shown changes) (record { text = x; told = t } ∷ [])) now new → SoFar names changes all texts told old now → SoFar names changes all others later old new
  one_more texts others told later x t old now new e f w s =
      let line : Line = record { text = x; told = t } in record {
        done = s.done ++ line ∷ [];
        split = s.split ∙ (λ j. s.done ++ lines_of (e j) (f j)) ∙ sym (append_assoc s.done (line ∷ []) (lines_of others later));
        writes = subst (λ l. WritesLines (IsImportLine names) l old new) (sym (filter-append (is_shown changes) s.done (line ∷ [])))
            (then_lines (IsImportLine names) (filter (is_shown changes) s.done) (filter (is_shown changes) (line ∷ [])) old now new s.writes w);
      }
