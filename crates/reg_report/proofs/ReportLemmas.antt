-- A content has at most one report of each kind.
use Rattle.std.proofs.Common.{◌≡◌, ℕ, List, [], ◌∷◌, ◌++◌, refl, sym, ap, ◌∙◌, subst}
use Rattle.csv.specs.Writing.{row_text, default_writer}
use Rattle.crs_part.specs.declared.identifiers.Ident.{Ident}
use Rattle.crs_part.specs.Slots.{ids_of, name_of}
use Rattle.crs_value.specs.declared.key.Key.{Key}
use Rattle.crs_value.specs.Keys.{IsKeyOf}
use Rattle.reg_op.specs.Definition.{HasKey, IsKeyIn}
use Rattle.reg_op.proofs.Texts.{one_value}
use Rattle.reg_op.specs.Text.{printed}
use Rattle.reg_op.specs.Contents.{Content}
use Rattle.reg_op.specs.Rows.{Row, rows}
use Rattle.reg_report.specs.declared.writing.ReportKind.{ReportKind}
use Rattle.reg_report.specs.declared.writing.ReportKind.TheVariants.{Entries, Conflicts, Awaited, Gaps}
use Rattle.reg_report.specs.Lines.{AreLines, entries_header, gaps_header, gap_fields, sheet_of, conflicts_sheet, status_word, spaced, IsEntryLine}
use Rattle.reg_report.specs.Reports.{IsReport}
use Rattle.reg_report.proofs.GapLists.{one_list}
use Rattle.reg_report.proofs.OneLemmas as contested

-- ---- the key of a definition

-- the two keys have the same bytes
record IsSameKey (key other : Key) : Type 0 where
  authority : key.authority.bytes ≡ other.authority.bytes
  code : key.code.bytes ≡ other.code.bytes

key_of_first : (ids : List Ident) (key other : Key) → (ids ≡ [] → ⊥) → ((id : Ident) (others : List Ident) → ids ≡ id ∷ others → IsKeyOf id key)
    → ((id : Ident) (others : List Ident) → ids ≡ id ∷ others → IsKeyOf id other) → IsSameKey key other
key_of_first [] key other some h k = absurd (some refl)
key_of_first (id ∷ ids) key other some h k =
    let a = h id ids refl in
    let b = k id ids refl in
    record { authority = a.authority ∙ sym b.authority; code = a.code ∙ sym b.code }

one_key : (text : List ℕ) (key other : Key) → IsKeyIn key text → IsKeyIn other text → IsSameKey key other
one_key text key other h k =
    let same : h.0 ≡ k.0 = one_value text h.0 k.0 h.1 k.1 in
    key_of_first (ids_of k.0.parts) key other k.2 (subst (λ crs. HasKey crs key) same h.3) k.3

-- ---- lines

pub one_line : (r : Row) (fields others : List (List ℕ)) → IsEntryLine r fields → IsEntryLine r others → fields ≡ others
one_line r fields others h k =
    let key = one_key r.definition h.key k.key h.keyed k.keyed in
    let crs : h.crs ≡ k.crs = one_value r.definition h.crs k.crs h.spelled.1 k.spelled.1 in
    h.are
    ∙ (λ j. printed r.entry ∷ key.authority j ∷ key.code j ∷ (name_of (crs j).parts).bytes ∷ status_word r.status ∷ spaced r.newer ∷ [])
    ∙ sym k.are

pub same_lines : {T : Type 0} (R : T → List (List ℕ) → Type 0) → ((x : T) (fields others : List (List ℕ)) → R x fields → R x others → fields ≡ others)
    → (xs : List T) (text other : List ℕ) → AreLines R xs text → AreLines R xs other → text ≡ other
same_lines R one [] text other h k = h ∙ sym k
same_lines R one (x ∷ xs) text other h k =
    h.4 ∙ (λ j. row_text default_writer (one x h.0 k.0 h.2 k.2 j) ++ same_lines R one xs h.1 k.1 h.3 k.3 j) ∙ sym k.4

pub one_entries : (x : Content) (text other : List ℕ) → IsReport Entries x text → IsReport Entries x other → text ≡ other
one_entries x text other h k =
    h.2 ∙ ap (λ lines. row_text default_writer entries_header ++ lines) (same_lines IsEntryLine one_line (rows x.ops) h.0 k.0 h.1 k.1) ∙ sym k.2

pub one_gaps : (x : Content) (text other : List ℕ) → IsReport Gaps x text → IsReport Gaps x other → text ≡ other
one_gaps x text other h k = h.2 ∙ ap (sheet_of gaps_header gap_fields) (one_list x.seen h.0 k.0 h.1 k.1) ∙ sym k.2

pub one_conflicts : (x : Content) (text other : List ℕ) → IsReport Conflicts x text → IsReport Conflicts x other → text ≡ other
one_conflicts x text other h k = h.2 ∙ ap conflicts_sheet (contested.one_list (rows x.ops) h.0 k.0 h.1 k.1) ∙ sym k.2

pub one_report : (kind : ReportKind) (x : Content) (text other : List ℕ) → IsReport kind x text → IsReport kind x other → text ≡ other
one_report Entries x text other h k = one_entries x text other h k
one_report Conflicts x text other h k = one_conflicts x text other h k
one_report Awaited x text other h k = h ∙ sym k
one_report Gaps x text other h k = one_gaps x text other h k
