-- The rows of what breaks rules: by rule, then in the order of what is looked at.
use Rattle.std.specs.Prelude.{◌≡◌, ℕ, Bool, nat_lt, List, [], ◌∷◌, ◌++◌, length, Option, Some, None, codes, if◌then◌else◌}
use Rattle.csv.specs.Writing.{row_text, default_writer}
use Rattle.crs_part.specs.declared.crs.CrsParts.{CrsParts}
use Rattle.crs_part.specs.Slots.{name_of, ids_of}
use Rattle.reg_report.specs.Lines.{Sheet, sheet_text, IsReady}
use Rattle.reg_lint.specs.Subjects.{Subject}
use Rattle.reg_lint.specs.declared.rule.AnyRule.{AnyRule}
use Rattle.reg_lint.specs.AnyRules.{any_name}
use Rattle.reg_lint.specs.Subjects.{authority_of, code_of}
use Rattle.reg_lint.specs.Details.{details}
use Rattle.reg_lint.specs.Known.{mark_of}

abbrev pub lint_header : List (List ℕ)
lint_header = codes "rule" ∷ codes "entry" ∷ codes "authority" ∷ codes "code" ∷ codes "name" ∷ codes "detail" ∷ []

-- the fields of a row
abbrev pub fields_in : AnyRule → List ℕ → CrsParts → List ℕ → List (List ℕ)
fields_in rule label crs detail = any_name rule ∷ label ∷ authority_of (ids_of crs) ∷ code_of (ids_of crs) ∷ (name_of crs).bytes ∷ detail ∷ []

abbrev pub fields_of : AnyRule → Subject → List ℕ → List (List ℕ)
fields_of rule s detail = fields_in rule s.label s.crs.parts detail

-- the row, unless its mark is known
abbrev pub row_of : (List ℕ → Bool) → List (List ℕ) → List ℕ
row_of known fields = if known (mark_of fields) then [] else row_text default_writer fields

-- the row of a reference system with a sentence
abbrev pub line_of : (List ℕ → Bool) → AnyRule → Subject → Option (List ℕ) → List ℕ
line_of known rule s None = []
line_of known rule s (Some detail) = row_of known (fields_of rule s detail)

-- those of some reference systems, each with its sentence
abbrev pub lines_of : (List ℕ → Bool) → AnyRule → List Subject → List (Option (List ℕ)) → List ℕ
lines_of known rule [] ds = []
lines_of known rule (s ∷ ss) [] = []
lines_of known rule (s ∷ ss) (d ∷ ds) = line_of known rule s d ++ lines_of known rule ss ds

-- those of each rule, one rule after another
abbrev pub all_lines : (List ℕ → Bool) → List AnyRule → List Subject → List ℕ
all_lines known [] ss = []
all_lines known (rule ∷ rules) ss = lines_of known rule ss (details rule ss) ++ all_lines known rules ss

-- a header, and the rows
abbrev pub lint_sheet : (List ℕ → Bool) → List AnyRule → List Subject → List ℕ
lint_sheet known rules ss = row_text default_writer lint_header ++ all_lines known rules ss

-- something follows the header, which has 38 bytes
abbrev pub has_rows : List ℕ → Bool
has_rows text = nat_lt 38 (length text)

-- ---- writing

pub record Writes (old new : Sheet) (text : List ℕ) : Type 0 where
  pub wrote : sheet_text new ≡ sheet_text old ++ text
  pub ready : IsReady new
