-- The reports of offices and of files: their input and output.
use Rattle.std.specs.Prelude.{◌≡◌, ℕ, ◌+◌, nat_lt, Bool, true, false, ◌||◌, List, [], ◌∷◌, ◌++◌, All, length, codes, decimal, Option, Some, None}
use Rattle.std.specs.List.{list_any}
use Rattle.csv.specs.Writing.{row_text, default_writer}
use Rattle.byte_io.specs.Device.{SinkState}
use Rattle.byte_io.specs.Whole.{WritesAll, IsCutAt}
use Rattle.reg_op.specs.Contents.{Content}
use Rattle.reg_report.specs.Lines.{sheet_of}
use Rattle.reg_engine.specs.declared.fault.Refusal.TheVariants as refusal
use Rattle.reg_engine.specs.declared.fault.OutFault.TheVariants as out
use Rattle.reg_engine.specs.declared.fault.CliFault.{CliFault}
use Rattle.reg_engine.specs.declared.fault.CliFault.TheVariants as cli
use Rattle.reg_engine.specs.Names.{problem_name}
use Rattle.reg_query.specs.declared.figures.register.Figures.{Figures}
use Rattle.reg_query.specs.declared.figures.office.OfficeFigures.{OfficeFigures}
use Rattle.reg_query.specs.Offices.{offices_header, office_fields, AreOffices}
use Rattle.reg_desk.specs.Words.{words_of}
use Rattle.reg_desk.specs.declared.look.Look.{Look}
use Rattle.reg_desk.specs.declared.look.Look.TheVariants as look

-- ---- offices

abbrev pub IsOfficesText : Content → List ℕ → Type 0
IsOfficesText x text = (os : List OfficeFigures) × AreOffices x os × (text ≡ sheet_of offices_header office_fields os)

-- ---- the line of a file

abbrev pub status_header : List (List ℕ)
status_header = codes "file" ∷ codes "bytes" ∷ codes "fault" ∷ codes "operations" ∷ codes "entries" ∷ codes "valid" ∷ codes "superseded" ∷ codes "retired"
    ∷ codes "conflicts" ∷ codes "awaited" ∷ codes "gaps" ∷ codes "duplicates" ∷ codes "dangling" ∷ codes "withdrawn" ∷ []

abbrev pub figure_fields : Figures → List (List ℕ)
figure_fields f = decimal f.operations ∷ decimal f.entries ∷ decimal f.valid ∷ decimal f.superseded ∷ decimal f.retired
    ∷ decimal f.conflicts ∷ decimal f.awaited ∷ decimal f.gaps
    ∷ decimal f.duplicates ∷ decimal f.dangling ∷ decimal f.withdrawn ∷ []

abbrev pub no_figures : List (List ℕ)
no_figures = [] ∷ [] ∷ [] ∷ [] ∷ [] ∷ [] ∷ [] ∷ [] ∷ [] ∷ [] ∷ [] ∷ []

-- the name, the size if it was read completely, the words of its fault if it has one, and otherwise the figures
abbrev pub IsStatusLine : List ℕ → Look → List (List ℕ) → Type 0
IsStatusLine name (look.Figures n f) fields = fields ≡ name ∷ decimal n ∷ [] ∷ figure_fields f
IsStatusLine name (look.NoRegister n f) fields = fields ≡ name ∷ decimal n ∷ words_of f ∷ no_figures
IsStatusLine name (look.Unread f) fields = fields ≡ name ∷ [] ∷ words_of f ∷ no_figures
IsStatusLine name (look.NoShelf p) fields = fields ≡ name ∷ [] ∷ problem_name p ∷ no_figures

-- a line for each name and what the file of this name has
abbrev pub AreStatusLines : List (List ℕ) → List Look → List ℕ → Type 0
AreStatusLines [] ls text = text ≡ []
AreStatusLines (n ∷ ns) [] text = text ≡ []
AreStatusLines (n ∷ ns) (l ∷ ls) text = (fields : List (List ℕ)) × (rest : List ℕ) × IsStatusLine n l fields × AreStatusLines ns ls rest
    × (text ≡ row_text default_writer fields ++ rest)

-- a header, and those lines
abbrev pub IsStatusText : List (List ℕ) → List Look → List ℕ → Type 0
IsStatusText names looks text = (lines : List ℕ) × AreStatusLines names looks lines × (text ≡ row_text default_writer status_header ++ lines)

-- ---- the result

-- the fault that is reported of the file with this number, or of a shelf
abbrev pub fault_at : ℕ → Look → Option CliFault
fault_at k (look.Figures n f) = None
fault_at k (look.NoRegister n f) = Some (cli.File k f)
fault_at k (look.Unread f) = Some (cli.File k f)
fault_at k (look.NoShelf p) = Some (cli.Shelf p)

-- the file or shelf has a register
abbrev pub IsGood : Look → Type 0
IsGood (look.Figures n f) = Unit {0}
IsGood (look.NoRegister n f) = ⊥
IsGood (look.Unread f) = ⊥
IsGood (look.NoShelf p) = ⊥

abbrev pub AreGood : List Look → Type 0
AreGood looks = All IsGood looks

-- this fault is reported of the first that has none; files are numbered from 1
abbrev pub IsFirstBad : List Look → CliFault → Type 0
IsFirstBad looks fault = (before : List Look) × (l : Look) × (after : List Look) × (looks ≡ before ++ l ∷ after) × AreGood before
    × (fault_at (length before + 1) l ≡ Some fault)

-- it has keys in conflict, awaited ids, gaps, keys with equal texts, or superseded entries without a valid heir
abbrev pub is_any : Figures → Bool
is_any f = nat_lt 0 f.conflicts || (nat_lt 0 f.awaited || (nat_lt 0 f.gaps || (nat_lt 0 f.duplicates || nat_lt 0 f.dangling)))

abbrev pub is_unsettled : Look → Bool
is_unsettled (look.Figures n f) = is_any f
is_unsettled (look.NoRegister n f) = false
is_unsettled (look.Unread f) = false
is_unsettled (look.NoShelf p) = false

-- if this is checked, none has any of these
abbrev pub IsSettled : Bool → List Look → Type 0
IsSettled settled looks = settled ≡ true → list_any is_unsettled looks ≡ false

-- the fault of a list of files
abbrev pub IsVerdict : Bool → List Look → CliFault → Type 0
IsVerdict settled looks (cli.File k f) = IsFirstBad looks (cli.File k f)
IsVerdict settled looks (cli.Shelf p) = IsFirstBad looks (cli.Shelf p)
IsVerdict settled looks (cli.Refused refusal.Unsettled) = (settled ≡ true) × AreGood looks × (list_any is_unsettled looks ≡ true)
IsVerdict settled looks fault = ⊥

-- ---- the command

-- there are such looks, and their lines were written
abbrev pub Tells : List (List ℕ) → (List Look → Type 0) → SinkState → SinkState → List Look → Type 0
Tells names Are before after looks = Are looks × ((text : List ℕ) × IsStatusText names looks text × WritesAll text before after)

abbrev pub IsTold : Bool → List (List ℕ) → (List Look → Type 0) → SinkState → SinkState → Type 0
IsTold settled names Are before after = (looks : List Look) × Tells names Are before after looks × AreGood looks × IsSettled settled looks

-- the effect for each fault
abbrev pub IsUntold : Bool → List (List ℕ) → (List Look → Type 0) → Type 0 → SinkState → SinkState → CliFault → Type 0
IsUntold settled names Are Left before after (cli.Refused r) = (looks : List Look) × Tells names Are before after looks × IsVerdict settled looks (cli.Refused r)
IsUntold settled names Are Left before after (cli.File k f) = (looks : List Look) × Tells names Are before after looks × IsVerdict settled looks (cli.File k f)
IsUntold settled names Are Left before after (cli.Out (out.WriteFailed n)) = (looks : List Look) × Are looks
    × ((text : List ℕ) × IsStatusText names looks text × IsCutAt n text before after)
IsUntold settled names Are Left before after (cli.Out f) = ⊥
IsUntold settled names Are Left before after cli.Memory = Left × (after ≡ before)
IsUntold settled names Are Left before after (cli.Shelf p) = (looks : List Look) × Tells names Are before after looks × IsVerdict settled looks (cli.Shelf p)
IsUntold settled names Are Left before after (cli.Office t) = ⊥
