-- The lines of reports.
use Rattle.std.specs.Prelude.{◌≡◌, ℕ, List, [], ◌∷◌, ◌++◌, map, false, codes, decimal, Option, Some, None}
use Rattle.std.specs.List.{flat_map}
use Rattle.std.specs.Global.{Vec}
use Rattle.csv.specs.Writing.{row_text, default_writer, writer_under, writer_pending, writer_setup, fields_written, has_written}
use Rattle.csv.specs.declared.writer.Writer.{Writer}
use Rattle.uuid.specs.Text.{hyphenated_text, lower}
use Rattle.reg_op.specs.Ids.{Id}
use Rattle.reg_op.specs.Text.{printed}
use Rattle.reg_op.specs.Operations.{Op}
use Rattle.reg_op.specs.declared.operation.OpBody.{OpBody as Body}
use Rattle.reg_op.specs.declared.operation.OpBody.TheVariants.{Enter, Supersede, Retire}
use Rattle.reg_op.specs.Rows.{Row}
use Rattle.reg_op.specs.declared.status.Status.{Status}
use Rattle.reg_op.specs.declared.status.Status.TheVariants.{Valid, Superseded, Retired}
use Rattle.crs_part.specs.Slots.{name_of}
use Rattle.crs_value.specs.declared.crs.Crs.{Crs}
use Rattle.crs_value.specs.declared.key.Key.{Key}
use Rattle.reg_op.specs.Definition.{IsCrsOf, IsKeyIn}
use Rattle.reg_report.specs.declared.gap.Gap.{Gap}
use Rattle.reg_report.specs.Conflicts.{Contested}

-- a header, and a line for each item
abbrev pub sheet_of : {T : Type 0} → List (List ℕ) → (T → List (List ℕ)) → List T → List ℕ
sheet_of header fields items = row_text default_writer header ++ flat_map (λ i. row_text default_writer (fields i)) items

abbrev pub awaited_header : List (List ℕ)
awaited_header = codes "entry" ∷ []

abbrev pub awaited_fields : Id → List (List ℕ)
awaited_fields i = printed i ∷ []

abbrev pub gaps_header : List (List ℕ)
gaps_header = codes "replica" ∷ codes "low" ∷ codes "high" ∷ []

abbrev pub gap_fields : Gap → List (List ℕ)
gap_fields g = hyphenated_text lower g.replica ∷ decimal g.low ∷ decimal g.high ∷ []

abbrev pub conflicts_header : List (List ℕ)
conflicts_header = codes "authority" ∷ codes "code" ∷ codes "entry" ∷ []

abbrev pub contender_fields : List ℕ → List ℕ → Id → List (List ℕ)
contender_fields authority code entry = authority ∷ code ∷ printed entry ∷ []

-- a line for each entry of a key
abbrev pub conflict_lines : Contested → List (List (List ℕ))
conflict_lines c = map (contender_fields c.key.authority c.key.code) c.entries

abbrev pub ops_header : List (List ℕ)
ops_header = codes "operation" ∷ codes "effect" ∷ codes "entry" ∷ codes "replaced_by" ∷ codes "definition" ∷ codes "note" ∷ []

abbrev pub body_fields : Id → Body → List ℕ → List (List ℕ)
body_fields i (Enter text) note = printed i ∷ codes "enter" ∷ printed i ∷ [] ∷ text ∷ note ∷ []
body_fields i (Supersede old newer) note = printed i ∷ codes "supersede" ∷ printed old ∷ printed newer ∷ [] ∷ note ∷ []
body_fields i (Retire entry) note = printed i ∷ codes "retire" ∷ printed entry ∷ [] ∷ [] ∷ note ∷ []

abbrev pub op_fields : Op → List (List ℕ)
op_fields o = body_fields o.id o.body o.note

-- a writer in memory, and what was written so far
abbrev pub Sheet : Type 0
Sheet = Writer (Vec ℕ)

abbrev pub sheet_text : Sheet → List ℕ
sheet_text w = (writer_under w).items ++ writer_pending w

-- at the start of a record, with the crate's defaults
pub record IsReady (w : Sheet) : Type 0 where
  pub setup : writer_setup w ≡ default_writer
  pub fields : fields_written w ≡ 0
  pub wrote : has_written w ≡ false

pub record WritesRow (old new : Sheet) (fields : List (List ℕ)) : Type 0 where
  pub text : sheet_text new ≡ sheet_text old ++ row_text default_writer fields
  pub ready : IsReady new

-- a line for each of some fields
abbrev pub rows_text : List (List (List ℕ)) → List ℕ
rows_text lines = flat_map (λ fields. row_text default_writer fields) lines

pub record WritesRows (old new : Sheet) (lines : List (List (List ℕ))) : Type 0 where
  pub text : sheet_text new ≡ sheet_text old ++ rows_text lines
  pub ready : IsReady new

-- a line for each item, whose fields a relation gives
abbrev pub AreLines : {T : Type 0} → (T → List (List ℕ) → Type 0) → List T → List ℕ → Type 0
AreLines R [] text = text ≡ []
AreLines R (x ∷ xs) text = (fields : List (List ℕ)) × (rest : List ℕ) × R x fields × AreLines R xs rest × (text ≡ row_text default_writer fields ++ rest)

-- a header, and those lines
abbrev pub IsSheet : {T : Type 0} → List (List ℕ) → (T → List (List ℕ) → Type 0) → List T → List ℕ → Type 0
IsSheet header R items text = (lines : List ℕ) × AreLines R items lines × (text ≡ row_text default_writer header ++ lines)

abbrev pub entries_header : List (List ℕ)
entries_header = codes "entry" ∷ codes "authority" ∷ codes "code" ∷ codes "name" ∷ codes "status" ∷ codes "replaced_by" ∷ []

abbrev pub status_word : Option Status → List ℕ
status_word None = []
status_word (Some Valid) = codes "valid"
status_word (Some Superseded) = codes "superseded"
status_word (Some Retired) = codes "retired"

-- ids with one space between
abbrev pub spaced_after : List Id → List ℕ
spaced_after [] = []
spaced_after (i ∷ is) = (32 ∷ printed i) ++ spaced_after is

abbrev pub spaced : List Id → List ℕ
spaced [] = []
spaced (i ∷ is) = printed i ++ spaced_after is

-- an entry, its key, its name, its status and what supersedes it
pub record IsEntryLine (r : Row) (fields : List (List ℕ)) : Type 0 where
  pub key : Key
  pub crs : Crs
  pub keyed : IsKeyIn key r.definition
  pub spelled : IsCrsOf crs r.definition
  pub are : fields ≡ printed r.entry ∷ key.authority.bytes ∷ key.code.bytes ∷ (name_of crs.parts).bytes ∷ status_word r.status ∷ spaced r.newer ∷ []

-- a header, and a line for each entry of each key
abbrev pub conflicts_sheet : List Contested → List ℕ
conflicts_sheet cs = row_text default_writer conflicts_header ++ flat_map (λ c. rows_text (conflict_lines c)) cs
