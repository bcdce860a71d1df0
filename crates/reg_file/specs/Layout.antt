-- The bytes of a replica file, field by field. Numbers have four bytes, the high one first.
use Rattle.std.specs.Prelude.{ℕ, List, [], ◌∷◌, ◌++◌, ◌==◌, length, map, if◌then◌else◌}
use Rattle.std.specs.List.{flat_map}
use Rattle.std.specs.Int.{w32, to_be_bytes}
use Rattle.std.specs.Ordering.{is_eq}
use Rattle.reg_op.specs.Ids.{Id}
use Rattle.reg_op.specs.Operations.{Op}
use Rattle.reg_op.specs.declared.operation.OpBody.{OpBody as Body}
use Rattle.reg_op.specs.declared.operation.OpBody.TheVariants.{Enter, Supersede, Retire}
use Rattle.reg_state.specs.declared.run.Run.{Run}
use Rattle.reg_state.specs.Runs.{replica_cmp}
use Rattle.reg_file.specs.declared.span.Span.{Span}

abbrev pub four : ℕ → List ℕ
four n = to_be_bytes w32 n

abbrev pub id_bytes : Id → List ℕ
id_bytes i = i.replica ++ four i.count

-- the kind of an operation, and the fields after it
abbrev pub kind_byte : Body → ℕ
kind_byte (Enter text) = 1
kind_byte (Supersede old newer) = 2
kind_byte (Retire entry) = 3

abbrev pub body_bytes : Body → List ℕ
body_bytes (Enter text) = four (length text) ++ text
body_bytes (Supersede old newer) = id_bytes old ++ id_bytes newer
body_bytes (Retire entry) = id_bytes entry

-- a note, with its length in one byte before it. Version 1 has none
abbrev pub note_bytes : ℕ → List ℕ → List ℕ
note_bytes version note = if version == 1 then [] else length note ∷ note

abbrev pub op_bytes : ℕ → Op → List ℕ
op_bytes version o = id_bytes o.id ++ kind_byte o.body ∷ (note_bytes version o.note ++ body_bytes o.body)

-- a count, and the operations
abbrev pub ops_bytes : ℕ → List Op → List ℕ
ops_bytes version os = four (length os) ++ flat_map (op_bytes version) os

-- the runs of one replica
pub record Group : Type 0 where
  pub replica : List ℕ
  pub spans : List Span

abbrev pub span_of : Run → Span
span_of r = record { low = r.low; high = r.high }

abbrev pub run_at : List ℕ → Span → Run
run_at replica s = record { replica = replica; low = s.low; high = s.high }

abbrev pub runs_of : List Group → List Run
runs_of [] = []
runs_of (g ∷ gs) = map (run_at g.replica) g.spans ++ runs_of gs

-- runs by replica: a run joins the first group if that is its replica's
abbrev pub put : Run → List Group → List Group
put r [] = record { replica = r.replica; spans = span_of r ∷ [] } ∷ []
put r (g ∷ gs) =
    if is_eq (replica_cmp r.replica g.replica)
    then record { replica = r.replica; spans = span_of r ∷ g.spans } ∷ gs
    else record { replica = r.replica; spans = span_of r ∷ [] } ∷ g ∷ gs

abbrev pub grouped : List Run → List Group
grouped [] = []
grouped (r ∷ rs) = put r (grouped rs)

abbrev pub span_bytes : Span → List ℕ
span_bytes s = four s.low ++ four s.high

abbrev pub group_bytes : Group → List ℕ
group_bytes g = g.replica ++ (four (length g.spans) ++ flat_map span_bytes g.spans)

-- a count, and each replica with its ranges
abbrev pub ranges_bytes : List Group → List ℕ
ranges_bytes gs = four (length gs) ++ flat_map group_bytes gs

-- `CRSR`, the version and the kind
abbrev pub head : ℕ → ℕ → List ℕ
head version kind = 0x43 ∷ 0x52 ∷ 0x53 ∷ 0x52 ∷ version ∷ kind ∷ []

-- the file of operations by id and of the runs that were seen
abbrev pub register_file : ℕ → List Op → List Run → List ℕ
register_file version ops runs = head version 1 ++ (ranges_bytes (grouped runs) ++ ops_bytes version ops)

-- the file of the runs that were seen
abbrev pub seen_file : ℕ → List Run → List ℕ
seen_file version runs = head version 2 ++ ranges_bytes (grouped runs)

-- the file of the basis's runs, and of operations by id and of the runs that were seen, without it
abbrev pub piece_file : ℕ → List Run → List Op → List Run → List ℕ
piece_file version basis ops runs = head version 3 ++ (ranges_bytes (grouped basis) ++ (ranges_bytes (grouped runs) ++ ops_bytes version ops))

-- a register's file, of the version that is written
abbrev pub file : List Op → List Run → List ℕ
file ops runs = register_file 2 ops runs
