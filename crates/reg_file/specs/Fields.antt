-- Fields, read from the left, each checked as it is read. A fault has the number of bytes from its place on.
use Rattle.std.specs.Prelude.{◌≡◌, ℕ, Bool, true, List, [], ◌∷◌, length, take, drop, Option, Some, None, Result, Ok, Err, nat_lt, ◌==◌, ◌||◌, if◌then◌else◌}
use Rattle.std.specs.Int.{Width, w32, byte_len, from_be_bytes}
use Rattle.std.specs.Ordering.{is_lt}
use Rattle.std.specs.Str.{is_utf8}
use Rattle.reg_op.specs.Set as set
use Rattle.reg_op.specs.Ids.{Id, Ids, is_before, is_same}
use Rattle.reg_op.specs.declared.operation.OpBody.{OpBody as Body}
use Rattle.reg_op.specs.declared.operation.OpBody.TheVariants.{Enter, Supersede, Retire}
use Rattle.reg_state.specs.Runs.{replica_cmp, meets}
use Rattle.reg_op.specs.DefinitionFault.TheVariants as definition
use Rattle.reg_file.specs.declared.span.Span.{Span}
use Rattle.reg_file.specs.declared.fault.Refused.{Refused}
use Rattle.reg_file.specs.declared.fault.FileFault.{FileFault}
use Rattle.reg_file.specs.declared.fault.FileFault.TheVariants.{Magic, Version, Kind, Truncated, Ranges, ReplicaOrder, OpOrder, OpIdBad, OpKind, NoteTooLong, NoteNotUtf8, NotSeen, SameEntry, Definition}
use Rattle.reg_file.specs.declared.fault.Stop.{Stop}
use Rattle.reg_file.specs.declared.fault.Stop.TheVariants as stop
use Rattle.reg_file.specs.Layout.{run_at}

infixl 10 ◌>>=◌
abbrev pub ◌>>=◌ : {A B : Type 0} → Result A Refused → (A → Result B Refused) → Result B Refused
(Ok x) >>= f = f x
(Err e) >>= f = Err e

abbrev pub refused : {A : Type 0} → FileFault → ℕ → Result A Refused
refused fault left = Err (record { fault = fault; left = left })

-- The result of a function, seen by view, is the result of reading, unless memory ran out.
abbrev pub Fails : {Y : Type 0} → Stop → Result Y Refused → Type 0
Fails stop.Memory read = Unit {0}
Fails (stop.Refused r) read = read ≡ Err r

abbrev pub Gives : {X Y : Type 0} → (X → Y) → Result X Stop → Result Y Refused → Type 0
Gives view (Ok x) read = read ≡ Ok (view x)
Gives view (Err e) read = Fails e read

-- A field is a value and the bytes after it.
abbrev pub cut_at : ℕ → List ℕ → Result (List ℕ × List ℕ) Refused
cut_at n bytes = if nat_lt (length bytes) n then refused Truncated 0 else Ok (take n bytes, drop n bytes)

abbrev pub byte_at : List ℕ → Result (ℕ × List ℕ) Refused
byte_at [] = refused Truncated 0
byte_at (b ∷ rest) = Ok (b, rest)

abbrev pub number_at : Width → List ℕ → Result (ℕ × List ℕ) Refused
number_at w bytes = if nat_lt (length bytes) (byte_len w) then refused Truncated 0 else Ok (from_be_bytes w (take (byte_len w) bytes), drop (byte_len w) bytes)

-- ---- the head

abbrev pub kind_at : ℕ → List ℕ → Result (Unit {0} × List ℕ) Refused
kind_at kind bytes = do
  k ← byte_at bytes
  if k.0 == kind then Ok (tt, k.1) else refused Kind (length bytes)

abbrev pub version_at : ℕ → ℕ → List ℕ → Result (Unit {0} × List ℕ) Refused
version_at version kind bytes = do
  v ← byte_at bytes
  if v.0 == version then kind_at kind v.1 else refused Version (length bytes)

unfoldable pub head_at : ℕ → ℕ → List ℕ → Result (Unit {0} × List ℕ) Refused
head_at version kind bytes = do
  magic ← number_at w32 bytes
  if magic.0 == 0x43525352 then version_at version kind magic.1 else refused Magic (length bytes)

-- ---- ranges

-- the range begins below the floor, or ends before it begins, or meets an id of the basis
abbrev pub is_unfit : Ids → List ℕ → ℕ → Span → Bool
is_unfit basis replica floor s = nat_lt s.low floor || (nat_lt s.high s.low || meets basis (run_at replica s))

unfoldable pub span_at : Ids → List ℕ → ℕ → List ℕ → Result (Span × List ℕ) Refused
span_at basis replica floor bytes = do
  low ← number_at w32 bytes
  high ← number_at w32 low.1
  if is_unfit basis replica floor (record { low = low.0; high = high.0 }) then refused Ranges (length bytes) else Ok (record { low = low.0; high = high.0 }, high.1)

abbrev pub is_above : Option (List ℕ) → List ℕ → Bool
is_above None replica = true
is_above (Some last) replica = is_lt (replica_cmp last replica)

-- a replica above the last one
abbrev pub replica_at : Option (List ℕ) → List ℕ → Result (List ℕ × List ℕ) Refused
replica_at last bytes = do
  replica ← cut_at 16 bytes
  if is_above last replica.0 then Ok replica else refused ReplicaOrder (length bytes)

-- how many ranges it has
abbrev pub count_at : List ℕ → Result (ℕ × List ℕ) Refused
count_at bytes = do
  count ← number_at w32 bytes
  if count.0 == 0 then refused Ranges (length bytes) else Ok count

unfoldable pub group_at : Option (List ℕ) → List ℕ → Result ((List ℕ × ℕ) × List ℕ) Refused
group_at last bytes = do
  replica ← replica_at last bytes
  count ← count_at replica.1
  Ok ((replica.0, count.0), count.1)

-- ---- operations

unfoldable pub id_at : List ℕ → Result (Id × List ℕ) Refused
id_at bytes = do
  replica ← cut_at 16 bytes
  count ← number_at w32 replica.1
  if count.0 == 0 then refused OpIdBad (length bytes) else Ok (record { replica = replica.0; count = count.0 }, count.1)

abbrev pub is_after : Option Id → Id → Bool
is_after None id = true
is_after (Some last) id = is_before last id

-- an operation's own id is after the last one, and seen
unfoldable pub own_at : Option Id → Ids → List ℕ → Result (Id × List ℕ) Refused
own_at last seen bytes = do
  id ← id_at bytes
  if is_after last id.0 then (if set.contains seen id.0 then Ok id else refused NotSeen (length bytes)) else refused OpOrder (length bytes)

unfoldable pub text_at : List ℕ → Result (List ℕ × List ℕ) Refused
text_at bytes = do
  len ← number_at w32 bytes
  if nat_lt 65536 len.0 then refused (Definition definition.CanonicalTooLong) (length bytes) else cut_at len.0 len.1

unfoldable pub pair_at : List ℕ → Result ((Id × Id) × List ℕ) Refused
pair_at bytes = do
  old ← id_at bytes
  newer ← id_at old.1
  if is_same old.0 newer.0 then refused SameEntry (length bytes) else Ok ((old.0, newer.0), newer.1)

unfoldable pub body_at : ℕ → List ℕ → Result (Body × List ℕ) Refused
body_at kind bytes =
    if kind == 1 then (text_at bytes >>= λ x. Ok (Enter x.0, x.1))
    else (if kind == 2 then (pair_at bytes >>= λ x. Ok (Supersede x.0.0 x.0.1, x.1))
    else (id_at bytes >>= λ x. Ok (Retire x.0, x.1)))

unfoldable pub op_kind_at : List ℕ → Result (ℕ × List ℕ) Refused
op_kind_at bytes = do
  kind ← byte_at bytes
  if kind.0 == 0 || nat_lt 3 kind.0 then refused OpKind (length bytes) else Ok kind

-- the bytes of a note, with their number before them
unfoldable pub noted_at : List ℕ → Result (List ℕ × List ℕ) Refused
noted_at bytes = do
  len ← byte_at bytes
  if nat_lt 200 len.0 then refused NoteTooLong (length bytes) else cut_at len.0 len.1

-- an operation's note. Version 1 has none
unfoldable pub note_at : ℕ → List ℕ → Result (List ℕ × List ℕ) Refused
note_at version bytes =
    if version == 1 then Ok ([], bytes)
    else (noted_at bytes >>= λ note. if is_utf8 note.0 then Ok note else refused NoteNotUtf8 (length bytes))

-- an operation's own id, its kind and its note
unfoldable pub heading_at : ℕ → Option Id → Ids → List ℕ → Result (((Id × ℕ) × List ℕ) × List ℕ) Refused
heading_at version last seen bytes = do
  id ← own_at last seen bytes
  kind ← op_kind_at id.1
  note ← note_at version kind.1
  Ok (((id.0, kind.0), note.0), note.1)
