-- The value that is read from files of each kind, and the first fault of other bytes.
use Rattle.std.specs.Prelude.{◌≡◌, ℕ, ◌+◌, ◌-◌, ◌<◌, ◌⊎◌, ◌==◌, Bool, true, false, List, [], ◌∷◌, ◌++◌, length, slice_get, Option, Some, None, Result, Ok, Err, if◌then◌else◌}
use Rattle.std.specs.List.{flat_map}
use Rattle.std.specs.Int.{w32}
use Rattle.reg_op.specs.Set as set
use Rattle.reg_op.specs.Ids.{Id, Ids, is_same}
use Rattle.reg_op.specs.Operations.{Op, op_cmp, IsBody}
use Rattle.reg_op.specs.Lists.{passes}
use Rattle.reg_op.specs.declared.operation.OpBody.{OpBody as Body}
use Rattle.reg_op.specs.declared.operation.OpBody.TheVariants.{Enter, Supersede, Retire}
use Rattle.reg_state.specs.Runs.{seen_of}
use Rattle.reg_op.specs.Kept.{first_dropped}
use Rattle.reg_op.specs.Definition.{IsCanonicalFault}
use Rattle.reg_op.specs.DefinitionFault.{DefinitionFault}
use Rattle.reg_op.specs.DefinitionFault.TheVariants as definition
use Rattle.reg_file.specs.declared.span.Span.{Span}
use Rattle.reg_file.specs.declared.fault.Refused.{Refused}
use Rattle.reg_file.specs.declared.fault.FileFault.{FileFault}
use Rattle.reg_file.specs.declared.fault.FileFault.TheVariants as fault
use Rattle.reg_file.specs.declared.op_offset.OpOffset.{OpOffset}
use Rattle.reg_file.specs.Layout.{Group, runs_of, kind_byte, op_bytes}
use Rattle.reg_file.specs.Fields.{number_at, head_at, span_at, group_at, heading_at, body_at}
use Rattle.reg_file.specs.Readers.{Portion, field, ◌behind◌, repeated}

-- ---- ranges

-- a range begins beyond the one before it, and does not touch it. It meets no id of the basis
abbrev pub span : Ids → List ℕ → ℕ → Portion Span
span basis replica floor = field (span_at basis replica floor)

abbrev pub floor_after : ℕ → Span → ℕ
floor_after floor s = s.high + 2

abbrev pub spans : Ids → List ℕ → ℕ → Portion (List Span)
spans basis replica count = repeated (span basis replica) floor_after 1 count

abbrev pub named_spans : Ids → Option (List ℕ) → Portion ((List ℕ × ℕ) × List Span)
named_spans basis last = field (group_at last) behind (λ x. spans basis x.0 x.1)

-- a replica above the last one, and its ranges
abbrev pub group : Ids → Option (List ℕ) → Portion Group
group basis last = record {
  Reads = λ bytes g rest. (named_spans basis last).Reads bytes ((g.replica, length g.spans), g.spans) rest;
  Fails = (named_spans basis last).Fails;
}

abbrev pub replica_after : Option (List ℕ) → Group → Option (List ℕ)
replica_after last g = Some g.replica

abbrev pub groups : Ids → ℕ → Portion (List Group)
groups basis count = repeated (group basis) replica_after None count

abbrev pub ranges : Ids → Portion (ℕ × List Group)
ranges basis = field (number_at w32) behind groups basis

-- ---- operations

-- a fault of the text itself, and not that it is another spelling
abbrev pub IsOfText : DefinitionFault → Type 0
IsOfText (definition.Read f) = Unit {0}
IsOfText definition.NotCanonical = ⊥
IsOfText definition.Memory = ⊥
IsOfText f = Unit {0}

-- why a text is not a definition
abbrev pub IsTextFault : List ℕ → FileFault → Type 0
IsTextFault text (fault.Definition f) = IsOfText f × IsCanonicalFault text f
IsTextFault text fault.NotCanonical = IsCanonicalFault text definition.NotCanonical
IsTextFault text _ = ⊥

-- reported at the body's first byte
abbrev pub IsUnfit : Body → ℕ → Refused → Type 0
IsUnfit (Enter text) left r = (r.left ≡ left) × IsTextFault text r.fault
IsUnfit (Supersede old newer) left r = ⊥
IsUnfit (Retire entry) left r = ⊥

-- a field is refused; or all fields are read, and the text is not a definition
abbrev pub FailsAs : ℕ → Result (Body × List ℕ) Refused → Refused → Type 0
FailsAs left (Err e) r = e ≡ r
FailsAs left (Ok x) r = IsUnfit x.0 left r

-- the effect of an operation of a kind
abbrev pub body : ℕ → Portion Body
body kind = record {
  Reads = λ bytes b rest. (body_at kind bytes ≡ Ok (b, rest)) × IsBody b;
  Fails = λ bytes r. FailsAs (length bytes) (body_at kind bytes) r;
}

abbrev pub headed_body : ℕ → Ids → Option Id → Portion (((Id × ℕ) × List ℕ) × Body)
headed_body version seen last = field (heading_at version last seen) behind (λ x. body x.0.1)

-- an operation after the last one, of an id that was seen
abbrev pub operation : ℕ → Ids → Option Id → Portion Op
operation version seen last = record {
  Reads = λ bytes o rest. (headed_body version seen last).Reads bytes (((o.id, kind_byte o.body), o.note), o.body) rest;
  Fails = (headed_body version seen last).Fails;
}

abbrev pub id_after : Option Id → Op → Option Id
id_after last o = Some o.id

abbrev pub operations : ℕ → Ids → ℕ → Portion (List Op)
operations version seen count = repeated (operation version seen) id_after None count

abbrev pub counted_operations : ℕ → Ids → Portion (ℕ × List Op)
counted_operations version seen = field (number_at w32) behind operations version seen

-- ---- the end

-- the places of operations with these bytes after them
abbrev pub places_of : ℕ → List Op → List ℕ → List OpOffset
places_of version [] rest = []
places_of version (o ∷ os) rest = record { id = o.id; left = length (flat_map (op_bytes version) (o ∷ os) ++ rest) } ∷ places_of version os rest

-- the place of the first one of an id
abbrev pub left_in : List OpOffset → Id → ℕ
left_in [] id = 0
left_in (p ∷ ps) id = if is_same p.id id then p.left else left_in ps id

-- the least id that kept drops, reported where its operation was read
abbrev pub IsDropped : List Op → List OpOffset → Refused → Type 0
IsDropped os places r = (id : Id) × (first_dropped (set.from_list {R = op_cmp} os) ≡ Some id) × (r ≡ record { fault = fault.NotKept; left = left_in places id })

abbrev pub IsTrailing : List Op → List ℕ → Refused → Type 0
IsTrailing os rest r = (first_dropped (set.from_list {R = op_cmp} os) ≡ None) × (0 < length rest) × (r ≡ record { fault = fault.Trailing; left = length rest })

-- each operation is kept, and nothing follows
abbrev pub ending : ℕ → List Op → Portion (Unit {0})
ending version os = record {
  Reads = λ bytes x rest. (first_dropped (set.from_list {R = op_cmp} os) ≡ None) × (bytes ≡ []) × (rest ≡ []);
  Fails = λ bytes r. IsDropped os (places_of version os bytes) r ⊎ IsTrailing os bytes r;
}

-- nothing follows
abbrev pub ended : Portion (Unit {0})
ended = record {
  Reads = λ bytes x rest. (bytes ≡ []) × (rest ≡ []);
  Fails = λ bytes r. (0 < length bytes) × (r ≡ record { fault = fault.Trailing; left = length bytes });
}

-- ---- the files

-- the seen ids, without the basis, and the operations
abbrev pub seen_and_ops : ℕ → Ids → Portion ((ℕ × List Group) × (ℕ × List Op))
seen_and_ops version basis = ranges basis behind (λ gs. counted_operations version (seen_of (runs_of gs.1)))

abbrev pub seen_and_kept : ℕ → Ids → Portion (((ℕ × List Group) × (ℕ × List Op)) × Unit {0})
seen_and_kept version basis = seen_and_ops version basis behind (λ x. ending version x.1.1)

abbrev pub register : ℕ → Portion (Unit {0} × (((ℕ × List Group) × (ℕ × List Op)) × Unit {0}))
register version = field (head_at version 1) behind (λ x. seen_and_kept version set.empty)

abbrev pub summary : ℕ → Portion (Unit {0} × ((ℕ × List Group) × Unit {0}))
summary version = field (head_at version 2) behind (λ x. ranges set.empty behind (λ gs. ended))

-- the basis, and then the seen ids and the operations without it
abbrev pub based : ℕ → Portion ((ℕ × List Group) × (((ℕ × List Group) × (ℕ × List Op)) × Unit {0}))
based version = ranges set.empty behind (λ gs. seen_and_kept version (seen_of (runs_of gs.1)))

abbrev pub piece : ℕ → Portion (Unit {0} × ((ℕ × List Group) × (((ℕ × List Group) × (ℕ × List Op)) × Unit {0})))
piece version = field (head_at version 3) behind (λ x. based version)

-- the first fault of bytes that are not read, and its place
abbrev pub FailsAt : {A : Type 0} → Portion A → List ℕ → FileFault → ℕ → Type 0
FailsAt p bytes f place = (r : Refused) × p.Fails bytes r × (f ≡ r.fault) × (place ≡ length bytes - r.left)

-- the byte of the version says that it is the first
abbrev pub says_first : List ℕ → Bool
says_first bytes = passes (λ version. version == 1) (slice_get bytes 4)

-- the version as which bytes are read: 1 if they say so, otherwise the current one
abbrev pub version_in : List ℕ → ℕ
version_in bytes = if says_first bytes then 1 else 2

-- the first fault of bytes that are not a file of a register; of a summary; of a piece
abbrev pub HasFault : List ℕ → FileFault → ℕ → Type 0
HasFault bytes f place = FailsAt (register (version_in bytes)) bytes f place

abbrev pub HasSeenFault : List ℕ → FileFault → ℕ → Type 0
HasSeenFault bytes f place = FailsAt (summary (version_in bytes)) bytes f place

abbrev pub HasPieceFault : List ℕ → FileFault → ℕ → Type 0
HasPieceFault bytes f place = FailsAt (piece (version_in bytes)) bytes f place

-- the byte of the kind says that it is a piece
abbrev pub says_piece : List ℕ → Bool
says_piece bytes = passes (λ kind. kind == 3) (slice_get bytes 5)

abbrev pub FaultBy : Bool → List ℕ → FileFault → ℕ → Type 0
FaultBy true bytes f place = HasPieceFault bytes f place
FaultBy false bytes f place = HasFault bytes f place

-- the first fault of bytes that are neither a register's file nor a piece's: that of a piece if they say so
abbrev pub HasPartFault : List ℕ → FileFault → ℕ → Type 0
HasPartFault bytes f place = FaultBy (says_piece bytes) bytes f place
