-- The effects of the steps of reading.
use Rattle.std.specs.Prelude.{◌≡◌, ◌⊎◌, ◌+◌, ◌<◌, ◌≤◌, ℕ, true, false, map, Option, Some, None, List, [], ◌∷◌, length, Result, Ok}
use Rattle.reg_op.specs.Set as set
use Rattle.reg_op.specs.Ids.{Id, Ids}
use Rattle.reg_op.specs.Operations.{Op, op_cmp}
use Rattle.reg_op.specs.Kept.{first_dropped}
use Rattle.reg_op.specs.Contents.{Content, IsContent}
use Rattle.reg_op.specs.Pieces.{Piece, part_of, IsPiece}
use Rattle.reg_op.specs.Lists.{has, ById, content_at}
use Rattle.reg_state.specs.declared.register.ContentFault.{ContentFault}
use Rattle.reg_state.specs.declared.register.ContentFault.TheVariants as content
use Rattle.reg_op.specs.declared.operation.OpBody.{OpBody as Body}
use Rattle.reg_op.specs.declared.operation.OpBody.TheVariants.{Enter}
use Rattle.reg_file.specs.declared.fault.Refused.{Refused}
use Rattle.reg_file.specs.declared.fault.Stop.{Stop}
use Rattle.reg_file.specs.declared.fault.Stop.TheVariants as stop
use Rattle.reg_file.specs.declared.fault.FileFault.TheVariants as fault
use Rattle.reg_file.specs.declared.op_offset.OpOffset.{OpOffset}
use Rattle.reg_state.specs.declared.run.Run.{Run}
use Rattle.reg_state.specs.Runs.{IsBelow, AllIds, ids_of_run, seen_of}
use Rattle.reg_file.specs.declared.span.Span.{Span}
use Rattle.reg_file.specs.Layout.{Group, run_at, runs_of}
use Rattle.reg_file.specs.Fields.{head_at}
use Rattle.reg_file.specs.Readers.{ReadsEach, state_after}
use Rattle.reg_file.specs.Reading.{IsUnfit, FailsAs, span, floor_after, spans, group, groups, replica_after, ranges, places_of, left_in, IsDropped, IsTrailing, seen_and_ops, seen_and_kept}

-- a text that is not a definition; its body begins with this many bytes left
abbrev pub StopsInText : List ℕ → ℕ → Stop → Type 0
StopsInText text left stop.Memory = Unit {0}
StopsInText text left (stop.Refused r) = IsUnfit (Enter text) left r

abbrev pub StopsAs : ℕ → Result (Body × List ℕ) Refused → Stop → Type 0
StopsAs left read stop.Memory = Unit {0}
StopsAs left read (stop.Refused r) = FailsAs left read r

-- ---- ranges

-- a set, and the ids of some runs
abbrev pub with_runs : Ids → List Run → Ids
with_runs s [] = s
with_runs s (r ∷ rs) = with_runs (set.union s (set.from_list (ids_of_run r))) rs

-- each id is of a replica below this one, or of this one and not adjacent to a range that begins at the floor
abbrev pub IsUnder : Ids → List ℕ → ℕ → Type 0
IsUnder s replica floor = (i : Id) → set.contains s i ≡ true → IsBelow i.replica replica ⊎ ((i.replica ≡ replica) × (i.count + 1 < floor))

-- the ids are of replicas up to the last one
abbrev pub IsUpTo : Ids → Option (List ℕ) → Type 0
IsUpTo s None = (i : Id) → set.contains s i ≡ true → ⊥
IsUpTo s (Some last) = (i : Id) → set.contains s i ≡ true → IsBelow i.replica last ⊎ (i.replica ≡ last)

-- ranges of a replica were read, and their ids were added to a set
pub record AddsSpans (basis old new : Ids) (replica : List ℕ) (count : ℕ) (bytes rest : List ℕ) : Type 0 where
  pub all : List Span
  pub reads : (spans basis replica count).Reads bytes all rest
  pub adds : new ≡ with_runs old (map (run_at replica) all)
  pub up_to : IsUpTo new (Some replica)

pub record AddsGroup (basis old new : Ids) (last : Option (List ℕ)) (bytes replica rest : List ℕ) : Type 0 where
  pub one : Group
  pub reads : (group basis last).Reads bytes one rest
  pub of : replica ≡ one.replica
  pub adds : new ≡ with_runs old (map (run_at one.replica) one.spans)
  pub up_to : IsUpTo new (Some replica)

-- this many replicas were read, and these are their ids
pub record ReadsGroups (basis : Ids) (count : ℕ) (bytes : List ℕ) (seen : Ids) (rest : List ℕ) : Type 0 where
  pub all : List Group
  pub reads : (groups basis count).Reads bytes all rest
  pub ids : seen ≡ seen_of (runs_of all)

-- all ranges were read, and these are their ids
pub record ReadsSeen (basis : Ids) (bytes : List ℕ) (seen : Ids) (rest : List ℕ) : Type 0 where
  pub count : ℕ
  pub all : List Group
  pub reads : (ranges basis).Reads bytes (count, all) rest
  pub ids : seen ≡ seen_of (runs_of all)

-- while the ranges of a replica are read
pub record IsAddingSpans (basis old now : Ids) (replica bytes rest : List ℕ) (floor n : ℕ) : Type 0 where
  pub all : List Span
  pub reads : ReadsEach (span basis replica) floor_after 1 bytes all rest
  pub floor_is : floor ≡ state_after floor_after 1 all
  pub adds : now ≡ with_runs old (map (run_at replica) all)
  pub counted : length all ≡ n
  pub under : IsUnder now replica floor
  pub positive : 1 ≤ floor

-- while the replicas are read
pub record IsAddingGroups (basis now : Ids) (bytes rest : List ℕ) (last : Option (List ℕ)) (n : ℕ) : Type 0 where
  pub all : List Group
  pub reads : ReadsEach (group basis) replica_after None bytes all rest
  pub last_is : last ≡ state_after replica_after None all
  pub adds : now ≡ with_runs set.empty (runs_of all)
  pub counted : length all ≡ n
  pub up_to : IsUpTo now last

-- ---- the end

-- the operations are a content's, and nothing follows
pub record EndsWell (os : List Op) (seen : Ids) (rest : List ℕ) (x : Content) : Type 0 where
  pub none_dropped : first_dropped (set.from_list {R = op_cmp} os) ≡ None
  pub over : rest ≡ []
  pub is : x ≡ content_at os seen
  pub content : IsContent x

-- with the places of the operations
abbrev pub StopsAtEnd : List Op → List OpOffset → List ℕ → Stop → Type 0
StopsAtEnd os places rest stop.Memory = Unit {0}
StopsAtEnd os places rest (stop.Refused r) = IsDropped os places r ⊎ IsTrailing os rest r

-- the fault of a refused content
abbrev pub IsStopOf : ContentFault → List OpOffset → Stop → Type 0
IsStopOf (content.NotKept id) places s = s ≡ stop.Refused (record { fault = fault.NotKept; left = left_in places id })
IsStopOf content.Memory places s = s ≡ stop.Memory

-- ---- after the head

-- the seen ids, without the basis, and operations in order: ascending by id, and each of them seen
pub record ReadsOps (version : ℕ) (basis : Ids) (bytes : List ℕ) (os : List Op) (places : List OpOffset) (seen : Ids) (rest : List ℕ) : Type 0 where
  pub replicas : ℕ
  pub groups : List Group
  pub count : ℕ
  pub reads : (seen_and_ops version basis).Reads bytes ((replicas, groups), (count, os)) rest
  pub ids : seen ≡ seen_of (runs_of groups)
  pub places_are : places ≡ places_of version os rest
  pub by_id : ById os
  pub are_seen : (o : Op) → has os o ≡ true → set.contains seen o.id ≡ true
  pub apart : (i : Id) → set.contains seen i ≡ true → set.contains basis i ≡ false

-- a content was read, and nothing follows
pub record ReadsKept (version : ℕ) (basis : Ids) (bytes : List ℕ) (x : Content) : Type 0 where
  pub replicas : ℕ
  pub groups : List Group
  pub count : ℕ
  pub ops : List Op
  pub reads : (seen_and_kept version basis).Reads bytes (((replicas, groups), (count, ops)), tt) []
  pub is : x ≡ content_at ops (seen_of (runs_of groups))
  pub content : IsContent x

-- ---- whole files

pub record ReadsContent (version : ℕ) (bytes : List ℕ) (x : Content) : Type 0 where
  pub rest : List ℕ
  pub head : head_at version 1 bytes ≡ Ok (tt, rest)
  pub kept : ReadsKept version set.empty rest x

-- the ids that were seen were read, and nothing follows
pub record ReadsSummary (version : ℕ) (bytes : List ℕ) (ids : Ids) : Type 0 where
  pub rest : List ℕ
  pub head : head_at version 2 bytes ≡ Ok (tt, rest)
  pub seen : ReadsSeen set.empty rest ids []
  pub are_ids : AllIds ids

-- a basis was read, and then a content without it
pub record ReadsBased (version : ℕ) (bytes : List ℕ) (p : Piece) : Type 0 where
  pub rest : List ℕ
  pub basis : ReadsSeen set.empty bytes p.basis rest
  pub kept : ReadsKept version p.basis rest (part_of p)
  pub piece : IsPiece p

pub record ReadsPiece (version : ℕ) (bytes : List ℕ) (p : Piece) : Type 0 where
  pub rest : List ℕ
  pub head : head_at version 3 bytes ≡ Ok (tt, rest)
  pub based : ReadsBased version rest p

-- a piece has the basis, and the operations are its content's, and nothing follows
pub record EndsPiece (os : List Op) (basis seen : Ids) (rest : List ℕ) (p : Piece) : Type 0 where
  pub ends : EndsWell os seen rest (part_of p)
  pub basis_is : p.basis ≡ basis
  pub piece : IsPiece p
