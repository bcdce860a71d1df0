-- Offices that exchange files, after any list of events.
use Rattle.std.specs.Prelude.{◌≡◌, ◌⊎◌, ℕ, ◌<◌, IsUtf8, List, [], ◌∷◌, All, length, Option, Some, None, Result, Ok, Err, find, slice_get, if◌then◌else◌}
use Rattle.std.specs.Ordering.{is_eq}
use Rattle.wkt_crs.specs.Definition.{IsDefinition}
use Rattle.reg_op.specs.Set as set
use Rattle.reg_op.specs.Ids.{Id, IsId, is_same}
use Rattle.reg_op.specs.Operations.{Op, Ops, one}
use Rattle.reg_op.specs.declared.operation.OpBody.{OpBody as Body}
use Rattle.reg_op.specs.declared.operation.OpBody.TheVariants.{Enter, Supersede, Retire}
use Rattle.reg_op.specs.Contents.{Content, state, nothing, joined}
use Rattle.reg_state.specs.Runs.{replica_cmp}
use Rattle.reg_op.specs.Pieces.{piece_for, PieceRefusal, Basis, Clash, joined_piece}
use Rattle.reg_file.specs.Layout.{file}
use Rattle.reg_file.specs.Files.{Holds, HoldsFirst, ReadsAs, IsTooLarge}
use Rattle.reg_shelf.specs.Shelf.{IsShelf}
use Rattle.reg_office.specs.declared.fault.OfficeFault.{OfficeFault}
use Rattle.reg_office.specs.Making.{made}
use Rattle.reg_office.specs.Pooled.{Pooled, OfRegister, OfSeen, OfPiece, HoldsAny, HoldsFirstAny, ReadsAsAny, IsAnyTooLarge, ops_in, TellsOf}

-- an office: its register's content, its last file, and the operations that it made or received, which no code keeps
pub record Office : Type 0 where
  pub content : Content
  pub last : List ℕ
  pub reached : Ops

-- a file that was sent, and what its sender had reached then
pub record Sent : Type 0 where
  pub bytes : List ℕ
  pub reached : Ops

-- an office for each UUID, and every file that was ever sent, the newest first
pub record World : Type 0 where
  pub offices : List ℕ → Office
  pub pool : List Sent

-- every office has an empty register, and its file as the last file
abbrev pub start : World
start = record { offices = λ i. record { content = nothing; last = file [] []; reached = set.empty }; pool = [] }

-- an office makes the operations of one command, each with its note; sends its last file; sends a summary of what it has
-- seen; sends the piece of its register for a summary at a place of the pool; sends one of these in a file of version 1;
-- takes a file from a place of the pool; takes the operation of one id in such a file; restarts from its last file, or from
-- one of version 1 that an older program kept; or is stopped while it keeps the result of an event, and restarts from the
-- bytes that are left
pub data Event : Type 0 where
  Make : (office : List ℕ) (effects : List Body) (note : List ℕ) → Event
  Send : (office : List ℕ) → Event
  SendSeen : (office : List ℕ) → Event
  SendPiece : (office : List ℕ) (place : ℕ) → Event
  SendFirst : (office : List ℕ) (what : Pooled) (bytes : List ℕ) → Event
  Take : (office : List ℕ) (place : ℕ) → Event
  TakeOne : (office : List ℕ) (place : ℕ) (id : Id) → Event
  Restart : (office : List ℕ) → Event
  Upgrade : (office : List ℕ) (bytes : List ℕ) → Event
  Stop : (event : Event) (left : List ℕ) → Event

-- the office whose event it is
abbrev pub office_of : Event → List ℕ
office_of (Make i effects note) = i
office_of (Send i) = i
office_of (SendSeen i) = i
office_of (SendPiece i place) = i
office_of (SendFirst i what bytes) = i
office_of (Take i place) = i
office_of (TakeOne i place id) = i
office_of (Restart i) = i
office_of (Upgrade i bytes) = i
office_of (Stop e left) = office_of e

-- ---- the outcome of an event

-- nothing, as after a refusal; a clash; a file to be sent; a file to be made and sent, by an office that has reached these
-- operations; or an office's content, and the operations that it has reached
pub data Outcome : Type 0 where
  Unchanged : Outcome
  Clashes : (id : Id) → Outcome
  Sends : (sent : Sent) → Outcome
  Writes : (what : Pooled) (reached : Ops) → Outcome
  Gains : (office : List ℕ) (content : Content) (reached : Ops) → Outcome

abbrev pub gained : List ℕ → Ops → Result Content Id → Outcome
gained i reached (Ok x) = Gains i x reached
gained i reached (Err id) = Clashes id

-- an office joins a content, and reaches more
abbrev pub joins : World → List ℕ → Content → Ops → Outcome
joins w i x more = gained i (set.union (w.offices i).reached more) (joined (w.offices i).content x)

abbrev pub makes : World → List ℕ → Result (List Op) OfficeFault → Outcome
makes w i (Ok os) = joins w i (state (set.from_list os)) (set.from_list os)
makes w i (Err fault) = Unchanged

abbrev pub takes_one : World → List ℕ → Option Op → Outcome
takes_one w i (Some o) = joins w i (state (one o)) (one o)
takes_one w i None = Unchanged

-- an office joins a piece, unless it has not seen the basis
abbrev pub gained_by_piece : List ℕ → Ops → Result Content PieceRefusal → Outcome
gained_by_piece i reached (Ok x) = Gains i x reached
gained_by_piece i reached (Err (Basis id)) = Unchanged
gained_by_piece i reached (Err (Clash id)) = Clashes id

-- a summary cannot be joined
abbrev pub takes : World → List ℕ → Pooled → Ops → Outcome
takes w i (OfRegister x) more = joins w i x more
takes w i (OfSeen seen) more = Unchanged
takes w i (OfPiece piece) more = gained_by_piece i (set.union (w.offices i).reached more) (joined_piece (w.offices i).content piece)

-- a piece is only made for a summary
abbrev pub sends_piece : World → List ℕ → Pooled → Outcome
sends_piece w i (OfRegister x) = Unchanged
sends_piece w i (OfSeen seen) = Writes (OfPiece (piece_for (w.offices i).content seen)) (w.offices i).reached
sends_piece w i (OfPiece piece) = Unchanged

-- the file is read, in either version, and this is the outcome
abbrev pub Reads : (Pooled → Ops → Outcome) → Option Sent → Outcome → Type 0
Reads next None out = out ≡ Unchanged
Reads next (Some sent) out = (what : Pooled) × ReadsAsAny sent.bytes what × (out ≡ next what sent.reached)

-- the operation of the id
abbrev pub picked : Id → Ops → Option Op
picked id s = find (λ o. is_same o.id id) (set.items s)

-- ---- the bytes that a stop leaves

-- the bytes are a shelf of the content of this outcome
abbrev pub IsShelfAfter : List ℕ → Outcome → Type 0
IsShelfAfter left (Gains i x reached) = IsShelf left x
IsShelfAfter left out = ⊥

-- an office has what it had
abbrev pub stays : World → List ℕ → Outcome
stays w i = Gains i (w.offices i).content (w.offices i).reached

-- the bytes are a shelf of the new content, and the event happens; otherwise they are a shelf of the old one, which
-- stays
abbrev pub Leaves : (Outcome → Type 0) → Outcome → List ℕ → Outcome → Type 0
Leaves Comes was left out = (Comes out × IsShelfAfter left out) ⊎ (IsShelfAfter left was × ((new : Outcome) → Comes new → ¬ (IsShelfAfter left new)) × (out ≡ was))

-- ---- each event

abbrev pub ComesOf : World → Event → Outcome → Type 0
ComesOf w (Make i effects note) out = out ≡ makes w i (made (w.offices i).content i note effects)
ComesOf w (Send i) out = out ≡ Sends (record { bytes = (w.offices i).last; reached = (w.offices i).reached })
ComesOf w (SendSeen i) out = out ≡ Writes (OfSeen (w.offices i).content.seen) (w.offices i).reached
ComesOf w (SendPiece i place) out = Reads (λ what reached. sends_piece w i what) (slice_get w.pool place) out
ComesOf w (SendFirst i what bytes) out = out ≡ Sends (record { bytes = bytes; reached = (w.offices i).reached })
ComesOf w (Take i place) out = Reads (takes w i) (slice_get w.pool place) out
ComesOf w (TakeOne i place id) out = Reads (λ what reached. takes_one w i (picked id (ops_in what))) (slice_get w.pool place) out
ComesOf w (Restart i) out = (x : Content) × Holds (w.offices i).last x × (out ≡ Gains i x (w.offices i).reached)
ComesOf w (Upgrade i bytes) out = (x : Content) × ReadsAs bytes x × (out ≡ Gains i x (w.offices i).reached)
ComesOf w (Stop e left) out = Leaves (ComesOf w e) (stays w (office_of e)) left out

-- the bytes that are left are a shelf of the event's new content
abbrev pub LeavesNew : World → Event → List ℕ → Type 0
LeavesNew w e left = (new : Outcome) × ComesOf w e new × IsShelfAfter left new

-- the events whose result is kept: what an office makes or takes
abbrev pub IsKept : Event → Type 0
IsKept (Make i effects note) = Unit {0}
IsKept (Take i place) = Unit {0}
IsKept (TakeOne i place id) = Unit {0}
IsKept e = ⊥

-- a command enters definitions, and names entries by ids
abbrev pub IsEffect : Body → Type 0
IsEffect (Enter text) = IsDefinition text
IsEffect (Supersede old newer) = IsId old × IsId newer
IsEffect (Retire entry) = IsId entry

-- an office that makes operations has a UUID, and its note is UTF-8. A file of version 1 is of what the office has
-- reached, or of its register. A stop happens while something is kept, and
-- leaves a shelf of that or of the old content: during `keep` the disk has no other image
abbrev pub IsEvent : World → Event → Type 0
IsEvent w (Make i effects note) = (length i ≡ 16) × All (λ b. b < 256) i × All IsEffect effects × IsUtf8 note
IsEvent w (SendFirst i what bytes) = HoldsFirstAny bytes what × TellsOf (w.offices i).reached what
IsEvent w (Upgrade i bytes) = HoldsFirst bytes (w.offices i).content
IsEvent w (Stop e left) = IsKept e × IsEvent w e × (IsShelfAfter left (stays w (office_of e)) ⊎ LeavesNew w e left)
IsEvent w e = Unit {0}

-- ---- the world after it

-- the world with one office changed
abbrev pub put : World → List ℕ → Office → World
put w i office = record { offices = λ j. if is_eq (replica_cmp j i) then office else w.offices j; pool = w.pool }

-- a file was added to the pool, and nothing else has changed
abbrev pub pooled : World → Sent → World
pooled w sent = record { offices = w.offices; pool = sent ∷ w.pool }

-- the last file of an office holds its content: if its file would be too large, there is no next world
abbrev pub After : World → Outcome → World → Type 0
After w Unchanged v = v ≡ w
After w (Clashes id) v = v ≡ w
After w (Sends sent) v = v ≡ pooled w sent
After w (Writes what reached) v = (bytes : List ℕ) × HoldsAny bytes what × (v ≡ pooled w (record { bytes = bytes; reached = reached }))
After w (Gains i x reached) v = (last : List ℕ) × Holds last x × (v ≡ put w i (record { content = x; last = last; reached = reached }))

-- an office would have a content whose file is too large, or send such a file
abbrev pub IsTooMuch : Outcome → Type 0
IsTooMuch (Gains i x reached) = IsTooLarge x
IsTooMuch (Writes what reached) = IsAnyTooLarge what
IsTooMuch out = ⊥

abbrev pub Happens : World → Event → World → Type 0
Happens w e v = IsEvent w e × ((out : Outcome) × ComesOf w e out × After w out v)

-- from w, the events lead to v, one after another
abbrev pub Leads : World → List Event → World → Type 0
Leads w [] v = v ≡ w
Leads w (e ∷ es) v = (u : World) × Happens w e u × Leads u es v

-- some events lead to it from the start
abbrev pub IsWorld : World → Type 0
IsWorld w = (events : List Event) × Leads start events w
