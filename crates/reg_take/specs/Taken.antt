-- Files joined to a content: all registers, and then the pieces in order, except those that are left out.
use Rattle.std.specs.Prelude.{◌≡◌, ◌+◌, ◌∷◌, ◌++◌, [], Bool, true, false, List, All, ℕ, zero, suc, Option, None, Some, Result, Ok, Err, slice_get}
use Rattle.reg_op.specs.Ids.{Id}
use Rattle.reg_op.specs.Contents.{Content, nothing, joined, merged}
use Rattle.reg_op.specs.Pieces.{Piece, PieceRefusal, Basis, Clash, first_missing, joined_piece}
use Rattle.reg_op.specs.Joining.{all_joined}
use Rattle.reg_file.specs.declared.parts.Part.{Part}
use Rattle.reg_file.specs.declared.parts.Part.TheVariants as part
use Rattle.reg_state.specs.declared.piece.PieceFault.{PieceFault}
use Rattle.reg_state.specs.declared.piece.PieceFault.TheVariants as piece
use Rattle.reg_engine.specs.declared.fault.Refusal.TheVariants as refusal
use Rattle.reg_engine.specs.declared.fault.CliFault.{CliFault}
use Rattle.reg_engine.specs.declared.fault.CliFault.TheVariants as cli
use Rattle.reg_commands.specs.Merge.{begun, with_pieces}
use Rattle.reg_take.specs.declared.files.Arrival.{Arrival}
use Rattle.reg_take.specs.declared.files.Arrival.TheVariants as arrival
use Rattle.reg_take.specs.declared.taking.LeftOut.{LeftOut}
use Rattle.reg_take.specs.declared.taking.LeftOut.TheVariants as left
use Rattle.reg_take.specs.declared.taking.TakePhase.{TakePhase}
use Rattle.reg_take.specs.declared.taking.TakePhase.TheVariants as phase
use Rattle.reg_take.specs.declared.taking.Taking.{Taking}

-- the content so far, the registers and the pieces that it was joined with, and the files that are left out
pub record Progress : Type 0 where
  pub content : Content
  pub registers : List Content
  pub pieces : List Piece
  pub left : List LeftOut

-- the register and the files that are left out are these
abbrev pub Shows : Taking → Progress → Type 0
Shows taking t = (taking.register ≡ t.content) × (taking.left.items ≡ t.left)

-- nothing was joined yet
abbrev pub starting : Content → Progress
starting x = record { content = x; registers = []; pieces = []; left = [] }

-- the index of a file that is left out, and why it is
abbrev pub file_of : LeftOut → ℕ
file_of (left.Unread i k f) = i
file_of (left.Clash i id) = i
file_of (left.Basis i id) = i
file_of (left.Forged i id) = i

abbrev pub fault_of : LeftOut → CliFault
fault_of (left.Unread i k f) = cli.File k f
fault_of (left.Clash i id) = cli.Refused (refusal.Clash id)
fault_of (left.Basis i id) = cli.Refused (refusal.Basis id)
fault_of (left.Forged i id) = cli.Refused (refusal.Forged id)

-- the file of this index is left out, since it is refused
abbrev pub left_out : ℕ → PieceRefusal → LeftOut
left_out i (Clash id) = left.Clash i id
left_out i (Basis id) = left.Basis i id

abbrev pub leaving : Progress → LeftOut → Progress
leaving t l = record { content = t.content; registers = t.registers; pieces = t.pieces; left = t.left ++ l ∷ [] }

-- a piece is refused for this reason
abbrev pub IsRefusal : PieceFault → PieceRefusal → Type 0
IsRefusal (piece.Basis id) why = why ≡ Basis id
IsRefusal (piece.Clash id) why = why ≡ Clash id
IsRefusal piece.Memory why = ⊥

-- a register is joined, if it does not clash with what was joined so far
abbrev pub after_register : Progress → ℕ → Content → Result Content PieceRefusal → Progress
after_register t i z (Ok y) = record { content = y; registers = t.registers ++ z ∷ []; pieces = t.pieces; left = t.left }
after_register t i z (Err r) = leaving t (left_out i r)

-- a piece is joined, if its basis is held and it does not clash
abbrev pub after_piece : Progress → ℕ → Piece → Result Content PieceRefusal → Progress
after_piece t i p (Ok y) = record { content = y; registers = t.registers; pieces = t.pieces ++ p ∷ []; left = t.left }
after_piece t i p (Err r) = leaving t (left_out i r)

-- what a walk does with one file: one leaves out what was not read, one what has forged numbers; one joins the registers, one the pieces
abbrev pub taken : TakePhase → Progress → ℕ → Arrival → Progress
taken phase.Unread t i (arrival.Register z) = t
taken phase.Unread t i (arrival.Piece p) = t
taken phase.Unread t i (arrival.Unread k f) = leaving t (left.Unread i k f)
taken phase.Unread t i (arrival.Forged id) = t
taken phase.Forged t i (arrival.Register z) = t
taken phase.Forged t i (arrival.Piece p) = t
taken phase.Forged t i (arrival.Unread k f) = t
taken phase.Forged t i (arrival.Forged id) = leaving t (left.Forged i id)
taken phase.Registers t i (arrival.Register z) = after_register t i z (begun (joined t.content z))
taken phase.Registers t i (arrival.Piece p) = t
taken phase.Registers t i (arrival.Unread k f) = t
taken phase.Registers t i (arrival.Forged id) = t
taken phase.Pieces t i (arrival.Register z) = t
taken phase.Pieces t i (arrival.Piece p) = after_piece t i p (joined_piece t.content p)
taken phase.Pieces t i (arrival.Unread k f) = t
taken phase.Pieces t i (arrival.Forged id) = t

-- with each file in order; the first one has this index
abbrev pub each_taken : TakePhase → Progress → ℕ → List Arrival → Progress
each_taken w t i [] = t
each_taken w t i (a ∷ gave) = each_taken w (taken w t i a) (i + 1) gave

-- the walks over files: the first two only leave files out
abbrev pub sorted : Content → List Arrival → Progress
sorted x gave = each_taken phase.Forged (each_taken phase.Unread (starting x) 0 gave) 0 gave

-- all four
abbrev pub all_taken : Content → List Arrival → Progress
all_taken x gave = each_taken phase.Pieces (each_taken phase.Registers (sorted x gave) 0 gave) 0 gave

-- ---- pieces that are tried again

abbrev pub with_none_left : Progress → Progress
with_none_left t = record { content = t.content; registers = t.registers; pieces = t.pieces; left = [] }

-- of the files that are left out, this one is tried again, if it is a piece that waits for its basis
abbrev pub tried_piece : Progress → LeftOut → Option Arrival → Progress
tried_piece t l None = leaving t l
tried_piece t l (Some (arrival.Register z)) = leaving t l
tried_piece t l (Some (arrival.Piece p)) = after_piece t (file_of l) p (joined_piece t.content p)
tried_piece t l (Some (arrival.Unread k f)) = leaving t l
tried_piece t l (Some (arrival.Forged id)) = leaving t l

abbrev pub tried : List Arrival → Progress → LeftOut → Progress
tried gave t (left.Unread i k f) = leaving t (left.Unread i k f)
tried gave t (left.Clash i id) = leaving t (left.Clash i id)
tried gave t (left.Basis i id) = tried_piece t (left.Basis i id) (slice_get gave i)
tried gave t (left.Forged i id) = leaving t (left.Forged i id)

-- each of some files in order; all that are left out, once; and n times
abbrev pub each_tried : List Arrival → Progress → List LeftOut → Progress
each_tried gave t [] = t
each_tried gave t (l ∷ ls) = each_tried gave (tried gave t l) ls

abbrev pub tried_again : List Arrival → Progress → Progress
tried_again gave t = each_tried gave (with_none_left t) t.left

abbrev pub rounds : List Arrival → ℕ → Progress → Progress
rounds gave zero t = t
rounds gave (suc n) t = rounds gave n (tried_again gave t)

-- if the file is a piece, this id is the least one of its basis that the content lacks
abbrev pub Lacks : Content → Id → Option Arrival → Type 0
Lacks y id None = Unit {0}
Lacks y id (Some (arrival.Register z)) = Unit {0}
Lacks y id (Some (arrival.Piece p)) = first_missing p.basis y.seen ≡ Some id
Lacks y id (Some (arrival.Unread k f)) = Unit {0}
Lacks y id (Some (arrival.Forged i)) = Unit {0}

-- if a file is left out for its basis, the content lacks this id of it
abbrev pub IsWaiting : List Arrival → Content → LeftOut → Type 0
IsWaiting gave y (left.Unread i k f) = Unit {0}
IsWaiting gave y (left.Clash i id) = Unit {0}
IsWaiting gave y (left.Basis i id) = Lacks y id (slice_get gave i)
IsWaiting gave y (left.Forged i id) = Unit {0}

abbrev pub AllWait : List Arrival → Progress → Type 0
AllWait gave t = All (IsWaiting gave t.content) t.left

-- how far the files are joined: after the four walks, or, if the command keeps going, when no piece can be joined that waited
abbrev pub IsFar : Bool → List Arrival → Progress → Progress → Type 0
IsFar false gave walked t = t ≡ walked
IsFar true gave walked t = ((n : ℕ) × (t ≡ rounds gave n walked)) × AllWait gave t

-- each file gave the part
abbrev pub parts_given : List Part → List Arrival
parts_given [] = []
parts_given (part.Register z ∷ ps) = arrival.Register z ∷ parts_given ps
parts_given (part.Piece p ∷ ps) = arrival.Piece p ∷ parts_given ps

-- the content is the join of the first one and of all that it was joined with, as a merge of these joins them
abbrev pub IsJoin : Content → Progress → Type 0
IsJoin x t = with_pieces (begun (all_joined joined (Ok nothing) (x ∷ t.registers))) t.pieces ≡ Ok t.content

-- it has all of the first one, which adds nothing to it
abbrev pub Keeps : Content → Content → Type 0
Keeps x y = merged x y ≡ y

-- joining what was read to the first content gives the second one, and these files are left out
pub record IsTakenFrom (going : Bool) (x : Content) (gave : List Arrival) (y : Content) (left : List LeftOut) : Type 0 where
  pub end : Progress
  pub far : IsFar going gave (all_taken x gave) end
  pub content : y ≡ end.content
  pub left_out : left ≡ end.left
  pub join : IsJoin x end
  pub keeps : Keeps x y
