-- The names of faults, and the id that each names.
use Rattle.std.specs.Prelude.{ℕ, List, Option, Some, None, codes}
use Rattle.reg_op.specs.Ids.{Id}
use Rattle.reg_state.specs.declared.register.ContentFault.{ContentFault}
use Rattle.reg_state.specs.declared.register.ContentFault.TheVariants as content
use Rattle.reg_state.specs.declared.register.TakeFault.{TakeFault}
use Rattle.reg_state.specs.declared.register.TakeFault.TheVariants as taken
use Rattle.reg_state.specs.declared.piece.PieceFault.{PieceFault}
use Rattle.reg_state.specs.declared.piece.PieceFault.TheVariants as piece

-- operations that are not a register's
abbrev pub content_name : ContentFault → List ℕ
content_name (content.NotKept id) = codes "NotKept"
content_name content.Memory = codes "Memory"

abbrev pub content_id : ContentFault → Option Id
content_id (content.NotKept id) = Some id
content_id content.Memory = None

-- an operation that is not taken
abbrev pub take_name : TakeFault → List ℕ
take_name (taken.Clash id) = codes "Clash"
take_name taken.Memory = codes "Memory"

abbrev pub take_id : TakeFault → Option Id
take_id (taken.Clash id) = Some id
take_id taken.Memory = None

-- a piece that is not joined
abbrev pub piece_name : PieceFault → List ℕ
piece_name (piece.Basis id) = codes "Basis"
piece_name (piece.Clash id) = codes "Clash"
piece_name piece.Memory = codes "Memory"

abbrev pub piece_id : PieceFault → Option Id
piece_id (piece.Basis id) = Some id
piece_id (piece.Clash id) = Some id
piece_id piece.Memory = None
