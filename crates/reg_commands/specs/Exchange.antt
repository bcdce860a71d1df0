-- The files that offices exchange: registers, summaries, pieces, and registers in file version 1.
use Rattle.std.specs.Prelude.{◌≡◌, List, ℕ, Some, None}
use Rattle.byte_io.specs.Device.{SourceState}
use Rattle.reg_op.specs.Ids.{Ids}
use Rattle.reg_op.specs.Contents.{Content}
use Rattle.reg_op.specs.Pieces.{piece_for}
use Rattle.reg_file.specs.Files.{Holds, IsTooLarge, HoldsSeen, IsSeenTooLarge, HoldsPiece, IsPieceTooLarge, FindsSeen, HoldsFirst, IsTooLargeIn, first_noted}
use Rattle.reg_engine.specs.declared.fault.Refusal.TheVariants as refusal
use Rattle.reg_engine.specs.declared.fault.OutFault.TheVariants as out
use Rattle.reg_engine.specs.declared.fault.CliFault.{CliFault}
use Rattle.reg_engine.specs.declared.fault.CliFault.TheVariants as cli
use Rattle.reg_engine.specs.Inputs.{IsSummaryUnread, NeverFails}

-- the file would be too large; or memory ran out
abbrev pub HasNoRoom : Type 0 → CliFault → Type 0
HasNoRoom Large (cli.Out out.TooLarge) = Large
HasNoRoom Large cli.Memory = Unit {0}
HasNoRoom Large f = ⊥

-- ---- a register

abbrev pub IsFileOf : Content → List ℕ → Type 0
IsFileOf x bytes = Holds bytes x

abbrev pub HasNoFile : Content → CliFault → Type 0
HasNoFile x f = HasNoRoom (IsTooLarge x) f

-- ---- a summary of its seen ids

abbrev pub IsSummary : Content → List ℕ → Type 0
IsSummary x bytes = HoldsSeen bytes x.seen

abbrev pub HasNoSummary : Content → CliFault → Type 0
HasNoSummary x f = HasNoRoom (IsSeenTooLarge x.seen) f

-- ---- its piece for the ids of a summary that was read

abbrev pub IsPieceFile : SourceState → SourceState → Content → List ℕ → Type 0
IsPieceFile old new x bytes = (basis : Ids) × FindsSeen old new basis × HoldsPiece bytes (piece_for x basis)

-- the summary, in the file with this number, was not read; or the piece would be too large; or memory ran out
abbrev pub HasNoPiece : ℕ → SourceState → SourceState → Content → CliFault → Type 0
HasNoPiece number old new x (cli.File k f) = IsSummaryUnread number old new (cli.File k f)
HasNoPiece number old new x (cli.Out out.TooLarge) = (basis : Ids) × FindsSeen old new basis × IsPieceTooLarge (piece_for x basis)
HasNoPiece number old new x cli.Memory = NeverFails old new
HasNoPiece number old new x f = ⊥

-- ---- in file version 1

abbrev pub IsFirstFile : Content → List ℕ → Type 0
IsFirstFile x bytes = HoldsFirst bytes x

-- the operation with this id is the first that has a note; or the file would be too large; or memory ran out
abbrev pub HasNoFirst : Content → CliFault → Type 0
HasNoFirst x (cli.Refused (refusal.HasNote id)) = first_noted x.ops ≡ Some id
HasNoFirst x (cli.Out out.TooLarge) = (first_noted x.ops ≡ None) × IsTooLargeIn 1 x
HasNoFirst x cli.Memory = Unit {0}
HasNoFirst x f = ⊥
