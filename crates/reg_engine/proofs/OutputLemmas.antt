-- The effect of replacing the bytes of a file is the effect of publishing the file.
use Rattle.std.proofs.Common.{List, ℕ, Option, Ok, Err, Result}
use Rattle.std.specs.Prelude.{OnOk, IfErr}
use Rattle.byte_out.specs.Place.{PlaceState}
use Rattle.byte_out.specs.Replace.{Replaces, IsReplaceFault}
use Rattle.byte_out.specs.declared.fault.ReplaceFault.{ReplaceFault}
use Rattle.byte_out.specs.declared.fault.ReplaceFault.TheVariants as replaced
use Rattle.reg_engine.specs.declared.fault.OutFault.TheVariants as out
use Rattle.reg_engine.specs.declared.fault.CliFault.{CliFault}
use Rattle.reg_engine.specs.declared.fault.CliFault.TheVariants as cli
use Rattle.reg_engine.specs.Fault.{replace_fault}
use Rattle.reg_engine.specs.Outputs.{PublishesBy, IsUnpublishedBy, IsUnpublishedOf}

-- a fault of replacing bytes is a fault of publishing the file that they are
pub unreplaced : (read : Option (List ℕ)) (bytes : List ℕ) (old new : PlaceState) (f : ReplaceFault) → IsReplaceFault read bytes old new f
    → IsUnpublishedOf read bytes old new (replace_fault f)
unreplaced read bytes old new replaced.NotOpened h = h
unreplaced read bytes old new replaced.NewExists h = h
unreplaced read bytes old new (replaced.WriteFailed n) h = h
unreplaced read bytes old new (replaced.ReadFailed n) h = h
unreplaced read bytes old new replaced.Changed h = h
unreplaced read bytes old new replaced.NotSynced h = h

pub published_by : (r : Result (Unit {0}) CliFault) (Are : List ℕ → Type 0) (read : Option (List ℕ)) (bytes : List ℕ) (old new : PlaceState) → Are bytes
    → OnOk r (Replaces read bytes old new) → OnOk r (PublishesBy Are read old new)
published_by (Ok u) Are read bytes old new is h = (bytes, is, h)
published_by (Err f) Are read bytes old new is h = tt

unpublished_of : (f : CliFault) (Are : List ℕ → Type 0) (Large : Type 0) (read : Option (List ℕ)) (bytes : List ℕ) (old new : PlaceState) → Are bytes
    → IsUnpublishedOf read bytes old new f → IsUnpublishedBy Are Large read old new f
unpublished_of (cli.Refused r) Are Large read bytes old new is h = absurd h
unpublished_of (cli.File k f) Are Large read bytes old new is h = absurd h
unpublished_of (cli.Out out.TooLarge) Are Large read bytes old new is h = absurd h
unpublished_of (cli.Out out.NotOpened) Are Large read bytes old new is h = (bytes, is, h)
unpublished_of (cli.Out out.NewExists) Are Large read bytes old new is h = (bytes, is, h)
unpublished_of (cli.Out (out.WriteFailed n)) Are Large read bytes old new is h = (bytes, is, h)
unpublished_of (cli.Out (out.ReadFailed n)) Are Large read bytes old new is h = (bytes, is, h)
unpublished_of (cli.Out out.Changed) Are Large read bytes old new is h = (bytes, is, h)
unpublished_of (cli.Out out.NotSynced) Are Large read bytes old new is h = (bytes, is, h)
unpublished_of cli.Memory Are Large read bytes old new is h = h
unpublished_of (cli.Shelf p) Are Large read bytes old new is h = absurd h
unpublished_of (cli.Office t) Are Large read bytes old new is h = absurd h

pub unpublished_by : (r : Result (Unit {0}) CliFault) (Are : List ℕ → Type 0) (Large : Type 0) (read : Option (List ℕ)) (bytes : List ℕ) (old new : PlaceState)
    → Are bytes → IfErr r (IsUnpublishedOf read bytes old new) → IfErr r (IsUnpublishedBy Are Large read old new)
unpublished_by (Ok u) Are Large read bytes old new is h = tt
unpublished_by (Err f) Are Large read bytes old new is h = unpublished_of f Are Large read bytes old new is h
