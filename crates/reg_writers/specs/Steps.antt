-- The calls of a place, as the contracts of byte_out describe them, beside the events of the model.
use Rattle.std.specs.Prelude.{◌≡◌, ℕ, List, Option, Some, None, Ok, Err}
use Rattle.std.specs.declared.result.Result.{Result}
use Rattle.byte_out.specs.Place.{Files}
use Rattle.byte_out.specs.declared.fault.MakeFault.{MakeFault}
use Rattle.byte_out.specs.declared.fault.MakeFault.TheVariants as make
use Rattle.byte_out.specs.declared.fault.CompareFault.{CompareFault}
use Rattle.byte_out.specs.declared.fault.CompareFault.TheVariants as other
use Rattle.reg_writers.specs.Path.{Content, NewFile, Stage, Writes, FoundSame, Withdraws, Ended, World, Event, Goes, Fails, start, after}

abbrev pub bytes_of : Option NewFile → Option (List ℕ)
bytes_of None = None
bytes_of (Some n) = Some n.bytes

-- command k is at a stage, and its place has the files of the world
pub record IsAt (w : World) (k : ℕ) (s : Stage) (f : Files) : Type 0 where
  pub stage : w.stage k ≡ s
  pub stands : f.stands ≡ w.stands
  pub beside : f.beside ≡ bytes_of w.beside

-- events lead to the world
pub record IsReached (change : ℕ → Content → List ℕ) (w : World) : Type 0 where
  pub first : Content
  pub events : List Event
  pub led : w ≡ after change events (start first)

-- the event of a call that makes OUT.new, and the stage that a command which had read x comes to
abbrev pub make_event : {T : Type 0} → ℕ → Result T MakeFault → Event
make_event k (Ok t) = Goes k
make_event k (Err make.Exists) = Goes k
make_event k (Err make.NotOpened) = Fails k

abbrev pub make_stage : {T : Type 0} → Content → Result T MakeFault → Stage
make_stage x (Ok t) = Writes x
make_stage x (Err e) = Ended

-- the same of a call that compares OUT. One that cannot read it fails
abbrev pub compare_event : {T : Type 0} → ℕ → Result T CompareFault → Event
compare_event k (Ok t) = Goes k
compare_event k (Err other.Changed) = Goes k
compare_event k (Err other.NotOpened) = Fails k
compare_event k (Err (other.ReadFailed n)) = Fails k

abbrev pub compare_stage : {T : Type 0} → Content → Result T CompareFault → Stage
compare_stage x (Ok t) = FoundSame x
compare_stage x (Err e) = Withdraws
