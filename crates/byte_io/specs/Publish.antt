-- The effect of opening a target and writing all of some bytes to it.
use Rattle.std.specs.Prelude.{◌≡◌, ◌<◌, ◌+◌, ◌++◌, ℕ, List, length, take}
use Rattle.std.specs.Io.KnownBytes.{Appends, Keeps}
use Rattle.byte_io.specs.Device.{SinkState}
use Rattle.byte_io.specs.Whole.{FailedOrTookNone}
use Rattle.byte_io.specs.declared.fault.PublishFault.{PublishFault}
use Rattle.byte_io.specs.declared.fault.PublishFault.TheVariants as out

-- it was opened once, and all the bytes were written
abbrev pub Publishes : List ℕ → SinkState → SinkState → Type 0
Publishes bytes old new = (new.taken ≡ old.taken ++ bytes) × Appends old.written new.written bytes × (new.failures ≡ old.failures) × (new.stalls ≡ old.stalls)
    × (new.openings ≡ old.openings + 1)

-- it was not opened, and nothing was written; or it was, and exactly the first n bytes were written, not all
abbrev pub IsPublishFault : List ℕ → SinkState → SinkState → PublishFault → Type 0
IsPublishFault bytes old new out.NotOpened = (new.taken ≡ old.taken) × Keeps old.written new.written × (new.failures ≡ old.failures + 1) × (new.stalls ≡ old.stalls)
    × (new.openings ≡ old.openings)
IsPublishFault bytes old new (out.WriteFailed n) = (new.taken ≡ old.taken ++ take n bytes) × Appends old.written new.written (take n bytes) × (n < length bytes)
    × FailedOrTookNone old new × (new.openings ≡ old.openings + 1)
