-- A source that keeps the bytes that it gives.
use Rattle.std.specs.Prelude.{[]}
use Rattle.byte_io.specs.Device.{SourceState}

-- the source, which has given nothing yet
abbrev pub anew : SourceState → SourceState
anew s = record { left = s.left; given = []; failures = s.failures; ends = s.ends }
