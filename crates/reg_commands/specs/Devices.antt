-- The states of a command's source and sink.
use Rattle.byte_io.specs.Device.{SourceState, SinkState}

-- at one moment
pub record Devices : Type 0 where
  pub source : SourceState
  pub sink : SinkState

abbrev pub devices : SourceState → SinkState → Devices
devices source sink = record { source = source; sink = sink }
