-- The state of a disk in memory, as its callers see it.
use Rattle.std.specs.Prelude.{◌≡◌}
use Rattle.byte_disk.specs.declared.mem_disk.MemDisk.{MemDisk}

-- it has the same bytes, images, time and counts
pub record IsSameDisk (old new : MemDisk) : Type 0 where
  pub same_bytes : new.bytes ≡ old.bytes
  pub same_span : new.span ≡ old.span
  pub same_past : new.past ≡ old.past
  pub same_clock : new.clock ≡ old.clock
  pub same_failures : new.failures ≡ old.failures
  pub same_openings : new.openings ≡ old.openings
  pub same_calls : new.script.calls ≡ old.script.calls
