-- The bytes that a stop leaves, by its effect on unsynced bytes.
use Rattle.std.specs.Prelude.{ℕ, List, [], ◌∷◌, length, replicate}
use Rattle.byte_disk.specs.Record.{overlaid}
use Rattle.byte_disk.specs.declared.span.Write.{Write}
use Rattle.byte_disk.specs.declared.pending.Pending.{Pending}
use Rattle.byte_disk.specs.declared.pending.Pending.TheVariants as bytes

-- one write, over these bytes
abbrev pub cut_by : Pending → List ℕ → Write → List ℕ
cut_by bytes.Old base w = base
cut_by bytes.New base w = overlaid base w.at w.bytes.items
cut_by (bytes.Each b) base w = overlaid base w.at (replicate (length w.bytes.items) b)

-- all of them, the oldest first
abbrev pub left_by : Pending → List ℕ → List Write → List ℕ
left_by pending base [] = base
left_by pending base (w ∷ writes) = left_by pending (cut_by pending base w) writes
