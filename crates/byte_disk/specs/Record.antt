-- The record that a disk in memory keeps of its calls, and the bytes that a stop may leave according to it.
use Rattle.std.specs.Prelude.{◌≡◌, ◌⊎◌, ◌≤◌, ◌+◌, ◌-◌, ◌++◌, ◌∷◌, [], ◌&&◌, ℕ, Bool, true, List, length, take, drop, replicate, nat_lt, if◌then◌else◌}
use Rattle.byte_disk.specs.Disk.{Torn}
use Rattle.byte_disk.specs.declared.span.Write.{Write}
use Rattle.byte_disk.specs.declared.span.SinceSync.{SinceSync}
use Rattle.byte_disk.specs.declared.span.Past.{Past}

-- these bytes at this offset, with zeros between the old end and them
abbrev pub overlaid : List ℕ → ℕ → List ℕ → List ℕ
overlaid old at bytes = take at old ++ replicate (at - length old) 0 ++ bytes ++ drop (at + length bytes) old

-- the writes that were done, one over another, the oldest first
abbrev pub applied : List ℕ → List Write → List ℕ
applied base [] = base
applied base (w ∷ writes) = applied (if w.done then overlaid base w.at w.bytes.items else base) writes

-- each write may have been cut short
abbrev pub Reaches : List ℕ → List Write → List ℕ → Type 0
Reaches base [] c = c ≡ base
Reaches base (w ∷ writes) c = (d : List ℕ) × Torn w.at (length w.bytes.items) base d × Reaches d writes c

-- the bytes that a stop in a span may leave
abbrev pub SpanLeaves : SinceSync → List ℕ → Type 0
SpanLeaves span c = Reaches span.base.items span.writes.items c

-- the bytes that a stop in one of the spans might have left, at the moment t or later
abbrev pub WasLeft : List Past → ℕ → List ℕ → Type 0
WasLeft [] t c = ⊥
WasLeft (p ∷ past) t c = ((t ≤ p.last.count) × SpanLeaves p.span c) ⊎ WasLeft past t c

-- whether each span ended before this moment
abbrev pub are_before : List Past → ℕ → Bool
are_before [] now = true
are_before (p ∷ past) now = nat_lt p.last.count now && are_before past now

-- the write was added at the end
pub record IsNoted (at : ℕ) (bytes : List ℕ) (done : Bool) (old new : SinceSync) : Type 0 where
  pub write : Write
  pub place : write.at ≡ at
  pub same_bytes : write.bytes.items ≡ bytes
  pub same_done : write.done ≡ done
  pub added : new.writes.items ≡ old.writes.items ++ write ∷ []
  pub same_base : new.base.items ≡ old.base.items

-- no write was added, or one of n bytes at the end
pub record Grows (at n : ℕ) (old new : SinceSync) : Type 0 where
  pub same_base : new.base.items ≡ old.base.items
  pub writes : (new.writes.items ≡ old.writes.items) ⊎ ((w : Write) × (w.at ≡ at) × (length w.bytes.items ≡ n) × (new.writes.items ≡ old.writes.items ++ w ∷ []))

-- these are the bytes that the writes of the span give
abbrev pub IsWhole : List ℕ → SinceSync → Type 0
IsWhole bytes span = bytes ≡ applied span.base.items span.writes.items

-- no write was added
pub record IsSameSpan (old new : SinceSync) : Type 0 where
  pub same_base : new.base.items ≡ old.base.items
  pub same_writes : new.writes.items ≡ old.writes.items

-- the span ended at that moment, and one without writes began with these bytes
pub record HasBegun (base : List ℕ) (last : ℕ) (old new : SinceSync) (before past : List Past) : Type 0 where
  pub ended : Past
  pub span : ended.span ≡ old
  pub when : ended.last.count ≡ last
  pub added : past ≡ before ++ ended ∷ []
  pub new_base : new.base.items ≡ base
  pub new_writes : new.writes.items ≡ []
