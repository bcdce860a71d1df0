-- Reading a source up to a limit, and writing all of some bytes.
use Rattle.std.specs.Prelude.{◌≡◌, ◌⊎◌, ◌≤◌, ◌<◌, ◌+◌, ◌++◌, ℕ, List, length, take, Ok, Err}
use Rattle.std.specs.declared.result.Result.{Result}
use Rattle.std.specs.Io.KnownBytes.{Consumes, IsAtEnd, Appends, Keeps}
use Rattle.byte_io.specs.Device.{SourceState, SinkState}
use Rattle.byte_io.specs.declared.fault.InFault.{InFault}
use Rattle.byte_io.specs.declared.fault.InFault.TheVariants as fault

-- the source gave exactly these bytes, a prefix of its known bytes: `most` of them, or fewer at its end
pub record ReadsUpTo (most : ℕ) (old new : SourceState) (bytes : List ℕ) : Type 0 where
  pub given : new.given ≡ old.given ++ bytes
  pub front : Consumes old.left new.left bytes
  pub bounded : length bytes ≤ most
  pub ended : length bytes < most → IsAtEnd new.left × (new.ends ≡ old.ends + 1)
  pub full : length bytes ≡ most → new.ends ≡ old.ends
  pub quiet : new.failures ≡ old.failures

-- the source failed after it gave n bytes, fewer than `most`
abbrev pub FailsAfter : ℕ → ℕ → SourceState → SourceState → Type 0
FailsAfter n most old new = (bytes : List ℕ) × (new.given ≡ old.given ++ bytes) × Consumes old.left new.left bytes
    × (length bytes ≡ n) × (n < most) × (new.failures ≡ old.failures + 1) × (new.ends ≡ old.ends)

-- the source gave some bytes, at most `most`, and did not fail
abbrev pub GivesAtMost : ℕ → SourceState → SourceState → Type 0
GivesAtMost most old new = (bytes : List ℕ) × (new.given ≡ old.given ++ bytes) × Consumes old.left new.left bytes
    × (length bytes ≤ most) × (new.failures ≡ old.failures)

-- the source gave some bytes, at most `most`, did not fail, and was not seen to be at its end
abbrev pub StopsEarly : ℕ → SourceState → SourceState → Type 0
StopsEarly most old new = (bytes : List ℕ) × (new.given ≡ old.given ++ bytes) × Consumes old.left new.left bytes
    × (length bytes ≤ most) × (new.failures ≡ old.failures) × (new.ends ≡ old.ends)

-- the effect of a failed read of up to `most` bytes
abbrev pub IsInFault : ℕ → SourceState → SourceState → InFault → Type 0
IsInFault most old new (fault.ReadFailed n) = FailsAfter n most old new
IsInFault most old new fault.Memory = StopsEarly most old new

-- all these bytes were written, and the sink did not fail
pub record WritesAll (bytes : List ℕ) (old new : SinkState) : Type 0 where
  pub taken : new.taken ≡ old.taken ++ bytes
  pub appended : Appends old.written new.written bytes
  pub quiet : new.failures ≡ old.failures
  pub moved : new.stalls ≡ old.stalls
  pub openings : new.openings ≡ old.openings

-- either count rose by one, and the other stayed
abbrev pub FailedOrTookNone : SinkState → SinkState → Type 0
FailedOrTookNone old new = ((new.failures ≡ old.failures + 1) × (new.stalls ≡ old.stalls))
    ⊎ ((new.failures ≡ old.failures) × (new.stalls ≡ old.stalls + 1))

-- exactly the first n of these bytes were written, not all, and then the sink failed or took none
pub record IsCutAt (n : ℕ) (bytes : List ℕ) (old new : SinkState) : Type 0 where
  pub taken : new.taken ≡ old.taken ++ take n bytes
  pub appended : Appends old.written new.written (take n bytes)
  pub short : n < length bytes
  pub cause : FailedOrTookNone old new
  pub openings : new.openings ≡ old.openings

-- the result of one more read, appended to the bytes so far
abbrev pub IsChunk : ℕ → List ℕ → List ℕ → SourceState → SourceState → Result ℕ InFault → Type 0
IsChunk room before after old new (Ok n) = (bytes : List ℕ) × (after ≡ before ++ bytes) × (length bytes ≡ n) × (n ≤ room)
    × (new.given ≡ old.given ++ bytes) × Consumes old.left new.left bytes × (new.failures ≡ old.failures)
    × (n ≡ 0 → IsAtEnd new.left × (new.ends ≡ old.ends + 1)) × (0 < n → new.ends ≡ old.ends)
IsChunk room before after old new (Err (fault.ReadFailed n)) = (n ≡ length before) × (new.given ≡ old.given) × Keeps old.left new.left
    × (new.failures ≡ old.failures + 1) × (new.ends ≡ old.ends)
IsChunk room before after old new (Err fault.Memory) = StopsEarly room old new
