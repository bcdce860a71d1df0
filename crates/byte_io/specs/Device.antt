-- The state of a device as contracts see it, and the effect of one call.
use Rattle.std.specs.Prelude.{◌≡◌, ◌<◌, ◌+◌, ◌++◌, ℕ, List, [], Option, MatchResult, take}
use Rattle.std.specs.declared.result.Result.{Result}
use Rattle.std.specs.Io.KnownBytes.{Keeps}

-- a source: the bytes that it will give, if they are known, those that it gave, and how often it failed and ended
pub record SourceState : Type 0 where
  pub left : Option (List ℕ)
  pub given : List ℕ
  pub failures : ℕ
  pub ends : ℕ

-- a sink: the bytes that it holds, if they are known, those that it took, and how often it failed, took none of some
-- bytes, and was opened
pub record SinkState : Type 0 where
  pub written : Option (List ℕ)
  pub taken : List ℕ
  pub failures : ℕ
  pub stalls : ℕ
  pub openings : ℕ

-- a source that has neither failed nor given bytes; it will give these bytes, if they are known
abbrev pub source_of : Option (List ℕ) → SourceState
source_of bytes = record { left = bytes; given = []; failures = 0; ends = 0 }

-- an open sink that has neither failed nor taken bytes; it holds these bytes, if they are known
abbrev pub sink_of : Option (List ℕ) → SinkState
sink_of bytes = record { written = bytes; taken = []; failures = 0; stalls = 0; openings = 1 }

-- a target that has not been opened
abbrev pub target_of : Option (List ℕ) → SinkState
target_of bytes = record { written = bytes; taken = []; failures = 0; stalls = 0; openings = 0 }

-- the count rises by one at an `Err`, and stays at an `Ok`
abbrev pub CountsFailure : {T E : Type 0} → Result T E → ℕ → ℕ → Type 0
CountsFailure result old new = MatchResult result (λ _. new ≡ old) (λ _. new ≡ old + 1)

-- the count increases by one if there were bytes and none was taken, and otherwise stays
abbrev pub CountsNone : {E : Type 0} → Result ℕ E → ℕ → ℕ → ℕ → Type 0
CountsNone result len old new = MatchResult result
    (λ n. (0 < n → new ≡ old) × (len ≡ 0 → new ≡ old) × (n ≡ 0 → 0 < len → new ≡ old + 1))
    (λ _. new ≡ old)

-- at `Ok n` the first n bytes of the buffer have gone by, and at an `Err` none
abbrev pub Moves : {E : Type 0} → Result ℕ E → List ℕ → List ℕ → List ℕ → Type 0
Moves result buf old new = MatchResult result (λ n. new ≡ old ++ take n buf) (λ _. new ≡ old)

-- opening moves no byte; it counts an opening, or a failure
abbrev pub Opens : {T E : Type 0} → Result T E → SinkState → SinkState → Type 0
Opens result old new = Keeps old.written new.written × (new.taken ≡ old.taken) × (new.stalls ≡ old.stalls) × MatchResult result
    (λ _. (new.failures ≡ old.failures) × (new.openings ≡ old.openings + 1))
    (λ _. (new.failures ≡ old.failures + 1) × (new.openings ≡ old.openings))
