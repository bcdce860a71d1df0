-- The effects of the calls of a disk, and the bytes that a stop may leave.
use Rattle.std.specs.Prelude.{◌≡◌, ◌⊎◌, ◌↔◌, ◌≤◌, ◌<◌, ◌+◌, ◌-◌, ℕ, min, max, List, length, take, drop}
use Rattle.std.specs.declared.result.Result.{Result}
use Rattle.std.specs.Prelude.{MatchResult}

-- the bytes from an offset on, fewer only at the end
pub record ReadsAt (seen : List ℕ) (at n : ℕ) (buf : List ℕ) : Type 0 where
  pub count : n ≡ min (length buf) (length seen - at)
  pub bytes : take n buf ≡ take n (drop at seen)

-- after a write of n bytes that a stop cuts short: any bytes in the range and past the old end, the same elsewhere
pub record Torn (at n : ℕ) (old new : List ℕ) : Type 0 where
  pub before : take (min at (length old)) new ≡ take (min at (length old)) old
  pub after : drop (at + n) new ≡ drop (at + n) old
  pub no_shorter : length old ≤ length new
  pub no_longer : length new ≤ max (length old) (at + n)

-- after a completed write: these bytes are at this offset; the bytes between the old end and them are unspecified
pub record IsWritten (old : List ℕ) (at : ℕ) (bytes new : List ℕ) : Type 0 where
  pub here : take (length bytes) (drop at new) ≡ bytes
  pub torn : Torn at (length bytes) old new

-- each image after a call is one from before it, after a step
abbrev pub Follows : (List ℕ → List ℕ → Type 0) → (List ℕ → Type 0) → (List ℕ → Type 0) → Type 0
Follows step old new = (c : List ℕ) → new c → (d : List ℕ) × old d × step d c

-- a stop leaves this and nothing else
abbrev pub Only : List ℕ → (List ℕ → Type 0) → Type 0
Only file images = (c : List ℕ) → images c → c ≡ file

-- a stop leaves the same as before
abbrev pub SameImages : (List ℕ → Type 0) → (List ℕ → Type 0) → Type 0
SameImages old new = (c : List ℕ) → old c ↔ new c

-- time advances: a stop since t may have left what it could have left before, or what it may leave now
pub record Elapses (before now : ℕ) (past since : ℕ → List ℕ → Type 0) (images : List ℕ → Type 0) : Type 0 where
  pub later : before < now
  pub nothing_else : (t : ℕ) (c : List ℕ) → t ≤ before → since t c → past t c ⊎ images c
  pub keeps : (t : ℕ) (c : List ℕ) → t ≤ before → past t c → since t c

-- a stop at any moment since old leaves what has P
pub record LeavesOnly {D : Type 0} (moment : D → ℕ) (since : D → ℕ → List ℕ → Type 0) (old new : D) (P : List ℕ → Type 0) : Type 0 where
  pub later : moment old ≤ moment new
  pub each : (c : List ℕ) → since new (moment old) c → P c
  -- for a run that began earlier
  pub before : (t : ℕ) (c : List ℕ) → t ≤ moment old → since new t c → since old t c ⊎ P c

-- no image at a moment since old is new
abbrev pub NothingNew : {D : Type 0} → (D → ℕ) → (D → ℕ → List ℕ → Type 0) → (D → List ℕ → Type 0) → D → D → Type 0
NothingNew moment since images old new = LeavesOnly moment since old new (images old)

-- the first of two writes was cut short, or it was done and the second was cut short
abbrev pub InTwo : ℕ → List ℕ → ℕ → ℕ → List ℕ → List ℕ → Type 0
InTwo at bytes at' n' old c = Torn at (length bytes) old c ⊎ ((d : List ℕ) × IsWritten old at bytes d × Torn at' n' d c)

-- both writes were done
abbrev pub AreBothWritten : ℕ → List ℕ → ℕ → List ℕ → List ℕ → List ℕ → Type 0
AreBothWritten at bytes at' bytes' old new = (d : List ℕ) × IsWritten old at bytes d × IsWritten d at' bytes' new

-- opening counts an opening, or a failure
abbrev pub CountsOpening : {T E : Type 0} → Result T E → ℕ → ℕ → ℕ → ℕ → Type 0
CountsOpening result failed_before failed opened_before opened = MatchResult result
    (λ _. (failed ≡ failed_before) × (opened ≡ opened_before + 1))
    (λ _. (failed ≡ failed_before + 1) × (opened ≡ opened_before))
