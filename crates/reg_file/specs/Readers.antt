-- The meaning of reading a part of a file: its values, and its first faults.
use Rattle.std.specs.Prelude.{◌≡◌, ℕ, ◌<◌, ◌⊎◌, List, [], ◌∷◌, length, Result, Ok, Err}
use Rattle.reg_file.specs.declared.fault.Refused.{Refused}
use Rattle.reg_file.specs.declared.fault.Stop.{Stop}
use Rattle.reg_file.specs.declared.fault.Stop.TheVariants as stop

-- the bytes begin with a value, and the rest follows it; or they have a first fault
pub record Portion (A : Type 0) : Type 1 where
  pub Reads : List ℕ → A → List ℕ → Type 0
  pub Fails : List ℕ → Refused → Type 0

-- fields whose reading is computed
abbrev pub field : {A : Type 0} → (List ℕ → Result (A × List ℕ) Refused) → Portion A
field read = record {
  Reads = λ bytes x rest. read bytes ≡ Ok (x, rest);
  Fails = λ bytes r. read bytes ≡ Err r;
}

-- a part, and one after it
abbrev pub ReadsBoth : {A B : Type 0} → Portion A → (A → Portion B) → List ℕ → A × B → List ℕ → Type 0
ReadsBoth p q bytes x rest = (mid : List ℕ) × p.Reads bytes x.0 mid × (q x.0).Reads mid x.1 rest

abbrev pub FailsInOne : {A B : Type 0} → Portion A → (A → Portion B) → List ℕ → Refused → Type 0
FailsInOne {A = A} p q bytes r = p.Fails bytes r ⊎ ((x : A) × (mid : List ℕ) × p.Reads bytes x mid × (q x).Fails mid r)

infixl 10 ◌behind◌
abbrev pub ◌behind◌ : {A B : Type 0} → Portion A → (A → Portion B) → Portion (A × B)
p behind q = record { Reads = ReadsBoth p q; Fails = FailsInOne p q }

-- items in order, each of which may depend on those before it
abbrev pub ReadsEach : {A S : Type 0} → (S → Portion A) → (S → A → S) → S → List ℕ → List A → List ℕ → Type 0
ReadsEach item next s bytes [] rest = bytes ≡ rest
ReadsEach item next s bytes (x ∷ xs) rest = (mid : List ℕ) × (item s).Reads bytes x mid × ReadsEach item next (next s x) mid xs rest

abbrev pub state_after : {A S : Type 0} → (S → A → S) → S → List A → S
state_after next s [] = s
state_after next s (x ∷ xs) = state_after next (next s x) xs

-- fewer items than asked were read, and the next has the fault
pub record FailsAtOne {A S : Type 0} (item : S → Portion A) (next : S → A → S) (s : S) (count : ℕ) (bytes : List ℕ) (r : Refused) : Type 0 where
  pub before : List A
  pub rest : List ℕ
  pub reads : ReadsEach item next s bytes before rest
  pub fewer : length before < count
  pub fails : (item (state_after next s before)).Fails rest r

abbrev pub repeated : {A S : Type 0} → (S → Portion A) → (S → A → S) → S → ℕ → Portion (List A)
repeated item next s count = record {
  Reads = λ bytes xs rest. ReadsEach item next s bytes xs rest × (length xs ≡ count);
  Fails = FailsAtOne item next s count;
}

-- The result of a function is the value or the fault of the part, unless memory ran out.
abbrev pub StopsIn : {A : Type 0} → Portion A → List ℕ → Stop → Type 0
StopsIn p bytes stop.Memory = Unit {0}
StopsIn p bytes (stop.Refused r) = p.Fails bytes r
