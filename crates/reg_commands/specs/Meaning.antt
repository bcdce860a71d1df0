-- What words mean in a command that changes entries. It works on the join of the register that was read with all that its office made;
-- without an office file the two registers are one.
use Rattle.std.specs.Prelude.{◌≡◌, ◌⊎◌, ◌++◌, ◌∷◌, [], ℕ, List}
use Rattle.reg_op.specs.Ids.{Id}
use Rattle.reg_op.specs.Rows.{Row}
use Rattle.reg_keys.specs.declared.fault.KeyFault.{KeyFault}
use Rattle.reg_keys.specs.declared.fault.KeyFault.TheVariants as key
use Rattle.reg_keys.specs.Named.{StandsFor, IsObjection}
use Rattle.reg_keys.specs.Every.{StandsForEvery, StandForEvery, StandForEach, FailsAt}

-- ---- one word: `was` are the rows of the register that was read, and `rs` those of the join

-- the entries that the word stands for in the join, or, where that has none of it, in the register as it was read
abbrev pub MeansEvery : List Row → List Row → List ℕ → List Id → Type 0
MeansEvery was rs word es = StandsForEvery rs word es ⊎ (IsObjection rs word key.NoEntry × StandsForEvery was word es)

-- the same for a word that stands for one entry
abbrev pub MeansOne : List Row → List Row → List ℕ → Id → Type 0
MeansOne was rs word e = StandsFor rs word e ⊎ (IsObjection rs word key.NoEntry × StandsFor was word e)

-- it means none, for the reason why it stands for none in the join; where that has none of it, nor has the register as it was read
abbrev pub IsMeaningless : List Row → List Row → List ℕ → KeyFault → Type 0
IsMeaningless was rs word f = IsObjection rs word f × (f ≡ key.NoEntry → (e : Id) → ¬ (StandsFor was word e))

-- ---- some words

-- the entries that they mean, one word after the other
abbrev pub MeanEvery : List Row → List Row → List (List ℕ) → List Id → Type 0
MeanEvery was rs [] es = es ≡ []
MeanEvery was rs (w ∷ ws) es = (few : List Id) × (later : List Id) × MeansEvery was rs w few × MeanEvery was rs ws later × (es ≡ few ++ later)

-- the entry that each of them means
abbrev pub MeanEach : List Row → List Row → List (List ℕ) → List Id → Type 0
MeanEach was rs [] es = es ≡ []
MeanEach was rs (w ∷ ws) es = (e : Id) × (later : List Id) × MeansOne was rs w e × MeanEach was rs ws later × (es ≡ e ∷ later)

-- why the first of them that means no entry does not; or memory ran out
abbrev pub FailsIn : List Row → List Row → List (List ℕ) → KeyFault → Type 0
FailsIn was rs [] f = f ≡ key.Memory
FailsIn was rs (w ∷ ws) f = IsMeaningless was rs w f ⊎ ((e : Id) × MeansOne was rs w e × FailsIn was rs ws f)

-- all entries that the first words mean, and the entry that each of the other words means
abbrev pub MeanBoth : List Row → List Row → List (List ℕ) → List (List ℕ) → List Id → List Id → Type 0
MeanBoth was rs every each es fs = MeanEvery was rs every es × MeanEach was rs each fs

-- a word means no entry: one of the first, or else one of the others
abbrev pub AreMeaningless : List Row → List Row → List (List ℕ) → List (List ℕ) → KeyFault → Type 0
AreMeaningless was rs every each f = FailsIn was rs every f ⊎ ((es : List Id) × MeanEvery was rs every es × FailsIn was rs each f)

-- ---- one register: the words stand for these entries in it

abbrev pub StandForBoth : List Row → List (List ℕ) → List (List ℕ) → List Id → List Id → Type 0
StandForBoth rs every each es fs = StandForEvery rs every es × StandForEach rs each fs

-- or one of them stands for none: one of the first, or else one of the others
abbrev pub FailForBoth : List Row → List (List ℕ) → List (List ℕ) → KeyFault → Type 0
FailForBoth rs every each f = ((k : ℕ) × FailsAt rs 0 every k f) ⊎ ((es : List Id) × StandForEvery rs every es × ((k : ℕ) × FailsAt rs 0 each k f))
