-- What words stand for in commands that change entries. A key whose entries that are not retired have one text stands for all of
-- these where they are retired or superseded, and for the least of them where it supersedes others.
use Rattle.std.specs.Prelude.{◌≡◌, ◌⊎◌, ◌+◌, ◌++◌, ◌∷◌, [], ℕ, List}
use Rattle.reg_op.specs.Ids.{Id}
use Rattle.reg_op.specs.Rows.{Row}
use Rattle.reg_op.specs.Text.{Spells}
use Rattle.reg_keys.specs.declared.fault.KeyFault.{KeyFault}
use Rattle.reg_keys.specs.declared.fault.KeyFault.TheVariants.{NoEntry, Several, Memory}
use Rattle.reg_keys.specs.Named.{IsAnsweredBy, IsLeast, AllHave, StandsFor, IsObjection}

-- an id stands for its entry, and a key for all its entries that are not retired, ascending, if these have one text
abbrev pub StandsForEvery : List Row → List ℕ → List Id → Type 0
StandsForEvery rs word es = ((e : Id) × Spells word e × (es ≡ e ∷ []))
    ⊎ (IsAnsweredBy rs word es × ((least : Row) × IsLeast rs word least × AllHave least.definition rs word))

-- the entries of some words, one word after the other
abbrev pub StandForEvery : List Row → List (List ℕ) → List Id → Type 0
StandForEvery rs [] es = es ≡ []
StandForEvery rs (w ∷ ws) es = (few : List Id) × (later : List Id) × StandsForEvery rs w few × StandForEvery rs ws later × (es ≡ few ++ later)

-- the entry of each of some words: for a key the least
abbrev pub StandForEach : List Row → List (List ℕ) → List Id → Type 0
StandForEach rs [] es = es ≡ []
StandForEach rs (w ∷ ws) es = (e : Id) × (later : List Id) × StandsFor rs w e × StandForEach rs ws later × (es ≡ e ∷ later)

-- the word at index k, where the first one has index n, is the first that stands for no entry, for this reason; or memory ran out
abbrev pub FailsAt : List Row → ℕ → List (List ℕ) → ℕ → KeyFault → Type 0
FailsAt rs n [] k f = f ≡ Memory
FailsAt rs n (w ∷ ws) k f = ((k ≡ n) × IsObjection rs w f) ⊎ ((e : Id) × StandsFor rs w e × FailsAt rs (n + 1) ws k f)
