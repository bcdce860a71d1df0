-- All entries that words select.
use Rattle.std.specs.Prelude.{◌≡◌, ◌≢◌, ◌⊎◌, ◌++◌, ◌∷◌, [], ℕ, List}
use Rattle.reg_op.specs.Ids.{Id}
use Rattle.reg_op.specs.Rows.{Row}
use Rattle.reg_op.specs.Text.{Spells}
use Rattle.reg_keys.specs.declared.fault.KeyFault.{KeyFault}
use Rattle.reg_keys.specs.declared.fault.KeyFault.TheVariants.{NoEntry, Several, Memory}
use Rattle.reg_keys.specs.Named.{HasWord, AreEntries, IsNoId}

-- an id selects its entry, and a key all its entries, at least one
abbrev pub TellsOf : List Row → List ℕ → List Id → Type 0
TellsOf rs word es = ((e : Id) × Spells word e × (es ≡ e ∷ [])) ⊎ (IsNoId word × AreEntries (HasWord word) rs es × (es ≢ []))

-- the key has none; or memory ran out
abbrev pub IsUntold : List Row → List ℕ → KeyFault → Type 0
IsUntold rs word NoEntry = IsNoId word × AreEntries (HasWord word) rs []
IsUntold rs word (Several second) = ⊥
IsUntold rs word Memory = Unit {0}

-- those of some words, in their order
abbrev pub TellOf : List Row → List (List ℕ) → List Id → Type 0
TellOf rs [] es = es ≡ []
TellOf rs (w ∷ ws) es = (few : List Id) × (later : List Id) × TellsOf rs w few × TellOf rs ws later × (es ≡ few ++ later)

-- why the first of them that selects no entry does not
abbrev pub AreUntold : List Row → List (List ℕ) → KeyFault → Type 0
AreUntold rs [] f = f ≡ Memory
AreUntold rs (w ∷ ws) f = IsUntold rs w f ⊎ ((few : List Id) × TellsOf rs w few × AreUntold rs ws f)
