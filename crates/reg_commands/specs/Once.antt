-- A command of an office that may have been stopped before its register was left, and is run again.
use Rattle.std.specs.Prelude.{◌≡◌, ◌⊎◌, ℕ, Bool, List, length, Some, None}
use Rattle.reg_op.specs.Contents.{Content}
use Rattle.reg_op.specs.declared.operation.OpBody.{OpBody as Body}
use Rattle.reg_state.specs.Runs.{ids_from}
use Rattle.reg_journal.specs.Journal.{Journal}
use Rattle.reg_journal.specs.Again.{is_again, LastAgain}
use Rattle.reg_engine.specs.Outputs.{id_lines}

-- whether the office made these effects with this note before, from a number on, and need not make them again: the register x has not
-- got them, or would have a text twice. It is joined to z with all that the office made
abbrev pub made_before : Journal → List ℕ → List Body → Content → Content → ℕ → Bool
made_before f note effects x z n = is_again x.seen z.ops f.replica note effects n

-- the office has made none of it before
abbrev pub IsNew : Journal → List ℕ → List Body → Content → Content → Type 0
IsNew f note effects x z = LastAgain (made_before f note effects x z) None

-- it has, the last time from this number on: nothing is made, and the lines are those of the ids from then
abbrev pub IsSameAgain : Journal → List ℕ → List Body → Content → Content → Content → List ℕ → Type 0
IsSameAgain f note effects x z y lines = (n : ℕ) × LastAgain (made_before f note effects x z) (Some n) × (y ≡ z)
    × (lines ≡ id_lines (ids_from f.replica n (length effects)))

-- it has; or it has not, and the command makes y of z
abbrev pub MakesOnce : Journal → List ℕ → List Body → (Content → Content → List ℕ → Type 0) → Content → Content → Content → List ℕ → Type 0
MakesOnce f note effects Makes x z y lines = IsSameAgain f note effects x z y lines ⊎ (IsNew f note effects x z × Makes z y lines)
