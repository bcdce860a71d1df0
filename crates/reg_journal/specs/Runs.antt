-- The runs of the numbers that an office gave.
use Rattle.std.specs.Prelude.{ℕ, List, [], ◌∷◌, zero, suc}
use Rattle.reg_state.specs.declared.run.Run.{Run}

-- the run from 1 to a number
abbrev pub from_first : List ℕ → ℕ → Run
from_first replica n = record { replica = replica; low = 1; high = n }

-- none, or one run from 1 on
abbrev pub runs_to : List ℕ → ℕ → List Run
runs_to replica zero = []
runs_to replica (suc n) = from_first replica (suc n) ∷ []
