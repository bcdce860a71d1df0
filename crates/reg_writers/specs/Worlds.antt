-- What a desk has to do with a world of `Journals`, and the steps of a command that nobody disturbs.
use Rattle.std.specs.Prelude.{◌≡◌, ℕ, List, [], ◌∷◌, Option, Some, None, slice_get}
use Rattle.reg_journal.specs.Journals.{Copy, World}
use Rattle.reg_writers.specs.Works.{Work}
use Rattle.reg_writers.specs.OfficeDesk.{Stage, HasFile, HasRead, HasNoted, HasReplaced, Step, Locks, Opens, Reads, Notes, Replaces, Prints}

-- a register was in a file
abbrev pub IsAmong : Copy → World → Type 0
IsAmong c w = (place : ℕ) × (slice_get w.copies place ≡ Some c)

-- the office file and the register that a command has read, and what it has made of them
abbrev pub file_read : Stage → Option Copy
file_read (HasFile f) = Some f
file_read (HasRead f c) = Some f
file_read s = None

abbrev pub register_read : Stage → Option Copy
register_read (HasRead f c) = Some c
register_read s = None

abbrev pub work_of : Stage → Option Work
work_of (HasNoted v) = Some v
work_of (HasReplaced v) = Some v
work_of s = None

-- all steps of one command, on the register at one path, for another path or the same
abbrev pub all_steps : ℕ → ℕ → ℕ → List Step
all_steps k p q = Locks k ∷ Opens k ∷ Reads k p ∷ Notes k ∷ Replaces k q ∷ Prints k ∷ []
