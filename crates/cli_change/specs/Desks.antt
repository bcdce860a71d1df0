-- The office that changes a register.
use Rattle.std.specs.Prelude.{◌≡◌, ℕ, List, Option, Some, None}
use Rattle.cli_open.specs.declared.offices.OpenOffice.{OpenOffice}
use Rattle.cli_change.specs.declared.offices.Desk.{Desk}

-- its UUID is the one in its office file
abbrev pub IsInFile : {Q : Type 0} → List ℕ → Option (OpenOffice Q) → Type 0
IsInFile replica (Some office) = replica ≡ office.file.replica
IsInFile replica None = ⊥

-- it is the one that is named, without an office file, or otherwise that of an office file
abbrev pub IsDesk : {Q : Type 0} → Option (List ℕ) → Desk Q → Type 0
IsDesk (Some replica) desk = (desk.replica ≡ replica) × (desk.file ≡ None)
IsDesk None desk = IsInFile desk.replica desk.file
