-- The calls of one process that replaces OUT by its new file.
use Rattle.std.specs.Prelude.{◌≡◌, ◌⊎◌, ℕ, Bool, true, false, List, ◌∷◌, Option, Some, None, take}
use Rattle.byte_system.specs.Disk.{Call, Makes, Opens, Locks, Looks, Finds, Writes, Syncs, Compares, Renames, Unlinks, SyncsFolder, Fails}
use Rattle.byte_system.specs.System.{SystemState, calls, GoesOn}
use Rattle.byte_protocol.specs.declared.replacing.Fault.{Fault}
use Rattle.byte_protocol.specs.declared.replacing.Fault.TheVariants as fault

-- In each list of calls the last one comes first.

-- a file that was there was opened, locked, and found under its name
abbrev pub entered : List ℕ → ℕ → List Call → List Call
entered path i before = Looks path i true ∷ Locks i true ∷ Opens path (Some i) ∷ before

-- the calls before the new file is made: none, or those that remove one which a stopped process left
abbrev pub begun : List ℕ → Option ℕ → List Call → List Call
begun new None before = before
begun new (Some n) before = Unlinks new ∷ entered new n (Finds new true ∷ Makes new None ∷ before)

-- the new file was made, locked, and found under its name: from now on the name is the process's own
abbrev pub owned : List ℕ → ℕ → List Call → List Call
owned new i before = Looks new i true ∷ Locks i true ∷ Makes new (Some i) ∷ before

-- it was made, after one that was left was removed
abbrev pub reserved : List ℕ → Option ℕ → ℕ → List Call → List Call
reserved new left i before = owned new i (begun new left before)

-- the answer of the call was no, or it failed
abbrev pub Denies : (Bool → Call) → List Call → List Call → Type 0
Denies call before now = (now ≡ call false ∷ before) ⊎ (now ≡ Fails ∷ before)

-- a file is not the process's own: its lock was not taken, or then the name was not found to lead to it
abbrev pub Disowns : List ℕ → ℕ → List Call → List Call → Type 0
Disowns path i before now = Denies (Locks i) before now ⊎ Denies (Looks path i) (Locks i true ∷ before) now

-- a file that was there was not opened, or is not the process's own
abbrev pub Unentered : List ℕ → List Call → List Call → Type 0
Unentered path before now = (now ≡ Fails ∷ before) ⊎ ((i : ℕ) × Disowns path i (Opens path (Some i) ∷ before) now)

-- the name was asked what has it, or that failed
abbrev pub Asks : List ℕ → List Call → List Call → Type 0
Asks path before now = (now ≡ Finds path true ∷ before) ⊎ Denies (Finds path) before now

-- there is no file that a stopped process left, or it was not removed
abbrev pub Unswept : List ℕ → List Call → List Call → Type 0
Unswept new before now =
    Asks new before now ⊎ (Unentered new (Finds new true ∷ before) now ⊎ ((n : ℕ) × (now ≡ Fails ∷ entered new n (Finds new true ∷ before))))

-- all calls of one that did not get the new file
abbrev pub Refuses : Fault → List ℕ → List Call → List Call → Type 0
-- no file could be made
Refuses fault.NotMade new before now = (left : Option ℕ) × (now ≡ Fails ∷ begun new left before)
-- there is one that stays; there was another one once that was removed; or the one that was made is not the process's own
Refuses fault.NewExists new before now =
    Unswept new (Makes new None ∷ before) now
    ⊎ (((n : ℕ) × (now ≡ Makes new None ∷ begun new (Some n) before)) ⊎ ((left : Option ℕ) × (i : ℕ) × Disowns new i (Makes new (Some i) ∷ begun new left before) now))
Refuses e new before now = ⊥

-- OUT was compared with the bytes that were read from it, if they were
abbrev pub compared : List ℕ → Option (List ℕ) → List Call → List Call
compared out None before = before
compared out (Some read) before = Compares out read true ∷ before

-- the new file has the bytes and is synced, OUT is the one that was read, and the new file still has its name
abbrev pub ready : List ℕ → List ℕ → ℕ → Option (List ℕ) → List ℕ → List Call → List Call
ready out new i read bytes before = Looks new i true ∷ compared out read (Syncs i ∷ Writes i bytes ∷ before)

-- all calls of one that has the new file and replaces OUT by it
abbrev pub replacing : List ℕ → List ℕ → ℕ → Option (List ℕ) → List ℕ → List Call → List Call
replacing out new i read bytes before = SyncsFolder out ∷ Renames new out ∷ ready out new i read bytes before

-- after these calls the new file was removed, or that failed
abbrev pub Removes : List ℕ → List Call → List Call → Type 0
Removes new before now = (now ≡ Unlinks new ∷ before) ⊎ (now ≡ Fails ∷ before)

-- the comparison found another file
abbrev pub changed : List ℕ → Option (List ℕ) → List Call → List Call
changed out None before = before
changed out (Some read) before = Compares out read false ∷ before

-- all calls of one that has the new file and stopped with a fault
abbrev pub Stops : Fault → List ℕ → List ℕ → ℕ → Option (List ℕ) → List ℕ → List Call → List Call → Type 0
Stops fault.NotMade out new i read bytes before now = ⊥
Stops fault.NewExists out new i read bytes before now = ⊥
Stops (fault.NotWritten n) out new i read bytes before now = Removes new (Writes i (take n bytes) ∷ before) now
Stops fault.NotSure out new i read bytes before now = Removes new (Fails ∷ Writes i bytes ∷ before) now
Stops fault.NotRead out new i read bytes before now = Removes new (Fails ∷ Syncs i ∷ Writes i bytes ∷ before) now
Stops fault.Changed out new i read bytes before now = Removes new (changed out read (Syncs i ∷ Writes i bytes ∷ before)) now
Stops fault.NotLooked out new i read bytes before now = now ≡ Fails ∷ compared out read (Syncs i ∷ Writes i bytes ∷ before)
Stops fault.Lost out new i read bytes before now = now ≡ Looks new i false ∷ compared out read (Syncs i ∷ Writes i bytes ∷ before)
Stops fault.NotPut out new i read bytes before now = Removes new (Fails ∷ ready out new i read bytes before) now
Stops fault.NotSynced out new i read bytes before now = now ≡ Fails ∷ Renames new out ∷ ready out new i read bytes before

-- all calls of one that did not replace OUT: it did not get the new file, or it stopped with it
abbrev pub Abandons : Fault → List ℕ → List ℕ → Option (List ℕ) → List ℕ → List Call → List Call → Type 0
Abandons e out new read bytes before now = Refuses e new before now ⊎ ((left : Option ℕ) × (i : ℕ) × Stops e out new i read bytes (reserved new left i before) now)

-- the process made exactly these calls, with these answers, which the files gave
pub record Replaces (out new : List ℕ) (left : Option ℕ) (read : Option (List ℕ)) (bytes : List ℕ) (old last : SystemState) : Type 0 where
  pub goes : GoesOn old last
  pub mine : (i : ℕ) × (calls last ≡ replacing out new i read bytes (reserved new left i (calls old)))
