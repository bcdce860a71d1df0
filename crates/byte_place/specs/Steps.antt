-- The calls by which a place looks at OUT, puts its new file in place, or removes it. In each list of calls the last one comes first.
use Rattle.std.specs.Prelude.{◌≡◌, ◌⊎◌, ℕ, true, false, List, [], ◌∷◌, Some}
use Rattle.byte_system.specs.Disk.{Call, Opens, Looks, Finds, Renames, SyncsFolder, Fails}
use Rattle.byte_protocol.specs.Replacing.{Denies, Removes, Asks}
use Rattle.byte_protocol.specs.declared.replacing.Fault.{Fault}
use Rattle.byte_protocol.specs.declared.replacing.Fault.TheVariants as fault
use Rattle.byte_place.specs.declared.progress.ReserveFault.{ReserveFault}
use Rattle.byte_place.specs.declared.progress.ReserveFault.TheVariants as reserve
use Rattle.byte_place.specs.declared.steps.Unput.{Unput}
use Rattle.byte_place.specs.declared.steps.Unput.TheVariants as unput

-- why there is no new file, as a place tells it
abbrev pub told_of : Fault → ReserveFault
told_of fault.NewExists = reserve.Exists
told_of fault.NotMade = reserve.NotOpened
told_of (fault.NotWritten n) = reserve.NotOpened
told_of fault.NotSure = reserve.NotOpened
told_of fault.NotRead = reserve.NotOpened
told_of fault.Changed = reserve.NotOpened
told_of fault.NotLooked = reserve.NotOpened
told_of fault.Lost = reserve.NotOpened
told_of fault.NotPut = reserve.NotOpened
told_of fault.NotSynced = reserve.NotOpened

-- OUT was looked for, and opened if it is there, or one of these failed
abbrev pub Visits : List ℕ → List Call → List Call → Type 0
Visits out before now = Asks out before now ⊎ ((now ≡ Fails ∷ Finds out true ∷ before) ⊎ ((i : ℕ) × (now ≡ Opens out (Some i) ∷ Finds out true ∷ before)))

-- the new name was found to lead to the new file, which was then renamed
abbrev pub renamed : List ℕ → List ℕ → ℕ → List Call → List Call
renamed out new i before = Renames new out ∷ Looks new i true ∷ before

-- why the new file was not renamed: its name leads to another one; or a call failed, after which OUT was looked for, and was gone or not
abbrev pub Unrenamed : Unput → List ℕ → List ℕ → ℕ → List Call → List Call → Type 0
Unrenamed unput.Lost out new i before now = now ≡ Looks new i false ∷ before
Unrenamed unput.Gone out new i before now = Asks out (Fails ∷ Looks new i true ∷ before) now
Unrenamed unput.NotPut out new i before now = (now ≡ Fails ∷ before) ⊎ Asks out (Fails ∷ Looks new i true ∷ before) now

-- the new name was not found to lead to the new file; or the file was removed, or that failed
abbrev pub Clears : List ℕ → ℕ → List Call → List Call → Type 0
Clears new i before now = Denies (Looks new i) before now ⊎ Removes new (Looks new i true ∷ before) now

-- the last call is that which syncs the folder of OUT, or it failed
abbrev pub Lands : List ℕ → List Call → Type 0
Lands out [] = ⊥
Lands out (c ∷ cs) = (c ≡ SyncsFolder out) ⊎ (c ≡ Fails)
