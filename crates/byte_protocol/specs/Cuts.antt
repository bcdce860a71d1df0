-- What a loss of power may leave of the files: what was not synced may be lost, in part or whole.
use Rattle.std.specs.Prelude.{◌≡◌, ◌⊎◌, ◌==◌, ℕ, Bool, true, false, List, [], ◌∷◌, Option, Some, None, bytes_eq, if◌then◌else◌}
use Rattle.byte_system.specs.Disk.{Content, content, Disk, Event, Call, Writes, Syncs, SyncsFolder, after}
use Rattle.byte_protocol.specs.Protocol.{Job, Move, MakesNew, Strays, Forgets, Deed, events}

-- the call syncs the folder of this name
abbrev pub syncs_name : List ℕ → Call → Bool
syncs_name p (SyncsFolder q) = bytes_eq q p
syncs_name p c = false

-- whether all bytes of a file are on the disk after a call, if they were before it or not
abbrev pub clean_after : ℕ → Bool → Call → Bool
clean_after i was (Writes n bs) = if i == n then false else was
clean_after i was (Syncs n) = if i == n then true else was
clean_after i was c = was

-- the bytes of a file are on the disk: it was synced since it was written. Those from the start are
abbrev pub is_clean : List Event → ℕ → Bool
is_clean [] i = true
is_clean (e ∷ es) i = clean_after i (is_clean es i) e.call

-- a loss of power may leave the name to this file: it led to the file at a moment since its folder was synced
abbrev pub MayLead : Disk → List Event → List ℕ → Option ℕ → Type 0
MayLead first [] p f = first.names p ≡ f
MayLead first (e ∷ es) p f = ((after first (e ∷ es)).names p ≡ f) ⊎ ((syncs_name p e.call ≡ false) × MayLead first es p f)

-- a loss of power after these events may leave such files. Of a file that is not on the disk any bytes may be left
pub record IsLeft (first : Disk) (es : List Event) (p : List ℕ) (left : Disk) : Type 0 where
  pub leads : MayLead first es p (left.names p)
  pub bytes : (i : ℕ) → is_clean es i ≡ true → left.bytes i ≡ (after first es).bytes i

-- the name had this content at a moment since its folder was synced
abbrev pub IsSince : Disk → List Event → List ℕ → Content → Type 0
IsSince first [] p c = content first p ≡ c
IsSince first (e ∷ es) p c = (content (after first (e ∷ es)) p ≡ c) ⊎ ((syncs_name p e.call ≡ false) × IsSince first es p c)

-- the name led to this file at a moment
abbrev pub WasAt : Disk → List Event → List ℕ → ℕ → Type 0
WasAt first [] p i = first.names p ≡ Some i
WasAt first (e ∷ es) p i = ((after first (e ∷ es)).names p ≡ Some i) ⊎ WasAt first es p i

-- the file whose bytes the call changes
abbrev pub written : Call → Option ℕ
written (Writes n bs) = Some n
written c = None

-- a call that is no move of the protocol writes to no file that had one of the two names
abbrev pub IsApart : Job → Disk → List Event → Call → Type 0
IsApart j first es c = (i : ℕ) → written c ≡ Some i → (WasAt first es j.out i → ⊥) × (WasAt first es j.new i → ⊥)

-- and the number of a file that had the name OUT is not given again
abbrev pub Spares : Job → Disk → List Event → Move → Type 0
Spares j first es (MakesNew i) = WasAt first es j.out i → ⊥
Spares j first es (Strays s c) = IsApart j first es c
Spares j first es (Forgets s c) = IsApart j first es c
Spares j first es m = Unit {0}

abbrev pub AreSparing : Job → Disk → List Deed → Type 0
AreSparing j first [] = Unit {0}
AreSparing j first (e ∷ es) = AreSparing j first es × Spares j first (events j es) e.move
