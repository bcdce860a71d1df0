-- The file of a register is replaced after the office file.
use Rattle.std.proofs.Common.{◌≡◌, ◌⊎◌, inl, inr, List, ℕ, Option, Some, None, Bool, is_some, refl, sym, subst}
use Rattle.byte_out.specs.Place.{PlaceState}
use Rattle.byte_out.specs.Replace.{IsReplaceFault}
use Rattle.byte_out.specs.declared.fault.ReplaceFault.{ReplaceFault}
use Rattle.byte_out.specs.declared.fault.ReplaceFault.TheVariants as replaced
use Rattle.byte_office.specs.Noting.{NotesIf, IsUnnotedIf}
use Rattle.byte_office.specs.Replacing.{IsLate, IsUnreplaced, ReplacesAfter}
use Rattle.byte_office.specs.declared.fault.OfficeFileFault.TheVariants as note
use Rattle.byte_office.specs.declared.fault.UnreplacedFault.{UnreplacedFault}
use Rattle.byte_office.specs.declared.fault.UnreplacedFault.TheVariants as unreplaced
use Rattle.reg_op.specs.Contents.{Content}
use Rattle.reg_file.specs.Files.{Holds}
use Rattle.reg_journal.specs.Journal.{Journal}
use Rattle.reg_journal.specs.Text.{HoldsOffice}
use Rattle.reg_journal.specs.Adding.{is_changed}
use Rattle.reg_engine.specs.declared.fault.CliFault.{CliFault}
use Rattle.reg_engine.specs.Fault.{replace_fault}
use Rattle.reg_engine.specs.Shelf.{Disks, IsUnput}
use Rattle.reg_engine.specs.Outputs.{IsUnpublished}
use Rattle.reg_guard.specs.Keeping.{Notes, Tells, is_first, if_changed, IsLateFile, PublishesAfter, IsUnpublishedAfter, IsUnkeptAfter, unkept_fault}

unready : (f : ReplaceFault) (y : Content) (read : Option (List ℕ)) (bytes : List ℕ) (old new : PlaceState) → Holds bytes y → IsReplaceFault read bytes old new f
    → IsUnpublished y read old new (replace_fault f)
unready replaced.NotOpened y read bytes old new is h = (bytes, is, h)
unready replaced.NewExists y read bytes old new is h = (bytes, is, h)
unready (replaced.WriteFailed n) y read bytes old new is h = (bytes, is, h)
unready (replaced.ReadFailed n) y read bytes old new is h = (bytes, is, h)
unready replaced.Changed y read bytes old new is h = (bytes, is, h)
unready replaced.NotSynced y read bytes old new is h = (bytes, is, h)

late : (f : ReplaceFault) (y : Content) (read : Option (List ℕ)) (bytes : List ℕ) (old new : PlaceState) → Holds bytes y → IsLate read bytes old new f
    → IsLateFile y read old new (replace_fault f)
late replaced.NotOpened y read bytes old new is h = (bytes, is, h)
late replaced.NewExists y read bytes old new is h = absurd h
late (replaced.WriteFailed n) y read bytes old new is h = (bytes, is, h)
late (replaced.ReadFailed n) y read bytes old new is h = absurd h
late replaced.Changed y read bytes old new is h = (bytes, is, h)
late replaced.NotSynced y read bytes old new is h = (bytes, is, h)

-- a fault of the store, which is not that of the office file
by_store : (f : ReplaceFault) (a b : Journal) (y : Content) (read : Option (List ℕ)) (place after office noted : PlaceState)
    → (IsUnpublished y read place after (replace_fault f) × (noted ≡ office)) ⊎ (IsLateFile y read place after (replace_fault f) × Notes a b office noted)
    → IsUnpublishedAfter a b y read place after office noted (replace_fault f)
by_store replaced.NotOpened a b y read place after office noted h = h
by_store replaced.NewExists a b y read place after office noted h = h
by_store (replaced.WriteFailed n) a b y read place after office noted h = h
by_store (replaced.ReadFailed n) a b y read place after office noted h = h
by_store replaced.Changed a b y read place after office noted h = h
by_store replaced.NotSynced a b y read place after office noted h = h

-- the text is not found to be too large where it is written
not_large : (text : Option (List ℕ)) (office noted : PlaceState) → IsUnnotedIf text office noted note.TooLarge → ⊥
not_large (Some text) office noted h = h
not_large None office noted h = h

pub unpublished : (f : UnreplacedFault) (a b : Journal) (y : Content) (read : Option (List ℕ)) (bytes text : List ℕ) (place after office noted : PlaceState)
    → Holds bytes y → HoldsOffice text b → IsUnreplaced read bytes (if_changed (is_changed a b) text) place after office noted f
    → IsUnpublishedAfter a b y read place after office noted (unkept_fault f)
unpublished (unreplaced.Unready f) a b y read bytes text place after office noted is held h =
    by_store f a b y read place after office noted (inl (unready f y read bytes place after is h.0, h.1))
unpublished (unreplaced.Unnoted note.NotOpened) a b y read bytes text place after office noted is held h = ((bytes, is, h.0), (text, held, h.1))
unpublished (unreplaced.Unnoted note.TooLarge) a b y read bytes text place after office noted is held h =
    absurd (not_large (if_changed (is_changed a b) text) office noted h.1)
unpublished (unreplaced.Unnoted (note.WriteFailed n)) a b y read bytes text place after office noted is held h = ((bytes, is, h.0), (text, held, h.1))
unpublished (unreplaced.Late f) a b y read bytes text place after office noted is held h =
    by_store f a b y read place after office noted (inr (late f y read bytes place after is h.0, (text, held, h.1)))

-- the same for the text that was written, or none
pub unpublished_with : (f : UnreplacedFault) (a b : Journal) (y : Content) (read text : Option (List ℕ)) (bytes next : List ℕ) (place after office noted : PlaceState)
    → text ≡ if_changed (is_changed a b) next → Holds bytes y → HoldsOffice next b → IsUnreplaced read bytes text place after office noted f
    → IsUnpublishedAfter a b y read place after office noted (unkept_fault f)
unpublished_with f a b y read text bytes next place after office noted e is held h =
    unpublished f a b y read bytes next place after office noted is held
    (subst (λ (t : Option (List ℕ)). IsUnreplaced read bytes t place after office noted f) e h)

pub published_with : (a b : Journal) (y : Content) (read text : Option (List ℕ)) (bytes next : List ℕ) (same changed : Bool) (place after office noted told : PlaceState)
    → text ≡ if_changed (is_changed a b) next → Holds bytes y → HoldsOffice next b → ReplacesAfter read bytes text place after office noted
    → same ≡ is_some read → changed ≡ is_changed a b → Tells changed (is_first same b) b noted told → PublishesAfter a b y read place after office told
published_with a b y read text bytes next same changed place after office noted told e is held h s c t = record {
  noted = noted;
  notes = (next, held, subst (λ (t : Option (List ℕ)). NotesIf t office noted) e h.1);
  publishes = (bytes, is, h.0);
  tells = subst (λ (c : Bool). Tells c (is_first (is_some read) b) b noted told) c (subst (λ (s : Bool). Tells changed (is_first s b) b noted told) s t);
}

-- ---- a shelf

-- the disk failed, after the office file got its text
pub unput_after : {D : Type 0} (d : Disks D) (a b : Journal) (x y : Content) (old new : D) (office noted : PlaceState) (f : CliFault) → IsUnput d x y old new f → Notes a b office noted
    → IsUnkeptAfter d a b x y old new office noted f
unput_after d a b x y old new office noted f h n =
    subst (λ (k : CliFault). IsUnkeptAfter d a b x y old new office noted k) (sym h.0) (inr ((refl, h.1, h.2), n))
