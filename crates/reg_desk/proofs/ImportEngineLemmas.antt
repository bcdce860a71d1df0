-- The result or the fault of an import, by its steps.
use Rattle.std.proofs.Common.{◌≡◌, [], ℕ, List, sym, subst, inl, inr}
use Rattle.byte_io.specs.Device.{SourceState}
use Rattle.reg_op.specs.Contents.{Content}
use Rattle.reg_engine.specs.declared.fault.CliFault.{CliFault}
use Rattle.reg_engine.specs.Store.{Admission, AsLoaded, Screened, Admits, Bars}
use Rattle.reg_desk.specs.declared.import.fault.ImportFault.{ImportFault}
use Rattle.reg_desk.specs.declared.import.fault.ImportFault.TheVariants as import
use Rattle.reg_desk.specs.declared.import.fault.Unimported.{Unimported}
use Rattle.reg_desk.specs.declared.import.options.ImportOptions.{ImportOptions}
use Rattle.reg_desk.specs.ImportFiles.{GiveAll, AreUnread}
use Rattle.reg_desk.specs.Import.{IsPlainFault, IsPlain, IsUnmade, IsUnreadyIn}

pub plain_is : (Is : CliFault → Type 0) (u : Unimported) (f : CliFault) → u.fault ≡ import.Cli f → u.notes.items ≡ [] → Is f → IsPlain Is u
plain_is Is u f e n h = subst (λ k. IsPlainFault Is k u.notes.items) (sym e) (h, n)

pub weaker : (P Q : CliFault → Type 0) (k : ImportFault) (notes : List ℕ) → ((f : CliFault) → P f → Q f) → IsPlainFault P k notes → IsPlainFault Q k notes
weaker P Q (import.Cli f) notes h (p, n) = (h f p, n)
weaker P Q (import.Refused p place file) notes h never = absurd never

-- ---- why there is no result for the register that a store admits

module _ (o : ImportOptions) (first : ℕ) (x : Content) (old new : List SourceState) (u : Unimported) where
  pub unread_in : (a : Admission) → IsPlain (AreUnread first old new) u → IsUnreadyIn a o first x old new u
  unread_in AsLoaded h = inl h
  unread_in (Screened makes bars) h = inl h

  pub unmade_in : (a : Admission) (z : Content) (files : List (List ℕ)) → GiveAll old new files → Admits a x z → IsUnmade o first z files u → IsUnreadyIn a o first x old new u
  unmade_in AsLoaded z files gave is h = inr (files, gave, subst (λ (k : Content). IsUnmade o first k files u) is h)
  unmade_in (Screened makes bars) z files gave is h = inr (files, gave, inr (z, is, h))

  pub barred_in : (a : Admission) (files : List (List ℕ)) → GiveAll old new files → (f : CliFault) → u.fault ≡ import.Cli f → u.notes.items ≡ [] → Bars a x f → IsUnreadyIn a o first x old new u
  barred_in AsLoaded files gave f e n h = absurd h
  barred_in (Screened makes bars) files gave f e n h = inr (files, gave, inl (plain_is (bars x) u f e n h))
