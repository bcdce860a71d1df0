-- The effects on a shelf with an office file, from which x was restored.
use Rattle.std.proofs.Common.{◌≡◌, ◌⊎◌, ℕ, inl, inr, subst, ◌∙◌}
use Rattle.byte_out.specs.Place.{PlaceState}
use Rattle.reg_op.specs.Contents.{Content}
use Rattle.reg_journal.specs.Journal.{Journal}
use Rattle.reg_journal.specs.Adding.{left_by}
use Rattle.reg_engine.specs.declared.fault.CliFault.{CliFault}
use Rattle.reg_engine.specs.declared.fault.CliFault.TheVariants as cli
use Rattle.reg_engine.specs.Shelf.{Disks, Has, IsSure, IsUnready, IsUnput}
use Rattle.reg_engine.proofs.ShelfLemmas.{then_has, then_stays, then_keeps, then_unready, then_unput}
use Rattle.reg_guard.specs.Stores.{guarded_shelf}
use Rattle.reg_guard.specs.Keeping.{Notes, IsUnnotedBy, KeepsAfter, IsUnkeptAfter}

module _ {D : Type 0} (f g : Journal) (stood : ℕ) (d : Disks D) (x y : Content) (old mid new : D) (office still noted : PlaceState)
    (tells : d.tells mid ≡ d.tells old) (is : g ≡ left_by f x y) (came : (guarded_shelf f stood d old office mid still).came x) where
  kept_after : KeepsAfter d f g x y mid new still noted → KeepsAfter d f g x y old new office noted
  kept_after k = record {
    noted = k.noted;
    notes = subst (λ (o : PlaceState). Notes f g o k.noted) came.2 k.notes;
    keeps = then_keeps d old mid new tells came.0.1 x y k.keeps;
    tells = k.tells;
  }

  pub on_left_by : ((was : Content) → Has d mid was → IsSure d mid → KeepsAfter d f g was y mid new still noted) → (guarded_shelf f stood d old office new noted).left x y
  on_left_by h = (
    came.0.0,
    subst (λ (j : Journal). KeepsAfter d f j x y old new office noted) is (kept_after (h x (then_has d old mid new tells came.0.1 x came.0.0) came.0.2)),
  )

  by_store : (t : CliFault) → (IsUnready d y mid new t × (noted ≡ still)) ⊎ (IsUnput d x y mid new t × Notes f g still noted)
      → (IsUnready d y old new t × (noted ≡ office)) ⊎ (IsUnput d x y old new t × Notes f g office noted)
  by_store t (inl h) = inl (then_unready d old mid new tells came.0.1 y t h.0, h.1 ∙ came.2)
  by_store t (inr h) = inr (then_unput d old mid new tells came.0.1 x y t h.0, subst (λ (o : PlaceState). Notes f g o noted) came.2 h.1)

  unkept_by : (t : CliFault) → IsUnkeptAfter d f g x y mid new still noted t → IsUnkeptAfter d f g x y old new office noted t
  unkept_by (cli.Refused r) h = by_store (cli.Refused r) h
  unkept_by (cli.File k i) h = by_store (cli.File k i) h
  unkept_by (cli.Out i) h = by_store (cli.Out i) h
  unkept_by cli.Memory h = by_store cli.Memory h
  unkept_by (cli.Shelf p) h = by_store (cli.Shelf p) h
  unkept_by (cli.Office t) h = (then_stays d old mid new tells came.0.1 h.0, subst (λ (o : PlaceState). IsUnnotedBy f g o noted t) came.2 h.1)

  pub on_unleft_by : (t : CliFault) → ((was : Content) → Has d mid was → IsSure d mid → IsUnkeptAfter d f g was y mid new still noted t)
      → (guarded_shelf f stood d old office new noted).unleft x y t
  on_unleft_by t h = (
    came.0.0,
    subst (λ (j : Journal). IsUnkeptAfter d f j x y old new office noted t) is (unkept_by t (h x (then_has d old mid new tells came.0.1 x came.0.0) came.0.2)),
  )
