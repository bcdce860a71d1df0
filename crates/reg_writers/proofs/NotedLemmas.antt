-- A command replaces the office file: at this moment it makes its operations in the world.
use Rattle.std.proofs.Common.{◌≡◌, ◌≢◌, ℕ, true, List, [], ◌∷◌, ◌++◌, Option, Some, None, suc, refl, sym, ap, ◌∙◌, subst}
use Rattle.reg_op.specs.Set.{contains}
use Rattle.reg_op.specs.Operations.{Op, Ops}
use Rattle.reg_op.specs.Contents.{state, joined}
use Rattle.reg_op.specs.Lists.{has}
use Rattle.reg_op.proofs.ContentLemmas.{union_left, union_right}
use Rattle.reg_journal.specs.Journals.{Copy, World, Event, Makes, new_ops, both, base, IsWithin}
use Rattle.reg_journal.specs.Journals as worlds
use Rattle.reg_journal.proofs.JournalLemmas.{Invariant, IsCopy, always as always_world, copy_at, same_ok, base_is, new_id, own_file}
use Rattle.reg_writers.specs.Works.{Command, Work, work}
use Rattle.reg_writers.specs.OfficeDesk.{Stage, Begins, HasLock, HasFile, HasRead, HasNoted, HasReplaced, HasPrinted, Ended, Desk, at_lock, given, noted, notes}
use Rattle.reg_writers.specs.Worlds.{IsAmong}
use Rattle.reg_writers.proofs.WorkLemmas.{with_work, happens_is, IsWork, work_is}
use Rattle.reg_writers.proofs.StageLemmas.{at_each_office}
use Rattle.reg_writers.proofs.OfficeStepLemmas.{Fits, IsReached, Holds, Next, stay, given_there, in_new, stepped, held_moved, other_locks, other_files, another, fits_at, freed}

after_last : (es : List Event) (e : Event) (w : World) → worlds.after (es ++ e ∷ []) w ≡ worlds.happens (worlds.after es w) e
after_last [] e w = refl
after_last (f ∷ es) e w = after_last es e (worlds.happens w f)

-- one more event
pub reached : (w : World) (e : Event) → IsReached w → IsReached (worlds.happens w e)
reached w e led = (led.0 ++ e ∷ [], ap (λ v. worlds.happens v e) led.1 ∙ sym (after_last led.0 e worlds.start))

pub invariant : (w : World) → IsReached w → Invariant w
invariant w led = subst Invariant (sym led.1) (always_world led.0)

module _ (cs : ℕ → Command) (d : Desk) (h : Holds cs d) (k : ℕ) (f c : Copy) (v : Work) (at : d.stage k ≡ HasRead f c) (e : work (cs k) f c ≡ Some v) where
  abbrev office : List ℕ
  office = (cs k).office

  abbrev later : World
  later = with_work d.world office (Some v)

  fit : Fits cs d.lock d.world k (HasRead f c)
  fit = fits_at cs d h k (HasRead f c) at

  is : IsWork (cs k) f c v
  is = work_is (cs k) f c v e

  inv : Invariant d.world
  inv = invariant d.world h.led

  copy : IsCopy inv.all c
  copy = copy_at inv.all d.world.copies fit.2.0 c inv.copies fit.2.1

  led : IsReached later
  led =
      let same : work (cs k) (d.world.files office) c ≡ Some v = subst (λ g. work (cs k) g c ≡ Some v) fit.1 e in
      subst IsReached (happens_is d.world (cs k) c fit.2.0 fit.2.1 ∙ ap (with_work d.world office) same)
      (reached d.world (Makes office fit.2.0 ((cs k).effects (d.world.files office).content c.content) (cs k).note true) h.led)

  base_now : is.base ≡ state (both c (d.world.files office))
  base_now =
      same_ok (base d.world office c) (state (both c (d.world.files office))) is.base (base_is d.world inv office c copy)
      (ap (λ (g : Copy). joined c.content g.content) (sym fit.1) ∙ is.are_joined)

  new : (j : ℕ) → j ≢ k → (o p : Op) → has (given (HasNoted v)) o ≡ true → has (given (d.stage j)) p ≡ true → o.id ≡ p.id → ⊥
  new j ne o p ho hp same =
      let there = given_there cs d.lock d.world j (d.stage j) (h.fits j) p (in_new (given (d.stage j)) p hp) in
      new_id d.world inv office (cs k).note ((cs k).effects f.content c.content) c is.base v.ops copy base_now is.are_made
      o p ho ((inv.files (cs j).office).within p there) (sym same)

  file_grows : (o : Op) → contains (d.world.files office).reached o ≡ true → contains v.file.reached o ≡ true
  file_grows o m =
      subst (λ s. contains s o ≡ true) (sym is.file)
      (union_left f.reached (new_ops v.ops) o (subst (λ (g : Copy). contains g.reached o ≡ true) (sym fit.1) m))

  grows : (i : List ℕ) → IsWithin (d.world.files i).reached (later.files i).reached
  grows = at_each_office (λ r (x : Copy). IsWithin (d.world.files r).reached x.reached) d.world.files office v.file file_grows (λ r ne o m. m)

  among : (b : Copy) → IsAmong b d.world → IsAmong b later
  among b m = (suc m.0, m.1)

  has_given : IsWithin (new_ops v.ops) (later.files office).reached
  has_given o m =
      subst (λ (g : Copy). contains g.reached o ≡ true) (sym (own_file d.world.files office v.file))
      (subst (λ s. contains s o ≡ true) (sym is.file) (union_right f.reached (new_ops v.ops) o m))

  -- the register has what was in the office file
  carries : (t : Ops) → IsWithin t (d.world.files office).reached → IsWithin t v.register.reached
  carries t within o m =
      subst (λ s. contains s o ≡ true) (sym is.register)
      (union_left (both c f) (new_ops v.ops) o (union_right c.reached f.reached o (subst (λ (g : Copy). contains g.reached o ≡ true) (sym fit.1) (within o m))))

  pub noted_next : Next cs d (noted d office k (Some v))
  noted_next =
      stepped cs d h k (HasNoted v) (at_lock d.lock office None) later d.stands led (λ p. among (d.stands p) (h.stands p)) (has_given, (0, refl))
      (λ j ne locked. (other_locks cs d h k None j (another cs d h k fit.0 j ne) locked, other_files cs d h k v.file j (another cs d h k fit.0 j ne) locked))
      grows among (held_moved cs d h k (HasNoted v) None (λ j e. absurd cc)) new (λ t within old. carries t within)

module _ (cs : ℕ → Command) (d : Desk) (h : Holds cs d) (k : ℕ) where
  work_next : (f c : Copy) (r : Option Work) → d.stage k ≡ HasRead f c → work (cs k) f c ≡ r → Next cs d (noted d (cs k).office k r)
  work_next f c None at e = freed cs d h k (fits_at cs d h k (HasRead f c) at).0
  work_next f c (Some v) at e = noted_next cs d h k f c v at e

  pub notes_next : (s : Stage) → d.stage k ≡ s → Next cs d (notes d (cs k) k s)
  notes_next Begins at = stay cs d h
  notes_next HasLock at = stay cs d h
  notes_next (HasFile f) at = stay cs d h
  notes_next (HasRead f c) at = work_next f c (work (cs k) f c) at refl
  notes_next (HasNoted v) at = stay cs d h
  notes_next (HasReplaced v) at = stay cs d h
  notes_next (HasPrinted os) at = stay cs d h
  notes_next (Ended os) at = stay cs d h
