-- A command that nobody disturbs.
use Rattle.std.proofs.Common.{◌≡◌, ℕ, false, List, [], ◌∷◌, Option, Some, None, Ok, Err, refl, sym, ap, ◌∙◌}
use Rattle.std.proofs.lemmas.Bool.{true≢false}
use Rattle.reg_op.specs.Set as set
use Rattle.reg_op.specs.Operations.{Op, Ops}
use Rattle.reg_op.specs.declared.operation.OpBody.{OpBody as Body}
use Rattle.reg_op.specs.Contents.{state}
use Rattle.reg_office.specs.declared.fault.OfficeFault.{OfficeFault}
use Rattle.reg_office.specs.Making.{made}
use Rattle.reg_journal.specs.Journals.{Copy, new_ops, both, IsWithin}
use Rattle.reg_journal.proofs.JournalLemmas.{Invariant, IsCopy, base_is, file_join, new_join, all_is_there, old_is_there, own_file}
use Rattle.reg_writers.specs.Works.{Command, Work, worked, works, works_on, work}
use Rattle.reg_writers.specs.OfficeDesk.{Begins, HasLock, HasFile, HasRead, HasNoted, HasReplaced, HasPrinted, Ended, Desk, Locks, Opens, Reads, Notes, Replaces, Prints, at_stage, at_path, is_locking, comes_to, locking, locks, opens, reads, noted, notes, replaces, prints, happens, after}
use Rattle.reg_writers.specs.Worlds.{all_steps}
use Rattle.reg_writers.proofs.StageLemmas.{own_stage, own_path}
use Rattle.reg_writers.proofs.OfficeStepLemmas.{Holds}
use Rattle.reg_writers.proofs.NotedLemmas.{invariant}
use Rattle.reg_writers.proofs.DeskLemmas.{is_copy}

module _ (cs : ℕ → Command) (d : Desk) (h : Holds cs d) (k p q : ℕ) (idle : (j : ℕ) → (cs j).office ≡ (cs k).office → is_locking (d.stage j) ≡ false) (at : d.stage k ≡ Begins) where
  abbrev office : List ℕ
  office = (cs k).office

  abbrev f : Copy
  f = d.world.files office

  abbrev c : Copy
  c = d.stands p

  free_by : (r : Option ℕ) → d.lock office ≡ r → d.lock office ≡ None
  free_by None e = e
  free_by (Some j) e = let held = h.held office j e in absurd (true≢false (sym held.0 ∙ idle j held.1))

  free : d.lock office ≡ None
  free = free_by (d.lock office) refl

  abbrev locked : Desk
  locked = locking d office (Some k) k HasLock

  abbrev opened : Desk
  opened = comes_to locked k (HasFile f)

  abbrev has_read : Desk
  has_read = comes_to opened k (HasRead f c)

  lock_step : happens cs d (Locks k) ≡ locked
  lock_step x = locks d office k (at x) (free x)

  open_step : happens cs locked (Opens k) ≡ opened
  open_step = ap (opens locked k f) (own_stage d.stage k HasLock)

  read_step : happens cs opened (Reads k p) ≡ has_read
  read_step = ap (reads opened k c) (own_stage locked.stage k (HasFile f))

  three_steps : after cs (all_steps k p q) d ≡ after cs (Notes k ∷ Replaces k q ∷ Prints k ∷ []) has_read
  three_steps =
      ap (after cs (Opens k ∷ Reads k p ∷ Notes k ∷ Replaces k q ∷ Prints k ∷ [])) lock_step
      ∙ ap (after cs (Reads k p ∷ Notes k ∷ Replaces k q ∷ Prints k ∷ [])) open_step
      ∙ ap (after cs (Notes k ∷ Replaces k q ∷ Prints k ∷ [])) read_step

  note_step : (r : Option Work) → work (cs k) f c ≡ r → happens cs has_read (Notes k) ≡ noted has_read office k r
  note_step r e = ap (notes has_read (cs k) k) (own_stage opened.stage k (HasRead f c)) ∙ ap (noted has_read office k) e

  -- ---- it makes this

  module _ (v : Work) (e : work (cs k) f c ≡ Some v) where
    abbrev has_noted : Desk
    has_noted = noted has_read office k (Some v)

    abbrev has_replaced : Desk
    has_replaced = record { world = has_noted.world; lock = has_noted.lock; stands = at_path d.stands q v.register; stage = at_stage has_noted.stage k (HasReplaced v) }

    abbrev pub done : Desk
    done = comes_to has_replaced k (HasPrinted v.ops)

    replace_step : happens cs has_noted (Replaces k q) ≡ has_replaced
    replace_step = ap (replaces has_noted k q) (own_stage has_read.stage k (HasNoted v))

    print_step : happens cs has_replaced (Prints k) ≡ done
    print_step = ap (prints has_replaced k) (own_stage has_noted.stage k (HasReplaced v))

    pub is_done : after cs (all_steps k p q) d ≡ done
    is_done =
        three_steps
        ∙ ap (after cs (Replaces k q ∷ Prints k ∷ [])) (note_step (Some v) e)
        ∙ ap (after cs (Prints k ∷ [])) replace_step
        ∙ print_step

    pub done_stage : done.stage k ≡ HasPrinted v.ops
    done_stage = own_stage has_replaced.stage k (HasPrinted v.ops)

    pub done_stands : done.stands q ≡ v.register
    done_stands = own_path d.stands q v.register

    pub done_file : done.world.files office ≡ v.file
    done_file = own_file d.world.files office v.file

  -- ---- it is refused

  module _ (e : work (cs k) f c ≡ None) where
    abbrev pub ended : Desk
    ended = locking has_read office None k (Ended [])

    pub ended_stage : ended.stage k ≡ Ended []
    ended_stage = own_stage has_read.stage k (Ended [])

    pub is_ended : after cs (all_steps k p q) d ≡ ended
    is_ended =
        three_steps
        ∙ ap (after cs (Replaces k q ∷ Prints k ∷ [])) (note_step None e)
        ∙ ap (after cs (Prints k ∷ [])) (ap (replaces ended k q) ended_stage)
        ∙ ap (prints ended k) ended_stage

  -- ---- what it makes

  abbrev effects : List Body
  effects = (cs k).effects f.content c.content

  abbrev inv : Invariant d.world
  inv = invariant d.world h.led

  copy : IsCopy inv.all c
  copy = is_copy cs d h c (h.stands p)

  on_both : work (cs k) f c ≡ works f c (state (both c f)) (made (state (both c f)) office (cs k).note effects)
  on_both = ap (works_on (cs k) f c) (base_is d.world inv office c copy)

  pub is_refused : (fault : OfficeFault) → made (state (both c f)) office (cs k).note effects ≡ Err fault → work (cs k) f c ≡ None
  is_refused fault e = on_both ∙ ap (works f c (state (both c f))) e

  module _ (os : List Op) (e : made (state (both c f)) office (cs k).note effects ≡ Ok os) where
    abbrev new : Ops
    new = new_ops os

    abbrev pub all_made : Work
    all_made = record {
      ops = os;
      file = record { content = state (set.union f.reached new); reached = set.union f.reached new };
      register = record { content = state (set.union (both c f) new); reached = set.union (both c f) new };
    }

    pub makes : work (cs k) f c ≡ Some all_made
    makes =
        on_both ∙ ap (works f c (state (both c f))) e
        ∙ (λ x. worked f c os
        (file_join d.world inv office (cs k).note effects c (state (both c f)) os copy refl e x)
        (new_join d.world inv office (cs k).note effects c (state (both c f)) os copy refl e x))

    pub has_all : IsWithin all_made.file.reached all_made.register.reached
    has_all = all_is_there d.world inv office (cs k).note effects c (state (both c f)) os copy refl e

    pub has_old : IsWithin c.reached all_made.register.reached
    has_old = old_is_there d.world inv office (cs k).note effects c (state (both c f)) os copy refl e
