-- The invariant after any steps, and what it says.
use Rattle.std.proofs.Common.{◌≡◌, ℕ, true, List, [], ◌∷◌, Option, Some, None, Result, Ok, Err, suc, refl, sym, ap, ◌∙◌, subst}
use Rattle.std.specs.List.{slice_get}
use Rattle.reg_op.specs.Set as set
use Rattle.reg_op.specs.Set.{contains}
use Rattle.reg_op.specs.Ids.{Id}
use Rattle.reg_op.specs.Operations.{Op, Ops}
use Rattle.reg_op.specs.Contents.{Content, state, joined}
use Rattle.reg_op.specs.Lists.{has}
use Rattle.reg_journal.specs.Journals.{Copy, World, both, base, keeps, takes, takes_at, joins_at, IsWithin}
use Rattle.reg_journal.specs.Journals as worlds
use Rattle.reg_journal.proofs.JournalLemmas.{Invariant, IsCopy, copy_at, copies_join}
use Rattle.reg_writers.specs.Works.{Command, Work}
use Rattle.reg_writers.specs.OfficeDesk.{Stage, Begins, HasLock, HasFile, HasRead, HasNoted, HasReplaced, HasPrinted, Ended, Desk, start, Step, Locks, Opens, Reads, Notes, Replaces, Prints, Stops, Puts, Takes, Joins, given, is_locking, puts, in_world, happens, after}
use Rattle.reg_writers.specs.Worlds.{IsAmong, file_read, register_read, work_of}
use Rattle.reg_writers.proofs.StageLemmas.{at_each_path}
use Rattle.reg_writers.proofs.OfficeStepLemmas.{Fits, IsReached, Holds, Carries, Next, stay, fits_still, given_there, in_new, locks_next, opens_next, reads_next, replaces_next, prints_next, stops_next}
use Rattle.reg_writers.proofs.NotedLemmas.{reached, invariant, notes_next}

-- ---- what others do

-- no office file changes, and each register that was in a file still was
pub record Adds (w later : World) : Type 0 where
  pub files : later.files ≡ w.files
  pub among : (c : Copy) → IsAmong c w → IsAmong c later

same_world : (w : World) → Adds w w
same_world w = record { files = refl; among = λ c m. m }

keeps_adds : (w : World) (s : Ops) (r : Result Content Id) → Adds w (keeps w s r)
keeps_adds w s (Ok y) = record { files = refl; among = λ c m. (suc m.0, m.1) }
keeps_adds w s (Err id) = same_world w

takes_adds : (w : World) (i : List ℕ) (c d : Copy) (r : Result Content Id) → Adds w (takes w i c d r)
takes_adds w i c d (Ok y) = keeps_adds w (set.union (both c (w.files i)) d.reached) (joined y d.content)
takes_adds w i c d (Err id) = same_world w

takes_at_adds : (w : World) (i : List ℕ) (r s : Option Copy) → Adds w (takes_at w i r s)
takes_at_adds w i None s = same_world w
takes_at_adds w i (Some c) None = same_world w
takes_at_adds w i (Some c) (Some d) = takes_adds w i c d (base w i c)

joins_at_adds : (w : World) (r s : Option Copy) → Adds w (joins_at w r s)
joins_at_adds w None s = same_world w
joins_at_adds w (Some c) None = same_world w
joins_at_adds w (Some c) (Some d) = keeps_adds w (both c d) (joined c.content d.content)

in_world_next : (cs : ℕ → Command) (d : Desk) → Holds cs d → (w : World) → IsReached w → Adds d.world w → Next cs d (in_world d w)
in_world_next cs d h w led adds =
    let grows : (i : List ℕ) → IsWithin (d.world.files i).reached (w.files i).reached =
    λ i o m. subst (λ (files : List ℕ → Copy). contains (files i).reached o ≡ true) (sym adds.files) m
    in record {
      holds = record {
        led = led;
        stands = λ p. adds.among (d.stands p) (h.stands p);
        fits = λ j. fits_still cs d.lock d.lock d.world w j (d.stage j) (λ e. (e, ap (λ (files : List ℕ → Copy). files (cs j).office) adds.files)) (grows (cs j).office) adds.among (h.fits j);
        held = h.held;
        once = h.once;
      };
      grows = grows;
      carries = λ k s m c. c;
    }

puts_next : (cs : ℕ → Command) (d : Desk) → Holds cs d → (p place : ℕ) (r : Option Copy) → slice_get d.world.copies place ≡ r → Next cs d (puts d p r)
puts_next cs d h p place None at = stay cs d h
puts_next cs d h p place (Some c) at = record {
  holds = record {
    led = h.led;
    stands = at_each_path (λ q b. IsAmong b d.world) d.stands p c (place, at) h.stands;
    fits = h.fits;
    held = h.held;
    once = h.once;
  };
  grows = λ i o m. m;
  carries = λ k s m c. c;
}

-- ---- any steps

pub happens_next : (cs : ℕ → Command) (d : Desk) → Holds cs d → (s : Step) → Next cs d (happens cs d s)
happens_next cs d h (Locks k) = locks_next cs d h k (d.stage k) (d.lock (cs k).office) refl refl
happens_next cs d h (Opens k) = opens_next cs d h k (d.stage k) refl
happens_next cs d h (Reads k p) = reads_next cs d h k p (d.stage k) refl
happens_next cs d h (Notes k) = notes_next cs d h k (d.stage k) refl
happens_next cs d h (Replaces k p) = replaces_next cs d h k p (d.stage k) refl
happens_next cs d h (Prints k) = prints_next cs d h k (d.stage k) refl
happens_next cs d h (Stops k) = stops_next cs d h k (d.stage k) refl
happens_next cs d h (Puts p place) = puts_next cs d h p place (slice_get d.world.copies place) refl
happens_next cs d h (Takes i place other) =
    in_world_next cs d h (worlds.happens d.world (worlds.Takes i place other)) (reached d.world (worlds.Takes i place other) h.led)
    (takes_at_adds d.world i (slice_get d.world.copies place) (slice_get d.world.copies other))
happens_next cs d h (Joins place other) =
    in_world_next cs d h (worlds.happens d.world (worlds.Joins place other)) (reached d.world (worlds.Joins place other) h.led)
    (joins_at_adds d.world (slice_get d.world.copies place) (slice_get d.world.copies other))

pub after_next : (cs : ℕ → Command) (ss : List Step) (d : Desk) → Holds cs d → Next cs d (after cs ss d)
after_next cs [] d h = stay cs d h
after_next cs (s ∷ ss) d h =
    let first = happens_next cs d h s in
    let rest = after_next cs ss (happens cs d s) first.holds in
    record {
      holds = rest.holds;
      grows = λ i o m. rest.grows i o (first.grows i o m);
      carries = λ k t within c. rest.carries k t (λ o m. first.grows (cs k).office o (within o m)) (first.carries k t within c);
    }

start_holds : (cs : ℕ → Command) → Holds cs start
start_holds cs = record {
  led = ([], refl);
  stands = λ p. (0, refl);
  fits = λ k. tt;
  held = λ i j e. absurd cc;
  once = λ j k o p ho. absurd cc;
}

pub always : (cs : ℕ → Command) (ss : List Step) → Holds cs (after cs ss start)
always cs ss = (after_next cs ss start (start_holds cs)).holds

-- ---- what the invariant says of a stage

pub is_read : (cs : ℕ → Command) (lock : List ℕ → Option ℕ) (w : World) (k : ℕ) (s : Stage) (c : Copy) → Fits cs lock w k s → register_read s ≡ Some c → IsAmong c w
is_read cs lock w k Begins c fit e = absurd cc
is_read cs lock w k HasLock c fit e = absurd cc
is_read cs lock w k (HasFile f) c fit e = absurd cc
is_read cs lock w k (HasRead f b) c fit e = let same : b ≡ c = cc in subst (λ a. IsAmong a w) same fit.2
is_read cs lock w k (HasNoted v) c fit e = absurd cc
is_read cs lock w k (HasReplaced v) c fit e = absurd cc
is_read cs lock w k (HasPrinted os) c fit e = absurd cc
is_read cs lock w k (Ended os) c fit e = absurd cc

pub is_made : (cs : ℕ → Command) (lock : List ℕ → Option ℕ) (w : World) (k : ℕ) (s : Stage) (v : Work) → Fits cs lock w k s → work_of s ≡ Some v → IsAmong v.register w
is_made cs lock w k Begins v fit e = absurd cc
is_made cs lock w k HasLock v fit e = absurd cc
is_made cs lock w k (HasFile f) v fit e = absurd cc
is_made cs lock w k (HasRead f b) v fit e = absurd cc
is_made cs lock w k (HasNoted u) v fit e = let same : u ≡ v = cc in subst (λ (a : Work). IsAmong a.register w) same fit.1
is_made cs lock w k (HasReplaced u) v fit e = let same : u ≡ v = cc in subst (λ (a : Work). IsAmong a.register w) same fit.1
is_made cs lock w k (HasPrinted os) v fit e = absurd cc
is_made cs lock w k (Ended os) v fit e = absurd cc

pub is_current : (cs : ℕ → Command) (lock : List ℕ → Option ℕ) (w : World) (k : ℕ) (s : Stage) (f : Copy) → Fits cs lock w k s → file_read s ≡ Some f → f ≡ w.files (cs k).office
is_current cs lock w k Begins f fit e = absurd cc
is_current cs lock w k HasLock f fit e = absurd cc
is_current cs lock w k (HasFile g) f fit e = let same : g ≡ f = cc in sym same ∙ fit.1
is_current cs lock w k (HasRead g b) f fit e = let same : g ≡ f = cc in sym same ∙ fit.1
is_current cs lock w k (HasNoted u) f fit e = absurd cc
is_current cs lock w k (HasReplaced u) f fit e = absurd cc
is_current cs lock w k (HasPrinted os) f fit e = absurd cc
is_current cs lock w k (Ended os) f fit e = absurd cc

-- a command that has made nothing carries nothing; one that has made a register carries what the register has
pub carries_nothing : (t : Ops) (s : Stage) → work_of s ≡ None → Carries t s
carries_nothing t Begins e = tt
carries_nothing t HasLock e = tt
carries_nothing t (HasFile f) e = tt
carries_nothing t (HasRead f c) e = tt
carries_nothing t (HasNoted v) e = absurd cc
carries_nothing t (HasReplaced v) e = absurd cc
carries_nothing t (HasPrinted os) e = tt
carries_nothing t (Ended os) e = tt

pub carried : (t : Ops) (s : Stage) (v : Work) → work_of s ≡ Some v → Carries t s → IsWithin t v.register.reached
carried t Begins v e c = absurd cc
carried t HasLock v e c = absurd cc
carried t (HasFile f) v e c = absurd cc
carried t (HasRead f b) v e c = absurd cc
carried t (HasNoted u) v e c = let same : u ≡ v = cc in subst (λ (a : Work). IsWithin t a.register.reached) same c
carried t (HasReplaced u) v e c = let same : u ≡ v = cc in subst (λ (a : Work). IsWithin t a.register.reached) same c
carried t (HasPrinted os) v e c = absurd cc
carried t (Ended os) v e c = absurd cc

has_lock : (cs : ℕ → Command) (lock : List ℕ → Option ℕ) (w : World) (k : ℕ) (s : Stage) → Fits cs lock w k s → is_locking s ≡ true → lock (cs k).office ≡ Some k
has_lock cs lock w k Begins fit e = absurd cc
has_lock cs lock w k HasLock fit e = fit
has_lock cs lock w k (HasFile f) fit e = fit.0
has_lock cs lock w k (HasRead f c) fit e = fit.0
has_lock cs lock w k (HasNoted v) fit e = absurd cc
has_lock cs lock w k (HasReplaced v) fit e = absurd cc
has_lock cs lock w k (HasPrinted os) fit e = absurd cc
has_lock cs lock w k (Ended os) fit e = absurd cc

pub are_alone : (cs : ℕ → Command) (d : Desk) → Holds cs d → (j k : ℕ) → (cs j).office ≡ (cs k).office → is_locking (d.stage j) ≡ true → is_locking (d.stage k) ≡ true → j ≡ k
are_alone cs d h j k one lj lk =
    let mine : d.lock (cs k).office ≡ Some j = subst (λ i. d.lock i ≡ Some j) one (has_lock cs d.lock d.world j (d.stage j) (h.fits j) lj) in
    let other : d.lock (cs k).office ≡ Some k = has_lock cs d.lock d.world k (d.stage k) (h.fits k) lk in
    let same : ◌≡◌ {A = Option ℕ} (Some j) (Some k) = sym mine ∙ other in
    cc

-- ---- what it says of registers

module _ (cs : ℕ → Command) (d : Desk) (h : Holds cs d) where
  abbrev pub inv : Invariant d.world
  inv = invariant d.world h.led

  pub is_copy : (c : Copy) → IsAmong c d.world → IsCopy inv.all c
  is_copy c m = copy_at inv.all d.world.copies m.0 c inv.copies m.1

  pub two_join : (b c : Copy) → IsAmong b d.world → IsAmong c d.world → joined b.content c.content ≡ Ok (state (both b c))
  two_join b c mb mc = copies_join inv.all b c inv.one_body (is_copy b mb) (is_copy c mc)

  -- two operations with one id, each in an office file, are one operation
  pub same_op : (j k : ℕ) (o p : Op) → has (given (d.stage j)) o ≡ true → has (given (d.stage k)) p ≡ true → o.id ≡ p.id → o ≡ p
  same_op j k o p ho hp =
      inv.one_body o p
      ((inv.files (cs j).office).within o (given_there cs d.lock d.world j (d.stage j) (h.fits j) o (in_new (given (d.stage j)) o ho)))
      ((inv.files (cs k).office).within p (given_there cs d.lock d.world k (d.stage k) (h.fits k) p (in_new (given (d.stage k)) p hp)))
