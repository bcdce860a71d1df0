-- The invariant of the commands, which each step preserves.
use Rattle.std.proofs.Common.{◌≡◌, ◌≢◌, ℕ, true, false, List, [], Option, Some, None, refl, sym, ap, ◌∙◌, subst}
use Rattle.std.proofs.lemmas.Bool.{true≢false}
use Rattle.reg_op.specs.Set as set
use Rattle.reg_op.specs.Set.{contains}
use Rattle.reg_op.specs.Operations.{Op, Ops}
use Rattle.reg_op.specs.Lists.{has}
use Rattle.reg_op.proofs.OpLemmas.{op_total}
use Rattle.reg_journal.specs.Journals.{Copy, World, Event, at_office, new_ops, IsWithin}
use Rattle.reg_journal.specs.Journals as worlds
use Rattle.reg_writers.specs.Works.{Command}
use Rattle.reg_writers.specs.OfficeDesk.{Stage, Begins, HasLock, HasFile, HasRead, HasNoted, HasReplaced, HasPrinted, Ended, Desk, at_stage, at_lock, at_path, is_locking, given, comes_to, locking, locks, opens, reads, replaces, prints, stops}
use Rattle.reg_writers.specs.Worlds.{IsAmong}
use Rattle.reg_writers.proofs.StageLemmas.{at_each, at_each_path, at_each_office, own_stage, own_lock}

-- a command at a stage, with these locks and this world
abbrev pub Fits : (ℕ → Command) → (List ℕ → Option ℕ) → World → ℕ → Stage → Type 0
Fits cs lock w k Begins = Unit {0}
Fits cs lock w k HasLock = lock (cs k).office ≡ Some k
Fits cs lock w k (HasFile f) = (lock (cs k).office ≡ Some k) × (f ≡ w.files (cs k).office)
Fits cs lock w k (HasRead f c) = (lock (cs k).office ≡ Some k) × (f ≡ w.files (cs k).office) × IsAmong c w
Fits cs lock w k (HasNoted v) = IsWithin (new_ops v.ops) (w.files (cs k).office).reached × IsAmong v.register w
Fits cs lock w k (HasReplaced v) = IsWithin (new_ops v.ops) (w.files (cs k).office).reached × IsAmong v.register w
Fits cs lock w k (HasPrinted os) = IsWithin (new_ops os) (w.files (cs k).office).reached
Fits cs lock w k (Ended os) = IsWithin (new_ops os) (w.files (cs k).office).reached

abbrev pub IsReached : World → Type 0
IsReached w = (events : List Event) × (w ≡ worlds.after events worlds.start)

pub record Holds (cs : ℕ → Command) (d : Desk) : Type 0 where
  pub led : IsReached d.world
  pub stands : (p : ℕ) → IsAmong (d.stands p) d.world
  pub fits : (k : ℕ) → Fits cs d.lock d.world k (d.stage k)
  pub held : (i : List ℕ) (j : ℕ) → d.lock i ≡ Some j → (is_locking (d.stage j) ≡ true) × ((cs j).office ≡ i)
  pub once : (j k : ℕ) (o p : Op) → has (given (d.stage j)) o ≡ true → has (given (d.stage k)) p ≡ true → o.id ≡ p.id → j ≡ k

-- the register that a command has made has these operations
abbrev pub Carries : Ops → Stage → Type 0
Carries s (HasNoted v) = IsWithin s v.register.reached
Carries s (HasReplaced v) = IsWithin s v.register.reached
Carries s t = Unit {0}

-- a later desk: what was in the office file is in each register that a command makes from then on
pub record Next (cs : ℕ → Command) (d e : Desk) : Type 0 where
  pub holds : Holds cs e
  pub grows : (i : List ℕ) → IsWithin (d.world.files i).reached (e.world.files i).reached
  pub carries : (k : ℕ) (s : Ops) → IsWithin s (d.world.files (cs k).office).reached → Carries s (d.stage k) → Carries s (e.stage k)

pub stay : (cs : ℕ → Command) (d : Desk) → Holds cs d → Next cs d d
stay cs d h = record { holds = h; grows = λ i o m. m; carries = λ k s w c. c }

-- ---- commands at other stages

pub fits_still : (cs : ℕ → Command) (lock later_lock : List ℕ → Option ℕ) (w later : World) (j : ℕ) (s : Stage)
    → (lock (cs j).office ≡ Some j → (later_lock (cs j).office ≡ Some j) × (later.files (cs j).office ≡ w.files (cs j).office))
    → IsWithin (w.files (cs j).office).reached (later.files (cs j).office).reached
    → ((c : Copy) → IsAmong c w → IsAmong c later) → Fits cs lock w j s → Fits cs later_lock later j s
fits_still cs lock later_lock w later j Begins locked grows among fit = tt
fits_still cs lock later_lock w later j HasLock locked grows among fit = (locked fit).0
fits_still cs lock later_lock w later j (HasFile f) locked grows among fit = ((locked fit.0).0, fit.1 ∙ sym (locked fit.0).1)
fits_still cs lock later_lock w later j (HasRead f c) locked grows among fit = ((locked fit.0).0, fit.1 ∙ sym (locked fit.0).1, among c fit.2)
fits_still cs lock later_lock w later j (HasNoted v) locked grows among fit = ((λ o m. grows o (fit.0 o m)), among v.register fit.1)
fits_still cs lock later_lock w later j (HasReplaced v) locked grows among fit = ((λ o m. grows o (fit.0 o m)), among v.register fit.1)
fits_still cs lock later_lock w later j (HasPrinted os) locked grows among fit = λ o m. grows o (fit o m)
fits_still cs lock later_lock w later j (Ended os) locked grows among fit = λ o m. grows o (fit o m)

pub in_new : (os : List Op) (o : Op) → has os o ≡ true → contains (new_ops os) o ≡ true
in_new os o m = set.contains-from_list op_total os o ∙ m

-- what a command has given is in its office's file
pub given_there : (cs : ℕ → Command) (lock : List ℕ → Option ℕ) (w : World) (k : ℕ) (s : Stage) → Fits cs lock w k s
    → (o : Op) → contains (new_ops (given s)) o ≡ true → contains (w.files (cs k).office).reached o ≡ true
given_there cs lock w k Begins fit o m = absurd (true≢false (sym m ∙ set.contains-from_list op_total [] o))
given_there cs lock w k HasLock fit o m = absurd (true≢false (sym m ∙ set.contains-from_list op_total [] o))
given_there cs lock w k (HasFile f) fit o m = absurd (true≢false (sym m ∙ set.contains-from_list op_total [] o))
given_there cs lock w k (HasRead f c) fit o m = absurd (true≢false (sym m ∙ set.contains-from_list op_total [] o))
given_there cs lock w k (HasNoted v) fit o m = fit.0 o m
given_there cs lock w k (HasReplaced v) fit o m = fit.0 o m
given_there cs lock w k (HasPrinted os) fit o m = fit o m
given_there cs lock w k (Ended os) fit o m = fit o m

none_given : (o : Op) → has [] o ≡ true → ⊥
none_given o m = cc

-- what a command gives is not what another one has given
abbrev IsNew : (ℕ → Stage) → ℕ → Stage → Type 0
IsNew stages k s = (j : ℕ) → j ≢ k → (o p : Op) → has (given s) o ≡ true → has (given (stages j)) p ≡ true → o.id ≡ p.id → ⊥

once_on : (stages : ℕ → Stage) (k : ℕ) (s : Stage)
    → ((j l : ℕ) (o p : Op) → has (given (stages j)) o ≡ true → has (given (stages l)) p ≡ true → o.id ≡ p.id → j ≡ l) → IsNew stages k s
    → (j l : ℕ) (o p : Op) → has (given (at_stage stages k s j)) o ≡ true → has (given (at_stage stages k s l)) p ≡ true → o.id ≡ p.id → j ≡ l
once_on stages k s old new j l o p =
    at_each (λ m t. has (given t) o ≡ true → has (given (at_stage stages k s l)) p ≡ true → o.id ≡ p.id → m ≡ l) stages k s
    (λ ho. at_each (λ n t. has (given t) p ≡ true → o.id ≡ p.id → k ≡ n) stages k s (λ hp same. refl) (λ n ne hp same. absurd (new n ne o p ho hp same)) l)
    (λ m ne ho. at_each (λ n t. has (given t) p ≡ true → o.id ≡ p.id → m ≡ n) stages k s (λ hp same. absurd (new m ne p o hp ho (sym same))) (λ n ne2 hp same. old m n o p ho hp same) l)
    j

-- ---- one command comes to another stage

module _ (cs : ℕ → Command) (d : Desk) (h : Holds cs d) (k : ℕ) where
  abbrev office : List ℕ
  office = (cs k).office

  abbrev AreHeld : (List ℕ → Option ℕ) → Stage → Type 0
  AreHeld lock s = (i : List ℕ) (j : ℕ) → lock i ≡ Some j → (is_locking (at_stage d.stage k s j) ≡ true) × ((cs j).office ≡ i)

  pub stepped : (s : Stage) (lock : List ℕ → Option ℕ) (w : World) (stands : ℕ → Copy) → IsReached w → ((p : ℕ) → IsAmong (stands p) w) → Fits cs lock w k s
      → ((j : ℕ) → j ≢ k → d.lock (cs j).office ≡ Some j → (lock (cs j).office ≡ Some j) × (w.files (cs j).office ≡ d.world.files (cs j).office))
      → ((i : List ℕ) → IsWithin (d.world.files i).reached (w.files i).reached) → ((c : Copy) → IsAmong c d.world → IsAmong c w)
      → AreHeld lock s → IsNew d.stage k s → ((t : Ops) → IsWithin t (d.world.files office).reached → Carries t (d.stage k) → Carries t s)
      → Next cs d (record { world = w; lock = lock; stands = stands; stage = at_stage d.stage k s })
  stepped s lock w stands led there fit locked grows among held new carries = record {
    holds = record {
      led = led;
      stands = there;
      fits = at_each (λ j t. Fits cs lock w j t) d.stage k s fit (λ j ne. fits_still cs d.lock lock d.world w j (d.stage j) (locked j ne) (grows (cs j).office) among (h.fits j));
      held = held;
      once = once_on d.stage k s h.once new;
    };
    grows = grows;
    carries = at_each (λ j t. (s : Ops) → IsWithin s (d.world.files (cs j).office).reached → Carries s (d.stage j) → Carries s t) d.stage k s carries (λ j ne s m c. c);
  }

  -- it gives nothing new
  not_new : (s : Stage) → ((o : Op) → has (given s) o ≡ true → has (given (d.stage k)) o ≡ true) → IsNew d.stage k s
  not_new s is j ne o p ho hp same = ne (sym (h.once k j o p (is o ho) hp same))

  -- no office file changes
  moved : (s : Stage) (lock : List ℕ → Option ℕ) (stands : ℕ → Copy) → ((p : ℕ) → IsAmong (stands p) d.world) → Fits cs lock d.world k s
      → ((j : ℕ) → j ≢ k → d.lock (cs j).office ≡ Some j → lock (cs j).office ≡ Some j)
      → AreHeld lock s → ((o : Op) → has (given s) o ≡ true → has (given (d.stage k)) o ≡ true)
      → ((t : Ops) → IsWithin t (d.world.files office).reached → Carries t (d.stage k) → Carries t s)
      → Next cs d (record { world = d.world; lock = lock; stands = stands; stage = at_stage d.stage k s })
  moved s lock stands there fit locked held is carries =
      stepped s lock d.world stands h.led there fit (λ j ne e. (locked j ne e, refl)) (λ i o m. m) (λ c m. m) held (not_new s is) carries

  held_same : (s : Stage) → (is_locking (d.stage k) ≡ true → is_locking s ≡ true) → AreHeld d.lock s
  held_same s on i j e =
      at_each (λ n t. d.lock i ≡ Some n → (is_locking t ≡ true) × ((cs n).office ≡ i)) d.stage k s
      (λ e. (on (h.held i k e).0, (h.held i k e).1)) (λ n ne e. h.held i n e) j e

  pub held_moved : (s : Stage) (holder : Option ℕ) → ((j : ℕ) → holder ≡ Some j → (is_locking (at_stage d.stage k s j) ≡ true) × ((cs j).office ≡ office)) → AreHeld (at_lock d.lock office holder) s
  held_moved s holder here i j =
      at_each_office (λ r x. x ≡ Some j → (is_locking (at_stage d.stage k s j) ≡ true) × ((cs j).office ≡ r)) d.lock office holder (here j)
      (λ r ne e.
      at_each (λ n t. d.lock r ≡ Some n → (is_locking t ≡ true) × ((cs n).office ≡ r)) d.stage k s
      (λ e. absurd (ne (sym (h.held r k e).1))) (λ n ne2 e. h.held r n e) j e)
      i

  pub other_locks : (holder : Option ℕ) (j : ℕ) → (d.lock office ≡ Some j → ⊥) → d.lock (cs j).office ≡ Some j → at_lock d.lock office holder (cs j).office ≡ Some j
  other_locks holder j not = at_each_office (λ r x. d.lock r ≡ Some j → x ≡ Some j) d.lock office holder (λ e. absurd (not e)) (λ r ne e. e) (cs j).office

  pub other_files : (c : Copy) (j : ℕ) → (d.lock office ≡ Some j → ⊥) → d.lock (cs j).office ≡ Some j → at_office d.world.files office c (cs j).office ≡ d.world.files (cs j).office
  other_files c j not = at_each_office (λ r x. d.lock r ≡ Some j → x ≡ d.world.files r) d.world.files office c (λ e. absurd (not e)) (λ r ne e. refl) (cs j).office

  pub another : d.lock office ≡ Some k → (j : ℕ) → j ≢ k → d.lock office ≡ Some j → ⊥
  another mine j ne e = let same : ◌≡◌ {A = Option ℕ} (Some j) (Some k) = sym e ∙ mine in let is : j ≡ k = cc in ne is

  pub taken : d.stage k ≡ Begins → d.lock office ≡ None → Next cs d (locking d office (Some k) k HasLock)
  taken at free =
      moved HasLock (at_lock d.lock office (Some k)) d.stands h.stands (own_lock d.lock office (Some k))
      (λ j ne. other_locks (Some k) j (λ e. let no_one : ◌≡◌ {A = Option ℕ} None (Some j) = sym free ∙ e in cc))
      (held_moved HasLock (Some k) (λ j e.
      let is : k ≡ j = cc in
      subst (λ n. (is_locking (at_stage d.stage k HasLock n) ≡ true) × ((cs n).office ≡ office)) is (ap is_locking (own_stage d.stage k HasLock), refl)))
      (λ o m. absurd (none_given o m)) (λ t m c. tt)

  pub freed : d.lock office ≡ Some k → Next cs d (locking d office None k (Ended []))
  freed mine =
      moved (Ended []) (at_lock d.lock office None) d.stands h.stands (λ o m. absurd (true≢false (sym m ∙ set.contains-from_list op_total [] o)))
      (λ j ne. other_locks None j (another mine j ne))
      (held_moved (Ended []) None (λ j e. absurd cc))
      (λ o m. absurd (none_given o m)) (λ t m c. tt)

  pub comes : (s : Stage) → Fits cs d.lock d.world k s → (is_locking (d.stage k) ≡ true → is_locking s ≡ true)
      → ((o : Op) → has (given s) o ≡ true → has (given (d.stage k)) o ≡ true) → ((t : Ops) → Carries t s) → Next cs d (comes_to d k s)
  comes s fit on is carries = moved s d.lock d.stands h.stands fit (λ j ne e. e) (held_same s on) is (λ t m c. carries t)

  pub fits_at : (s : Stage) → d.stage k ≡ s → Fits cs d.lock d.world k s
  fits_at s at = subst (Fits cs d.lock d.world k) at (h.fits k)

  -- ---- each step of it

  pub locks_next : (s : Stage) (holder : Option ℕ) → d.stage k ≡ s → d.lock office ≡ holder → Next cs d (locks d office k s holder)
  locks_next Begins None at free = taken at free
  locks_next Begins (Some j) at held = stay cs d h
  locks_next HasLock holder at held = stay cs d h
  locks_next (HasFile f) holder at held = stay cs d h
  locks_next (HasRead f c) holder at held = stay cs d h
  locks_next (HasNoted v) holder at held = stay cs d h
  locks_next (HasReplaced v) holder at held = stay cs d h
  locks_next (HasPrinted os) holder at held = stay cs d h
  locks_next (Ended os) holder at held = stay cs d h

  pub opens_next : (s : Stage) → d.stage k ≡ s → Next cs d (opens d k (d.world.files office) s)
  opens_next Begins at = stay cs d h
  opens_next HasLock at = comes (HasFile (d.world.files office)) (fits_at HasLock at, refl) (λ e. refl) (λ o m. absurd (none_given o m)) (λ t. tt)
  opens_next (HasFile f) at = stay cs d h
  opens_next (HasRead f c) at = stay cs d h
  opens_next (HasNoted v) at = stay cs d h
  opens_next (HasReplaced v) at = stay cs d h
  opens_next (HasPrinted os) at = stay cs d h
  opens_next (Ended os) at = stay cs d h

  pub reads_next : (p : ℕ) (s : Stage) → d.stage k ≡ s → Next cs d (reads d k (d.stands p) s)
  reads_next p Begins at = stay cs d h
  reads_next p HasLock at = stay cs d h
  reads_next p (HasFile f) at =
      let fit = fits_at (HasFile f) at in
      comes (HasRead f (d.stands p)) (fit.0, fit.1, h.stands p) (λ e. refl) (λ o m. absurd (none_given o m)) (λ t. tt)
  reads_next p (HasRead f c) at = stay cs d h
  reads_next p (HasNoted v) at = stay cs d h
  reads_next p (HasReplaced v) at = stay cs d h
  reads_next p (HasPrinted os) at = stay cs d h
  reads_next p (Ended os) at = stay cs d h

  pub replaces_next : (p : ℕ) (s : Stage) → d.stage k ≡ s → Next cs d (replaces d k p s)
  replaces_next p Begins at = stay cs d h
  replaces_next p HasLock at = stay cs d h
  replaces_next p (HasFile f) at = stay cs d h
  replaces_next p (HasRead f c) at = stay cs d h
  replaces_next p (HasNoted v) at =
      let fit = fits_at (HasNoted v) at in
      moved (HasReplaced v) d.lock (at_path d.stands p v.register) (at_each_path (λ q c. IsAmong c d.world) d.stands p v.register fit.1 h.stands) fit
      (λ j ne e. e) (held_same (HasReplaced v) (λ e. absurd (true≢false (sym e ∙ ap is_locking at))))
      (λ o m. subst (λ s. has (given s) o ≡ true) (sym at) m) (λ t m c. subst (Carries t) at c)
  replaces_next p (HasReplaced v) at = stay cs d h
  replaces_next p (HasPrinted os) at = stay cs d h
  replaces_next p (Ended os) at = stay cs d h

  -- it gives what it has given, and has no lock
  ends : (s t : Stage) → d.stage k ≡ s → is_locking s ≡ false → given t ≡ given s → Fits cs d.lock d.world k t → ((u : Ops) → Carries u t) → Next cs d (comes_to d k t)
  ends s t at none same fit carries =
      comes t fit (λ e. absurd (true≢false (sym e ∙ ap is_locking at ∙ none)))
      (λ o m. subst (λ os. has os o ≡ true) (same ∙ ap given (sym at)) m) carries

  pub prints_next : (s : Stage) → d.stage k ≡ s → Next cs d (prints d k s)
  prints_next Begins at = stay cs d h
  prints_next HasLock at = stay cs d h
  prints_next (HasFile f) at = stay cs d h
  prints_next (HasRead f c) at = stay cs d h
  prints_next (HasNoted v) at = stay cs d h
  prints_next (HasReplaced v) at = ends (HasReplaced v) (HasPrinted v.ops) at refl refl (fits_at (HasReplaced v) at).0 (λ u. tt)
  prints_next (HasPrinted os) at = stay cs d h
  prints_next (Ended os) at = stay cs d h

  pub stops_next : (s : Stage) → d.stage k ≡ s → Next cs d (stops d office k s)
  stops_next Begins at = ends Begins (Ended []) at refl refl (given_there cs d.lock d.world k Begins tt) (λ u. tt)
  stops_next HasLock at = freed (fits_at HasLock at)
  stops_next (HasFile f) at = freed (fits_at (HasFile f) at).0
  stops_next (HasRead f c) at = freed (fits_at (HasRead f c) at).0
  stops_next (HasNoted v) at = ends (HasNoted v) (Ended v.ops) at refl refl (fits_at (HasNoted v) at).0 (λ u. tt)
  stops_next (HasReplaced v) at = ends (HasReplaced v) (Ended v.ops) at refl refl (fits_at (HasReplaced v) at).0 (λ u. tt)
  stops_next (HasPrinted os) at = ends (HasPrinted os) (Ended os) at refl refl (fits_at (HasPrinted os) at) (λ u. tt)
  stops_next (Ended os) at = ends (Ended os) (Ended os) at refl refl (fits_at (Ended os) at) (λ u. tt)
