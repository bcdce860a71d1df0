-- The invariant of the commands, which each event preserves.
use Rattle.std.proofs.Common.{◌≡◌, ◌≢◌, ◌⊎◌, inl, inr, ℕ, Bool, true, false, List, [], ◌∷◌, Option, Some, None, take, eqb, refl, sym, ◌∙◌, ap, subst, cond, arith}
use Rattle.std.proofs.lemmas.Bool.Decides.{eqb_tells, nat_tests}
use lib.Pointwise.{bytes_decides}
use Rattle.reg_writers.specs.Path.{Content, is_same, NewFile, Stage, Begins, HasRead, Writes, IsSynced, HasLocked, Keeps, FoundSame, Withdraws, Replaced, HasPrinted, Ended, World, Event, Goes, Locks, Fills, Fails, Stops, Clears, start, at_stage, comes_to, makes, filled, puts, goes, fills, locks, failed, stopped, is_ended, cleared, happens, after}

-- commands for which giving an id, and having seen one, are relations
pub record Many (I : Type 0) : Type 1 where
  pub change : ℕ → Content → List ℕ
  pub Gives : ℕ → Content → I → Type 0
  pub Seen : Content → I → Type 0

pub record OnlyAdds {I : Type 0} (c : Many I) : Type 0 where
  pub grows : (k : ℕ) (x : Content) (i : I) → c.Seen x i → c.Seen (Some (c.change k x)) i
  pub not_before : (k : ℕ) (x : Content) (i : I) → c.Gives k x i → c.Seen x i → ⊥
  pub seen_then : (k : ℕ) (x : Content) (i : I) → c.Gives k x i → c.Seen (Some (c.change k x)) i

-- the command has replaced OUT and so gave the id
abbrev pub Gave : {I : Type 0} → Many I → ℕ → Stage → I → Type 0
Gave c k (Replaced x) i = c.Gives k x i
Gave c k (HasPrinted x) i = c.Gives k x i
Gave c k s i = ⊥

-- OUT.new exists, and the command made it
abbrev pub Makes : ℕ → Option NewFile → Type 0
Makes k new = (bytes : List ℕ) × (new ≡ Some (record { maker = k; bytes = bytes }))

-- OUT and OUT.new are as the stage of the command demands
abbrev pub Fits : {I : Type 0} → Many I → ℕ → Content → Option NewFile → Stage → Type 0
Fits {I} c k out new Begins = Unit {0}
Fits {I} c k out new (HasRead x) = Unit {0}
Fits {I} c k out new (Writes x) = Makes k new
Fits {I} c k out new (IsSynced x) = new ≡ Some (record { maker = k; bytes = c.change k x })
Fits {I} c k out new HasLocked = Makes k new
Fits {I} c k out new (Keeps x) = Makes k new × (out ≡ x)
Fits {I} c k out new (FoundSame x) = (new ≡ Some (record { maker = k; bytes = c.change k x })) × (out ≡ x)
Fits {I} c k out new Withdraws = Makes k new
Fits {I} c k out new (Replaced x) = (i : I) → c.Gives k x i → c.Seen out i
Fits {I} c k out new (HasPrinted x) = (i : I) → c.Gives k x i → c.Seen out i
Fits {I} c k out new Ended = Unit {0}

pub record Holds {I : Type 0} (c : Many I) (w : World) : Type 0 where
  pub each : (k : ℕ) → Fits c k w.stands w.beside (w.stage k)
  pub one : (j k : ℕ) (i : I) → Gave c j (w.stage j) i → Gave c k (w.stage k) i → j ≡ k

-- what holds of the new stage of one command, and of the stages of all others, holds of each stage
pub at_each : (P : ℕ → Stage → Type 0) (stages : ℕ → Stage) (k : ℕ) (s : Stage) → P k s → ((j : ℕ) → j ≢ k → P j (stages j)) → (j : ℕ) → P j (at_stage stages k s j)
at_each P stages k s here others j =
    elim (eqb_tells j k) [
      | inl (t, e) ↦ subst (λ b. P j (cond b s (stages j))) (sym t) (subst (λ n. P n s) (sym e) here)
      | inr (f, ne) ↦ subst (λ b. P j (cond b s (stages j))) (sym f) (others j ne)
    ]

pub gave_is_seen : {I : Type 0} (c : Many I) (k : ℕ) (out : Content) (new : Option NewFile) (s : Stage) (i : I) → Fits c k out new s → Gave c k s i → c.Seen out i
gave_is_seen c k out new Begins i f h = absurd h
gave_is_seen c k out new (HasRead x) i f h = absurd h
gave_is_seen c k out new (Writes x) i f h = absurd h
gave_is_seen c k out new (IsSynced x) i f h = absurd h
gave_is_seen c k out new HasLocked i f h = absurd h
gave_is_seen c k out new (Keeps x) i f h = absurd h
gave_is_seen c k out new (FoundSame x) i f h = absurd h
gave_is_seen c k out new Withdraws i f h = absurd h
gave_is_seen c k out new (Replaced x) i f h = f i h
gave_is_seen c k out new (HasPrinted x) i f h = f i h
gave_is_seen c k out new Ended i f h = absurd h

-- if a command gave an id before, or OUT has not seen it, no other command gave it
pub new_one : {I : Type 0} (c : Many I) (w : World) (k : ℕ) (s : Stage) → Holds c w
    → ((i : I) → Gave c k s i → (Gave c k (w.stage k) i) ⊎ ((c.Seen w.stands i → ⊥)))
    → (m : ℕ) (i : I) → Gave c k s i → Gave c m (w.stage m) i → k ≡ m
new_one c w k s h given m i gk gm =
    elim (given i gk) [
      | inl before ↦ h.one k m i before gm
      | inr unseen ↦ (let seen = gave_is_seen c m w.stands w.beside (w.stage m) i (h.each m) gm in absurd (unseen seen))
    ]

-- the invariant holds after a command comes to a stage, if the files fit all stages, and each id that the command gives there
-- was given by it before, or is unseen
pub moved : {I : Type 0} (c : Many I) (w : World) (k : ℕ) (s : Stage) (out : Content) (new : Option NewFile) → Holds c w
    → ((j : ℕ) → j ≢ k → Fits c j w.stands w.beside (w.stage j) → Fits c j out new (w.stage j))
    → Fits c k out new s
    → ((i : I) → Gave c k s i → (Gave c k (w.stage k) i) ⊎ ((c.Seen w.stands i → ⊥)))
    → Holds c (record { stands = out; beside = new; stage = at_stage w.stage k s })
moved c w k s out new h others here given = record {
  each = at_each (λ j t. Fits c j out new t) w.stage k s here (λ j ne. others j ne (h.each j));
  one = λ j l i.
      at_each (λ m t. Gave c m t i → Gave c l (at_stage w.stage k s l) i → m ≡ l) w.stage k s
      (λ gk. at_each (λ n t. Gave c n t i → k ≡ n) w.stage k s (λ g. refl) (λ n ne g. new_one c w k s h given n i gk g) l)
      (λ m ne gm. at_each (λ n t. Gave c n t i → m ≡ n) w.stage k s (λ g. sym (new_one c w k s h given m i g gm)) (λ n ne2 g. h.one m n i gm g) l)
      j;
}

-- OUT.new does not exist, or the command did not make it
abbrev pub IsFree : ℕ → Option NewFile → Type 0
IsFree j new = (bytes : List ℕ) → new ≡ Some (record { maker = j; bytes = bytes }) → ⊥

-- a command that did not make OUT.new fits any other OUT.new, and any OUT that has seen the same ids or more
pub other : {I : Type 0} (c : Many I) (j : ℕ) (out : Content) (new : Option NewFile) (out' : Content) (new' : Option NewFile)
    → IsFree j new → ((i : I) → c.Seen out i → c.Seen out' i)
    → (s : Stage) → Fits c j out new s → Fits c j out' new' s
other c j out new out' new' free more Begins f = tt
other c j out new out' new' free more (HasRead x) f = tt
other c j out new out' new' free more (Writes x) f = absurd (free f.0 f.1)
other c j out new out' new' free more (IsSynced x) f = absurd (free (c.change j x) f)
other c j out new out' new' free more HasLocked f = absurd (free f.0 f.1)
other c j out new out' new' free more (Keeps x) f = absurd (free f.0.0 f.0.1)
other c j out new out' new' free more (FoundSame x) f = absurd (free (c.change j x) f.0)
other c j out new out' new' free more Withdraws f = absurd (free f.0 f.1)
other c j out new out' new' free more (Replaced x) f = λ i g. more i (f i g)
other c j out new out' new' free more (HasPrinted x) f = λ i g. more i (f i g)
other c j out new out' new' free more Ended f = tt

abbrev pub maker_or : ℕ → Option NewFile → ℕ
maker_or d None = d
maker_or d (Some n) = n.maker

-- a file that one command made is not another's
pub free_of_other : (j k : ℕ) (new : Option NewFile) → j ≢ k → Makes k new → IsFree j new
free_of_other j k new ne m = λ bytes e. ne (ap (maker_or j) (sym e ∙ m.1))

pub free_of_none : (j : ℕ) (new : Option NewFile) → new ≡ None → IsFree j new
free_of_none j new none = λ bytes e. cc

pub same_number : (k : ℕ) → eqb k k ≡ true
same_number k = grind (arith, nat_tests)

-- a command that made OUT.new fills it
pub filled_own : (k : ℕ) (bytes : List ℕ) (new : Option NewFile) → Makes k new → filled k bytes new ≡ Some (record { maker = k; bytes = bytes })
filled_own k bytes new m = rw m.1 (subst (λ b. ◌≡◌ {A = Option NewFile} (Some (cond b (record { maker = k; bytes = bytes }) (record { maker = k; bytes = m.0 }))) (Some (record { maker = k; bytes = bytes }))) (sym (same_number k)) refl)

pub same_content : (x y : Content) → is_same x y ≡ true → x ≡ y
same_content None None h = refl
same_content None (Some b) h = cc
same_content (Some a) None h = cc
same_content (Some a) (Some b) h = ap Some ((bytes_decides a b).0 h)

-- the same, if no file changes
pub still : {I : Type 0} (c : Many I) (w : World) (k : ℕ) (s : Stage) → Holds c w → Fits c k w.stands w.beside s
    → ((i : I) → Gave c k s i → (Gave c k (w.stage k) i) ⊎ ((c.Seen w.stands i → ⊥)))
    → Holds c (comes_to w k s)
still c w k s h here given = moved c w k s w.stands w.beside h (λ j ne f. f) here given

-- the same, if only the file that the command made changes
pub on_own : {I : Type 0} (c : Many I) (w : World) (k : ℕ) (s : Stage) (new : Option NewFile) → Holds c w → Makes k w.beside
    → Fits c k w.stands new s → ((i : I) → Gave c k s i → (Gave c k (w.stage k) i) ⊎ ((c.Seen w.stands i → ⊥)))
    → Holds c (record { stands = w.stands; beside = new; stage = at_stage w.stage k s })
on_own c w k s new h m here given =
    moved c w k s w.stands new h
    (λ j ne f. other c j w.stands w.beside w.stands new (free_of_other j k w.beside ne m) (λ i seen. seen) (w.stage j) f)
    here given

pub makes_keeps : {I : Type 0} (c : Many I) (w : World) (k : ℕ) (s : Stage) (new : Option NewFile) → w.beside ≡ new → Holds c w
    → Fits c k w.stands (Some (record { maker = k; bytes = [] })) s → ((i : I) → Gave c k s i → ⊥) → Holds c (makes w k s new)
makes_keeps c w k s None e h here none =
    moved c w k s w.stands (Some (record { maker = k; bytes = [] })) h
    (λ j ne f. other c j w.stands w.beside w.stands (Some (record { maker = k; bytes = [] })) (free_of_none j w.beside e) (λ i seen. seen) (w.stage j) f)
    here (λ i g. absurd (none i g))
makes_keeps c w k s (Some n) e h here none = still c w k Ended h tt (λ i g. absurd g)

pub puts_keeps : {I : Type 0} (c : Many I) → OnlyAdds c → (w : World) (k : ℕ) (x : Content) (new : Option NewFile) → w.beside ≡ new → w.stage k ≡ FoundSame x → Holds c w → Holds c (puts w k x new)
puts_keeps {I} c add w k x new e at h =
    let f : Fits c k w.stands w.beside (FoundSame x) = subst (Fits c k w.stands w.beside) at (h.each k) in
    let is : new ≡ Some (record { maker = k; bytes = c.change k x }) = sym e ∙ f.0 in
    let grown : (i : I) → c.Seen w.stands i → c.Seen (Some (c.change k x)) i = λ i seen. add.grows k x i (subst (λ y. c.Seen y i) f.1 seen) in
    let whole : Holds c (record { stands = Some (c.change k x); beside = None; stage = at_stage w.stage k (Replaced x) }) =
    moved c w k (Replaced x) (Some (c.change k x)) None h
    (λ j ne g. other c j w.stands w.beside (Some (c.change k x)) None (free_of_other j k w.beside ne (c.change k x, f.0)) grown (w.stage j) g)
    (λ i g. add.seen_then k x i g) (λ i g. inr (subst (λ y. (c.Seen y i → ⊥)) (sym f.1) (add.not_before k x i g)))
    in subst (λ o. Holds c (puts w k x o)) (sym is) whole

pub compares_keeps : {I : Type 0} (c : Many I) (w : World) (k : ℕ) (x : Content) (b : Bool) → is_same w.stands x ≡ b → w.stage k ≡ IsSynced x → Holds c w
    → Holds c (comes_to w k (cond b (FoundSame x) Withdraws))
compares_keeps c w k x true e at h =
    let f : Fits c k w.stands w.beside (IsSynced x) = subst (Fits c k w.stands w.beside) at (h.each k) in
    still c w k (FoundSame x) h (f, same_content w.stands x e) (λ i g. absurd g)
compares_keeps c w k x false e at h =
    let f : Fits c k w.stands w.beside (IsSynced x) = subst (Fits c k w.stands w.beside) at (h.each k) in
    still c w k Withdraws h (c.change k x, f) (λ i g. absurd g)

pub goes_keeps : {I : Type 0} (c : Many I) → OnlyAdds c → (w : World) (k : ℕ) (s : Stage) → w.stage k ≡ s → Holds c w → Holds c (goes c.change w k s)
goes_keeps c add w k Begins at h = still c w k (HasRead w.stands) h tt (λ i g. absurd g)
goes_keeps c add w k (HasRead x) at h = makes_keeps c w k (Writes x) w.beside refl h ([], refl) (λ i g. g)
goes_keeps c add w k (Writes x) at h =
    let m : Makes k w.beside = subst (Fits c k w.stands w.beside) at (h.each k) in
    on_own c w k (IsSynced x) (filled k (c.change k x) w.beside) h m (filled_own k (c.change k x) w.beside m) (λ i g. absurd g)
goes_keeps c add w k (IsSynced x) at h = compares_keeps c w k x (is_same w.stands x) refl at h
goes_keeps c add w k HasLocked at h = still c w k (Keeps w.stands) h (subst (Fits c k w.stands w.beside) at (h.each k), refl) (λ i g. absurd g)
goes_keeps c add w k (Keeps x) at h =
    let f : Fits c k w.stands w.beside (Keeps x) = subst (Fits c k w.stands w.beside) at (h.each k) in
    on_own c w k (FoundSame x) (filled k (c.change k x) w.beside) h f.0 (filled_own k (c.change k x) w.beside f.0, f.1) (λ i g. absurd g)
goes_keeps c add w k (FoundSame x) at h = puts_keeps c add w k x w.beside refl at h
goes_keeps c add w k Withdraws at h =
    let m : Makes k w.beside = subst (Fits c k w.stands w.beside) at (h.each k) in
    on_own c w k Ended None h m tt (λ i g. absurd g)
goes_keeps c add w k (Replaced x) at h =
    still c w k (HasPrinted x) h (subst (Fits c k w.stands w.beside) at (h.each k)) (λ i g. inl (subst (λ s. Gave c k s i) (sym at) g))
goes_keeps c add w k (HasPrinted x) at h = h
goes_keeps c add w k Ended at h = h

locks_keeps : {I : Type 0} (c : Many I) (w : World) (k : ℕ) (s : Stage) → w.stage k ≡ s → Holds c w → Holds c (locks w k s)
locks_keeps c w k Begins at h = makes_keeps c w k HasLocked w.beside refl h ([], refl) (λ i g. g)
locks_keeps c w k (HasRead x) at h = h
locks_keeps c w k (Writes x) at h = h
locks_keeps c w k (IsSynced x) at h = h
locks_keeps c w k HasLocked at h = h
locks_keeps c w k (Keeps x) at h = h
locks_keeps c w k (FoundSame x) at h = h
locks_keeps c w k Withdraws at h = h
locks_keeps c w k (Replaced x) at h = h
locks_keeps c w k (HasPrinted x) at h = h
locks_keeps c w k Ended at h = h

-- the invariant holds after the file that a command made changes, if the new file fits the stage of the command
fills_own : {I : Type 0} (c : Many I) (w : World) (k : ℕ) (new : Option NewFile) → Holds c w → Makes k w.beside → Fits c k w.stands new (w.stage k)
    → Holds c (record { stands = w.stands; beside = new; stage = w.stage })
fills_own c w k new h m here = record {
  each = λ j. elim (eqb_tells j k) [
    | inl (t, e) ↦ subst (λ i. Fits c i w.stands new (w.stage i)) (sym e) here
    | inr (t, ne) ↦ other c j w.stands w.beside w.stands new (free_of_other j k w.beside ne m) (λ i seen. seen) (w.stage j) (h.each j)
  ];
  one = h.one;
}

pub fills_keeps : {I : Type 0} (c : Many I) (w : World) (k n : ℕ) (s : Stage) → w.stage k ≡ s → Holds c w → Holds c (fills c.change w k n s)
fills_keeps c w k n (Writes x) at h =
    let m : Makes k w.beside = subst (Fits c k w.stands w.beside) at (h.each k) in
    let new = filled k (take n (c.change k x)) w.beside in
    fills_own c w k new h m (subst (Fits c k w.stands new) (sym at) (take n (c.change k x), filled_own k (take n (c.change k x)) w.beside m))
fills_keeps c w k n (Keeps x) at h =
    let f : Fits c k w.stands w.beside (Keeps x) = subst (Fits c k w.stands w.beside) at (h.each k) in
    let new = filled k (take n (c.change k x)) w.beside in
    fills_own c w k new h f.0 (subst (Fits c k w.stands new) (sym at) ((take n (c.change k x), filled_own k (take n (c.change k x)) w.beside f.0), f.1))
fills_keeps c w k n Begins at h = h
fills_keeps c w k n (HasRead x) at h = h
fills_keeps c w k n (IsSynced x) at h = h
fills_keeps c w k n HasLocked at h = h
fills_keeps c w k n (FoundSame x) at h = h
fills_keeps c w k n Withdraws at h = h
fills_keeps c w k n (Replaced x) at h = h
fills_keeps c w k n (HasPrinted x) at h = h
fills_keeps c w k n Ended at h = h

fails_fits : {I : Type 0} (c : Many I) (k : ℕ) (out : Content) (new : Option NewFile) (s : Stage) → Fits c k out new s → Fits c k out new (failed s)
fails_fits c k out new Begins f = tt
fails_fits c k out new (HasRead x) f = tt
fails_fits c k out new (Writes x) f = f
fails_fits c k out new (IsSynced x) f = (c.change k x, f)
fails_fits c k out new HasLocked f = f
fails_fits c k out new (Keeps x) f = f.0
fails_fits c k out new (FoundSame x) f = (c.change k x, f.0)
fails_fits c k out new Withdraws f = tt
fails_fits c k out new (Replaced x) f = f
fails_fits c k out new (HasPrinted x) f = f
fails_fits c k out new Ended f = tt

fails_gives : {I : Type 0} (c : Many I) (k : ℕ) (s : Stage) (i : I) → Gave c k (failed s) i → Gave c k s i
fails_gives c k Begins i g = absurd g
fails_gives c k (HasRead x) i g = absurd g
fails_gives c k (Writes x) i g = absurd g
fails_gives c k (IsSynced x) i g = absurd g
fails_gives c k HasLocked i g = absurd g
fails_gives c k (Keeps x) i g = absurd g
fails_gives c k (FoundSame x) i g = absurd g
fails_gives c k Withdraws i g = absurd g
fails_gives c k (Replaced x) i g = g
fails_gives c k (HasPrinted x) i g = g
fails_gives c k Ended i g = absurd g

stops_fits : {I : Type 0} (c : Many I) (k : ℕ) (out : Content) (new : Option NewFile) (s : Stage) → Fits c k out new s → Fits c k out new (stopped s)
stops_fits c k out new Begins f = tt
stops_fits c k out new (HasRead x) f = tt
stops_fits c k out new (Writes x) f = tt
stops_fits c k out new (IsSynced x) f = tt
stops_fits c k out new HasLocked f = tt
stops_fits c k out new (Keeps x) f = tt
stops_fits c k out new (FoundSame x) f = tt
stops_fits c k out new Withdraws f = tt
stops_fits c k out new (Replaced x) f = f
stops_fits c k out new (HasPrinted x) f = f
stops_fits c k out new Ended f = tt

stops_gives : {I : Type 0} (c : Many I) (k : ℕ) (s : Stage) (i : I) → Gave c k (stopped s) i → Gave c k s i
stops_gives c k Begins i g = absurd g
stops_gives c k (HasRead x) i g = absurd g
stops_gives c k (Writes x) i g = absurd g
stops_gives c k (IsSynced x) i g = absurd g
stops_gives c k HasLocked i g = absurd g
stops_gives c k (Keeps x) i g = absurd g
stops_gives c k (FoundSame x) i g = absurd g
stops_gives c k Withdraws i g = absurd g
stops_gives c k (Replaced x) i g = g
stops_gives c k (HasPrinted x) i g = g
stops_gives c k Ended i g = absurd g

-- a command that has ended also fits if there is no OUT.new
ended_free : {I : Type 0} (c : Many I) (out : Content) (new : Option NewFile) (n : NewFile) (s : Stage) → is_ended s ≡ true → new ≡ Some n → (j : ℕ) → j ≡ n.maker → Fits c j out new s → Fits c j out None s
ended_free c out new n Begins e is j same f = cc
ended_free c out new n (HasRead x) e is j same f = cc
ended_free c out new n (Writes x) e is j same f = cc
ended_free c out new n (IsSynced x) e is j same f = cc
ended_free c out new n HasLocked e is j same f = cc
ended_free c out new n (Keeps x) e is j same f = cc
ended_free c out new n (FoundSame x) e is j same f = cc
ended_free c out new n Withdraws e is j same f = cc
ended_free c out new n (Replaced x) e is j same f = cc
ended_free c out new n (HasPrinted x) e is j same f = cc
ended_free c out new n Ended e is j same f = tt

cleared_fits : {I : Type 0} (c : Many I) (w : World) (new : Option NewFile) → w.beside ≡ new → Holds c w → (j : ℕ) → Fits c j w.stands (cleared w.stage new) (w.stage j)
cleared_fits c w None is h j = subst (λ o. Fits c j w.stands o (w.stage j)) is (h.each j)
cleared_fits c w (Some n) is h j = by_test (is_ended (w.stage n.maker)) refl where
  by_test : (b : Bool) → is_ended (w.stage n.maker) ≡ b → Fits c j w.stands (cond b None (Some n)) (w.stage j)
  by_test true e =
      elim (eqb_tells j n.maker) [
        | inl (t, same) ↦ ended_free c w.stands w.beside n (w.stage j) (subst (λ m. is_ended (w.stage m) ≡ true) (sym same) e) is j same (h.each j)
        | inr (t, ne) ↦ other c j w.stands w.beside w.stands None (free_of_other j n.maker w.beside ne (n.bytes, is)) (λ i seen. seen) (w.stage j) (h.each j)
      ]
  by_test false e = subst (λ o. Fits c j w.stands o (w.stage j)) is (h.each j)

pub happens_keeps : {I : Type 0} (c : Many I) → OnlyAdds c → (w : World) (e : Event) → Holds c w → Holds c (happens c.change w e)
happens_keeps c add w (Goes k) h = goes_keeps c add w k (w.stage k) refl h
happens_keeps c add w (Locks k) h = locks_keeps c w k (w.stage k) refl h
happens_keeps c add w (Fills k n) h = fills_keeps c w k n (w.stage k) refl h
happens_keeps c add w (Fails k) h = still c w k (failed (w.stage k)) h (fails_fits c k w.stands w.beside (w.stage k) (h.each k)) (λ i g. inl (fails_gives c k (w.stage k) i g))
happens_keeps c add w (Stops k) h = still c w k (stopped (w.stage k)) h (stops_fits c k w.stands w.beside (w.stage k) (h.each k)) (λ i g. inl (stops_gives c k (w.stage k) i g))
happens_keeps c add w Clears h = record { each = cleared_fits c w w.beside refl h; one = h.one }

pub after_keeps : {I : Type 0} (c : Many I) → OnlyAdds c → (es : List Event) (w : World) → Holds c w → Holds c (after c.change es w)
after_keeps c add [] w h = h
after_keeps c add (e ∷ es) w h = after_keeps c add es (happens c.change w e) (happens_keeps c add w e h)

pub start_holds : {I : Type 0} (c : Many I) (x : Content) → Holds c (start x)
start_holds c x = record { each = λ k. tt; one = λ j k i g g'. absurd g }

pub always : {I : Type 0} (c : Many I) → OnlyAdds c → (x : Content) (es : List Event) → Holds c (after c.change es (start x))
always c add x es = after_keeps c add es (start x) (start_holds c x)
