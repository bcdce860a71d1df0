-- How OUT changes, and what a stopped command leaves.
use Rattle.std.proofs.Common.{◌≡◌, ◌⊎◌, inl, inr, ℕ, List, [], ◌∷◌, Option, Some, None, refl, sym, ◌∙◌, ap, subst, cond}
use Rattle.std.proofs.lemmas.Bool.Decides.{eqb_tells}
use Rattle.reg_writers.specs.Path.{Content, NewFile, Stage, Begins, HasRead, Writes, IsSynced, HasLocked, Keeps, FoundSame, Withdraws, Replaced, HasPrinted, Ended, World, Event, Goes, Locks, Fills, Fails, Stops, Clears, at_stage, comes_to, makes, puts, goes, fills, locks, failed, stopped, happens, after}
use Rattle.reg_writers.specs.Writers.{IsReplacedBy, IsLeft, NoneClears}
use Rattle.reg_writers.proofs.Kept.{Many, OnlyAdds, Gave, Makes, Fits, Holds, maker_or, same_number, gave_is_seen, happens_keeps}

abbrev content_of : Option NewFile → Content
content_of None = None
content_of (Some n) = Some n.bytes

-- if OUT changes, a command replaces the content that it had read
puts_changes : {I : Type 0} (c : Many I) (w : World) (k : ℕ) (x : Content) (new : Option NewFile) → w.beside ≡ new → w.stage k ≡ FoundSame x → Holds c w
    → ((puts w k x new).stands ≡ w.stands) ⊎ IsReplacedBy c.change k w (puts w k x new)
puts_changes c w k x None is at h = inl refl
puts_changes c w k x (Some n) is at h =
    let f : Fits c k w.stands w.beside (FoundSame x) = subst (Fits c k w.stands w.beside) at (h.each k) in
    let bytes : Some n ≡ Some (record { maker = k; bytes = c.change k x }) = sym is ∙ f.0 in
    inr (record {
      found = at ∙ ap (λ y. FoundSame y) (sym f.1);
      made = ap content_of bytes ∙ ap (λ y. Some (c.change k y)) (sym f.1);
      done = ap (λ b. cond b (Replaced x) (w.stage k)) (same_number k) ∙ ap (λ y. Replaced y) (sym f.1);
    })

makes_same : (w : World) (k : ℕ) (s : Stage) (new : Option NewFile) → (makes w k s new).stands ≡ w.stands
makes_same w k s None = refl
makes_same w k s (Some n) = refl

goes_changes : {I : Type 0} (c : Many I) (w : World) (k : ℕ) (s : Stage) → w.stage k ≡ s → Holds c w
    → ((goes c.change w k s).stands ≡ w.stands) ⊎ IsReplacedBy c.change k w (goes c.change w k s)
goes_changes c w k Begins at h = inl refl
goes_changes c w k (HasRead x) at h = inl (makes_same w k (Writes x) w.beside)
goes_changes c w k (Writes x) at h = inl refl
goes_changes c w k (IsSynced x) at h = inl refl
goes_changes c w k HasLocked at h = inl refl
goes_changes c w k (Keeps x) at h = inl refl
goes_changes c w k (FoundSame x) at h = puts_changes c w k x w.beside refl at h
goes_changes c w k Withdraws at h = inl refl
goes_changes c w k (Replaced x) at h = inl refl
goes_changes c w k (HasPrinted x) at h = inl refl
goes_changes c w k Ended at h = inl refl

locks_same : (w : World) (k : ℕ) (s : Stage) → (locks w k s).stands ≡ w.stands
locks_same w k Begins = makes_same w k HasLocked w.beside
locks_same w k (HasRead x) = refl
locks_same w k (Writes x) = refl
locks_same w k (IsSynced x) = refl
locks_same w k HasLocked = refl
locks_same w k (Keeps x) = refl
locks_same w k (FoundSame x) = refl
locks_same w k Withdraws = refl
locks_same w k (Replaced x) = refl
locks_same w k (HasPrinted x) = refl
locks_same w k Ended = refl

fills_same : {I : Type 0} (c : Many I) (w : World) (k n : ℕ) (s : Stage) → (fills c.change w k n s).stands ≡ w.stands
fills_same c w k n (Writes x) = refl
fills_same c w k n Begins = refl
fills_same c w k n (HasRead x) = refl
fills_same c w k n (IsSynced x) = refl
fills_same c w k n HasLocked = refl
fills_same c w k n (Keeps x) = refl
fills_same c w k n (FoundSame x) = refl
fills_same c w k n Withdraws = refl
fills_same c w k n (Replaced x) = refl
fills_same c w k n (HasPrinted x) = refl
fills_same c w k n Ended = refl

pub changes : {I : Type 0} (c : Many I) (w : World) (e : Event) → Holds c w
    → ((happens c.change w e).stands ≡ w.stands) ⊎ ((k : ℕ) × IsReplacedBy c.change k w (happens c.change w e))
changes c w (Goes k) h = elim (goes_changes c w k (w.stage k) refl h) [ inl same ↦ inl same | inr by ↦ inr (k, by) ]
changes c w (Locks k) h = inl (locks_same w k (w.stage k))
changes c w (Fills k n) h = inl (fills_same c w k n (w.stage k))
changes c w (Fails k) h = inl refl
changes c w (Stops k) h = inl refl
changes c w Clears h = inl refl

pub seen_on : {I : Type 0} (c : Many I) → OnlyAdds c → (es : List Event) (w : World) (i : I) → Holds c w → c.Seen w.stands i → c.Seen (after c.change es w).stands i
seen_on c add [] w i h seen = seen
seen_on c add (e ∷ es) w i h seen =
    seen_on c add es (happens c.change w e) i (happens_keeps c add w e h)
    (elim (changes c w e h) [
      | inl same ↦ subst (λ y. c.Seen y i) (sym same) seen
      | inr (k, by) ↦ subst (λ y. c.Seen y i) (sym by.made) (add.grows k w.stands i seen)
    ])

pub given_on : {I : Type 0} (c : Many I) → OnlyAdds c → (w : World) (more : List Event) (k : ℕ) (i : I) → Holds c w → Gave c k (w.stage k) i → c.Seen (after c.change more w).stands i
given_on c add w more k i h g = seen_on c add more w i h (gave_is_seen c k w.stands w.beside (w.stage k) i (h.each k) g)

-- a command that has ended stays so
ended_on : (stages : ℕ → Stage) (k m : ℕ) (s : Stage) → stages m ≡ Ended → (k ≡ m → s ≡ Ended) → at_stage stages k s m ≡ Ended
ended_on stages k m s e on =
    elim (eqb_tells m k) [
      | inl (t, same) ↦ ap (λ b. cond b s (stages m)) t ∙ on (sym same)
      | inr (f, ne) ↦ ap (λ b. cond b s (stages m)) f ∙ e
    ]

left_on : (w : World) (n : NewFile) (k : ℕ) (s : Stage) → IsLeft w n → (w.stage k ≡ Ended → s ≡ Ended) → IsLeft (comes_to w k s) n
left_on w n k s l on = record { there = l.there; ended = ended_on w.stage k n.maker s l.ended (λ e. on (subst (λ m. w.stage m ≡ Ended) (sym e) l.ended)) }

-- if the file that a command made is left, the command has ended
not_left : (w : World) (n : NewFile) (k : ℕ) (s : Stage) → IsLeft w n → Makes k w.beside → w.stage k ≡ s → s ≡ Ended
not_left w n k s l m at = sym at ∙ subst (λ j. w.stage j ≡ Ended) (ap (maker_or k) (sym l.there ∙ m.1)) l.ended

makes_left : (w : World) (n : NewFile) (k : ℕ) (s : Stage) (new : Option NewFile) → w.beside ≡ new → IsLeft w n → IsLeft (makes w k s new) n
makes_left w n k s None is l = absurd (let e = l.there in cc)
makes_left w n k s (Some m) is l = left_on w n k Ended l (λ e. refl)

locks_left : (w : World) (n : NewFile) (k : ℕ) (s : Stage) → IsLeft w n → IsLeft (locks w k s) n
locks_left w n k Begins l = makes_left w n k HasLocked w.beside refl l
locks_left w n k (HasRead x) l = l
locks_left w n k (Writes x) l = l
locks_left w n k (IsSynced x) l = l
locks_left w n k HasLocked l = l
locks_left w n k (Keeps x) l = l
locks_left w n k (FoundSame x) l = l
locks_left w n k Withdraws l = l
locks_left w n k (Replaced x) l = l
locks_left w n k (HasPrinted x) l = l
locks_left w n k Ended l = l

goes_left : {I : Type 0} (c : Many I) (w : World) (n : NewFile) (k : ℕ) (s : Stage) → w.stage k ≡ s → Holds c w → IsLeft w n
    → ((goes c.change w k s).stands ≡ w.stands) × IsLeft (goes c.change w k s) n
goes_left c w n k Begins at h l = (refl, left_on w n k (HasRead w.stands) l (λ e. absurd (cc)))
goes_left c w n k (HasRead x) at h l = (makes_same w k (Writes x) w.beside, makes_left w n k (Writes x) w.beside refl l)
goes_left c w n k (Writes x) at h l = let e = not_left w n k (Writes x) l (subst (Fits c k w.stands w.beside) at (h.each k)) at in absurd (cc)
goes_left c w n k (IsSynced x) at h l = let e = not_left w n k (IsSynced x) l (c.change k x, subst (Fits c k w.stands w.beside) at (h.each k)) at in absurd (cc)
goes_left c w n k HasLocked at h l = let e = not_left w n k HasLocked l (subst (Fits c k w.stands w.beside) at (h.each k)) at in absurd (cc)
goes_left c w n k (Keeps x) at h l =
    let f : Fits c k w.stands w.beside (Keeps x) = subst (Fits c k w.stands w.beside) at (h.each k) in
    let e = not_left w n k (Keeps x) l f.0 at in absurd (cc)
goes_left c w n k (FoundSame x) at h l =
    let f : Fits c k w.stands w.beside (FoundSame x) = subst (Fits c k w.stands w.beside) at (h.each k) in
    let e = not_left w n k (FoundSame x) l (c.change k x, f.0) at in absurd (cc)
goes_left c w n k Withdraws at h l = let e = not_left w n k Withdraws l (subst (Fits c k w.stands w.beside) at (h.each k)) at in absurd (cc)
goes_left c w n k (Replaced x) at h l = (refl, left_on w n k (HasPrinted x) l (λ e. absurd (cc)))
goes_left c w n k (HasPrinted x) at h l = (refl, l)
goes_left c w n k Ended at h l = (refl, l)

fills_left : {I : Type 0} (c : Many I) (w : World) (n : NewFile) (k b : ℕ) (s : Stage) → w.stage k ≡ s → Holds c w → IsLeft w n → IsLeft (fills c.change w k b s) n
fills_left c w n k b (Writes x) at h l = let e = not_left w n k (Writes x) l (subst (Fits c k w.stands w.beside) at (h.each k)) at in absurd (cc)
fills_left c w n k b Begins at h l = l
fills_left c w n k b (HasRead x) at h l = l
fills_left c w n k b (IsSynced x) at h l = l
fills_left c w n k b HasLocked at h l = l
fills_left c w n k b (Keeps x) at h l =
    let f : Fits c k w.stands w.beside (Keeps x) = subst (Fits c k w.stands w.beside) at (h.each k) in
    let e = not_left w n k (Keeps x) l f.0 at in absurd (cc)
fills_left c w n k b (FoundSame x) at h l = l
fills_left c w n k b Withdraws at h l = l
fills_left c w n k b (Replaced x) at h l = l
fills_left c w n k b (HasPrinted x) at h l = l
fills_left c w n k b Ended at h l = l

pub left_stays : {I : Type 0} (c : Many I) → OnlyAdds c → (es : List Event) (w : World) (n : NewFile) → Holds c w → IsLeft w n → NoneClears es
    → ((after c.change es w).stands ≡ w.stands) × IsLeft (after c.change es w) n
left_stays c add [] w n h l none = (refl, l)
left_stays c add (Goes k ∷ es) w n h l none =
    let now = goes_left c w n k (w.stage k) refl h l in
    let later = left_stays c add es (happens c.change w (Goes k)) n (happens_keeps c add w (Goes k) h) now.1 none in (later.0 ∙ now.0, later.1)
left_stays c add (Locks k ∷ es) w n h l none =
    let later = left_stays c add es (happens c.change w (Locks k)) n (happens_keeps c add w (Locks k) h) (locks_left w n k (w.stage k) l) none in (later.0 ∙ locks_same w k (w.stage k), later.1)
left_stays c add (Fills k b ∷ es) w n h l none =
    let later = left_stays c add es (happens c.change w (Fills k b)) n (happens_keeps c add w (Fills k b) h) (fills_left c w n k b (w.stage k) refl h l) none in (later.0 ∙ fills_same c w k b (w.stage k), later.1)
left_stays c add (Fails k ∷ es) w n h l none =
    left_stays c add es (happens c.change w (Fails k)) n (happens_keeps c add w (Fails k) h) (left_on w n k (failed (w.stage k)) l (λ e. ap failed e)) none
left_stays c add (Stops k ∷ es) w n h l none =
    left_stays c add es (happens c.change w (Stops k)) n (happens_keeps c add w (Stops k) h) (left_on w n k (stopped (w.stage k)) l (λ e. ap stopped e)) none
left_stays c add (Clears ∷ es) w n h l none = absurd none

-- commands that give no ids, for statements about the files of any commands
abbrev pub any_of : (ℕ → Content → List ℕ) → Many (Unit {0})
any_of change = record { change = change; Gives = λ k x i. ⊥; Seen = λ x i. Unit {0} }

pub any_adds : (change : ℕ → Content → List ℕ) → OnlyAdds (any_of change)
any_adds change = record { grows = λ k x i h. tt; not_before = λ k x i g h. g; seen_then = λ k x i h. tt }
