-- What holds after any events of processes that follow the protocol.
use Rattle.std.proofs.Common.{◌≡◌, ◌≢◌, ◌⊎◌, inl, inr, ℕ, true, List, [], ◌∷◌, ◌++◌, Option, Some, None, take, drop, ◌+◌, refl, sym, ◌∙◌, ap, subst, cond}
use Rattle.std.proofs.lemmas.Bool.{false_from_ne_true, eq-eqb}
use Rattle.std.proofs.lemmas.Bool.Decides.{eqb_tells}
use Rattle.std.proofs.lemmas.List.{take-append-drop}
use Rattle.std.proofs.lemmas.Option.{same_Some}
use Rattle.std.proofs.Math.Seq.{take-add}
use lib.Pointwise.{bytes_decides}
use Rattle.byte_system.specs.Disk.{Content, content_of, content, named, numbered, released, Disk, Makes, Locks, Writes, Renames, Unlinks, Ends, step, after, Gives, Honest}
use Rattle.byte_protocol.specs.Protocol.{Progress, IsWhole, IsSynced, FoundSame, IsPart, Stage, Begins, HasMade, HasLocked, Owns, Fills, HasLeft, Sweeps, Replaced, ReplacedUnread, Ended, Move, MakesNew, LocksOwn, FindsOwn, GivesUp, WritesAll, WritesPart, WritesMore, WritesRest, SyncsNew, FindsSame, Puts, PutsUnread, Withdraws, LocksLeft, FindsLeft, SweepsLeft, Strays, Forgets, Dies, Job, from, dead, to, finds_call, call_of, IsFair, file_of, IsSameFile, IsElsewhere, Deed, events, stages, Chains, AreFair, Follows, IsStart, IsReplacedBy, IsPutUnread}

-- the new file of process k has come this far
abbrev pub Good : Job → ℕ → Disk → Content → ℕ → Progress → Type 0
Good j k d x i IsWhole = d.bytes i ≡ j.change k x
Good j k d x i IsSynced = d.bytes i ≡ j.change k x
Good j k d x i FoundSame = (d.bytes i ≡ j.change k x) × (content d j.out ≡ x)
Good j k d x i (IsPart n) = d.bytes i ≡ take n (j.change k x)

-- the new name is the process's own: it has the lock of the file with that name
pub record IsOwn (j : Job) (k : ℕ) (d : Disk) (i : ℕ) : Type 0 where
  pub held : d.holder i ≡ Some k
  pub named : d.names j.new ≡ Some i

abbrev pub Fits : Job → ℕ → Disk → Stage → Type 0
Fits j k d Begins = Unit {0}
Fits j k d (HasMade i) = (d.maker i ≡ Some k) × (d.bytes i ≡ [])
Fits j k d (HasLocked i) = (d.maker i ≡ Some k) × (d.bytes i ≡ []) × (d.holder i ≡ Some k)
Fits j k d (Owns i) = (d.maker i ≡ Some k) × IsOwn j k d i × (d.bytes i ≡ [])
Fits j k d (Fills x i p) = (d.maker i ≡ Some k) × IsOwn j k d i × Good j k d x i p
Fits j k d (HasLeft i) = d.holder i ≡ Some k
Fits j k d (Sweeps i) = IsOwn j k d i
Fits j k d (Replaced x) = Unit {0}
Fits j k d ReplacedUnread = Unit {0}
Fits j k d Ended = Unit {0}

abbrev pub AreApart : Job → Disk → Type 0
AreApart j d = (i : ℕ) → d.names j.new ≡ Some i → d.names j.out ≢ Some i

pub record Holds (j : Job) (d : Disk) (stage : ℕ → Stage) : Type 0 where
  pub each : (k : ℕ) → Fits j k d (stage k)
  pub apart : AreApart j d

-- what a call of another process leaves to process m: the files that it made, its locks, and the new name if it is its own, and then OUT
pub record Spares (j : Job) (m : ℕ) (d e : Disk) : Type 0 where
  pub made : (i : ℕ) → d.maker i ≡ Some m → e.maker i ≡ Some m
  pub bytes : (i : ℕ) → d.maker i ≡ Some m → e.bytes i ≡ d.bytes i
  pub held : (i : ℕ) → d.holder i ≡ Some m → e.holder i ≡ Some m
  pub own : (i : ℕ) → IsOwn j m d i → e.names j.new ≡ Some i
  pub kept : (i : ℕ) → IsOwn j m d i → e.bytes i ≡ d.bytes i
  pub out : (i : ℕ) → IsOwn j m d i → content e j.out ≡ content d j.out

spares_own : (j : Job) (m : ℕ) (d e : Disk) → Spares j m d e → (i : ℕ) → IsOwn j m d i → IsOwn j m e i
spares_own j m d e s i o = record { held = s.held i o.held; named = s.own i o }

spares_good : (j : Job) (m : ℕ) (d e : Disk) → Spares j m d e → (x : Content) (i : ℕ) → d.maker i ≡ Some m → IsOwn j m d i → (p : Progress) → Good j m d x i p → Good j m e x i p
spares_good j m d e s x i made o IsWhole g = s.bytes i made ∙ g
spares_good j m d e s x i made o IsSynced g = s.bytes i made ∙ g
spares_good j m d e s x i made o FoundSame g = (s.bytes i made ∙ g.0, s.out i o ∙ g.1)
spares_good j m d e s x i made o (IsPart n) g = s.bytes i made ∙ g

pub spared : (j : Job) (m : ℕ) (d e : Disk) → Spares j m d e → (t : Stage) → Fits j m d t → Fits j m e t
spared j m d e s Begins f = tt
spared j m d e s (HasMade i) f = (s.made i f.0, s.bytes i f.0 ∙ f.1)
spared j m d e s (HasLocked i) f = (s.made i f.0, s.bytes i f.0 ∙ f.1, s.held i f.2)
spared j m d e s (Owns i) f = (s.made i f.0, spares_own j m d e s i f.1, s.bytes i f.0 ∙ f.2)
spared j m d e s (Fills x i p) f = (s.made i f.0, spares_own j m d e s i f.1, spares_good j m d e s x i f.0 f.1 p f.2)
spared j m d e s (HasLeft i) f = s.held i f
spared j m d e s (Sweeps i) f = spares_own j m d e s i f
spared j m d e s (Replaced x) f = tt
spared j m d e s ReplacedUnread f = tt
spared j m d e s Ended f = tt

pub numbered_at : {A : Type 0} (f : ℕ → A) (i : ℕ) (a : A) → numbered f i a i ≡ a
numbered_at f i a = ap (λ b. cond b a (f i)) (eq-eqb i i refl)

pub numbered_other : {A : Type 0} (f : ℕ → A) (i : ℕ) (a : A) (j : ℕ) → j ≢ i → numbered f i a j ≡ f j
numbered_other f i a j ne =
    elim (eqb_tells j i) [
      | inl (t, e) ↦ absurd (ne e)
      | inr (n, e) ↦ ap (λ b. cond b a (f j)) n
    ]

pub named_at : (f : List ℕ → Option ℕ) (p : List ℕ) (v : Option ℕ) → named f p v p ≡ v
named_at f p v = ap (λ b. cond b v (f p)) ((bytes_decides p p).1 refl)

pub named_other : (f : List ℕ → Option ℕ) (p : List ℕ) (v : Option ℕ) (q : List ℕ) → q ≢ p → named f p v q ≡ f q
named_other f p v q ne = ap (λ b. cond b v (f q)) (false_from_ne_true _ (λ e. ne ((bytes_decides q p).0 e)))

pub not_both : (x : Option ℕ) (m k : ℕ) → m ≢ k → x ≡ Some m → x ≡ Some k → ⊥
not_both x m k ne a b = ne (same_Some m k (sym a ∙ b))

pub none_some : (x : Option ℕ) (k : ℕ) → x ≡ None → x ≡ Some k → ⊥
none_some x k a b = cc

-- two processes do not both own the new name
one_owner : (j : Job) (d : Disk) (m k i n : ℕ) → m ≢ k → IsOwn j m d i → IsOwn j k d n → ⊥
one_owner j d m k i n ne a b =
    let same : i ≡ n = same_Some i n (sym a.named ∙ b.named) in
    not_both (d.holder n) m k ne (subst (λ q. d.holder q ≡ Some m) same a.held) b.held

-- what holds of the new stage of one process, and of the stages of all others, holds of each stage
pub at_each : (P : ℕ → Stage → Type 0) (stage : ℕ → Stage) (k : ℕ) (s : Stage) → P k s → ((m : ℕ) → m ≢ k → P m (stage m)) → (m : ℕ) → P m (numbered stage k s m)
at_each P stage k s here others m =
    elim (eqb_tells m k) [
      | inl (t, e) ↦ subst (λ b. P m (cond b s (stage m))) (sym t) (subst (λ n. P n s) (sym e) here)
      | inr (f, ne) ↦ subst (λ b. P m (cond b s (stage m))) (sym f) (others m ne)
    ]

moved : (j : Job) (d e : Disk) (stage : ℕ → Stage) (k : ℕ) (s : Stage) → Holds j d stage → ((m : ℕ) → m ≢ k → Spares j m d e) → AreApart j e → Fits j k e s
    → Holds j e (numbered stage k s)
moved j d e stage k s h others apart here = record {
  each = at_each (λ m t. Fits j m e t) stage k s here (λ m ne. spared j m d e (others m ne) (stage m) (h.each m));
  apart = apart;
}

still : (j : Job) (d : Disk) (stage : ℕ → Stage) (k : ℕ) (s : Stage) → Holds j d stage → Fits j k d s → Holds j d (numbered stage k s)
still j d stage k s h here = record { each = at_each (λ m t. Fits j m d t) stage k s here (λ m ne. h.each m); apart = h.apart }

-- a new file
makes_spares : (j : Job) (d : Disk) (k i m : ℕ) → Gives d k (Makes j.new (Some i)) → m ≢ k → Spares j m d (step d k (Makes j.new (Some i)))
makes_spares j d k i m g ne = record {
  made = λ n e. numbered_other d.maker i (Some k) n (λ same. none_some (d.maker i) m g.1.made (subst (λ q. d.maker q ≡ Some m) same e)) ∙ e;
  bytes = λ n e. refl;
  held = λ n e. e;
  own = λ n o. absurd (none_some (d.names j.new) n g.0 o.named);
  kept = λ n o. refl;
  out = λ n o. absurd (none_some (d.names j.new) n g.0 o.named);
}

makes_apart : (j : Job) (d : Disk) (k i : ℕ) → j.new ≢ j.out → Gives d k (Makes j.new (Some i)) → AreApart j (step d k (Makes j.new (Some i)))
makes_apart j d k i two g n e f =
    let same : i ≡ n = same_Some i n (sym (named_at d.names j.new (Some i)) ∙ e) in
    let was : d.names j.out ≡ Some n = sym (named_other d.names j.new (Some i) j.out (λ q. two (sym q))) ∙ f in
    g.1.nameless j.out (was ∙ ap Some (sym same))

-- a lock
locks_spares : (j : Job) (d : Disk) (k i m : ℕ) → Gives d k (Locks i true) → m ≢ k → Spares j m d (step d k (Locks i true))
locks_spares j d k i m g ne = record {
  made = λ n e. e;
  bytes = λ n e. refl;
  held = λ n e. numbered_other d.holder i (Some k) n (λ same. taken (subst (λ q. d.holder q ≡ Some m) same e)) ∙ e;
  own = λ n o. o.named;
  kept = λ n o. refl;
  out = λ n o. refl;
} where
  taken : d.holder i ≡ Some m → ⊥
  taken e = elim g [
    | inl free ↦ none_some (d.holder i) m free e
    | inr mine ↦ not_both (d.holder i) m k ne e mine
  ]

-- bytes that the owner of the new name writes to its file
writes_spares : (j : Job) (d : Disk) (k i m : ℕ) (bs : List ℕ) → d.maker i ≡ Some k → IsOwn j k d i → m ≢ k → Spares j m d (step d k (Writes i bs))
writes_spares j d k i m bs made o ne = record {
  made = λ n e. e;
  bytes = λ n e. numbered_other d.bytes i (d.bytes i ++ bs) n (λ same. not_both (d.maker i) m k ne (subst (λ q. d.maker q ≡ Some m) same e) made);
  held = λ n e. e;
  own = λ n p. p.named;
  kept = λ n p. absurd (one_owner j d m k n i ne p o);
  out = λ n p. absurd (one_owner j d m k n i ne p o);
}

-- the owner of the new name takes it from its file
unlinks_spares : (j : Job) (d : Disk) (k i m : ℕ) → IsOwn j k d i → m ≢ k → Spares j m d (step d k (Unlinks j.new))
unlinks_spares j d k i m o ne = record {
  made = λ n e. e;
  bytes = λ n e. refl;
  held = λ n e. e;
  own = λ n p. absurd (one_owner j d m k n i ne p o);
  kept = λ n p. refl;
  out = λ n p. absurd (one_owner j d m k n i ne p o);
}

-- the owner of the new name renames its file
renames_spares : (j : Job) (d : Disk) (k i m : ℕ) → IsOwn j k d i → m ≢ k → Spares j m d (step d k (Renames j.new j.out))
renames_spares j d k i m o ne = record {
  made = λ n e. e;
  bytes = λ n e. refl;
  held = λ n e. e;
  own = λ n p. absurd (one_owner j d m k n i ne p o);
  kept = λ n p. refl;
  out = λ n p. absurd (one_owner j d m k n i ne p o);
}

none_apart : (j : Job) (d : Disk) → d.names j.new ≡ None → AreApart j d
none_apart j d none i e = absurd (none_some (d.names j.new) i none e)

-- a process ends
pub still_held : (x : Option ℕ) (k m : ℕ) → m ≢ k → x ≡ Some m → released k x ≡ Some m
still_held None k m ne e = cc
still_held (Some n) k m ne e =
    elim (eqb_tells n k) [
      | inl (t, same) ↦ absurd (ne (same_Some m n (sym e) ∙ same))
      | inr (f, other) ↦ ap (λ b. cond b None (Some n)) f ∙ e
    ]

ends_spares : (j : Job) (d : Disk) (k m : ℕ) → m ≢ k → Spares j m d (step d k Ends)
ends_spares j d k m ne = record {
  made = λ n e. e;
  bytes = λ n e. refl;
  held = λ n e. still_held (d.holder n) k m ne e;
  own = λ n o. o.named;
  kept = λ n o. refl;
  out = λ n o. refl;
}

dead_fits : (j : Job) (k : ℕ) (d : Disk) (s : Stage) → Fits j k d (dead s)
dead_fits j k d Begins = tt
dead_fits j k d (HasMade i) = tt
dead_fits j k d (HasLocked i) = tt
dead_fits j k d (Owns i) = tt
dead_fits j k d (Fills x i p) = tt
dead_fits j k d (HasLeft i) = tt
dead_fits j k d (Sweeps i) = tt
dead_fits j k d (Replaced x) = tt
dead_fits j k d ReplacedUnread = tt
dead_fits j k d Ended = tt

written : (d : Disk) (i : ℕ) (bs : List ℕ) → d.bytes i ≡ [] → numbered d.bytes i (d.bytes i ++ bs) i ≡ bs
written d i bs empty = numbered_at d.bytes i (d.bytes i ++ bs) ∙ ap (λ old. old ++ bs) empty

-- more bytes after those that are there
added : (d : Disk) (i : ℕ) (bs part all : List ℕ) → d.bytes i ≡ bs → bs ++ part ≡ all → numbered d.bytes i (d.bytes i ++ part) i ≡ all
added d i bs part all has is = numbered_at d.bytes i (d.bytes i ++ part) ∙ ap (λ old. old ++ part) has ∙ is

found_same : (d : Disk) (k : ℕ) (out : List ℕ) (x : Content) → Gives d k (finds_call out x) → content d out ≡ x
found_same d k out None g = g
found_same d k out (Some read) g = g

finds_same : (d : Disk) (k : ℕ) (out : List ℕ) (x : Content) → step d k (finds_call out x) ≡ d
finds_same d k out None = refl
finds_same d k out (Some read) = refl

elsewhere_spares : (j : Job) (k : ℕ) (s : Stage) (d e : Disk) → IsElsewhere j k s d e → (m : ℕ) → m ≢ k → Spares j m d e
elsewhere_spares j k s d e w m ne = record {
  made = λ i is. (w.made i m ne is).0;
  bytes = λ i is. (w.made i m ne is).1;
  held = λ i is. (w.held i m ne is).0;
  own = λ i o. w.at_new ∙ o.named;
  kept = λ i o. (w.held i m ne o.held).1;
  out = λ i o. w.content;
}

alone_own : (j : Job) (k : ℕ) (d e : Disk) (i : ℕ) → e.names j.new ≡ d.names j.new → IsSameFile i d e → IsOwn j k d i → IsOwn j k e i
alone_own j k d e i new same o = record { held = same.holder ∙ o.held; named = new ∙ o.named }

alone_good : (j : Job) (k : ℕ) (d e : Disk) (x : Content) (i : ℕ) → content e j.out ≡ content d j.out → IsSameFile i d e → (p : Progress) → Good j k d x i p → Good j k e x i p
alone_good j k d e x i out same IsWhole g = same.bytes ∙ g
alone_good j k d e x i out same IsSynced g = same.bytes ∙ g
alone_good j k d e x i out same FoundSame g = (same.bytes ∙ g.0, out ∙ g.1)
alone_good j k d e x i out same (IsPart n) g = same.bytes ∙ g

-- a process is where it was, if its own call was elsewhere
alone : (j : Job) (k : ℕ) (d e : Disk) → e.names j.new ≡ d.names j.new → content e j.out ≡ content d j.out → (s : Stage) → ((i : ℕ) → file_of s ≡ Some i → IsSameFile i d e) → Fits j k d s → Fits j k e s
alone j k d e new out Begins same f = tt
alone j k d e new out (HasMade i) same f = ((same i refl).maker ∙ f.0, (same i refl).bytes ∙ f.1)
alone j k d e new out (HasLocked i) same f = ((same i refl).maker ∙ f.0, (same i refl).bytes ∙ f.1, (same i refl).holder ∙ f.2)
alone j k d e new out (Owns i) same f = ((same i refl).maker ∙ f.0, alone_own j k d e i new (same i refl) f.1, (same i refl).bytes ∙ f.2)
alone j k d e new out (Fills x i p) same f = ((same i refl).maker ∙ f.0, alone_own j k d e i new (same i refl) f.1, alone_good j k d e x i out (same i refl) p f.2)
alone j k d e new out (HasLeft i) same f = (same i refl).holder ∙ f
alone j k d e new out (Sweeps i) same f = alone_own j k d e i new (same i refl) f
alone j k d e new out (Replaced x) same f = tt
alone j k d e new out ReplacedUnread same f = tt
alone j k d e new out Ended same f = tt

-- each move keeps the invariant
pub keeps : (j : Job) (d : Disk) (stage : ℕ → Stage) (k : ℕ) (m : Move) → j.new ≢ j.out → Holds j d stage → Fits j k d (from m) → Gives d k (call_of j k m) → IsFair j d k m
    → Holds j (step d k (call_of j k m)) (numbered stage k (to m))
keeps j d stage k (MakesNew i) two h f g fair =
    moved j d (step d k (Makes j.new (Some i))) stage k (HasMade i) h (λ m ne. makes_spares j d k i m g ne) (makes_apart j d k i two g)
    (numbered_at d.maker i (Some k), g.1.empty)
keeps j d stage k (LocksOwn i) two h f g fair =
    moved j d (step d k (Locks i true)) stage k (HasLocked i) h (λ m ne. locks_spares j d k i m g ne) h.apart (f.0, f.1, numbered_at d.holder i (Some k))
keeps j d stage k (FindsOwn i) two h f g fair = still j d stage k (Owns i) h (f.0, record { held = f.2; named = g }, f.1)
keeps j d stage k (GivesUp i) two h f g fair =
    moved j d (step d k (Unlinks j.new)) stage k Ended h (λ m ne. unlinks_spares j d k i m f.1 ne)
    (none_apart j (step d k (Unlinks j.new)) (named_at d.names j.new None)) tt
keeps j d stage k (WritesAll x i) two h f g fair =
    moved j d (step d k (Writes i (j.change k x))) stage k (Fills x i IsWhole) h (λ m ne. writes_spares j d k i m (j.change k x) f.0 f.1 ne) h.apart
    (f.0, record { held = f.1.held; named = f.1.named }, written d i (j.change k x) f.2)
keeps j d stage k (WritesPart x i n) two h f g fair =
    moved j d (step d k (Writes i (take n (j.change k x)))) stage k (Fills x i (IsPart n)) h (λ m ne. writes_spares j d k i m (take n (j.change k x)) f.0 f.1 ne) h.apart
    (f.0, record { held = f.1.held; named = f.1.named }, written d i (take n (j.change k x)) f.2)
keeps j d stage k (WritesMore x i n l) two h f g fair =
    let c = j.change k x in
    moved j d (step d k (Writes i (take l (drop n c)))) stage k (Fills x i (IsPart (n + l))) h (λ m ne. writes_spares j d k i m (take l (drop n c)) f.0 f.1 ne) h.apart
    (f.0, record { held = f.1.held; named = f.1.named }, added d i (take n c) (take l (drop n c)) (take (n + l) c) f.2 (sym (take-add n l c)))
keeps j d stage k (WritesRest x i n) two h f g fair =
    let c = j.change k x in
    moved j d (step d k (Writes i (drop n c))) stage k (Fills x i IsWhole) h (λ m ne. writes_spares j d k i m (drop n c) f.0 f.1 ne) h.apart
    (f.0, record { held = f.1.held; named = f.1.named }, added d i (take n c) (drop n c) c f.2 (take-append-drop n c))
keeps j d stage k (SyncsNew x i) two h f g fair = still j d stage k (Fills x i IsSynced) h f
keeps j d stage k (FindsSame x i) two h f g fair =
    let e = finds_same d k j.out x in
    subst (λ e. Holds j e (numbered stage k (Fills x i FoundSame))) (sym e) (still j d stage k (Fills x i FoundSame) h (f.0, f.1, (f.2, found_same d k j.out x g)))
keeps j d stage k (Puts x i) two h f g fair =
    moved j d (step d k (Renames j.new j.out)) stage k (Replaced x) h (λ m ne. renames_spares j d k i m f.1 ne)
    (none_apart j (step d k (Renames j.new j.out)) (named_at (named d.names j.out (d.names j.new)) j.new None)) tt
keeps j d stage k (PutsUnread i) two h f g fair =
    moved j d (step d k (Renames j.new j.out)) stage k ReplacedUnread h (λ m ne. renames_spares j d k i m f.1 ne)
    (none_apart j (step d k (Renames j.new j.out)) (named_at (named d.names j.out (d.names j.new)) j.new None)) tt
keeps j d stage k (Withdraws x i p) two h f g fair =
    moved j d (step d k (Unlinks j.new)) stage k Ended h (λ m ne. unlinks_spares j d k i m f.1 ne)
    (none_apart j (step d k (Unlinks j.new)) (named_at d.names j.new None)) tt
keeps j d stage k (LocksLeft i) two h f g fair =
    moved j d (step d k (Locks i true)) stage k (HasLeft i) h (λ m ne. locks_spares j d k i m g ne) h.apart (numbered_at d.holder i (Some k))
keeps j d stage k (FindsLeft i) two h f g fair = still j d stage k (Sweeps i) h (record { held = f; named = g })
keeps j d stage k (SweepsLeft i) two h f g fair =
    moved j d (step d k (Unlinks j.new)) stage k Begins h (λ m ne. unlinks_spares j d k i m f ne)
    (none_apart j (step d k (Unlinks j.new)) (named_at d.names j.new None)) tt
keeps j d stage k (Strays s c) two h f g fair =
    moved j d (step d k c) stage k s h (λ m ne. elsewhere_spares j k s d (step d k c) fair m ne) (λ i e n. h.apart i (sym fair.at_new ∙ e) (sym fair.at_out ∙ n))
    (alone j k d (step d k c) fair.at_new fair.content s fair.own f)
keeps j d stage k (Forgets s c) two h f g fair =
    moved j d (step d k c) stage k Begins h (λ m ne. elsewhere_spares j k s d (step d k c) fair m ne) (λ i e n. h.apart i (sym fair.at_new ∙ e) (sym fair.at_out ∙ n)) tt
keeps j d stage k (Dies s) two h f g fair =
    moved j d (step d k Ends) stage k (dead s) h (λ m ne. ends_spares j d k m ne) h.apart (dead_fits j k (step d k Ends) s)

pub always : (j : Job) (first : Disk) → IsStart j first → (es : List Deed) → Chains es → AreFair j first es → Honest first (events j es) → Holds j (after first (events j es)) (stages es)
always j first s [] c f h = record { each = λ k. tt; apart = s.apart }
always j first s (e ∷ es) c f h =
    let was = always j first s es c.0 f.0 h.0 in
    keeps j (after first (events j es)) (stages es) e.by e.move s.two was (subst (Fits j e.by (after first (events j es))) c.1 (was.each e.by)) h.1 f.1

-- bytes written to another file than OUT leave its content
written_apart : (d : Disk) (i : ℕ) (bs : List ℕ) (out : Option ℕ) → out ≢ Some i → content_of (numbered d.bytes i (d.bytes i ++ bs)) out ≡ content_of d.bytes out
written_apart d i bs None ne = refl
written_apart d i bs (Some o) ne = ap Some (numbered_other d.bytes i (d.bytes i ++ bs) o (λ e. ne (ap Some e)))

new_content : (j : Job) (d : Disk) (k i : ℕ) → j.new ≢ j.out → IsOwn j k d i → content (step d k (Renames j.new j.out)) j.out ≡ Some (d.bytes i)
new_content j d k i two o =
    let is : named (named d.names j.out (d.names j.new)) j.new None j.out ≡ Some i =
    named_other (named d.names j.out (d.names j.new)) j.new None j.out (λ q. two (sym q)) ∙ named_at d.names j.out (d.names j.new) ∙ o.named
    in ap (content_of d.bytes) is

pub puts_content : (j : Job) (d : Disk) (k : ℕ) (x : Content) (i : ℕ) → j.new ≢ j.out → Fits j k d (Fills x i FoundSame) → content (step d k (Renames j.new j.out)) j.out ≡ Some (j.change k x)
puts_content j d k x i two f = new_content j d k i two f.1 ∙ ap Some f.2.0

pub unread_content : (j : Job) (d : Disk) (k i : ℕ) → j.new ≢ j.out → Fits j k d (Fills None i IsSynced) → content (step d k (Renames j.new j.out)) j.out ≡ Some (j.change k None)
unread_content j d k i two f = new_content j d k i two f.1 ∙ ap Some f.2

-- the content of OUT stays, or is replaced by what is made of it, or one that did not read it puts its file there
pub changes : (j : Job) (d : Disk) (stage : ℕ → Stage) (k : ℕ) (m : Move) → j.new ≢ j.out → Holds j d stage → Fits j k d (from m) → IsFair j d k m
    → (content (step d k (call_of j k m)) j.out ≡ content d j.out)
    ⊎ (IsReplacedBy j k (from m) d (step d k (call_of j k m)) ⊎ IsPutUnread j k m d (step d k (call_of j k m)))
changes j d stage k (MakesNew i) two h f fair = inl (ap (content_of d.bytes) (named_other d.names j.new (Some i) j.out (λ q. two (sym q))))
changes j d stage k (LocksOwn i) two h f fair = inl refl
changes j d stage k (FindsOwn i) two h f fair = inl refl
changes j d stage k (GivesUp i) two h f fair = inl (ap (content_of d.bytes) (named_other d.names j.new None j.out (λ q. two (sym q))))
changes j d stage k (WritesAll x i) two h f fair = inl (written_apart d i (j.change k x) (d.names j.out) (h.apart i f.1.named))
changes j d stage k (WritesPart x i n) two h f fair = inl (written_apart d i (take n (j.change k x)) (d.names j.out) (h.apart i f.1.named))
changes j d stage k (WritesMore x i n l) two h f fair = inl (written_apart d i (take l (drop n (j.change k x))) (d.names j.out) (h.apart i f.1.named))
changes j d stage k (WritesRest x i n) two h f fair = inl (written_apart d i (drop n (j.change k x)) (d.names j.out) (h.apart i f.1.named))
changes j d stage k (SyncsNew x i) two h f fair = inl refl
changes j d stage k (FindsSame x i) two h f fair = inl (ap (λ e. content e j.out) (finds_same d k j.out x))
changes j d stage k (Puts x i) two h f fair =
    inr (inl (record { found = (i, ap (λ y. Fills y i FoundSame) (sym f.2.1)); made = puts_content j d k x i two f ∙ ap (λ y. Some (j.change k y)) (sym f.2.1) }))
changes j d stage k (PutsUnread i) two h f fair = inr (inr (record { moved = (i, refl); made = unread_content j d k i two f }))
changes j d stage k (Withdraws x i p) two h f fair = inl (ap (content_of d.bytes) (named_other d.names j.new None j.out (λ q. two (sym q))))
changes j d stage k (LocksLeft i) two h f fair = inl refl
changes j d stage k (FindsLeft i) two h f fair = inl refl
changes j d stage k (SweepsLeft i) two h f fair = inl (ap (content_of d.bytes) (named_other d.names j.new None j.out (λ q. two (sym q))))
changes j d stage k (Strays s c) two h f fair = inl fair.content
changes j d stage k (Forgets s c) two h f fair = inl fair.content
changes j d stage k (Dies s) two h f fair = inl refl

pub follows_changes : (j : Job) (first : Disk) → IsStart j first → (es : List Deed) (e : Deed) → Follows j first (e ∷ es)
    → let old = after first (events j es) in let new = after first (events j (e ∷ es)) in
    (content new j.out ≡ content old j.out) ⊎ (IsReplacedBy j e.by (stages es e.by) old new ⊎ IsPutUnread j e.by e.move old new)
follows_changes j first s es e f =
    let old = after first (events j es) in
    let new = after first (events j (e ∷ es)) in
    let h = always j first s es f.chains.0 f.fair.0 f.honest.0 in
    subst (λ t. (content new j.out ≡ content old j.out) ⊎ (IsReplacedBy j e.by t old new ⊎ IsPutUnread j e.by e.move old new)) (sym f.chains.1)
    (changes j old (stages es) e.by e.move s.two h (subst (Fits j e.by old) f.chains.1 (h.each e.by)) f.fair.1)

-- OUT is the first content, or all the bytes of a process
pub whole : (j : Job) (first : Disk) → IsStart j first → (es : List Deed) → Follows j first es
    → (content (after first (events j es)) j.out ≡ content first j.out) ⊎ ((k : ℕ) × (x : Content) × (content (after first (events j es)) j.out ≡ Some (j.change k x)))
whole j first s [] f = inl refl
whole j first s (e ∷ es) f =
    elim (follows_changes j first s es e f) [
      | inl same ↦ elim (whole j first s es (record { chains = f.chains.0; fair = f.fair.0; honest = f.honest.0 })) [
        | inl was ↦ inl (same ∙ was)
        | inr made ↦ inr (made.0, made.1, same ∙ made.2)
      ]
      | inr other ↦ elim other [
        | inl by ↦ inr (e.by, content (after first (events j es)) j.out, by.made)
        | inr put ↦ inr (e.by, None, put.made)
      ]
    ]
