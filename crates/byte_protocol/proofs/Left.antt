-- What is left of OUT after a loss of power.
use Rattle.std.proofs.Common.{◌≡◌, ◌≢◌, ◌⊎◌, inl, inr, ℕ, Bool, true, false, List, [], ◌∷◌, ◌++◌, Option, Some, None, take, drop, bytes_eq, eqb, refl, sym, ◌∙◌, ap, subst, cond}
use Rattle.std.proofs.lemmas.Bool.{both_ways, eq-eqb}
use Rattle.std.proofs.lemmas.Bool.Decides.{eqb_tells}
use Rattle.std.proofs.lemmas.Option.{none-some, same_Some}
use lib.Pointwise.{bytes_decides}
use Rattle.byte_system.specs.Disk.{Content, content_of, content, named, Disk, Event, Call, Makes, Opens, Locks, Looks, Writes, Syncs, Reads, Compares, Renames, Unlinks, SyncsFolder, Finds, Likens, Fails, Ends, step, after}
use Rattle.byte_protocol.specs.Protocol.{IsWhole, IsSynced, FoundSame, IsPart, Stage, Begins, HasMade, HasLocked, Owns, Fills, HasLeft, Sweeps, Replaced, ReplacedUnread, Ended, Move, MakesNew, LocksOwn, FindsOwn, GivesUp, WritesAll, WritesPart, WritesMore, WritesRest, SyncsNew, FindsSame, Puts, PutsUnread, Withdraws, LocksLeft, FindsLeft, SweepsLeft, Strays, Forgets, Dies, Job, from, dead, to, finds_call, call_of, IsFair, Deed, events, stages, Follows, IsStart, AreRead}
use Rattle.byte_protocol.specs.Unread.{UnreadHave}
use Rattle.byte_protocol.specs.Cuts.{clean_after, is_clean, MayLead, IsLeft, IsSince, WasAt, written, Spares, AreSparing}
use Rattle.byte_protocol.proofs.Kept.{numbered_at, numbered_other, named_at, named_other, not_both, at_each, IsOwn, Fits, always, whole}
use Rattle.byte_protocol.proofs.Put.{fewer, stays, is_kept, read_have, later_have, earlier_have}

-- what is known of the files of a stage: before the name OUT is taken, the new file never had it, and once it is synced, it stays clean
abbrev IsSafe : Job → Disk → List Event → Stage → Type 0
IsSafe j first es (HasMade i) = WasAt first es j.out i → ⊥
IsSafe j first es (HasLocked i) = WasAt first es j.out i → ⊥
IsSafe j first es (Owns i) = WasAt first es j.out i → ⊥
IsSafe j first es (Fills x i (IsPart n)) = WasAt first es j.out i → ⊥
IsSafe j first es (Fills x i IsSynced) = is_clean es i ≡ true
IsSafe j first es (Fills x i FoundSame) = is_clean es i ≡ true
IsSafe j first es s = Unit {0}

record AreSafe (j : Job) (first : Disk) (es : List Event) (stage : ℕ → Stage) : Type 0 where
  each : (k : ℕ) → IsSafe j first es (stage k)
  clean : (i : ℕ) → WasAt first es j.out i → is_clean es i ≡ true

-- a call that does not write to a file leaves its bytes, and what is on the disk
record Leaves (d : Disk) (k i : ℕ) (c : Call) : Type 0 where
  bytes : (step d k c).bytes i ≡ d.bytes i
  clean : (b : Bool) → b ≡ true → clean_after i b c ≡ true

idle : (d : Disk) (k i : ℕ) (c : Call) → (step d k c).bytes i ≡ d.bytes i → ((b : Bool) → clean_after i b c ≡ b) → Leaves d k i c
idle d k i c same is = record { bytes = same; clean = λ b t. is b ∙ t }

leaves : (d : Disk) (k i : ℕ) (c : Call) → (written c ≡ Some i → ⊥) → Leaves d k i c
leaves d k i (Makes p None) ne = idle d k i (Makes p None) refl (λ b. refl)
leaves d k i (Makes p (Some n)) ne = idle d k i (Makes p (Some n)) refl (λ b. refl)
leaves d k i (Opens p n) ne = idle d k i (Opens p n) refl (λ b. refl)
leaves d k i (Locks n true) ne = idle d k i (Locks n true) refl (λ b. refl)
leaves d k i (Locks n false) ne = idle d k i (Locks n false) refl (λ b. refl)
leaves d k i (Looks p n t) ne = idle d k i (Looks p n t) refl (λ b. refl)
leaves d k i (Writes n bs) ne = record {
  bytes = numbered_other d.bytes n (d.bytes n ++ bs) i (λ e. ne (ap Some (sym e)));
  clean = λ b t. elim (eqb_tells i n) [
    | inl (same, e) ↦ absurd (ne (ap Some (sym e)))
    | inr (other, e) ↦ ap (λ q. cond q false b) other ∙ t
  ];
}
leaves d k i (Syncs n) ne = record { bytes = refl; clean = λ b t. synced (eqb i n) b t } where
  synced : (q b : Bool) → b ≡ true → cond q true b ≡ true
  synced true b t = refl
  synced false b t = t
leaves d k i (Reads p x) ne = idle d k i (Reads p x) refl (λ b. refl)
leaves d k i (Compares p bs t) ne = idle d k i (Compares p bs t) refl (λ b. refl)
leaves d k i (Renames p q) ne = idle d k i (Renames p q) refl (λ b. refl)
leaves d k i (Unlinks p) ne = idle d k i (Unlinks p) refl (λ b. refl)
leaves d k i (SyncsFolder p) ne = idle d k i (SyncsFolder p) refl (λ b. refl)
leaves d k i (Finds p t) ne = idle d k i (Finds p t) refl (λ b. refl)
leaves d k i (Likens n p) ne = idle d k i (Likens n p) refl (λ b. refl)
leaves d k i Fails ne = idle d k i Fails refl (λ b. refl)
leaves d k i Ends ne = idle d k i Ends refl (λ b. refl)

finds_unwritten : (out : List ℕ) (x : Content) (i : ℕ) → written (finds_call out x) ≡ Some i → ⊥
finds_unwritten out None i e = none-some i e
finds_unwritten out (Some read) i e = none-some i e

now_was : (first : Disk) (es : List Event) (p : List ℕ) (i : ℕ) → (after first es).names p ≡ Some i → WasAt first es p i
now_was first [] p i e = e
now_was first (v ∷ es) p i e = inl e

-- no move writes to a file that had the name OUT
unwritten : (j : Job) (first : Disk) (es : List Event) (k : ℕ) (m : Move) → IsSafe j first es (from m) → Spares j first es m → (i : ℕ) → WasAt first es j.out i
    → written (call_of j k m) ≡ Some i → ⊥
unwritten j first es k (MakesNew n) s sp i w e = none-some i e
unwritten j first es k (LocksOwn n) s sp i w e = none-some i e
unwritten j first es k (FindsOwn n) s sp i w e = none-some i e
unwritten j first es k (GivesUp n) s sp i w e = none-some i e
unwritten j first es k (WritesAll x n) s sp i w e = s (subst (WasAt first es j.out) (sym (same_Some n i e)) w)
unwritten j first es k (WritesPart x n l) s sp i w e = s (subst (WasAt first es j.out) (sym (same_Some n i e)) w)
unwritten j first es k (WritesMore x n l m) s sp i w e = s (subst (WasAt first es j.out) (sym (same_Some n i e)) w)
unwritten j first es k (WritesRest x n l) s sp i w e = s (subst (WasAt first es j.out) (sym (same_Some n i e)) w)
unwritten j first es k (SyncsNew x n) s sp i w e = none-some i e
unwritten j first es k (FindsSame x n) s sp i w e = finds_unwritten j.out x i e
unwritten j first es k (Puts x n) s sp i w e = none-some i e
unwritten j first es k (PutsUnread n) s sp i w e = none-some i e
unwritten j first es k (Withdraws x n p) s sp i w e = none-some i e
unwritten j first es k (LocksLeft n) s sp i w e = none-some i e
unwritten j first es k (FindsLeft n) s sp i w e = none-some i e
unwritten j first es k (SweepsLeft n) s sp i w e = none-some i e
unwritten j first es k (Strays s c) f sp i w e = (sp i e).0 w
unwritten j first es k (Forgets s c) f sp i w e = (sp i e).0 w
unwritten j first es k (Dies s) f sp i w e = none-some i e

-- and none to the new file of another process
unwritten_other : (j : Job) (first : Disk) (es : List Event) (k : ℕ) (m : Move) → Fits j k (after first es) (from m) → Spares j first es m
    → (q i : ℕ) → q ≢ k → (after first es).maker i ≡ Some q → IsOwn j q (after first es) i → written (call_of j k m) ≡ Some i → ⊥
unwritten_other j first es k (MakesNew n) f sp q i ne made o e = none-some i e
unwritten_other j first es k (LocksOwn n) f sp q i ne made o e = none-some i e
unwritten_other j first es k (FindsOwn n) f sp q i ne made o e = none-some i e
unwritten_other j first es k (GivesUp n) f sp q i ne made o e = none-some i e
unwritten_other j first es k (WritesAll x n) f sp q i ne made o e =
    not_both ((after first es).maker i) q k ne made (subst (λ a. (after first es).maker a ≡ Some k) (same_Some n i e) f.0)
unwritten_other j first es k (WritesPart x n l) f sp q i ne made o e =
    not_both ((after first es).maker i) q k ne made (subst (λ a. (after first es).maker a ≡ Some k) (same_Some n i e) f.0)
unwritten_other j first es k (WritesMore x n l m) f sp q i ne made o e =
    not_both ((after first es).maker i) q k ne made (subst (λ a. (after first es).maker a ≡ Some k) (same_Some n i e) f.0)
unwritten_other j first es k (WritesRest x n l) f sp q i ne made o e =
    not_both ((after first es).maker i) q k ne made (subst (λ a. (after first es).maker a ≡ Some k) (same_Some n i e) f.0)
unwritten_other j first es k (SyncsNew x n) f sp q i ne made o e = none-some i e
unwritten_other j first es k (FindsSame x n) f sp q i ne made o e = finds_unwritten j.out x i e
unwritten_other j first es k (Puts x n) f sp q i ne made o e = none-some i e
unwritten_other j first es k (PutsUnread n) f sp q i ne made o e = none-some i e
unwritten_other j first es k (Withdraws x n p) f sp q i ne made o e = none-some i e
unwritten_other j first es k (LocksLeft n) f sp q i ne made o e = none-some i e
unwritten_other j first es k (FindsLeft n) f sp q i ne made o e = none-some i e
unwritten_other j first es k (SweepsLeft n) f sp q i ne made o e = none-some i e
unwritten_other j first es k (Strays s c) f sp q i ne made o e = (sp i e).1 (now_was first es j.new i o.named)
unwritten_other j first es k (Forgets s c) f sp q i ne made o e = (sp i e).1 (now_was first es j.new i o.named)
unwritten_other j first es k (Dies s) f sp q i ne made o e = none-some i e

-- a file that gets the name OUT was made by the process that renames it, is clean, and is not written to
abbrev ComesTo : Job → Disk → List Event → ℕ → Move → ℕ → Type 0
ComesTo j first es k m i = ((after first es).maker i ≡ Some k) × (is_clean es i ≡ true) × (written (call_of j k m) ≡ Some i → ⊥)

stays_out : (j : Job) (names : List ℕ → Option ℕ) (v : Option ℕ) (i : ℕ) → j.new ≢ j.out → named names j.new v j.out ≡ Some i → names j.out ≡ Some i
stays_out j names v i two e = sym (named_other names j.new v j.out (λ q. two (sym q))) ∙ e

comes : (j : Job) (first : Disk) (es : List Event) (k : ℕ) (m : Move) → j.new ≢ j.out → Fits j k (after first es) (from m) → IsSafe j first es (from m) → IsFair j (after first es) k m
    → (i : ℕ) → (step (after first es) k (call_of j k m)).names j.out ≡ Some i → ((after first es).names j.out ≡ Some i) ⊎ ComesTo j first es k m i
comes j first es k (MakesNew n) two f s fair i e = inl (stays_out j (after first es).names (Some n) i two e)
comes j first es k (LocksOwn n) two f s fair i e = inl e
comes j first es k (FindsOwn n) two f s fair i e = inl e
comes j first es k (GivesUp n) two f s fair i e = inl (stays_out j (after first es).names None i two e)
comes j first es k (WritesAll x n) two f s fair i e = inl e
comes j first es k (WritesPart x n l) two f s fair i e = inl e
comes j first es k (WritesMore x n l m) two f s fair i e = inl e
comes j first es k (WritesRest x n l) two f s fair i e = inl e
comes j first es k (SyncsNew x n) two f s fair i e = inl e
comes j first es k (FindsSame None n) two f s fair i e = inl e
comes j first es k (FindsSame (Some read) n) two f s fair i e = inl e
comes j first es k (Puts x n) two f s fair i e =
    let names = (after first es).names in
    let at : named names j.out (names j.new) j.out ≡ Some i = stays_out j (named names j.out (names j.new)) None i two e in
    let is : n ≡ i = same_Some n i (sym f.1.named ∙ sym (named_at names j.out (names j.new)) ∙ at) in
    inr (subst (ComesTo j first es k (Puts x n)) is (f.0, s, λ w. none-some n w))
comes j first es k (PutsUnread n) two f s fair i e =
    let names = (after first es).names in
    let at : named names j.out (names j.new) j.out ≡ Some i = stays_out j (named names j.out (names j.new)) None i two e in
    let is : n ≡ i = same_Some n i (sym f.1.named ∙ sym (named_at names j.out (names j.new)) ∙ at) in
    inr (subst (ComesTo j first es k (PutsUnread n)) is (f.0, s, λ w. none-some n w))
comes j first es k (Withdraws x n p) two f s fair i e = inl (stays_out j (after first es).names None i two e)
comes j first es k (LocksLeft n) two f s fair i e = inl e
comes j first es k (FindsLeft n) two f s fair i e = inl e
comes j first es k (SweepsLeft n) two f s fair i e = inl (stays_out j (after first es).names None i two e)
comes j first es k (Strays s c) two f safe fair i e = inl (sym fair.at_out ∙ e)
comes j first es k (Forgets s c) two f safe fair i e = inl (sym fair.at_out ∙ e)
comes j first es k (Dies s) two f safe fair i e = inl e

-- what is known of a stage stays, if its file does not get the name OUT, and stays clean
carried : (j : Job) (first : Disk) (es fs : List Event) (k : ℕ) (s : Stage) → Fits j k (after first es) s
    → ((i : ℕ) → (after first es).maker i ≡ Some k → WasAt first fs j.out i → WasAt first es j.out i)
    → ((i : ℕ) → (after first es).maker i ≡ Some k → IsOwn j k (after first es) i → is_clean es i ≡ true → is_clean fs i ≡ true)
    → IsSafe j first es s → IsSafe j first fs s
carried j first es fs k Begins f was clean s = tt
carried j first es fs k (HasMade i) f was clean s = λ w. s (was i f.0 w)
carried j first es fs k (HasLocked i) f was clean s = λ w. s (was i f.0 w)
carried j first es fs k (Owns i) f was clean s = λ w. s (was i f.0 w)
carried j first es fs k (Fills x i IsWhole) f was clean s = tt
carried j first es fs k (Fills x i IsSynced) f was clean s = clean i f.0 f.1 s
carried j first es fs k (Fills x i FoundSame) f was clean s = clean i f.0 f.1 s
carried j first es fs k (Fills x i (IsPart n)) f was clean s = λ w. s (was i f.0 w)
carried j first es fs k (HasLeft i) f was clean s = tt
carried j first es fs k (Sweeps i) f was clean s = tt
carried j first es fs k (Replaced x) f was clean s = tt
carried j first es fs k ReplacedUnread f was clean s = tt
carried j first es fs k Ended f was clean s = tt

dead_safe : (j : Job) (first : Disk) (es : List Event) (s : Stage) → IsSafe j first es (dead s)
dead_safe j first es Begins = tt
dead_safe j first es (HasMade i) = tt
dead_safe j first es (HasLocked i) = tt
dead_safe j first es (Owns i) = tt
dead_safe j first es (Fills x i p) = tt
dead_safe j first es (HasLeft i) = tt
dead_safe j first es (Sweeps i) = tt
dead_safe j first es (Replaced x) = tt
dead_safe j first es ReplacedUnread = tt
dead_safe j first es Ended = tt

-- the files that had the name before, if the name is the same now
was_before : (first : Disk) (v : Event) (es : List Event) (p : List ℕ) (i : ℕ) → ((after first (v ∷ es)).names p ≡ Some i → (after first es).names p ≡ Some i)
    → WasAt first (v ∷ es) p i → WasAt first es p i
was_before first v es p i same w = elim w [
  | inl now ↦ now_was first es p i (same now)
  | inr was ↦ was
]

abbrev with_move : Job → ℕ → Move → List Event → List Event
with_move j k m es = record { by = k; call = call_of j k m } ∷ es

-- what is known of the new stage of a process that made a move
own_safe : (j : Job) (first : Disk) (es : List Event) (k : ℕ) (m : Move) → j.new ≢ j.out → Fits j k (after first es) (from m) → IsSafe j first es (from m)
    → IsFair j (after first es) k m → Spares j first es m → IsSafe j first (with_move j k m es) (to m)
own_safe j first es k (MakesNew n) two f s fair sp =
    λ w. sp (was_before first (record { by = k; call = Makes j.new (Some n) }) es j.out n (stays_out j (after first es).names (Some n) n two) w)
own_safe j first es k (LocksOwn n) two f s fair sp = λ w. s (was_before first (record { by = k; call = Locks n true }) es j.out n (λ e. e) w)
own_safe j first es k (FindsOwn n) two f s fair sp = λ w. s (was_before first (record { by = k; call = Looks j.new n true }) es j.out n (λ e. e) w)
own_safe j first es k (GivesUp n) two f s fair sp = tt
own_safe j first es k (WritesAll x n) two f s fair sp = tt
own_safe j first es k (WritesPart x n l) two f s fair sp = λ w. s (was_before first (record { by = k; call = Writes n (take l (j.change k x)) }) es j.out n (λ e. e) w)
own_safe j first es k (WritesMore x n l m) two f s fair sp =
    λ w. s (was_before first (record { by = k; call = Writes n (take m (drop l (j.change k x))) }) es j.out n (λ e. e) w)
own_safe j first es k (WritesRest x n l) two f s fair sp = tt
own_safe j first es k (SyncsNew x n) two f s fair sp = ap (λ q. cond q true (is_clean es n)) (eq-eqb n n refl)
own_safe j first es k (FindsSame None n) two f s fair sp = s
own_safe j first es k (FindsSame (Some read) n) two f s fair sp = s
own_safe j first es k (Puts x n) two f s fair sp = tt
own_safe j first es k (PutsUnread n) two f s fair sp = tt
own_safe j first es k (Withdraws x n p) two f s fair sp = tt
own_safe j first es k (LocksLeft n) two f s fair sp = tt
own_safe j first es k (FindsLeft n) two f s fair sp = tt
own_safe j first es k (SweepsLeft n) two f s fair sp = tt
own_safe j first es k (Strays t c) two f s fair sp =
    carried j first es (record { by = k; call = c } ∷ es) k t f
    (λ i made w. was_before first (record { by = k; call = c }) es j.out i (λ e. sym fair.at_out ∙ e) w)
    (λ i made o clean. (leaves (after first es) k i c (λ e. (sp i e).1 (now_was first es j.new i o.named))).clean (is_clean es i) clean) s
own_safe j first es k (Forgets t c) two f s fair sp = tt
own_safe j first es k (Dies t) two f s fair sp = dead_safe j first (record { by = k; call = Ends } ∷ es) t

-- what is known of the stage of another process
other_safe : (j : Job) (first : Disk) (es : List Event) (k : ℕ) (m : Move) → j.new ≢ j.out → Fits j k (after first es) (from m) → IsSafe j first es (from m)
    → IsFair j (after first es) k m → Spares j first es m → (q : ℕ) → q ≢ k → (s : Stage) → Fits j q (after first es) s → IsSafe j first es s → IsSafe j first (with_move j k m es) s
other_safe j first es k m two f safe fair sp q ne s fits here =
    carried j first es (with_move j k m es) q s fits
    (λ i made w. elim w [
      | inl now ↦ elim (comes j first es k m two f safe fair i now) [
        | inl was ↦ now_was first es j.out i was
        | inr come ↦ absurd (not_both ((after first es).maker i) q k ne made come.0)
      ]
      | inr was ↦ was
    ])
    (λ i made o clean. (leaves (after first es) k i (call_of j k m) (unwritten_other j first es k m f sp q i ne made o)).clean (is_clean es i) clean) here

out_clean : (j : Job) (first : Disk) (es : List Event) (k : ℕ) (m : Move) → j.new ≢ j.out → Fits j k (after first es) (from m) → IsSafe j first es (from m)
    → IsFair j (after first es) k m → Spares j first es m → ((i : ℕ) → WasAt first es j.out i → is_clean es i ≡ true) → (i : ℕ) → WasAt first (with_move j k m es) j.out i
    → is_clean (with_move j k m es) i ≡ true
out_clean j first es k m two f safe fair sp clean i w =
    elim w [
      | inl now ↦ elim (comes j first es k m two f safe fair i now) [
        | inl was ↦ old (now_was first es j.out i was)
        | inr come ↦ (leaves (after first es) k i (call_of j k m) come.2).clean (is_clean es i) come.1
      ]
      | inr was ↦ old was
    ] where
      old : WasAt first es j.out i → is_clean (with_move j k m es) i ≡ true
      old was = (leaves (after first es) k i (call_of j k m) (unwritten j first es k m safe sp i was)).clean (is_clean es i) (clean i was)

always_safe : (j : Job) (first : Disk) → IsStart j first → (es : List Deed) → Follows j first es → AreSparing j first es → AreSafe j first (events j es) (stages es)
always_safe j first s [] f sp = record { each = λ k. tt; clean = λ i w. refl }
always_safe j first s (e ∷ es) f sp =
    let was = always_safe j first s es (fewer j first e es f) sp.0 in
    let d = after first (events j es) in
    let h = always j first s es f.chains.0 f.fair.0 f.honest.0 in
    let fits : Fits j e.by d (from e.move) = subst (Fits j e.by d) f.chains.1 (h.each e.by) in
    let safe : IsSafe j first (events j es) (from e.move) = subst (IsSafe j first (events j es)) f.chains.1 (was.each e.by) in
    record {
      each = at_each (λ q t. IsSafe j first (events j (e ∷ es)) t) (stages es) e.by (to e.move)
          (own_safe j first (events j es) e.by e.move s.two fits safe f.fair.1 sp.1)
          (λ q ne. other_safe j first (events j es) e.by e.move s.two fits safe f.fair.1 sp.1 q ne (stages es q) (h.each q) (was.each q));
      clean = out_clean j first (events j es) e.by e.move s.two fits safe f.fair.1 sp.1 was.clean;
    }

lead_was : (first : Disk) (es : List Event) (p : List ℕ) (i : ℕ) → MayLead first es p (Some i) → WasAt first es p i
lead_was first [] p i l = l
lead_was first (v ∷ es) p i l = elim l [
  | inl now ↦ inl now
  | inr b ↦ inr (lead_was first es p i b.1)
]

-- files with the same bytes wherever the name may lead have the same content
same_content : (first : Disk) (es : List Event) (p : List ℕ) (a b : ℕ → List ℕ) → ((i : ℕ) → WasAt first es p i → a i ≡ b i) → (f : Option ℕ) → MayLead first es p f
    → content_of a f ≡ content_of b f
same_content first es p a b same None l = refl
same_content first es p a b same (Some i) l = ap Some (same i (lead_was first es p i l))

bytes_kept : (j : Job) (first : Disk) → IsStart j first → (e : Deed) (es : List Deed) → Follows j first (e ∷ es) → AreSparing j first (e ∷ es)
    → (i : ℕ) → WasAt first (events j es) j.out i → (after first (events j (e ∷ es))).bytes i ≡ (after first (events j es)).bytes i
bytes_kept j first s e es f sp i w =
    let was = always_safe j first s es (fewer j first e es f) sp.0 in
    let safe : IsSafe j first (events j es) (from e.move) = subst (IsSafe j first (events j es)) f.chains.1 (was.each e.by) in
    (leaves (after first (events j es)) e.by i (call_of j e.by e.move) (unwritten j first (events j es) e.by e.move safe sp.1 i w)).bytes

since : (j : Job) (first : Disk) → IsStart j first → (es : List Deed) → Follows j first es → AreSparing j first es → (f : Option ℕ) → MayLead first (events j es) j.out f
    → IsSince first (events j es) j.out (content_of (after first (events j es)).bytes f)
since j first s [] f sp file l = ap (content_of first.bytes) l
since j first s (e ∷ es) f sp file l = elim l [
  | inl now ↦ inl (ap (content_of (after first (events j (e ∷ es))).bytes) now)
  | inr b ↦ inr (
    b.0,
    subst (IsSince first (events j es) j.out)
        (sym (same_content first (events j es) j.out (after first (events j (e ∷ es))).bytes (after first (events j es)).bytes (bytes_kept j first s e es f sp) file b.1))
        (since j first s es (fewer j first e es f) sp.0 file b.1),
  )
]

-- what is left of OUT was its content at a moment since its folder was synced
pub left_since : (j : Job) (first : Disk) → IsStart j first → (es : List Deed) → Follows j first es → AreSparing j first es → (left : Disk) → IsLeft first (events j es) j.out left
    → IsSince first (events j es) j.out (content left j.out)
left_since j first s es f sp left l =
    let safe = always_safe j first s es f sp in
    subst (IsSince first (events j es) j.out)
    (sym (same_content first (events j es) j.out left.bytes (after first (events j es)).bytes (λ i w. l.bytes i (safe.clean i w)) (left.names j.out) l.leads))
    (since j first s es f sp (left.names j.out) l.leads)

whole_since : (j : Job) (first : Disk) → IsStart j first → (es : List Deed) → Follows j first es → (c : Content) → IsSince first (events j es) j.out c
    → (c ≡ content first j.out) ⊎ ((k : ℕ) × (x : Content) × (c ≡ Some (j.change k x)))
whole_since j first s [] f c i = inl (sym i)
whole_since j first s (e ∷ es) f c i = elim i [
  | inl now ↦ elim (whole j first s (e ∷ es) f) [
    | inl was ↦ inl (sym now ∙ was)
    | inr made ↦ inr (made.0, made.1, sym now ∙ made.2)
  ]
  | inr b ↦ whole_since j first s es (fewer j first e es f) c b.1
]

pub left_whole : (j : Job) (first : Disk) → IsStart j first → (es : List Deed) → Follows j first es → AreSparing j first es → (left : Disk) → IsLeft first (events j es) j.out left
    → (content left j.out ≡ content first j.out) ⊎ ((k : ℕ) × (x : Content) × (content left j.out ≡ Some (j.change k x)))
left_whole j first s es f sp left l = whole_since j first s es f (content left j.out) (left_since j first s es f sp left l)

dropped : (j : Job) (first : Disk) (later earlier : List Deed) → Follows j first (later ++ earlier) → Follows j first earlier
dropped j first [] earlier f = f
dropped j first (e ∷ later) earlier f = dropped j first later earlier (fewer j first e (later ++ earlier) f)

abbrev syncs_out : Job → ℕ → Stage → Deed
syncs_out j k t = record { by = k; move = Strays t (SyncsFolder j.out) }

-- what OUT has when its folder is synced is in each content since
kept_since : (j : Job) (first : Disk) → IsStart j first → (P : Content → Type 0) → ((k : ℕ) (x : Content) → P x → P (Some (j.change k x)))
    → (later earlier : List Deed) (k : ℕ) (t : Stage) → Follows j first (later ++ (syncs_out j k t ∷ earlier)) → UnreadHave j P later
    → P (content (after first (events j (syncs_out j k t ∷ earlier))) j.out)
    → (c : Content) → IsSince first (events j (later ++ (syncs_out j k t ∷ earlier))) j.out c → P c
kept_since j first s P keep [] earlier k t f u p c i = elim i [
  | inl now ↦ subst P now p
  | inr b ↦ absurd (both_ways (bytes_eq j.out j.out) b.0 ((bytes_decides j.out j.out).1 refl))
]
kept_since j first s P keep (e ∷ later) earlier k t f u p c i = elim i [
  | inl now ↦ subst P now (stays j first s P keep (e ∷ later) (syncs_out j k t ∷ earlier) f u p)
  | inr b ↦ kept_since j first s P keep later earlier k t (fewer j first e (later ++ (syncs_out j k t ∷ earlier)) f) u.0 p c b.1
]

pub left_has : (j : Job) (first : Disk) → IsStart j first → (p : Content → Bool) → ((k : ℕ) (x : Content) → p x ≡ true → p (Some (j.change k x)) ≡ true)
    → (later earlier : List Deed) (k : ℕ) (t : Stage) → let es = later ++ (record { by = k; move = Strays t (SyncsFolder j.out) } ∷ earlier) in
    Follows j first es → AreSparing j first es → UnreadHave j (λ c. p c ≡ true) later → p (content (after first (events j earlier)) j.out) ≡ true
    → (left : Disk) → IsLeft first (events j es) j.out left → p (content left j.out) ≡ true
left_has j first s p keep later earlier k t f sp u had left l =
    let es = later ++ (syncs_out j k t ∷ earlier) in
    kept_since j first s (λ c. p c ≡ true) keep later earlier k t f u had (content left j.out) (left_since j first s es f sp left l)

pub left_keeps : (j : Job) (first : Disk) → IsStart j first → (p : Content → Bool) → ((k : ℕ) (x : Content) → p x ≡ true → p (Some (j.change k x)) ≡ true)
    → (later earlier : List Deed) (k : ℕ) (x : Content) → let es = later ++ (record { by = k; move = Strays (Replaced x) (SyncsFolder j.out) } ∷ earlier) in
    Follows j first es → AreSparing j first es → AreRead es → p (Some (j.change k x)) ≡ true → (left : Disk) → IsLeft first (events j es) j.out left → p (content left j.out) ≡ true
left_keeps j first s p keep later earlier k x f sp r kept left l =
    let synced = syncs_out j k (Replaced x) ∷ earlier in
    let es = later ++ synced in
    let u : UnreadHave j (λ c. p c ≡ true) es = read_have j (λ c. p c ≡ true) es r in
    let had : p (content (after first (events j synced)) j.out) ≡ true =
    is_kept j first s (λ c. p c ≡ true) keep synced k x (dropped j first later synced f) (earlier_have j (λ c. p c ≡ true) later synced u) (numbered_at (stages earlier) k (Replaced x)) kept
    in kept_since j first s (λ c. p c ≡ true) keep later earlier k (Replaced x) f (later_have j (λ c. p c ≡ true) later synced u) had (content left j.out) (left_since j first s es f sp left l)
