-- What processes leave that replace OUT unread, and what those see that only read it.
use Rattle.std.proofs.Common.{◌≡◌, ◌⊎◌, inl, inr, ℕ, Bool, true, List, [], ◌∷◌, ◌++◌, Some, None, refl, sym, ◌∙◌, ap, subst, cond}
use Rattle.std.proofs.lemmas.Bool.Decides.{eqb_tells}
use Rattle.byte_system.specs.Disk.{Content, content, Disk, Event, Reads, numbered, after, Honest}
use Rattle.byte_protocol.specs.Protocol.{Stage, Begins, HasMade, HasLocked, Owns, Fills, HasLeft, Sweeps, Replaced, ReplacedUnread, Ended, IsSynced, Move, MakesNew, LocksOwn, FindsOwn, GivesUp, WritesAll, WritesPart, WritesMore, WritesRest, SyncsNew, FindsSame, Puts, PutsUnread, Withdraws, LocksLeft, FindsLeft, SweepsLeft, Strays, Forgets, Dies, Job, from, dead, to, Deed, events, stages, Follows, IsStart, AreRead, AreIdle, end, rest, deed, deeds, ArePaths}
use Rattle.byte_protocol.specs.Unread.{UnreadHave, WasPutUnread, HasRead}
use Rattle.byte_protocol.proofs.Kept.{Fits, always, unread_content, whole}
use Rattle.byte_protocol.proofs.Put.{fewer, stays, later_have, earlier_have, bit_kept}
use Rattle.byte_protocol.proofs.Paths.{followed, idle_are_fair}

pub bit_stays : (j : Job) (first : Disk) → IsStart j first → (p : Content → Bool) → ((k : ℕ) (x : Content) → p x ≡ true → p (Some (j.change k x)) ≡ true)
    → (later earlier : List Deed) → Follows j first (later ++ earlier) → UnreadHave j (λ c. p c ≡ true) later
    → p (content (after first (events j earlier)) j.out) ≡ true → p (content (after first (events j (later ++ earlier))) j.out) ≡ true
bit_stays j first s p keep = stays j first s (λ c. p c ≡ true) keep

dead_unread : (s : Stage) → dead s ≡ ReplacedUnread → s ≡ ReplacedUnread
dead_unread Begins e = cc
dead_unread (HasMade i) e = cc
dead_unread (HasLocked i) e = cc
dead_unread (Owns i) e = cc
dead_unread (Fills x i p) e = cc
dead_unread (HasLeft i) e = cc
dead_unread (Sweeps i) e = cc
dead_unread (Replaced x) e = cc
dead_unread ReplacedUnread e = e
dead_unread Ended e = cc

-- a move to `ReplacedUnread` is the rename, or the process was there before
came_unread : (m : Move) → to m ≡ ReplacedUnread → ((i : ℕ) × (m ≡ PutsUnread i)) ⊎ (from m ≡ ReplacedUnread)
came_unread (MakesNew i) e = cc
came_unread (LocksOwn i) e = cc
came_unread (FindsOwn i) e = cc
came_unread (GivesUp i) e = cc
came_unread (WritesAll x i) e = cc
came_unread (WritesPart x i n) e = cc
came_unread (WritesMore x i n m) e = cc
came_unread (WritesRest x i n) e = cc
came_unread (SyncsNew x i) e = cc
came_unread (FindsSame x i) e = cc
came_unread (Puts x i) e = cc
came_unread (PutsUnread i) e = inl (i, refl)
came_unread (Withdraws x i p) e = cc
came_unread (LocksLeft i) e = cc
came_unread (FindsLeft i) e = cc
came_unread (SweepsLeft i) e = cc
came_unread (Strays s c) e = inr e
came_unread (Forgets s c) e = cc
came_unread (Dies s) e = inr (dead_unread s e)

later_unread : (j : Job) (first : Disk) (k : ℕ) (e : Deed) (es : List Deed) → WasPutUnread j first k es → WasPutUnread j first k (e ∷ es)
later_unread j first k e es w = record { later = e ∷ w.later; earlier = w.earlier; file = w.file; split = ap (λ t. e ∷ t) w.split; made = w.made }

here_unread : (j : Job) (first : Disk) → IsStart j first → (k i : ℕ) (e : Deed) (es : List Deed) → Follows j first (e ∷ es) → e ≡ record { by = k; move = PutsUnread i }
    → WasPutUnread j first k (e ∷ es)
here_unread j first s k i e es f is =
    let g : Follows j first (record { by = k; move = PutsUnread i } ∷ es) = subst (λ d. Follows j first (d ∷ es)) is f in
    let old = after first (events j es) in
    let h = always j first s es g.chains.0 g.fair.0 g.honest.0 in
    let fit : Fits j k old (Fills None i IsSynced) = subst (Fits j k old) g.chains.1 (h.each k) in
    record { later = []; earlier = es; file = i; split = ap (λ d. d ∷ es) is; made = unread_content j old k i s.two fit }

pub was_unread : (j : Job) (first : Disk) → IsStart j first → (k : ℕ) (es : List Deed) → Follows j first es → stages es k ≡ ReplacedUnread → WasPutUnread j first k es
was_unread j first s k [] f at = cc
was_unread j first s k (e ∷ es) f at =
    elim (eqb_tells k e.by) [
      | inl (t, same) ↦ elim (came_unread e.move (sym (ap (λ b. cond b (to e.move) (stages es k)) t) ∙ at)) [
        | inl put ↦ here_unread j first s k put.0 e es f (ap (λ n. record { by = n; move = e.move }) (sym same) ∙ ap (λ m. record { by = k; move = m }) put.1)
        | inr was ↦ later_unread j first k e es (was_unread j first s k es (fewer j first e es f) (ap (stages es) same ∙ f.chains.1 ∙ was))
      ]
      | inr (n, ne) ↦ later_unread j first k e es (was_unread j first s k es (fewer j first e es f) (sym (ap (λ b. cond b (to e.move) (stages es k)) n) ∙ at))
    ]

-- what each file has that is put unread stays, once there is one
pub unread_kept : (j : Job) (first : Disk) → IsStart j first → (p : Content → Bool) → ((k : ℕ) (x : Content) → p x ≡ true → p (Some (j.change k x)) ≡ true)
    → (es : List Deed) (k : ℕ) → Follows j first es → UnreadHave j (λ c. p c ≡ true) es → stages es k ≡ ReplacedUnread → p (content (after first (events j es)) j.out) ≡ true
unread_kept j first s p keep es k f u at =
    let w = was_unread j first s k es f at in
    let put = record { by = k; move = PutsUnread w.file } ∷ w.earlier in
    let have : UnreadHave j (λ c. p c ≡ true) (w.later ++ put) = subst (UnreadHave j (λ c. p c ≡ true)) w.split u in
    let had : p (content (after first (events j put)) j.out) ≡ true = subst (λ c. p c ≡ true) (sym w.made) (earlier_have j (λ c. p c ≡ true) w.later put have).1 in
    subst (λ t. p (content (after first (events j t)) j.out) ≡ true) (sym w.split)
    (bit_stays j first s p keep w.later put (subst (Follows j first) w.split f) (later_have j (λ c. p c ≡ true) w.later put have) had)

abbrev reads : Job → ℕ → Stage → Content → Deed
reads j k t c = record { by = k; move = Strays t (Reads j.out c) }

pub seen_whole : (j : Job) (first : Disk) → IsStart j first → (es : List Deed) (k : ℕ) (t : Stage) (c : Content) → Follows j first (record { by = k; move = Strays t (Reads j.out c) } ∷ es)
    → (c ≡ content first j.out) ⊎ ((m : ℕ) × (x : Content) × (c ≡ Some (j.change m x)))
seen_whole j first s es k t c f =
    let seen : content (after first (events j es)) j.out ≡ c = f.honest.1 in
    elim (whole j first s es (fewer j first (reads j k t c) es f)) [
      | inl was ↦ inl (sym seen ∙ was)
      | inr made ↦ inr (made.0, made.1, sym seen ∙ made.2)
    ]

pub seen_kept : (j : Job) (first : Disk) → IsStart j first → (p : Content → Bool) → ((k : ℕ) (x : Content) → p x ≡ true → p (Some (j.change k x)) ≡ true)
    → (later earlier : List Deed) (k : ℕ) (t : Stage) (c : Content) → Follows j first (record { by = k; move = Strays t (Reads j.out c) } ∷ (later ++ earlier))
    → UnreadHave j (λ c. p c ≡ true) later → p (content (after first (events j earlier)) j.out) ≡ true → p c ≡ true
seen_kept j first s p keep later earlier k t c f u had =
    let seen : content (after first (events j (later ++ earlier))) j.out ≡ c = f.honest.1 in
    subst (λ x. p x ≡ true) seen (bit_stays j first s p keep later earlier (fewer j first (reads j k t c) (later ++ earlier) f) u had)

rest_has_read : (ms : List Move) → HasRead ms → HasRead (rest ms)
rest_has_read [] r = tt
rest_has_read (m ∷ ms) r = r.0

still_read : (paths : ℕ → List Move) (n : ℕ) → ((k : ℕ) → HasRead (paths k)) → (k : ℕ) → HasRead (numbered paths n (rest (paths n)) k)
still_read paths n read k = elim (eqb_tells k n) [
  | inl (t, same) ↦ subst (λ b. HasRead (cond b (rest (paths n)) (paths k))) (sym t) (rest_has_read (paths n) (read n))
  | inr (f, ne) ↦ subst (λ b. HasRead (cond b (rest (paths n)) (paths k))) (sym f) (read k)
]

deed_read : (k : ℕ) (ms : List Move) (es : List Deed) → HasRead ms → AreRead es → AreRead (deed k ms es)
deed_read k [] es h r = tt
deed_read k (m ∷ ms) es h r = (r, h.1)

pub deeds_read : (trace : List Event) (paths : ℕ → List Move) → ((k : ℕ) → HasRead (paths k)) → AreRead (deeds trace paths)
deeds_read [] paths read = tt
deeds_read (e ∷ trace) paths read =
    deed_read e.by (paths e.by) (deeds trace (numbered paths e.by (rest (paths e.by)))) (read e.by)
    (deeds_read trace (numbered paths e.by (rest (paths e.by))) (still_read paths e.by read))

pub readers_keep : (j : Job) (first : Disk) → IsStart j first → (p : Content → Bool) → ((k : ℕ) (x : Content) → p x ≡ true → p (Some (j.change k x)) ≡ true)
    → (trace : List Event) (paths : ℕ → List Move) → ArePaths j trace paths → ((k : ℕ) → AreIdle (paths k)) → ((k : ℕ) → HasRead (paths k)) → Honest first trace
    → (k : ℕ) (x : Content) → end (paths k) ≡ Replaced x → p (Some (j.change k x)) ≡ true → p (content (after first trace) j.out) ≡ true
readers_keep j first s p keep trace paths are idle read honest k x at q =
    let d = followed j first trace paths are honest (idle_are_fair j first trace paths idle) in
    subst (λ t. p (content (after first t) j.out) ≡ true) d.0
    (bit_kept j first s p keep (deeds trace paths) k x d.1 (deeds_read trace paths read) (d.2 k ∙ at) q)
