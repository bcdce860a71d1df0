-- What a process that has replaced OUT did, and what stays.
use Rattle.std.proofs.Common.{◌≡◌, ◌⊎◌, inl, inr, ℕ, Bool, true, List, [], ◌∷◌, ◌++◌, Some, None, sym, ◌∙◌, ap, subst, cond}
use Rattle.std.proofs.lemmas.Bool.Decides.{eqb_tells}
use Rattle.byte_system.specs.Disk.{Content, content, Disk, after}
use Rattle.byte_protocol.specs.Protocol.{Stage, Begins, HasMade, HasLocked, Owns, Fills, HasLeft, Sweeps, Replaced, ReplacedUnread, Ended, FoundSame, Move, MakesNew, LocksOwn, FindsOwn, GivesUp, WritesAll, WritesPart, WritesMore, WritesRest, SyncsNew, FindsSame, Puts, PutsUnread, Withdraws, LocksLeft, FindsLeft, SweepsLeft, Strays, Forgets, Dies, Job, from, dead, to, Deed, events, stages, Follows, IsStart, WasPut, IsRead, AreRead}
use Rattle.byte_protocol.specs.Unread.{HasIfUnread, UnreadHave}
use Rattle.byte_protocol.proofs.Kept.{follows_changes, Fits, always, puts_content}

abbrev read_in : Stage → Content
read_in (Replaced x) = x
read_in s = None

dead_replaced : (s : Stage) (x : Content) → dead s ≡ Replaced x → s ≡ Replaced x
dead_replaced Begins x e = cc
dead_replaced (HasMade i) x e = cc
dead_replaced (HasLocked i) x e = cc
dead_replaced (Owns i) x e = cc
dead_replaced (Fills y i p) x e = cc
dead_replaced (HasLeft i) x e = cc
dead_replaced (Sweeps i) x e = cc
dead_replaced (Replaced y) x e = e
dead_replaced ReplacedUnread x e = cc
dead_replaced Ended x e = cc

-- a move to `Replaced` is the rename, or the process was there before
came : (m : Move) (x : Content) → to m ≡ Replaced x → ((i : ℕ) × (m ≡ Puts x i)) ⊎ (from m ≡ Replaced x)
came (MakesNew i) x e = cc
came (LocksOwn i) x e = cc
came (FindsOwn i) x e = cc
came (GivesUp i) x e = cc
came (WritesAll y i) x e = cc
came (WritesPart y i n) x e = cc
came (WritesMore y i n m) x e = cc
came (WritesRest y i n) x e = cc
came (SyncsNew y i) x e = cc
came (FindsSame y i) x e = cc
came (Puts y i) x e = inl (i, ap (λ z. Puts z i) (ap read_in e))
came (PutsUnread i) x e = cc
came (Withdraws y i p) x e = cc
came (LocksLeft i) x e = cc
came (FindsLeft i) x e = cc
came (SweepsLeft i) x e = cc
came (Strays s c) x e = inr e
came (Forgets s c) x e = cc
came (Dies s) x e = inr (dead_replaced s x e)

pub fewer : (j : Job) (first : Disk) (e : Deed) (es : List Deed) → Follows j first (e ∷ es) → Follows j first es
fewer j first e es f = record { chains = f.chains.0; fair = f.fair.0; honest = f.honest.0 }

later_put : (j : Job) (first : Disk) (k : ℕ) (x : Content) (e : Deed) (es : List Deed) → WasPut j first k x es → WasPut j first k x (e ∷ es)
later_put j first k x e es w = record { later = e ∷ w.later; earlier = w.earlier; file = w.file; split = ap (λ t. e ∷ t) w.split; found = w.found; made = w.made }

here_put : (j : Job) (first : Disk) → IsStart j first → (k : ℕ) (x : Content) (i : ℕ) (e : Deed) (es : List Deed) → Follows j first (e ∷ es) → e ≡ record { by = k; move = Puts x i } → WasPut j first k x (e ∷ es)
here_put j first s k x i e es f is =
    let g : Follows j first (record { by = k; move = Puts x i } ∷ es) = subst (λ d. Follows j first (d ∷ es)) is f in
    let old = after first (events j es) in
    let h = always j first s es g.chains.0 g.fair.0 g.honest.0 in
    let fit : Fits j k old (Fills x i FoundSame) = subst (Fits j k old) g.chains.1 (h.each k) in
    record { later = []; earlier = es; file = i; split = ap (λ d. d ∷ es) is; found = fit.2.1; made = puts_content j old k x i s.two fit }

pub was_put : (j : Job) (first : Disk) → IsStart j first → (k : ℕ) (x : Content) (es : List Deed) → Follows j first es → stages es k ≡ Replaced x → WasPut j first k x es
was_put j first s k x [] f at = cc
was_put j first s k x (e ∷ es) f at =
    elim (eqb_tells k e.by) [
      | inl (t, same) ↦ elim (came e.move x (sym (ap (λ b. cond b (to e.move) (stages es k)) t) ∙ at)) [
        | inl put ↦ here_put j first s k x put.0 e es f (ap (λ n. record { by = n; move = e.move }) (sym same) ∙ ap (λ m. record { by = k; move = m }) put.1)
        | inr was ↦ later_put j first k x e es (was_put j first s k x es (fewer j first e es f) (ap (stages es) same ∙ f.chains.1 ∙ was))
      ]
      | inr (n, ne) ↦ later_put j first k x e es (was_put j first s k x es (fewer j first e es f) (sym (ap (λ b. cond b (to e.move) (stages es k)) n) ∙ at))
    ]

read_has : (j : Job) (P : Content → Type 0) (k : ℕ) (m : Move) → IsRead m → HasIfUnread j P k m
read_has j P k (MakesNew i) r = tt
read_has j P k (LocksOwn i) r = tt
read_has j P k (FindsOwn i) r = tt
read_has j P k (GivesUp i) r = tt
read_has j P k (WritesAll x i) r = tt
read_has j P k (WritesPart x i n) r = tt
read_has j P k (WritesMore x i n m) r = tt
read_has j P k (WritesRest x i n) r = tt
read_has j P k (SyncsNew x i) r = tt
read_has j P k (FindsSame x i) r = tt
read_has j P k (Puts x i) r = tt
read_has j P k (PutsUnread i) r = absurd r
read_has j P k (Withdraws x i p) r = tt
read_has j P k (LocksLeft i) r = tt
read_has j P k (FindsLeft i) r = tt
read_has j P k (SweepsLeft i) r = tt
read_has j P k (Strays s c) r = tt
read_has j P k (Forgets s c) r = tt
read_has j P k (Dies s) r = tt

-- where no file was put unread, each that was has anything
pub read_have : (j : Job) (P : Content → Type 0) (es : List Deed) → AreRead es → UnreadHave j P es
read_have j P [] r = tt
read_have j P (e ∷ es) r = (read_have j P es r.0, read_has j P e.by e.move r.1)

pub later_have : (j : Job) (P : Content → Type 0) (later earlier : List Deed) → UnreadHave j P (later ++ earlier) → UnreadHave j P later
later_have j P [] earlier u = tt
later_have j P (e ∷ later) earlier u = (later_have j P later earlier u.0, u.1)

pub earlier_have : (j : Job) (P : Content → Type 0) (later earlier : List Deed) → UnreadHave j P (later ++ earlier) → UnreadHave j P earlier
earlier_have j P [] earlier u = u
earlier_have j P (e ∷ later) earlier u = earlier_have j P later earlier u.0

-- what every process keeps, stays
pub stays : (j : Job) (first : Disk) → IsStart j first → (P : Content → Type 0) → ((k : ℕ) (x : Content) → P x → P (Some (j.change k x)))
    → (later earlier : List Deed) → Follows j first (later ++ earlier) → UnreadHave j P later
    → P (content (after first (events j earlier)) j.out) → P (content (after first (events j (later ++ earlier))) j.out)
stays j first s P keep [] earlier f u p = p
stays j first s P keep (e ∷ later) earlier f u p =
    let old = content (after first (events j (later ++ earlier))) j.out in
    let was : P old = stays j first s P keep later earlier (fewer j first e (later ++ earlier) f) u.0 p in
    elim (follows_changes j first s (later ++ earlier) e f) [
      | inl same ↦ subst P (sym same) was
      | inr other ↦ elim other [
        | inl by ↦ subst P (sym by.made) (keep e.by old was)
        | inr put ↦ subst P (sym put.made) (subst (HasIfUnread j P e.by) put.moved.1 u.1)
      ]
    ]

pub is_kept : (j : Job) (first : Disk) → IsStart j first → (P : Content → Type 0) → ((k : ℕ) (x : Content) → P x → P (Some (j.change k x)))
    → (es : List Deed) (k : ℕ) (x : Content) → Follows j first es → UnreadHave j P es → stages es k ≡ Replaced x → P (Some (j.change k x))
    → P (content (after first (events j es)) j.out)
is_kept j first s P keep es k x f u at p =
    let w = was_put j first s k x es f at in
    let put = record { by = k; move = Puts x w.file } ∷ w.earlier in
    subst (λ t. P (content (after first (events j t)) j.out)) (sym w.split)
    (stays j first s P keep w.later put (subst (Follows j first) w.split f) (later_have j P w.later put (subst (UnreadHave j P) w.split u)) (subst P (sym w.made) p))

pub bit_kept : (j : Job) (first : Disk) → IsStart j first → (p : Content → Bool) → ((k : ℕ) (x : Content) → p x ≡ true → p (Some (j.change k x)) ≡ true)
    → (es : List Deed) (k : ℕ) (x : Content) → Follows j first es → AreRead es → stages es k ≡ Replaced x → p (Some (j.change k x)) ≡ true → p (content (after first (events j es)) j.out) ≡ true
bit_kept j first s p keep es k x f r at q =
    is_kept j first s (λ c. p c ≡ true) keep es k x f (read_have j (λ c. p c ≡ true) es r) at q
