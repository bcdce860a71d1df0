-- A trace in which the calls of each process are those of a path of moves is a list of deeds; and the path of `replace`.
use Rattle.std.proofs.Common.{◌≡◌, ◌≢◌, inl, inr, ℕ, zero, suc, List, [], ◌∷◌, Option, drop, refl, sym, ◌∙◌, ap, subst, cond}
use Rattle.std.proofs.lemmas.Bool.{eq-eqb}
use Rattle.std.proofs.lemmas.Bool.Decides.{eqb_tells}
use Rattle.byte_system.specs.Disk.{numbered, Disk, Event, Call, Ends, SyncsFolder, step, after, Honest}
use Rattle.byte_system.specs.System.{SystemState, own, calls}
use Rattle.byte_protocol.specs.Replacing.{replacing, reserved, Replaces}
use Rattle.byte_protocol.specs.Protocol.{Stage, Begins, Move, MakesNew, LocksOwn, FindsOwn, GivesUp, WritesAll, WritesPart, WritesMore, WritesRest, SyncsNew, FindsSame, Puts, PutsUnread, Withdraws, LocksLeft, FindsLeft, SweepsLeft, Strays, Forgets, Dies, Job, to, IsElsewhere, IsFair, Deed, events, stages, Chains, AreFair, Follows, end, IsPath, calls_of, ChangesNone, IsIdle, AreIdle, finished, rest, deed, deeds, ArePaths}
use Rattle.byte_protocol.specs.Unread.{HasRead, HasReadIf}
use Rattle.byte_protocol.proofs.Kept.{numbered_at, numbered_other}
use Rattle.byte_protocol.proofs.Led.{put_led, put_then}

pub own_here : (e : Event) (es : List Event) → own e.by (e ∷ es) ≡ e.call ∷ own e.by es
own_here e es = ap (λ b. cond b (e.call ∷ own e.by es) (own e.by es)) (eq-eqb e.by e.by refl)

pub own_other : (k : ℕ) (e : Event) (es : List Event) → e.by ≢ k → own k (e ∷ es) ≡ own k es
own_other k e es ne =
    elim (eqb_tells e.by k) [
      | inl (t, same) ↦ absurd (ne same)
      | inr (f, other) ↦ ap (λ b. cond b (e.call ∷ own k es) (own k es)) f
    ]

abbrev pub first_call : Call → List Call → Call
first_call d [] = d
first_call d (c ∷ cs) = c

abbrev pub tail : List Call → List Call
tail [] = []
tail (c ∷ cs) = cs

rest_is_path : (ms : List Move) → IsPath ms → IsPath (rest ms)
rest_is_path [] p = tt
rest_is_path (m ∷ ms) p = p.0

rest_calls : (j : Job) (k : ℕ) (ms : List Move) → calls_of j k (rest ms) ≡ tail (calls_of j k ms)
rest_calls j k [] = refl
rest_calls j k (m ∷ ms) = refl

before : (j : Job) (e : Event) (es : List Event) (paths : ℕ → List Move) → ArePaths j (e ∷ es) paths → ArePaths j es (numbered paths e.by (rest (paths e.by)))
before j e es paths p = record {
  each = λ k. elim (eqb_tells k e.by) [
    | inl (t, same) ↦ subst (λ b. IsPath (cond b (rest (paths e.by)) (paths k))) (sym t) (rest_is_path (paths e.by) (p.each e.by))
    | inr (f, ne) ↦ subst (λ b. IsPath (cond b (rest (paths e.by)) (paths k))) (sym f) (p.each k)
  ];
  calls = λ k. elim (eqb_tells k e.by) [
    | inl (t, same) ↦ subst (λ b. own k es ≡ calls_of j k (cond b (rest (paths e.by)) (paths k))) (sym t)
        (subst (λ n. own n es ≡ calls_of j n (rest (paths e.by))) (sym same) (ap tail (sym (own_here e es) ∙ p.calls e.by) ∙ sym (rest_calls j e.by (paths e.by))))
    | inr (f, ne) ↦ subst (λ b. own k es ≡ calls_of j k (cond b (rest (paths e.by)) (paths k))) (sym f)
        (sym (own_other k e es (λ q. ne (sym q))) ∙ p.calls k)
  ];
}

-- what is known of the deeds of a trace
pub record AreDeeds (j : Job) (trace : List Event) (paths : ℕ → List Move) (es : List Deed) : Type 0 where
  pub led : events j es ≡ trace
  pub chains : Chains es
  pub stage : (k : ℕ) → stages es k ≡ end (paths k)

with_deed : (j : Job) (e : Event) (trace : List Event) (paths : ℕ → List Move) (ms : List Move) (es : List Deed) → paths e.by ≡ ms → IsPath ms
    → e.call ∷ own e.by trace ≡ calls_of j e.by ms
    → AreDeeds j trace (numbered paths e.by (rest ms)) es → AreDeeds j (e ∷ trace) paths (deed e.by ms es)
with_deed j e trace paths [] es is p c d = absurd (let q = c in cc)
with_deed j e trace paths (m ∷ ms) es is p c d = record {
  led = ap (λ call. record { by = e.by; call = call } ∷ events j es) (sym (ap (first_call e.call) c)) ∙ ap (λ t. e ∷ t) d.led;
  chains = (d.chains, d.stage e.by ∙ ap end (numbered_at paths e.by ms) ∙ p.1);
  stage = λ k. elim (eqb_tells k e.by) [
    | inl (t, same) ↦ ap (λ b. cond b (to m) (stages es k)) t ∙ sym (ap (λ n. end (paths n)) same ∙ ap end is)
    | inr (f, ne) ↦ ap (λ b. cond b (to m) (stages es k)) f ∙ d.stage k ∙ ap end (numbered_other paths e.by ms k ne)
  ];
}

pub are_deeds : (j : Job) (trace : List Event) (paths : ℕ → List Move) → ArePaths j trace paths → AreDeeds j trace paths (deeds trace paths)
are_deeds j [] paths p = record { led = refl; chains = tt; stage = λ k. at_start k (paths k) (p.calls k) } where
  at_start : (k : ℕ) (ms : List Move) → [] ≡ calls_of j k ms → Begins ≡ end ms
  at_start k [] e = refl
  at_start k (m ∷ ms) e = cc
are_deeds j (e ∷ trace) paths p =
    with_deed j e trace paths (paths e.by) (deeds trace (numbered paths e.by (rest (paths e.by)))) refl (p.each e.by) (sym (own_here e trace) ∙ p.calls e.by)
    (are_deeds j trace (numbered paths e.by (rest (paths e.by))) (before j e trace paths p))

pub followed : (j : Job) (first : Disk) (trace : List Event) (paths : ℕ → List Move) → ArePaths j trace paths → Honest first trace → AreFair j first (deeds trace paths)
    → (events j (deeds trace paths) ≡ trace) × Follows j first (deeds trace paths) × ((k : ℕ) → stages (deeds trace paths) k ≡ end (paths k))
followed j first trace paths p honest fair =
    let d = are_deeds j trace paths p in
    (d.led, record { chains = d.chains; fair = fair; honest = subst (Honest first) (sym d.led) honest }, d.stage)

pub replaced_path : (j : Job) (left : Option ℕ) (read : Option (List ℕ)) (bytes : List ℕ) (old last : SystemState) → calls old ≡ [] → j.change old.me read ≡ bytes
    → Replaces j.out j.new left read bytes old last
    → (ms : List Move) × IsPath ms × AreIdle ms × (calls last ≡ calls_of j last.me ms) × (end ms ≡ finished read) × HasReadIf read ms
replaced_path j left read bytes old last was makes r =
    let i = r.mine.0 in
    let l = put_then j last.me read (SyncsFolder j.out) (put_led j last.me i left read) (λ d m. refl) in (
      l.moves,
      l.path,
      l.idle,
      r.mine.1 ∙ ap (λ b. replacing j.out j.new i read b (reserved j.new left i (calls old))) (sym makes ∙ ap (λ k. j.change k read) (sym r.goes.same_me))
          ∙ ap (λ cs. replacing j.out j.new i read (j.change last.me read) (reserved j.new left i cs)) was ∙ l.calls,
      l.ends,
      l.seen,
    )

first_moves : (j : Job) (k n : ℕ) (ms : List Move) → IsPath ms → AreIdle ms → IsPath (drop n ms) × AreIdle (drop n ms) × (calls_of j k (drop n ms) ≡ drop n (calls_of j k ms))
first_moves j k zero ms p a = (p, a, refl)
first_moves j k (suc n) [] p a = (tt, tt, refl)
first_moves j k (suc n) (m ∷ ms) p a = first_moves j k n ms p.0 a.0

first_read : (n : ℕ) (ms : List Move) → HasRead ms → HasRead (drop n ms)
first_read zero ms r = r
first_read (suc n) [] r = tt
first_read (suc n) (m ∷ ms) r = first_read n ms r.0

-- a process that stops in the middle of a path
pub stopped_path : (j : Job) (k n : ℕ) (ms : List Move) → IsPath ms → AreIdle ms
    → let made = drop n ms in let stopped = Dies (end made) ∷ made in
    IsPath stopped × AreIdle stopped × (calls_of j k stopped ≡ Ends ∷ drop n (calls_of j k ms)) × (HasRead ms → HasRead stopped)
stopped_path j k n ms p a =
    let f = first_moves j k n ms p a in
    ((f.0, refl), (f.1, tt), ap (λ cs. Ends ∷ cs) f.2, λ r. (first_read n ms r, tt))

same_disk : (j : Job) (k : ℕ) (s : Stage) (d : Disk) → IsElsewhere j k s d d
same_disk j k s d = record {
  at_new = refl;
  at_out = refl;
  content = refl;
  made = λ i m ne e. (e, refl);
  held = λ i m ne e. (e, refl);
  own = λ i e. record { bytes = refl; holder = refl; maker = refl };
}

elsewhere : (j : Job) (d : Disk) (k : ℕ) (s : Stage) (c : Call) → ChangesNone c → IsElsewhere j k s d (step d k c)
elsewhere j d k s c idle = subst (IsElsewhere j k s d) (sym (idle d k)) (same_disk j k s d)

idle_fair : (j : Job) (d : Disk) (k : ℕ) (m : Move) → IsIdle m → IsFair j d k m
idle_fair j d k (MakesNew i) idle = tt
idle_fair j d k (LocksOwn i) idle = tt
idle_fair j d k (FindsOwn i) idle = tt
idle_fair j d k (GivesUp i) idle = tt
idle_fair j d k (WritesAll x i) idle = tt
idle_fair j d k (WritesPart x i n) idle = tt
idle_fair j d k (WritesMore x i n m) idle = tt
idle_fair j d k (WritesRest x i n) idle = tt
idle_fair j d k (SyncsNew x i) idle = tt
idle_fair j d k (FindsSame x i) idle = tt
idle_fair j d k (Puts x i) idle = tt
idle_fair j d k (PutsUnread i) idle = tt
idle_fair j d k (Withdraws x i p) idle = tt
idle_fair j d k (LocksLeft i) idle = tt
idle_fair j d k (FindsLeft i) idle = tt
idle_fair j d k (SweepsLeft i) idle = tt
idle_fair j d k (Strays s c) idle = elsewhere j d k s c idle
idle_fair j d k (Forgets s c) idle = elsewhere j d k s c idle
idle_fair j d k (Dies s) idle = tt

rest_is_idle : (ms : List Move) → AreIdle ms → AreIdle (rest ms)
rest_is_idle [] a = tt
rest_is_idle (m ∷ ms) a = a.0

still_idle : (paths : ℕ → List Move) (n : ℕ) → ((k : ℕ) → AreIdle (paths k)) → (k : ℕ) → AreIdle (numbered paths n (rest (paths n)) k)
still_idle paths n idle k = elim (eqb_tells k n) [
  | inl (t, same) ↦ subst (λ b. AreIdle (cond b (rest (paths n)) (paths k))) (sym t) (rest_is_idle (paths n) (idle n))
  | inr (f, ne) ↦ subst (λ b. AreIdle (cond b (rest (paths n)) (paths k))) (sym f) (idle k)
]

deed_fair : (j : Job) (first : Disk) (k : ℕ) (ms : List Move) (es : List Deed) → AreIdle ms → AreFair j first es → AreFair j first (deed k ms es)
deed_fair j first k [] es idle fair = tt
deed_fair j first k (m ∷ ms) es idle fair = (fair, idle_fair j (after first (events j es)) k m idle.1)

-- processes that change no file by other calls leave alone what the protocol is about
pub idle_are_fair : (j : Job) (first : Disk) (trace : List Event) (paths : ℕ → List Move) → ((k : ℕ) → AreIdle (paths k)) → AreFair j first (deeds trace paths)
idle_are_fair j first [] paths idle = tt
idle_are_fair j first (e ∷ trace) paths idle =
    deed_fair j first e.by (paths e.by) (deeds trace (numbered paths e.by (rest (paths e.by)))) (idle e.by)
    (idle_are_fair j first trace (numbered paths e.by (rest (paths e.by))) (still_idle paths e.by idle))
