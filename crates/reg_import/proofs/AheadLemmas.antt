-- The register of an office neither retires nor supersedes an entry that the office has still to number.
use Rattle.std.proofs.Common.{◌≡◌, ℕ, ◌+◌, ◌<◌, Bool, true, false, not, ◌&&◌, cond, List, [], ◌∷◌, ◌++◌, length, length-append, Option, Some, None, Ok, refl, sym, ap, ◌∙◌, subst, inl, inr, ◌⊎◌, arith}
use Rattle.std.proofs.lemmas.Bool.{true≢false, or_cases, or_left, or_right, and_parts, false_from_ne_true}
use Rattle.std.specs.Cmp.{tied_itself}
use Rattle.std.specs.Ordering.{is_eq, eq_by_cmp}
use Rattle.reg_op.specs.Set as set
use Rattle.reg_op.specs.Set.{contains, contains-from_list, contains-empty, union}
use Rattle.reg_op.specs.Ids.{Id, is_same}
use Rattle.reg_op.specs.Finite.{any}
use Rattle.reg_op.specs.Lists.{has}
use Rattle.reg_op.specs.Operations.{Op, Ops, op_cmp, one, kept}
use Rattle.reg_op.specs.declared.operation.OpBody.{OpBody as Body}
use Rattle.reg_op.specs.declared.operation.OpBody.TheVariants.{Enter, Supersede, Retire}
use Rattle.reg_op.specs.Contents.{Content, state}
use Rattle.reg_op.specs.Status.{enters, retires, supersedes, is_enter, is_retirement, is_supersession}
use Rattle.reg_op.proofs.OpLemmas.{op_total, op_exact, is_same_exact}
use Rattle.reg_op.proofs.FiniteLemmas.{any-union, member_from_any}
use Rattle.reg_op.proofs.ContentLemmas.{kept_is_within, union_right, ids_has}
use Rattle.reg_op.proofs.OneLemmas.{one_is}
use Rattle.reg_op.proofs.StatusLemmas.{enters-kept}
use Rattle.reg_state.specs.Runs.{id_at}
use Rattle.reg_office.specs.declared.fault.OfficeFault.{OfficeFault}
use Rattle.reg_office.specs.declared.fault.OfficeFault.TheVariants as fault
use Rattle.reg_office.specs.Making.{greatest, numbered, objection, objections, with_op, else_next, note_fault, is_spent, made}
use Rattle.reg_office.specs.World.{World, start, Event, Make, Send, SendSeen, SendPiece, SendFirst, Take, TakeOne, Restart, Upgrade, Stop, Happens, Leads, IsWorld}
use Rattle.reg_office.specs.Reached.{IsMadeBy}
use Rattle.reg_office.proofs.EffectLemmas.{nothing_against}
use Rattle.reg_office.proofs.LawLemmas.{made_are}
use Rattle.reg_office.proofs.NumberLemmas.{op_cases, count-greatest}
use Rattle.reg_office.proofs.WorldCommands.{made_on}
use Rattle.reg_office.proofs.WorldInvariant.{Invariant, Grows}
use Rattle.reg_office.proofs.WorldComes.{comes_good}
use Rattle.reg_office.proofs.WorldLemmas.{starts, after_keeps, reached}
use Rattle.reg_office.proofs.WorldSteps.{made_reaches}
use Rattle.reg_office.proofs.WorldStops.{stop_is_all_or_nothing}
use Rattle.reg_office.proofs.WorldMade.{known_or_made}
use Rattle.reg_office.proofs.NewLemmas.{not_refused}

-- ---- a command retires or supersedes entries of the register, or ids of its own operations

-- the effect retires the entry, or supersedes it
abbrev Ends : Id → Body → Type 0
Ends e (Enter text) = ⊥
Ends e (Supersede old newer) = e ≡ old
Ends e (Retire entry) = e ≡ entry

first_none : (a : Bool) (f : OfficeFault) (rest : Option OfficeFault) → cond (not a) (Some f) rest ≡ None → a ≡ true
first_none true f rest h = refl
first_none false f rest h = absurd cc

is_entered : (ops : Ops) (e : Id) (b : Body) → objection ops b ≡ None → Ends e b → enters ops e ≡ true
is_entered ops e (Enter text) h is = absurd is
is_entered ops e (Supersede old newer) h is = ap (enters ops) is ∙ first_none (enters ops old) (fault.UnknownEntry old) _ h
is_entered ops e (Retire entry) h is = ap (enters ops) is ∙ first_none (enters ops entry) (fault.UnknownEntry entry) _ h

entered_by : (x : Content) (q : Op) (e : Id) → enters (with_op x q).ops e ≡ true → (enters x.ops e ≡ true) ⊎ (q.id ≡ e)
entered_by x q e h =
    let t : Op → Bool = λ o. is_same e o.id && is_enter o.body in
    elim (or_cases (enters x.ops e) (enters (kept (one q)) e) (sym (any-union op_total op_exact t x.ops (kept (one q))) ∙ sym (enters-kept (union x.ops (kept (one q))) e) ∙ h)) [
      | inl a ↦ inl a
      | inr b ↦
          let m = member_from_any op_total op_exact t (one q) (sym (enters-kept (one q) e) ∙ b) in
          inr (sym (is_same_exact e q.id (and_parts _ _ (subst (λ (p : Op). (is_same e p.id && is_enter p.body) ≡ true) (one_is q m.0 m.1) m.2)).0))
    ]

entered_or_made : (x : Content) (os : List Op) (o : Op) (e : Id) → objections x os ≡ None → has os o ≡ true → Ends e o.body → (enters x.ops e ≡ true) ⊎ ((p : Op) × (has os p ≡ true) × (p.id ≡ e))
entered_or_made x [] o e none h is = absurd (true≢false (sym h))
entered_or_made x (q ∷ os) o e none h is =
    let n = nothing_against (objection x.ops q.body) (objections (with_op x q) os) none in
    elim (op_cases o q os h) [
      | inl same ↦ inl (is_entered x.ops e q.body n.0 (subst (λ (p : Op). Ends e p.body) same is))
      | inr later ↦ elim (entered_or_made (with_op x q) os o e n.1 later is) [
        | inl there ↦ elim (entered_by x q e there) [
          | inl a ↦ inl a
          | inr b ↦ inr (q, or_left _ (has os q) (ap is_eq (tied_itself op_total q)), b)
        ]
        | inr m ↦ inr (m.0, or_right (eq_by_cmp op_cmp m.0 q) _ m.1, m.2)
      ]
    ]

none_against : (x : Content) (r note : List ℕ) (bs : List Body) (os : List Op) → made x r note bs ≡ Ok os → objections x os ≡ None
none_against x r note bs os h =
    let ps : List Op = numbered r (greatest r x.seen + 1) note bs in
    let all = not_refused (else_next (note_fault note) (objections x ps)) (is_spent (greatest r x.seen) (length bs)) ps os h in
    ap (objections x) (made_are x r note bs os h) ∙ (nothing_against (note_fault note) (objections x ps) all).1

-- ---- in a world

-- the office of the id has reached an operation with this id
record IsGiven (w : World) (e : Id) : Type 0 where
  op : Op
  is : op.id ≡ e
  there : contains (w.offices e.replica).reached op ≡ true

grown : (w v : World) → Grows w v → (e : Id) → IsGiven w e → IsGiven v e
grown w v g e h = record { op = h.op; is = h.is; there = g e.replica h.op h.there }

-- the office of each entry that an operation retires or supersedes has reached an operation with its id
abbrev AllGiven : (w : World) → Invariant w → Type 0
AllGiven w inv = (o : Op) → contains inv.all o ≡ true → (e : Id) → Ends e o.body → IsGiven w e

made_given : (w : World) (inv : Invariant w) (u : World) (i : List ℕ) (bs : List Body) (note : List ℕ) (os : List Op) (o : Op) (e : Id) → made (w.offices i).content i note bs ≡ Ok os → Happens w (Make i bs note) u → Grows w u
    → has os o ≡ true → Ends e o.body → IsGiven u e
made_given w inv u i bs note os o e is_made h g there body =
    let x : Content = (w.offices i).content in
    elim (entered_or_made x os o e (none_against x i note bs os is_made) there body) [
      | inl entered ↦
          let m = member_from_any op_total op_exact (λ (p : Op). is_same e p.id && is_enter p.body) x.ops entered in
          let same : m.0.id ≡ e = sym (is_same_exact e m.0.id (and_parts _ _ m.2).0) in
          let known : contains (w.offices i).reached m.0 ≡ true = kept_is_within (w.offices i).reached m.0 (subst (λ (y : Content). contains y.ops m.0 ≡ true) (inv.content i) m.1) in
          grown w u g e (record { op = m.0; is = same; there = subst (λ (j : Id). contains (w.offices j.replica).reached m.0 ≡ true) same (inv.own m.0 (inv.within i m.0 known)) })
      | inr new ↦
          let r = made_reaches w inv i bs note os u is_made h in
          let own : i ≡ e.replica = sym (made_on x i note bs os is_made new.0 new.1) ∙ ap (λ (j : Id). j.replica) new.2 in
          let now : contains (u.offices i).reached new.0 ≡ true = subst (λ s. contains s new.0 ≡ true) (sym r.reached)
          (union_right (w.offices i).reached (set.from_list {R = op_cmp} os) new.0 (contains-from_list op_total os new.0 ∙ new.1)) in
          record { op = new.0; is = new.2; there = subst (λ j. contains (u.offices j).reached new.0 ≡ true) own now }
    ]

by_event : (w : World) (inv : Invariant w) (u : World) (v : Event) (o : Op) (e : Id) → IsMadeBy w v o → Happens w v u → Grows w u → Ends e o.body → IsGiven u e ⊎ (u ≡ w)
by_event w inv u (Make i bs note) o e m h g body = inl (made_given w inv u i bs note m.0 o e m.1 h g m.2 body)
by_event w inv u (Send i) o e m h g body = absurd m
by_event w inv u (SendSeen i) o e m h g body = absurd m
by_event w inv u (SendPiece i place) o e m h g body = absurd m
by_event w inv u (Take i place) o e m h g body = absurd m
by_event w inv u (TakeOne i place id) o e m h g body = absurd m
by_event w inv u (SendFirst i what bytes) o e m h g body = absurd m
by_event w inv u (Restart i) o e m h g body = absurd m
by_event w inv u (Upgrade i bytes) o e m h g body = absurd m
by_event w inv u (Stop v left) o e m h g body = elim (stop_is_all_or_nothing w u inv v left h) [
  | inl now ↦ by_event w inv u v o e m.0 now g body
  | inr same ↦ inr same
]

-- a list of one event can only be split before that event
single : (w : World) (v : Event) (before : List Event) (e : Event) (after : List Event) (u : World) → v ∷ [] ≡ before ++ e ∷ after → Leads w before u → (e ≡ v) × (u ≡ w)
single w v [] e after u h l = let same : e ≡ v = cc in (same, l)
single w v (c ∷ cs) e after u h l = absurd (omega (arith, ap length h, length-append cs (e ∷ after)))

step_given : (w : World) (inv : Invariant w) (v : Event) (u : World) → AllGiven w inv → Happens w v u → Grows w u → (k : List ℕ) (o : Op) → contains (u.offices k).reached o ≡ true → (e : Id) → Ends e o.body → IsGiven u e
step_given w inv v u all h g k o now e body = elim (known_or_made (v ∷ []) w inv u (u, h, refl) k o now) [
  | inl old ↦ grown w u g e (all o old e body)
  | inr m ↦
      let one = single w v m.before m.event m.after m.world m.are_all m.leads in
      let by : IsMadeBy w v o = subst (λ f. IsMadeBy w f o) one.0 (subst (λ z. IsMadeBy z m.event o) one.1 m.is_made) in
      elim (by_event w inv u v o e by h g body) [
        | inl given ↦ given
        | inr same ↦ grown w u g e (all o (inv.within k o (subst (λ (z : World). contains (z.offices k).reached o ≡ true) same now)) e body)
      ]
]

all_given : (events : List Event) (w : World) (inv : Invariant w) (v : World) → AllGiven w inv → Leads w events v → (k : List ℕ) (o : Op) → contains (v.offices k).reached o ≡ true → (e : Id) → Ends e o.body → IsGiven v e
all_given [] w inv v all h k o now e body = subst (λ z. IsGiven z e) (sym h) (all o (inv.within k o (subst (λ (z : World). contains (z.offices k).reached o ≡ true) h now)) e body)
all_given (event ∷ events) w inv v all h k o now e body =
    let u = h.0 in
    let step = after_keeps w inv h.1.1.0 (comes_good w inv event h.1.0 h.1.1.0 h.1.1.1) u h.1.1.2 in
    all_given events u step.0 v (λ p there f is. step_given w inv event u all h.1 step.1 p.id.replica p (step.0.own p there) f is) h.2 k o now e body

module _ (w : World) (is : IsWorld w) (i : List ℕ) (count : ℕ) (ahead : greatest i (w.offices i).content.seen < count) where
  -- no effect in the register retires or supersedes an entry that is still to be numbered
  none_ends : (t : Body → Bool) → ((b : Body) → t b ≡ true → Ends (id_at i count) b) → any (λ o. t o.body) (w.offices i).content.ops ≡ false
  none_ends t ends =
      let inv = reached w is in
      let x : Content = (w.offices i).content in
      let e : Id = id_at i count in
      false_from_ne_true _ (λ h.
      let m = member_from_any op_total op_exact (λ (o : Op). t o.body) x.ops h in
      let known : contains (w.offices i).reached m.0 ≡ true = kept_is_within (w.offices i).reached m.0 (subst (λ (y : Content). contains y.ops m.0 ≡ true) (inv.content i) m.1) in
      let given = all_given is.0 start starts w (λ o there f body. absurd (true≢false (sym (starts.own o there) ∙ contains-empty op_cmp o))) is.1 i m.0 known e (ends m.0.body m.2) in
      let seen : contains x.seen e ≡ true = subst (λ (y : Content). contains y.seen e ≡ true) (sym (inv.content i)) (subst (λ j. contains (state (w.offices i).reached).seen j ≡ true) given.is (ids_has (w.offices i).reached given.op given.there)) in
      let most = count-greatest i x.seen e seen refl in
      absurd (omega arith))

  retirement_ends : (b : Body) → is_retirement (id_at i count) b ≡ true → Ends (id_at i count) b
  retirement_ends (Retire entry) h = is_same_exact (id_at i count) entry h
  retirement_ends b h = absurd cc

  supersession_ends : (b : Body) → is_supersession (id_at i count) (λ n. true) b ≡ true → Ends (id_at i count) b
  supersession_ends (Supersede old newer) h = is_same_exact (id_at i count) old (and_parts _ _ h).0
  supersession_ends b h = absurd cc

  pub none_retired : retires (w.offices i).content.ops (id_at i count) ≡ false
  none_retired = none_ends (is_retirement (id_at i count)) retirement_ends

  pub none_superseded : supersedes (w.offices i).content.ops (id_at i count) ≡ false
  none_superseded = none_ends (is_supersession (id_at i count) (λ n. true)) supersession_ends
