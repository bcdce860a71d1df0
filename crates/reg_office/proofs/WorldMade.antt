-- What an office has reached was made, and what was sent stays in the pool.
use Rattle.std.proofs.Common.{◌≡◌, ℕ, true, List, [], ◌∷◌, ◌++◌, append_assoc, Some, None, Ok, Err, refl, sym, ap, ◌∙◌, subst, inl, inr, ◌⊎◌}
use Rattle.std.proofs.lemmas.Bool.{or_cases, cases_Bool, true≢false}
use Rattle.std.specs.Ordering.{is_eq}
use Rattle.std.specs.List.{slice_get}
use Rattle.reg_op.specs.Set as set
use Rattle.reg_op.specs.Set.{contains, contains-from_list, contains-empty}
use Rattle.reg_op.specs.Operations.{Op, Ops, one, op_cmp}
use Rattle.reg_op.proofs.OpLemmas.{op_total}
use Rattle.reg_op.proofs.OneLemmas.{one_is}
use Rattle.reg_op.proofs.ContentLemmas.{contains_op-union}
use Rattle.reg_state.specs.Runs.{replica_cmp}
use Rattle.reg_state.proofs.RunLemmas.{same_replica, replica_itself}
use Rattle.reg_office.specs.Making.{made}
use Rattle.reg_office.specs.Pooled.{ops_in}
use Rattle.reg_office.specs.World.{Sent, World, start, Event, Make, Send, SendSeen, SendPiece, SendFirst, Take, TakeOne, Restart, Upgrade, Stop, office_of, Outcome, Unchanged, Clashes, Sends, Writes, Gains, After, Happens, Leads}
use Rattle.reg_office.specs.Reached.{Reaches, IsMadeBy, WasMade}
use Rattle.reg_office.proofs.WorldInvariant.{sent_at, Invariant}
use Rattle.reg_office.proofs.WorldComes.{comes_good}
use Rattle.reg_office.proofs.WorldLemmas.{starts, after_keeps}
use Rattle.reg_office.proofs.PooledLemmas.{ops_within}
use Rattle.reg_office.proofs.WorldSteps.{made_reaches, refused_makes, sent_is_pooled, first_is_pooled, seen_is_pooled, answer_keeps, restart_keeps, upgrade_keeps, stopped_before, nothing_to_take, nothing_to_find, taken_or_not, one_or_none}

-- ---- the pool

after_grows : (w : World) (out : Outcome) (v : World) → After w out v → (newer : List Sent) × (v.pool ≡ newer ++ w.pool)
after_grows w Unchanged v h = ([], ap (λ (u : World). u.pool) h)
after_grows w (Clashes id) v h = ([], ap (λ (u : World). u.pool) h)
after_grows w (Sends sent) v h = (sent ∷ [], ap (λ (u : World). u.pool) h)
after_grows w (Writes what reached) v h = (record { bytes = h.0; reached = reached } ∷ [], ap (λ (u : World). u.pool) h.2)
after_grows w (Gains i x reached) v h = ([], ap (λ (u : World). u.pool) h.2)

pub pool_grows : (events : List Event) (w v : World) → Leads w events v → (newer : List Sent) × (v.pool ≡ newer ++ w.pool)
pool_grows [] w v h = ([], ap (λ (u : World). u.pool) h)
pool_grows (e ∷ es) w v h =
    let u = h.0 in
    let first = after_grows w h.1.1.0 u h.1.1.2 in
    let later = pool_grows es u v h.2 in
    (later.0 ++ first.0, later.1 ∙ ap (λ ss. later.0 ++ ss) first.1 ∙ sym (append_assoc later.0 first.0 w.pool))

-- ---- what one event makes

-- what an office has reached afterwards, it had reached before, or it is among what the event added
now_reached : (w v : World) (i : List ℕ) (more : Ops) → Reaches w i more v → (k : List ℕ) (o : Op) → contains (v.offices k).reached o ≡ true → (contains (w.offices k).reached o ≡ true) ⊎ (contains more o ≡ true)
now_reached w v i more r k o h = elim (cases_Bool (is_eq (replica_cmp k i))) [
  | inl e ↦
      let same : k ≡ i = same_replica k i e in
      let both = or_cases (contains (w.offices i).reached o) (contains more o)
      (sym (contains_op-union (w.offices i).reached more o) ∙ subst (λ s. contains s o ≡ true) r.reached (subst (λ j. contains (v.offices j).reached o ≡ true) same h)) in
      elim both [
        | inl a ↦ inl (subst (λ j. contains (w.offices j).reached o ≡ true) (sym same) a)
        | inr b ↦ inr b
      ]
  | inr n ↦ inl (subst (λ p. contains p.reached o ≡ true) (r.others k (λ same. true≢false (sym (subst (λ j. is_eq (replica_cmp k j) ≡ true) same (replica_itself k)) ∙ n))) h)
]

-- the operation was made before, or by this event
abbrev Known : (w : World) → Invariant w → Event → Op → Type 0
Known w inv e o = (contains inv.all o ≡ true) ⊎ IsMadeBy w e o

unchanged_known : (w v : World) (inv : Invariant w) (e : Event) → v ≡ w → (k : List ℕ) (o : Op) → contains (v.offices k).reached o ≡ true → Known w inv e o
unchanged_known w v inv e same k o h = inl (inv.within k o (subst (λ (u : World). contains (u.offices k).reached o ≡ true) same h))

step_known : (w : World) (inv : Invariant w) (e : Event) (v : World) → Happens w e v → (k : List ℕ) (o : Op) → contains (v.offices k).reached o ≡ true → Known w inv e o
step_known w inv (Make i bs note) v h k o now =
    elim (made (w.offices i).content i note bs) as (λ r. made (w.offices i).content i note bs ≡ r → Known w inv (Make i bs note) o) [
      | Ok os ↦ λ e. elim (now_reached w v i (set.from_list os) (made_reaches w inv i bs note os v e h) k o now) [
        | inl a ↦ inl (inv.within k o a)
        | inr b ↦ inr (os, e, sym (contains-from_list op_total os o) ∙ b)
      ]
      | Err fault ↦ λ e. unchanged_known w v inv (Make i bs note) (refused_makes w v i bs note fault e h) k o now
    ] refl
step_known w inv (Send i) v h k o now = inl (inv.within k o (subst (λ (u : World). contains (u.offices k).reached o ≡ true) (sent_is_pooled w v i h) now))
step_known w inv (SendSeen i) v h k o now = inl (inv.within k o (subst (λ (u : World). contains (u.offices k).reached o ≡ true) (seen_is_pooled w v inv i h).2 now))
step_known w inv (SendPiece i place) v h k o now = inl (inv.within k o (subst (λ s. contains s o ≡ true) (answer_keeps w v inv i place h k) now))
step_known w inv (SendFirst i what bytes) v h k o now = inl (inv.within k o (subst (λ (u : World). contains (u.offices k).reached o ≡ true) (first_is_pooled w v i what bytes h) now))
step_known w inv (Take i place) v h k o now =
    elim (slice_get w.pool place) as (λ r. slice_get w.pool place ≡ r → Known w inv (Take i place) o) [
      | Some sent ↦ λ at. elim (taken_or_not w inv i place sent v at h) [
        | inl same ↦ unchanged_known w v inv (Take i place) same k o now
        | inr r ↦ elim (now_reached w v i sent.reached r k o now) [
          | inl a ↦ inl (inv.within k o a)
          | inr b ↦ inl ((sent_at inv.all w.pool place sent inv.pool at).within o b)
        ]
      ]
      | None ↦ λ none. unchanged_known w v inv (Take i place) (nothing_to_take w v i place none h) k o now
    ] refl
step_known w inv (TakeOne i place id) v h k o now =
    elim (slice_get w.pool place) as (λ r. slice_get w.pool place ≡ r → Known w inv (TakeOne i place id) o) [
      | Some sent ↦ λ at.
          let is = sent_at inv.all w.pool place sent inv.pool at in
          elim (one_or_none w inv i place id sent is.what v at is.holds h) [
            | inl same ↦ unchanged_known w v inv (TakeOne i place id) same k o now
            | inr r ↦ elim (now_reached w v i (one r.0) r.2 k o now) [
              | inl a ↦ inl (inv.within k o a)
              | inr b ↦ inl (is.within o (ops_within sent.reached is.what is.tells o (subst (λ p. contains (ops_in is.what) p ≡ true) (sym (one_is r.0 o b)) r.1)))
            ]
          ]
      | None ↦ λ none. unchanged_known w v inv (TakeOne i place id) (nothing_to_find w v i place id none h) k o now
    ] refl
step_known w inv (Restart i) v h k o now = unchanged_known w v inv (Restart i) (restart_keeps w v inv i h) k o now
step_known w inv (Upgrade i bytes) v h k o now = unchanged_known w v inv (Upgrade i bytes) (upgrade_keeps w v inv i bytes h) k o now
step_known w inv (Stop e left) v h k o now = elim h.1.1 [
  | inl new ↦ elim (step_known w inv e v (h.0.1, (h.1.0, new.0, h.1.2)) k o now) [
    | inl a ↦ inl a
    | inr b ↦ inr (b, (h.1.0, new.0, new.1))
  ]
  | inr old ↦ unchanged_known w v inv (Stop e left) (stopped_before w v inv (office_of e) (subst (λ out. After w out v) old.2 h.1.2)) k o now
]

-- ---- what a list of events makes

pub known_or_made : (events : List Event) (w : World) (inv : Invariant w) (v : World) → Leads w events v → (k : List ℕ) (o : Op) → contains (v.offices k).reached o ≡ true → (contains inv.all o ≡ true) ⊎ WasMade w events o
known_or_made [] w inv v h k o now = inl (inv.within k o (subst (λ (u : World). contains (u.offices k).reached o ≡ true) h now))
known_or_made (e ∷ es) w inv v h k o now =
    let u = h.0 in
    let step = after_keeps w inv h.1.1.0 (comes_good w inv e h.1.0 h.1.1.0 h.1.1.1) u h.1.1.2 in
    elim (known_or_made es u step.0 v h.2 k o now) [
      | inl old ↦ elim (step_known w inv e u h.1 o.id.replica o (step.0.own o old)) [
        | inl a ↦ inl a
        | inr b ↦ inr (record { before = []; event = e; after = es; are_all = refl; world = w; leads = refl; is_made = b })
      ]
      | inr m ↦ inr (record {
        before = e ∷ m.before;
        event = m.event;
        after = m.after;
        are_all = ap (λ es. e ∷ es) m.are_all;
        world = m.world;
        leads = (u, h.1, m.leads);
        is_made = m.is_made;
      })
    ]

pub was_made : (w : World) (events : List Event) → Leads start events w → (i : List ℕ) (o : Op) → contains (w.offices i).reached o ≡ true → WasMade start events o
was_made w events h i o now = elim (known_or_made events start starts w h i o now) [
  | inl old ↦ absurd (true≢false (sym (starts.own o old) ∙ contains-empty op_cmp o))
  | inr m ↦ m
]
