-- No two operations are made with one id.
use Rattle.std.proofs.Common.{◌≡◌, ℕ, true, List, [], ◌∷◌, ◌++◌, Ok, refl, sym, ap, ◌∙◌, subst, inl, inr}
use Rattle.reg_op.specs.Set as set
use Rattle.reg_op.specs.Set.{contains, contains-from_list}
use Rattle.reg_op.specs.Lists.{has}
use Rattle.reg_op.specs.Operations.{Op}
use Rattle.reg_op.proofs.OpLemmas.{op_total}
use Rattle.reg_op.proofs.ContentLemmas.{union_right}
use Rattle.reg_office.specs.World.{World, start, Event, Make, Send, SendSeen, SendPiece, SendFirst, Take, TakeOne, Restart, Upgrade, Stop, office_of, Happens, Leads}
use Rattle.reg_office.specs.Reached.{IsMadeBy, WasMade}
use Rattle.reg_office.proofs.LawLemmas.{are_once}
use Rattle.reg_office.proofs.WorldInvariant.{Invariant}
use Rattle.reg_office.proofs.WorldComes.{comes_good}
use Rattle.reg_office.proofs.WorldLemmas.{after_keeps, leads_keeps, reached}
use Rattle.reg_office.proofs.WorldFollows.{are_new, one_world}
use Rattle.reg_office.proofs.WorldSteps.{made_reaches}

-- ---- one event

-- the office of an event has reached what the event makes
makes_reached : (w : World) (inv : Invariant w) (e : Event) (v : World) → Happens w e v → (o : Op) → IsMadeBy w e o → contains (v.offices (office_of e)).reached o ≡ true
makes_reached w inv (Make i bs note) v h o (os, is, there) =
    let r = made_reaches w inv i bs note os v is h in
    subst (λ s. contains s o ≡ true) (sym r.reached) (union_right (w.offices i).reached (set.from_list os) o (contains-from_list op_total os o ∙ there))
makes_reached w inv (Stop e left) v h o (is, new) = elim h.1.1 [
  | inl kept ↦ makes_reached w inv e v (h.0.1, (h.1.0, kept.0, h.1.2)) o is
  | inr old ↦ absurd (old.1 new.0 new.1 new.2)
]
makes_reached w inv (Send i) v h o is = absurd is
makes_reached w inv (SendSeen i) v h o is = absurd is
makes_reached w inv (SendPiece i place) v h o is = absurd is
makes_reached w inv (Take i place) v h o is = absurd is
makes_reached w inv (TakeOne i place id) v h o is = absurd is
makes_reached w inv (SendFirst i what bytes) v h o is = absurd is
makes_reached w inv (Restart i) v h o is = absurd is
makes_reached w inv (Upgrade i bytes) v h o is = absurd is

-- operations of one event that have the same id are equal
one_of_event : (w : World) (e : Event) (o p : Op) → IsMadeBy w e o → IsMadeBy w e p → o.id ≡ p.id → o ≡ p
one_of_event w (Make i bs note) o p (os, is, there) (ps, are, here) same =
    let lists : os ≡ ps = (let both : ◌≡◌ (Ok os) (Ok ps) = sym is ∙ are in cc) in
    are_once (w.offices i).content i note bs os o p is there (subst (λ l. has l p ≡ true) (sym lists) here) same
one_of_event w (Stop e left) o p is are same = one_of_event w e o p is.0 are.0 same
one_of_event w (Send i) o p is are same = absurd is
one_of_event w (SendSeen i) o p is are same = absurd is
one_of_event w (SendPiece i place) o p is are same = absurd is
one_of_event w (Take i place) o p is are same = absurd is
one_of_event w (TakeOne i place id) o p is are same = absurd is
one_of_event w (SendFirst i what bytes) o p is are same = absurd is
one_of_event w (Restart i) o p is are same = absurd is
one_of_event w (Upgrade i bytes) o p is are same = absurd is

-- no operation that was reached before has the id of a new one
none_before : (w : World) (inv : Invariant w) (e : Event) (o : Op) → IsMadeBy w e o → (j : List ℕ) (p : Op) → contains (w.offices j).reached p ≡ true → p.id ≡ o.id → ⊥
none_before w inv (Make i bs note) o (os, is, there) j p known same = are_new w inv i j bs note os o p is there known same
none_before w inv (Stop e left) o is j p known same = none_before w inv e o is.0 j p known same
none_before w inv (Send i) o is j p known same = is
none_before w inv (SendSeen i) o is j p known same = is
none_before w inv (SendPiece i place) o is j p known same = is
none_before w inv (Take i place) o is j p known same = is
none_before w inv (TakeOne i place id) o is j p known same = is
none_before w inv (SendFirst i what bytes) o is j p known same = is
none_before w inv (Restart i) o is j p known same = is
none_before w inv (Upgrade i bytes) o is j p known same = is

-- ---- lists of events

one_lead : (events : List Event) (w u v : World) → Leads w events u → Leads w events v → u ≡ v
one_lead [] w u v h k = h ∙ sym k
one_lead (e ∷ es) w u v h k =
    let first : h.0 ≡ k.0 = one_world w h.0 k.0 e h.1 k.1 in
    one_lead es k.0 u v (subst (λ (x : World). Leads x es u) first h.2) k.2

leads_split : (b c : List Event) (w v : World) → Leads w (b ++ c) v → (u : World) × Leads w b u × Leads u c v
leads_split [] c w v h = (w, refl, h)
leads_split (e ∷ b) c w v h = let r = leads_split b c h.0 v h.2 in (r.0, (h.0, h.1, r.1), r.2)

-- two events in a list: they are at the same place, or one is before the other
data Places (b c : List Event) (e f : Event) : Type 0 where
  Same : b ≡ c → e ≡ f → Places b c e f
  Sooner : (mid : List Event) → c ≡ b ++ e ∷ mid → Places b c e f
  Later : (mid : List Event) → b ≡ c ++ f ∷ mid → Places b c e f

places : (b c : List Event) (e f : Event) (a d : List Event) → b ++ e ∷ a ≡ c ++ f ∷ d → Places b c e f
places [] [] e f a d h = Same refl cc
places [] (y ∷ c) e f a d h = let first : y ≡ e = cc in Sooner c (ap (λ z. z ∷ c) first)
places (x ∷ b) [] e f a d h = let first : x ≡ f = cc in Later b (ap (λ z. z ∷ b) first)
places (x ∷ b) (y ∷ c) e f a d h =
    let first : x ≡ y = cc in
    let rest : b ++ e ∷ a ≡ c ++ f ∷ d = cc in
    elim (places b c e f a d rest) [
      | Same before event ↦ Same (λ j. first j ∷ before j) event
      | Sooner mid is ↦ let back : y ≡ x = sym first in Sooner mid (λ j. back j ∷ is j)
      | Later mid is ↦ Later mid (λ j. first j ∷ is j)
    ]

-- an operation that is made later has another id
later_id : (b mid : List Event) (e f : Event) (u v : World) (o p : Op) → Leads start b u → IsMadeBy u e o → Leads start (b ++ e ∷ mid) v → IsMadeBy v f p → o.id ≡ p.id → ⊥
later_id b mid e f u v o p to_u is to_v are same =
    let parts = leads_split b (e ∷ mid) start v to_v in
    let here : parts.0 ≡ u = one_lead b start parts.0 u parts.1 to_u in
    let on : Leads u (e ∷ mid) v = subst (λ (x : World). Leads x (e ∷ mid) v) here parts.2 in
    let inv : Invariant u = reached u (b, to_u) in
    let there = makes_reached u inv e on.0 on.1 o is in
    let next = after_keeps u inv on.1.1.0 (comes_good u inv e on.1.0 on.1.1.0 on.1.1.1) on.0 on.1.1.2 in
    let still = (leads_keeps mid on.0 next.0 v on.2).1 (office_of e) o there in
    none_before v (reached v (b ++ e ∷ mid, to_v)) f p are (office_of e) o still same

pub made_once : (events : List Event) (o p : Op) (one : WasMade start events o) (other : WasMade start events p) → o.id ≡ p.id → (o ≡ p) × (one.before ≡ other.before)
made_once events o p one other same = elim (places one.before other.before one.event other.event one.after other.after (sym one.are_all ∙ other.are_all)) [
  | Same before event ↦
      let here : one.world ≡ other.world = one_lead other.before start one.world other.world (subst (λ es. Leads start es one.world) before one.leads) other.leads in
      (one_of_event other.world other.event o p (subst (λ e. IsMadeBy other.world e o) event (subst (λ (w : World). IsMadeBy w one.event o) here one.is_made)) other.is_made same, before)
  | Sooner mid is ↦ absurd (later_id one.before mid one.event other.event one.world other.world o p one.leads one.is_made (subst (λ es. Leads start es other.world) is other.leads) other.is_made same)
  | Later mid is ↦ absurd (later_id other.before mid other.event one.event other.world one.world p o other.leads other.is_made (subst (λ es. Leads start es one.world) is one.leads) one.is_made (sym same))
]
