-- Consequences of the invariant, in every world.
use Rattle.std.proofs.Common.{◌≡◌, ℕ, Bool, true, false, cond, List, [], ◌∷◌, map, Option, Some, None, Ok, refl, sym, ap, ◌∙◌, subst, inl, inr, ◌⊎◌}
use Rattle.std.proofs.lemmas.Bool.{true≢false}
use Rattle.std.specs.List.{slice_get}
use Rattle.reg_op.specs.Set.{contains, union, contains-empty}
use Rattle.reg_op.specs.Ids.{Id}
use Rattle.reg_op.specs.Lists.{has}
use Rattle.reg_op.specs.Finite.{any}
use Rattle.reg_op.specs.Operations.{Op, Ops, op_cmp, OneBody}
use Rattle.reg_op.specs.declared.operation.OpBody.{OpBody as Body}
use Rattle.reg_op.specs.Contents.{Content, state, joined}
use Rattle.reg_op.specs.declared.status.Status.TheVariants.{Retired, Superseded, Valid}
use Rattle.reg_op.specs.Status.{enters, retires, supersedes, status}
use Rattle.reg_op.proofs.FiniteLemmas.{any_from_member, member_from_any}
use Rattle.reg_op.proofs.OpLemmas.{op_total, op_exact}
use Rattle.reg_op.proofs.ContentLemmas.{joined_comm, OneBody-within, union_within, union_left}
use Rattle.reg_op.proofs.StatusLemmas.{status-kept}
use Rattle.reg_op.proofs.JoinLemmas.{joined_ok}
use Rattle.reg_state.specs.ManyLaws.{all_of}
use Rattle.reg_file.specs.Files.{Holds, IsFileOf}
use Rattle.reg_file.proofs.HoldLemmas.{one_content, one_reading, one_file}
use Rattle.reg_office.specs.Making.{made}
use Rattle.reg_office.specs.Pooled.{Pooled, OfRegister, ReadsAsAny, ops_in, TellsOf}
use Rattle.reg_office.specs.World.{Sent, World, Event, Make, Send, SendSeen, SendPiece, SendFirst, Take, TakeOne, Restart, Upgrade, Stop, office_of, IsEvent, IsShelfAfter, stays, Outcome, Unchanged, Clashes, Sends, Writes, Gains, takes, takes_one, sends_piece, picked, Reads, ComesOf, put, pooled, After, IsTooMuch, Happens, Leads}
use Rattle.reg_office.proofs.PooledLemmas.{one_pooled, one_pooled_file, has_file}
use Rattle.reg_office.proofs.WorldInvariant.{IsWithin, sent_at, Invariant, gain_content, IsGood}
use Rattle.reg_office.proofs.WorldShelves.{shelf_or_not}
use Rattle.reg_office.proofs.WorldComes.{new_id, comes_good}
use Rattle.reg_office.proofs.WorldLemmas.{leads_keeps}

pub same_files : (w : World) → Invariant w → (i j : List ℕ) → (w.offices i).reached ≡ (w.offices j).reached → ((w.offices i).content ≡ (w.offices j).content) × ((w.offices i).last ≡ (w.offices j).last)
same_files w inv i j e = (
  inv.content i ∙ ap state e ∙ sym (inv.content j),
  one_file (state (w.offices j).reached) (w.offices i).last (w.offices j).last (subst (λ s. IsFileOf (state s) (w.offices i).last) e (inv.last i).bytes_are) (inv.last j).bytes_are,
)

pub reads : (w : World) (inv : Invariant w) (place : ℕ) (sent : Sent) → slice_get w.pool place ≡ Some sent → (what : Pooled) × ReadsAsAny sent.bytes what × TellsOf sent.reached what
reads w inv place sent at = let is = sent_at inv.all w.pool place sent inv.pool at in (is.what, is.holds, is.tells)

all_within : (w : World) (inv : Invariant w) (is : List (List ℕ)) → IsWithin (all_of (map (λ i. (w.offices i).reached) is)) inv.all
all_within w inv [] o h = absurd (true≢false (sym h ∙ contains-empty op_cmp o))
all_within w inv (i ∷ is) o h = union_within (w.offices i).reached (all_of (map (λ j. (w.offices j).reached) is)) inv.all (inv.within i) (all_within w inv is) o h

pub together : (w : World) → Invariant w → (is : List (List ℕ)) → OneBody (all_of (map (λ i. (w.offices i).reached) is))
together w inv is = OneBody-within _ _ (all_within w inv is) inv.one_body

pub are_new : (w : World) → Invariant w → (i j : List ℕ) (effects : List Body) (note : List ℕ) (os : List Op) (o p : Op) → made (w.offices i).content i note effects ≡ Ok os → has os o ≡ true → contains (w.offices j).reached p ≡ true → p.id ≡ o.id → ⊥
are_new w inv i j effects note os o p h a b e = new_id w inv i effects note os o p h a (inv.within j p b) e

pub never_clashes : (w : World) → Invariant w → (e : Event) (id : Id) → IsEvent w e → ComesOf w e (Clashes id) → ⊥
never_clashes w inv e id is h = comes_good w inv e is (Clashes id) h

-- ---- each event has one outcome, and at most one world after it

reads_one : (next : Pooled → Ops → Outcome) (o : Option Sent) (out other : Outcome) → Reads next o out → Reads next o other → out ≡ other
reads_one next None out other h k = h ∙ sym k
reads_one next (Some s) out other h k = h.2 ∙ ap (λ what. next what s.reached) (one_pooled s.bytes h.0 k.0 h.1 k.1) ∙ sym k.2

one_outcome : (w : World) (e : Event) (out other : Outcome) → ComesOf w e out → ComesOf w e other → out ≡ other
one_outcome w (Make i effects note) out other h k = h ∙ sym k
one_outcome w (Send i) out other h k = h ∙ sym k
one_outcome w (SendSeen i) out other h k = h ∙ sym k
one_outcome w (SendPiece i place) out other h k = reads_one (λ what reached. sends_piece w i what) (slice_get w.pool place) out other h k
one_outcome w (SendFirst i what bytes) out other h k = h ∙ sym k
one_outcome w (Take i place) out other h k = reads_one (takes w i) (slice_get w.pool place) out other h k
one_outcome w (TakeOne i place id) out other h k = reads_one (λ what reached. takes_one w i (picked id (ops_in what))) (slice_get w.pool place) out other h k
one_outcome w (Restart i) out other h k = h.2 ∙ ap (λ x. Gains i x (w.offices i).reached) (one_content (w.offices i).last h.0 k.0 h.1 k.1) ∙ sym k.2
one_outcome w (Upgrade i bytes) out other h k = h.2 ∙ ap (λ x. Gains i x (w.offices i).reached) (one_reading bytes h.0 k.0 h.1 k.1) ∙ sym k.2
one_outcome w (Stop e left) out other (inl h) (inl k) = one_outcome w e out other h.0 k.0
one_outcome w (Stop e left) out other (inl h) (inr k) = absurd (k.1 out h.0 h.1)
one_outcome w (Stop e left) out other (inr h) (inl k) = absurd (h.1 other k.0 k.1)
one_outcome w (Stop e left) out other (inr h) (inr k) = h.2 ∙ sym k.2

reads_some : (next : Pooled → Ops → Outcome) (o : Option Sent) → ((s : Sent) → o ≡ Some s → (what : Pooled) × ReadsAsAny s.bytes what × TellsOf s.reached what) → (out : Outcome) × Reads next o out
reads_some next None at = (Unchanged, refl)
reads_some next (Some s) at = let r = at s refl in (next r.0 s.reached, (r.0, r.1, refl))

outcome : (w : World) → Invariant w → (e : Event) → IsEvent w e → (out : Outcome) × ComesOf w e out
outcome w inv (Make i effects note) is = (_, refl)
outcome w inv (Send i) is = (_, refl)
outcome w inv (SendSeen i) is = (_, refl)
outcome w inv (SendPiece i place) is = reads_some (λ what reached. sends_piece w i what) (slice_get w.pool place) (reads w inv place)
outcome w inv (SendFirst i what bytes) is = (_, refl)
outcome w inv (Take i place) is = reads_some (takes w i) (slice_get w.pool place) (reads w inv place)
outcome w inv (TakeOne i place id) is = reads_some (λ what reached. takes_one w i (picked id (ops_in what))) (slice_get w.pool place) (reads w inv place)
outcome w inv (Restart i) is = (_, (state (w.offices i).reached, inv.last i, refl))
outcome w inv (Upgrade i bytes) is = (_, ((w.offices i).content, inr is, refl))
outcome w inv (Stop e left) is =
    let came = outcome w inv e is.1 in
    let office = w.offices (office_of e) in
    elim is.2 [
      | inl old ↦ elim (shelf_or_not w inv left office.content old (office.last, subst (Holds office.last) (sym (inv.content (office_of e))) (inv.last (office_of e))) came.0 (comes_good w inv e is.1 came.0 came.1)) [
        | inl new ↦ (came.0, inl (came.1, new))
        | inr never ↦ (stays w (office_of e), inr (old, λ out comes. subst (λ r. IsShelfAfter left r → ⊥) (one_outcome w e came.0 out came.1 comes) never, refl))
      ]
      | inr new ↦ (new.0, inl (new.1, new.2))
    ]

-- an outcome that keeps the invariant has a world after it, or its file is too large
follows : (w : World) (inv : Invariant w) (out : Outcome) → IsGood w inv out → ((v : World) × After w out v) ⊎ IsTooMuch out
follows w inv Unchanged good = inl (w, refl)
follows w inv (Clashes id) good = absurd good
follows w inv (Sends sent) good = inl (_, refl)
follows w inv (Writes what reached) good = elim (has_file what good.sound) [
  | inl f ↦ inl (_, (f.0, f.1, refl))
  | inr large ↦ inr large
]
follows w inv (Gains i x reached) good =
    elim (has_file (OfRegister x) (gain_content w inv i x reached good)) [
      | inl f ↦ inl (_, (f.0, f.1, refl))
      | inr large ↦ inr large
    ]

pub goes_on : (w : World) → Invariant w → (e : Event) → IsEvent w e → (out : Outcome) × ComesOf w e out × (((v : World) × After w out v) ⊎ IsTooMuch out)
goes_on w inv e is = let r = outcome w inv e is in (r.0, r.1, follows w inv r.0 (comes_good w inv e is r.0 r.1))

one_after : (w : World) (out : Outcome) (u v : World) → After w out u → After w out v → u ≡ v
one_after w Unchanged u v h k = h ∙ sym k
one_after w (Clashes id) u v h k = h ∙ sym k
one_after w (Sends sent) u v h k = h ∙ sym k
one_after w (Writes what reached) u v h k = h.2 ∙ ap (λ bytes. pooled w (record { bytes = bytes; reached = reached })) (one_pooled_file what h.0 k.0 h.1 k.1) ∙ sym k.2
one_after w (Gains i x reached) u v h k = h.2 ∙ ap (λ last. put w i (record { content = x; last = last; reached = reached })) (one_file x h.0 k.0 h.1.bytes_are k.1.bytes_are) ∙ sym k.2

pub one_world : (w u v : World) (e : Event) → Happens w e u → Happens w e v → u ≡ v
one_world w u v e h k =
    let p = h.1 in
    let q = k.1 in
    one_after w q.0 u v (subst (λ out. After w out u) (one_outcome w e p.0 q.0 p.1 q.1) p.2) q.2

-- ---- a retired entry stays retired

any_grows : (s t : Ops) → IsWithin s t → (test : Op → Bool) → any test s ≡ true → any test t ≡ true
any_grows s t within test h = let r = member_from_any op_total op_exact test s h in any_from_member op_total op_exact test t r.0 (within r.0 r.1) r.2

retired_parts : (en re su : Bool) → cond en (Some (cond re Retired (cond su Superseded Valid))) None ≡ Some Retired → (en ≡ true) × (re ≡ true)
retired_parts true true su h = (refl, refl)
retired_parts true false true h = cc
retired_parts true false false h = cc
retired_parts false re su h = cc

retired_grows : (s t : Ops) → IsWithin s t → (e : Id) → status s e ≡ Some Retired → status t e ≡ Some Retired
retired_grows s t within e h =
    let parts = retired_parts (enters s e) (retires s e) (supersedes s e) h in
    let en : enters t e ≡ true = any_grows s t within _ parts.0 in
    let re : retires t e ≡ true = any_grows s t within _ parts.1 in
    (λ i. cond (en i) (Some (cond (re i) Retired (cond (supersedes t e) Superseded Valid))) None)

pub stays_retired : (w v : World) → Invariant w → (later : List Event) → Leads w later v → (i : List ℕ) (e : Id) → status (w.offices i).content.ops e ≡ Some Retired → status (v.offices i).content.ops e ≡ Some Retired
stays_retired w v inv later h i e was =
    let after = leads_keeps later w inv v h in
    let r = (w.offices i).reached in
    let r' = (v.offices i).reached in
    let before : status r e ≡ Some Retired = sym (status-kept r e) ∙ ap (λ (c : Content). status c.ops e) (sym (inv.content i)) ∙ was in
    ap (λ (c : Content). status c.ops e) (after.0.content i) ∙ status-kept r' e ∙ retired_grows r r' (after.1 i) e before

join_retired : (x y z : Content) (e : Id) → joined x y ≡ Ok z → status x.ops e ≡ Some Retired → status z.ops e ≡ Some Retired
join_retired x y z e h was =
    let r = joined_ok x y z h in
    subst (λ (c : Content). status c.ops e ≡ Some Retired) r.1 (status-kept (union x.ops y.ops) e ∙ retired_grows x.ops (union x.ops y.ops) (union_left x.ops y.ops) e was)

pub retired_in_joins : (x y z : Content) (e : Id) → (joined x y ≡ Ok z) ⊎ (joined y x ≡ Ok z) → status x.ops e ≡ Some Retired → status z.ops e ≡ Some Retired
retired_in_joins x y z e (inl h) was = join_retired x y z e h was
retired_in_joins x y z e (inr h) was = join_retired x y z e (joined_comm x y ∙ h) was
