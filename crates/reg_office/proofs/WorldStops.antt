-- After a stop, the world is that after its event, or that before it.
use Rattle.std.proofs.Common.{◌≡◌, ℕ, max, arith, length, List, Option, Some, None, Result, Ok, Err, refl, sym, ◌∙◌, subst, inl, inr, ◌⊎◌}
use Rattle.std.specs.List.{slice_get}
use Rattle.reg_op.specs.Ids.{Id}
use Rattle.reg_op.specs.Operations.{Op, Ops, one}
use Rattle.reg_op.specs.Set as set
use Rattle.reg_op.specs.Contents.{Content, state, joined}
use Rattle.reg_op.specs.Pieces.{PieceRefusal, Basis, Clash, joined_piece}
use Rattle.reg_shelf.specs.Shelf.{IsShelf}
use Rattle.reg_shelf.proofs.Contents.{shelf_for}
use Rattle.reg_office.specs.declared.fault.OfficeFault.{OfficeFault}
use Rattle.reg_office.specs.Making.{made}
use Rattle.reg_office.specs.Pooled.{Pooled, OfRegister, OfSeen, OfPiece, ops_in}
use Rattle.reg_office.specs.World.{Office, Sent, World, Event, Make, Send, SendSeen, SendPiece, SendFirst, Take, TakeOne, Restart, Upgrade, Stop, office_of, IsKept, IsShelfAfter, stays, Outcome, Unchanged, Clashes, Sends, Writes, Gains, gained, gained_by_piece, joins, makes, takes, takes_one, picked, Reads, IsEvent, ComesOf, put, After, Happens}
use Rattle.reg_office.proofs.WorldInvariant.{Invariant}
use Rattle.reg_office.proofs.WorldSteps.{put_here, stopped_before}
use Rattle.reg_office.proofs.WorldFollows.{one_world}

-- ---- an event that is kept changes one office, and sends nothing

abbrev IsOwn : List ℕ → Outcome → Type 0
IsOwn i (Gains j x reached) = j ≡ i
IsOwn i (Sends sent) = ⊥
IsOwn i (Writes what reached) = ⊥
IsOwn i out = Unit {0}

gained_own : (i : List ℕ) (reached : Ops) (r : Result Content Id) → IsOwn i (gained i reached r)
gained_own i reached (Ok x) = refl
gained_own i reached (Err id) = tt

piece_own : (i : List ℕ) (reached : Ops) (r : Result Content PieceRefusal) → IsOwn i (gained_by_piece i reached r)
piece_own i reached (Ok x) = refl
piece_own i reached (Err (Basis id)) = tt
piece_own i reached (Err (Clash id)) = tt

joins_own : (w : World) (i : List ℕ) (x : Content) (more : Ops) → IsOwn i (joins w i x more)
joins_own w i x more = gained_own i (set.union (w.offices i).reached more) (joined (w.offices i).content x)

makes_own : (w : World) (i : List ℕ) (r : Result (List Op) OfficeFault) → IsOwn i (makes w i r)
makes_own w i (Ok os) = joins_own w i (state (set.from_list os)) (set.from_list os)
makes_own w i (Err fault) = tt

one_own : (w : World) (i : List ℕ) (r : Option Op) → IsOwn i (takes_one w i r)
one_own w i (Some o) = joins_own w i (state (one o)) (one o)
one_own w i None = tt

takes_own : (w : World) (i : List ℕ) (what : Pooled) (more : Ops) → IsOwn i (takes w i what more)
takes_own w i (OfRegister x) more = joins_own w i x more
takes_own w i (OfSeen seen) more = tt
takes_own w i (OfPiece piece) more = piece_own i (set.union (w.offices i).reached more) (joined_piece (w.offices i).content piece)

reads_own : (i : List ℕ) (next : Pooled → Ops → Outcome) → ((what : Pooled) (more : Ops) → IsOwn i (next what more)) → (o : Option Sent) (out : Outcome) → Reads next o out → IsOwn i out
reads_own i next each None out h = subst (IsOwn i) (sym h) tt
reads_own i next each (Some sent) out h = subst (IsOwn i) (sym h.2) (each h.0 sent.reached)

own : (w : World) (e : Event) → IsKept e → (out : Outcome) → ComesOf w e out → IsOwn (office_of e) out
own w (Make i effects note) kept out h = subst (IsOwn i) (sym h) (makes_own w i (made (w.offices i).content i note effects))
own w (Send i) kept out h = absurd kept
own w (SendSeen i) kept out h = absurd kept
own w (SendPiece i place) kept out h = absurd kept
own w (SendFirst i what bytes) kept out h = absurd kept
own w (Take i place) kept out h = reads_own i (takes w i) (takes_own w i) (slice_get w.pool place) out h
own w (TakeOne i place id) kept out h = reads_own i (λ what reached. takes_one w i (picked id (ops_in what))) (λ what more. one_own w i (picked id (ops_in what))) (slice_get w.pool place) out h
own w (Restart i) kept out h = absurd kept
own w (Upgrade i bytes) kept out h = absurd kept
own w (Stop e left) kept out h = absurd kept

-- ---- the world after a stop

-- a shelf of the outcome has the content that the office has afterwards
new_shelf : (w : World) (i left : List ℕ) (out : Outcome) (v : World) → IsOwn i out → IsShelfAfter left out → After w out v → IsShelf left (v.offices i).content
new_shelf w i left Unchanged v is shelf after = absurd shelf
new_shelf w i left (Clashes id) v is shelf after = absurd shelf
new_shelf w i left (Sends sent) v is shelf after = absurd shelf
new_shelf w i left (Writes what reached) v is shelf after = absurd shelf
new_shelf w i left (Gains j x reached) v is shelf after =
    let office : Office = record { content = x; last = after.0; reached = reached } in
    subst (λ (u : World). IsShelf left (u.offices i).content) (sym after.2)
    (subst (λ k. IsShelf left ((put w j office).offices k).content) is (subst (λ (p : Office). IsShelf left p.content) (sym (put_here w j office)) shelf))

-- a shelf of the content that the office has afterwards is a shelf of the outcome, or nothing has changed
shelf_or_same : (w : World) (i left : List ℕ) (out : Outcome) (u : World) → IsOwn i out → After w out u → IsShelf left (u.offices i).content → IsShelfAfter left out ⊎ (u ≡ w)
shelf_or_same w i left Unchanged u is after shelf = inr after
shelf_or_same w i left (Clashes id) u is after shelf = inr after
shelf_or_same w i left (Sends sent) u is after shelf = absurd is
shelf_or_same w i left (Writes what reached) u is after shelf = absurd is
shelf_or_same w i left (Gains j x reached) u is after shelf =
    let office : Office = record { content = x; last = after.0; reached = reached } in
    inl (subst (λ (p : Office). IsShelf left p.content) (put_here w j office)
    (subst (λ k. IsShelf left ((put w j office).offices k).content) (sym is) (subst (λ (v : World). IsShelf left (v.offices i).content) after.2 shelf)))

module _ (w v : World) (inv : Invariant w) (e : Event) (left : List ℕ) (h : Happens w (Stop e left) v) where
  old_is : (out : Outcome) → out ≡ stays w (office_of e) → After w out v → v ≡ w
  old_is out is after = stopped_before w v inv (office_of e) (subst (λ r. After w r v) is after)

  pub stop_is_all_or_nothing : Happens w e v ⊎ (v ≡ w)
  stop_is_all_or_nothing = elim h.1.1 [
    | inl new ↦ inl (h.0.1, (h.1.0, new.0, h.1.2))
    | inr old ↦ inr (old_is h.1.0 old.2 h.1.2)
  ]

  pub stop_leaves_a_shelf : IsShelf left (v.offices (office_of e)).content
  stop_leaves_a_shelf = elim h.1.1 [
    | inl new ↦ new_shelf w (office_of e) left h.1.0 v (own w e h.0.0 h.1.0 new.0) new.1 h.1.2
    | inr old ↦ subst (λ (u : World). IsShelf left (u.offices (office_of e)).content) (sym (old_is h.1.0 old.2 h.1.2)) old.0
  ]

  pub stop_leaves_the_new : (u : World) → Happens w e u → IsShelf left (u.offices (office_of e)).content → v ≡ u
  stop_leaves_the_new u k shelf = elim h.1.1 [
    | inl new ↦ one_world w v u e (h.0.1, (h.1.0, new.0, h.1.2)) k
    | inr old ↦ elim (shelf_or_same w (office_of e) left k.1.0 u (own w e h.0.0 k.1.0 k.1.1) k.1.2 shelf) [
      | inl there ↦ absurd (old.1 k.1.0 k.1.1 there)
      | inr same ↦ old_is h.1.0 old.2 h.1.2 ∙ sym same
    ]
  ]

-- ---- each stop can happen

-- the content of an office has a shelf
old_left : (w : World) (inv : Invariant w) (i : List ℕ) → (left : List ℕ) × IsShelf left (w.offices i).content
old_left w inv i =
    let last = inv.last i in
    let some = shelf_for (state (w.offices i).reached) (w.offices i).last (max 14 (length (w.offices i).last)) last (omega arith, omega (arith, last.short)) (omega arith) in
    (some.0, subst (IsShelf some.0) (sym (inv.content i)) some.1.0)

pub stop_may_leave_the_old : (w : World) → Invariant w → (e : Event) → IsKept e → IsEvent w e → (left : List ℕ) × IsEvent w (Stop e left) × IsShelf left (w.offices (office_of e)).content
stop_may_leave_the_old w inv e kept is = let old = old_left w inv (office_of e) in (old.0, (kept, is, inl old.1), old.1)

-- a stop can leave a shelf of the content that the office has after the event
new_left : (w v : World) (inv : Invariant w) (e : Event) (out : Outcome) → IsKept e → IsEvent w e → IsOwn (office_of e) out → ComesOf w e out → After w out v
    → (left : List ℕ) × IsEvent w (Stop e left) × IsShelf left (v.offices (office_of e)).content
new_left w v inv e Unchanged kept is mine comes after =
    subst (λ (u : World). (left : List ℕ) × IsEvent w (Stop e left) × IsShelf left (u.offices (office_of e)).content) (sym after) (stop_may_leave_the_old w inv e kept is)
new_left w v inv e (Clashes id) kept is mine comes after =
    subst (λ (u : World). (left : List ℕ) × IsEvent w (Stop e left) × IsShelf left (u.offices (office_of e)).content) (sym after) (stop_may_leave_the_old w inv e kept is)
new_left w v inv e (Sends sent) kept is mine comes after = absurd mine
new_left w v inv e (Writes what reached) kept is mine comes after = absurd mine
new_left w v inv e (Gains j x reached) kept is mine comes after =
    let holds = after.1 in
    let some = shelf_for x after.0 (max 14 (length after.0)) holds (omega arith, omega (arith, holds.short)) (omega arith) in
    (some.0, (kept, is, inr (Gains j x reached, comes, some.1.0)), new_shelf w (office_of e) some.0 (Gains j x reached) v mine some.1.0 after)

pub stop_may_leave_the_new : (w v : World) → Invariant w → (e : Event) → IsKept e → Happens w e v → (left : List ℕ) × IsEvent w (Stop e left) × IsShelf left (v.offices (office_of e)).content
stop_may_leave_the_new w v inv e kept h = new_left w v inv e h.1.0 kept h.0 (own w e kept h.1.0 h.1.1) h.1.1 h.1.2
