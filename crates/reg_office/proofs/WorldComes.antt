-- The outcome of each event keeps the invariant.
use Rattle.std.proofs.Common.{◌≡◌, ℕ, Bool, true, false, ◌||◌, cond, List, [], ◌∷◌, Option, Some, None, Ok, Err, refl, sym, ap, ◌∙◌, subst, inl, inr, ◌⊎◌}
use Rattle.std.proofs.lemmas.Bool.{or_cases, or_left, or_right, true≢false}
use Rattle.std.specs.Cmp.{tied_itself}
use Rattle.std.specs.Ordering.{is_eq, eq_by_cmp}
use Rattle.std.specs.List.{find, slice_get}
use Rattle.reg_op.specs.Set as set
use Rattle.reg_op.specs.Set.{contains, union, contains-items, contains-from_list}
use Rattle.reg_op.specs.Ids.{Id, Ids, is_same}
use Rattle.reg_op.specs.Lists.{has}
use Rattle.reg_op.specs.Operations.{Op, Ops, one, op_cmp, ids, OneBody}
use Rattle.reg_op.specs.declared.operation.OpBody.{OpBody as Body}
use Rattle.reg_op.specs.Contents.{Content, state, joined, AreOperations}
use Rattle.reg_op.proofs.OpLemmas.{op_total, op_exact}
use Rattle.reg_op.proofs.FiniteLemmas.{union_comm}
use Rattle.reg_op.proofs.OneLemmas.{one_is}
use Rattle.reg_op.proofs.ContentLemmas.{joined-state, OneBody-within, union_within, union_left, union_right, ids_has, contains_op-union}
use Rattle.reg_op.specs.Pieces.{Piece, part_of, piece_for, IsHeld, first_missing, Basis, joined_where, joined_piece}
use Rattle.reg_op.proofs.PieceLemmas.{piece_is}
use Rattle.reg_op.proofs.RefusalLemmas.{missing_none, pieces_joined}
use Rattle.reg_state.specs.Runs.{AllIds}
use Rattle.reg_file.specs.Files.{HoldsFirst, ReadsAsSeen}
use Rattle.reg_file.proofs.HoldLemmas.{one_content, one_reading}
use Rattle.reg_office.specs.Making.{made}
use Rattle.reg_office.specs.Pooled.{Pooled, OfRegister, OfSeen, OfPiece, ReadsAsAny, ops_in, TellsOf}
use Rattle.reg_office.specs.World.{Sent, World, Event, Make, Send, SendSeen, SendPiece, SendFirst, Take, TakeOne, Restart, Upgrade, Stop, office_of, IsEvent, Outcome, Gains, gained, gained_by_piece, joins, makes, takes, takes_one, sends_piece, picked, Reads, ComesOf}
use Rattle.reg_office.proofs.PooledLemmas.{one_pooled, first_is_read, ops_within}
use Rattle.reg_office.proofs.LawLemmas.{are_unseen, are_once}
use Rattle.reg_office.proofs.WorldCommands.{made_operations, made_on}
use Rattle.reg_office.proofs.WorldInvariant.{IsWithin, IsSent, Invariant, sent_at, office_content, IsGood}

-- operations that an office joins: they were made before, or are new ones of the office
record AreJoined (w : World) (inv : Invariant w) (i : List ℕ) (more : Ops) : Type 0 where
  all : Ops
  operations : AreOperations all
  one_body : OneBody all
  grows : IsWithin inv.all all
  within : IsWithin more all
  news : (o : Op) → contains all o ≡ true → (contains inv.all o ≡ true) ⊎ ((o.id.replica ≡ i) × (contains more o ≡ true))

-- joining them gives the state of the union with what the office had reached, which keeps the invariant
union_good : (w : World) (inv : Invariant w) (i : List ℕ) (more : Ops) (x : Content) → x ≡ state (union (w.offices i).reached more) → AreJoined w inv i more → IsGood w inv (Gains i x (union (w.offices i).reached more))
union_good w inv i more x is new =
    let reached = (w.offices i).reached in
    record {
      all = new.all;
      operations = new.operations;
      one_body = new.one_body;
      is_state = is;
      grows = new.grows;
      more = union_left reached more;
      within = union_within reached more new.all (λ o h. new.grows o (inv.within i o h)) new.within;
      news = λ o h. elim (new.news o h) [
        | inl a ↦ inl a
        | inr b ↦ inr (b.0, union_right reached more o b.1)
      ];
    }

-- in the union with what the office had reached, no id has two bodies
one_together : (w : World) (inv : Invariant w) (i : List ℕ) (more : Ops) → AreJoined w inv i more → OneBody (union (w.offices i).reached more)
one_together w inv i more new = OneBody-within _ _ (union_within (w.offices i).reached more new.all (λ o h. new.grows o (inv.within i o h)) new.within) new.one_body

join_good : (w : World) (inv : Invariant w) (i : List ℕ) (x : Content) (more : Ops) → x ≡ state more → AreJoined w inv i more → IsGood w inv (joins w i x more)
join_good w inv i x more is new =
    let reached = (w.offices i).reached in
    let done : joined (w.offices i).content x ≡ Ok (state (union reached more)) =
    (λ k. joined (inv.content i k) (is k)) ∙ joined-state reached more (one_together w inv i more new) in
    subst (λ r. IsGood w inv (gained i (union reached more) r)) (sym done) (union_good w inv i more (state (union reached more)) refl new)

taken : (w : World) (inv : Invariant w) (i : List ℕ) (more : Ops) → IsWithin more inv.all → AreJoined w inv i more
taken w inv i more within = record {
  all = inv.all;
  operations = inv.operations;
  one_body = inv.one_body;
  grows = λ o h. h;
  within = within;
  news = λ o h. inl h;
}

-- ---- an office makes operations

-- no operation that was made before has the id of a new one
pub new_id : (w : World) (inv : Invariant w) (i : List ℕ) (bs : List Body) (note : List ℕ) (os : List Op) (o p : Op) → made (w.offices i).content i note bs ≡ Ok os → has os o ≡ true → contains inv.all p ≡ true → p.id ≡ o.id → ⊥
new_id w inv i bs note os o p h a b e =
    let own : p.id.replica ≡ i = ap (λ j. j.replica) e ∙ made_on (w.offices i).content i note bs os h o a in
    let reached : contains (w.offices i).reached p ≡ true = subst (λ j. contains (w.offices j).reached p ≡ true) own (inv.own p b) in
    let seen : contains (w.offices i).content.seen p.id ≡ true = subst (λ (c : Content). contains c.seen p.id ≡ true) (sym (inv.content i)) (ids_has _ p reached) in
    true≢false (sym (subst (λ j. contains (w.offices i).content.seen j ≡ true) e seen) ∙ are_unseen (w.offices i).content i note bs os o h a)

new_are_joined : (w : World) (inv : Invariant w) (i : List ℕ) (bs : List Body) (note : List ℕ) (os : List Op) → IsEvent w (Make i bs note) → made (w.offices i).content i note bs ≡ Ok os → AreJoined w inv i (set.from_list os)
new_are_joined w inv i bs note os is h =
    let x = (w.offices i).content in
    let new : Ops = set.from_list os in
    let all = union inv.all new in
    let listed : (o : Op) → contains new o ≡ true → has os o ≡ true = λ o k. sym (contains-from_list op_total os o) ∙ k in
    let where_is : (o : Op) → contains all o ≡ true → (contains inv.all o ≡ true) ⊎ (contains new o ≡ true) =
    λ o k. or_cases (contains inv.all o) (contains new o) (sym (contains_op-union inv.all new o) ∙ k) in
    record {
      all = all;
      operations = λ o k. elim (where_is o k) [
        | inl a ↦ inv.operations o a
        | inr b ↦ made_operations x i note bs os is.0 is.1 is.2 is.3 h o (listed o b)
      ];
      one_body = λ p o a b e. elim (where_is p a) [
        | inl a' ↦ elim (where_is o b) [
          | inl b' ↦ inv.one_body p o a' b' e
          | inr b' ↦ absurd (new_id w inv i bs note os o p h (listed o b') a' e)
        ]
        | inr a' ↦ elim (where_is o b) [
          | inl b' ↦ absurd (new_id w inv i bs note os p o h (listed p a') b' (sym e))
          | inr b' ↦ are_once x i note bs os p o h (listed p a') (listed o b') e
        ]
      ];
      grows = union_left inv.all new;
      within = union_right inv.all new;
      news = λ o k. elim (where_is o k) [
        | inl a ↦ inl a
        | inr b ↦ inr (made_on x i note bs os h o (listed o b), b)
      ];
    }

make_good : (w : World) (inv : Invariant w) (i : List ℕ) (bs : List Body) (note : List ℕ) → IsEvent w (Make i bs note) → IsGood w inv (makes w i (made (w.offices i).content i note bs))
make_good w inv i bs note is =
    elim (made (w.offices i).content i note bs) as (λ r. made (w.offices i).content i note bs ≡ r → IsGood w inv (makes w i r)) [
      | Ok os ↦ λ h. join_good w inv i (state (set.from_list os)) (set.from_list os) refl (new_are_joined w inv i bs note os is h)
      | Err f ↦ λ h. tt
    ] refl

-- ---- an office takes a file, or one operation of it

pub found_is_in : (t : Op → Bool) (xs : List Op) (o : Op) → find t xs ≡ Some o → has xs o ≡ true
found_is_in t [] o h = cc
found_is_in t (x ∷ xs) o h =
    elim (t x) as (λ b. cond b (Some x) (find t xs) ≡ Some o → (eq_by_cmp op_cmp o x || has xs o) ≡ true) [
      | true ↦ λ e. let is : x ≡ o = cc in or_left _ _ (subst (λ y. eq_by_cmp op_cmp o y ≡ true) (sym is) (ap is_eq (tied_itself op_total o)))
      | false ↦ λ e. or_right (eq_by_cmp op_cmp o x) _ (found_is_in t xs o e)
    ] h

pub one_good : (w : World) (inv : Invariant w) (i : List ℕ) (id : Id) (s : Ops) → IsWithin s inv.all → IsGood w inv (takes_one w i (picked id s))
one_good w inv i id s within =
    elim (picked id s) as (λ r. picked id s ≡ r → IsGood w inv (takes_one w i r)) [
      | Some o ↦ λ h.
          let there : contains s o ≡ true = contains-items s o ∙ found_is_in (λ (p : Op). is_same p.id id) (set.items s) o h in
          join_good w inv i (state (one o)) (one o) refl (taken w inv i (one o) (λ q k. subst (λ p. contains inv.all p ≡ true) (sym (one_is o q k)) (within o there)))
      | None ↦ λ h. tt
    ] refl

-- a sent file is read as the state, the ids or a piece of what its sender had reached
pub told : (all : Ops) (s : Sent) (what : Pooled) → IsSent all s → ReadsAsAny s.bytes what → TellsOf s.reached what
told all s what is h = subst (TellsOf s.reached) (one_pooled s.bytes is.what what is.holds h) is.tells

-- joining a piece whose basis was seen gives the state of the union with what its sender had reached
pub piece_joins : (w : World) (inv : Invariant w) (i : List ℕ) (piece : Piece) (more : Ops) → TellsOf more (OfPiece piece) → IsWithin more inv.all
    → IsHeld piece.basis (ids (w.offices i).reached) → joined_piece (w.offices i).content piece ≡ Ok (state (union (w.offices i).reached more))
piece_joins w inv i piece more tells within is_held =
    let reached = (w.offices i).reached in
    let same : union more reached ≡ union reached more = union_comm op_total op_exact more reached in
    let one_body : OneBody (union more reached) = subst OneBody (sym same) (one_together w inv i more (taken w inv i more within)) in
    (λ k. joined_piece (inv.content i k) (tells.1 k))
    ∙ pieces_joined more reached tells.0 one_body (subst (λ (p : Piece). IsHeld p.basis (ids reached)) tells.1 is_held)
    ∙ ap (λ s. Ok (state s)) same

-- a piece whose basis was not seen is refused
pub piece_refused : (w : World) (inv : Invariant w) (i : List ℕ) (piece : Piece) → (IsHeld piece.basis (ids (w.offices i).reached) → ⊥)
    → (id : Id) × (joined_piece (w.offices i).content piece ≡ Err (Basis id))
piece_refused w inv i piece never =
    let seen = (w.offices i).content.seen in
    let ids_are : seen ≡ ids (w.offices i).reached = ap (λ (c : Content). c.seen) (inv.content i) in
    elim (first_missing piece.basis seen) as (λ m. first_missing piece.basis seen ≡ m → (id : Id) × (joined_where m (joined (w.offices i).content (part_of piece)) ≡ Err (Basis id))) [
      | None ↦ λ e. absurd (never (subst (IsHeld piece.basis) ids_are ((missing_none piece.basis seen).0 e)))
      | Some id ↦ λ e. (id, refl)
    ] refl

-- a basis was seen, or was not
pub held_or_not : (basis seen : Ids) → IsHeld basis seen ⊎ (IsHeld basis seen → ⊥)
held_or_not basis seen =
    elim (first_missing basis seen) as (λ m. first_missing basis seen ≡ m → IsHeld basis seen ⊎ (IsHeld basis seen → ⊥)) [
      | None ↦ λ e. inl ((missing_none basis seen).0 e)
      | Some id ↦ λ e. inr (λ h. none_some id (sym ((missing_none basis seen).1 h) ∙ e))
    ] refl
  where
    none_some : (id : Id) → ◌≡◌ {A = Option Id} None (Some id) → ⊥
    none_some id h = cc

pub takes_good : (w : World) (inv : Invariant w) (i : List ℕ) (what : Pooled) (more : Ops) → TellsOf more what → IsWithin more inv.all → IsGood w inv (takes w i what more)
takes_good w inv i (OfRegister x) more tells within = join_good w inv i x more tells (taken w inv i more within)
takes_good w inv i (OfSeen seen) more tells within = tt
takes_good w inv i (OfPiece piece) more tells within =
    let reached = union (w.offices i).reached more in
    elim (held_or_not piece.basis (ids (w.offices i).reached)) [
      | inl is_held ↦ subst (λ r. IsGood w inv (gained_by_piece i reached r)) (sym (piece_joins w inv i piece more tells within is_held)) (union_good w inv i more (state reached) refl (taken w inv i more within))
      | inr never ↦ let r = piece_refused w inv i piece never in subst (λ r. IsGood w inv (gained_by_piece i reached r)) (sym r.1) tt
    ]

sends_piece_good : (w : World) (inv : Invariant w) (i : List ℕ) (what : Pooled) → ((seen : Ids) → what ≡ OfSeen seen → AllIds seen) → IsGood w inv (sends_piece w i what)
sends_piece_good w inv i (OfRegister x) are = tt
sends_piece_good w inv i (OfPiece piece) are = tt
sends_piece_good w inv i (OfSeen seen) are = record {
  tells = (seen, ap (λ x. piece_for x seen) (inv.content i));
  within = inv.within i;
  sound = piece_is (w.offices i).content seen (office_content w inv i) (are seen refl);
}

reads_good : (w : World) (inv : Invariant w) (next : Pooled → Ops → Outcome) → ((s : Sent) (what : Pooled) → IsSent inv.all s → ReadsAsAny s.bytes what → IsGood w inv (next what s.reached))
    → (o : Option Sent) (at : (s : Sent) → o ≡ Some s → IsSent inv.all s) (out : Outcome) → Reads next o out → IsGood w inv out
reads_good w inv next each None at out h = subst (IsGood w inv) (sym h) tt
reads_good w inv next each (Some s) at out h = subst (IsGood w inv) (sym h.2) (each s h.0 (at s refl) h.1)

seen_ids : (bytes : List ℕ) (what : Pooled) → ReadsAsAny bytes what → (seen : Ids) → what ≡ OfSeen seen → AllIds seen
seen_ids bytes what h seen e = of_either (subst (ReadsAsAny bytes) e h)
  where
    of_either : ReadsAsSeen bytes seen → AllIds seen
    of_either (inl k) = k.are_ids
    of_either (inr k) = k.are_ids

-- an office that gains what it had keeps the invariant
same_good : (w : World) (inv : Invariant w) (i : List ℕ) (x : Content) → x ≡ state (w.offices i).reached → IsGood w inv (Gains i x (w.offices i).reached)
same_good w inv i x is = record {
  all = inv.all;
  operations = inv.operations;
  one_body = inv.one_body;
  is_state = is;
  grows = λ o a. a;
  more = λ o a. a;
  within = inv.within i;
  news = λ o a. inl a;
}

pub comes_good : (w : World) (inv : Invariant w) (e : Event) → IsEvent w e → (out : Outcome) → ComesOf w e out → IsGood w inv out
comes_good w inv (Make i bs note) is out h = subst (IsGood w inv) (sym h) (make_good w inv i bs note is)
comes_good w inv (Send i) is out h = subst (IsGood w inv) (sym h) (record { what = OfRegister (state (w.offices i).reached); holds = inl (inv.last i); tells = refl; within = inv.within i })
comes_good w inv (SendSeen i) is out h = subst (IsGood w inv) (sym h) (record { tells = ap (λ (x : Content). x.seen) (inv.content i); within = inv.within i; sound = (office_content w inv i).are_ids })
comes_good w inv (SendPiece i place) is out h =
    reads_good w inv (λ what reached. sends_piece w i what) (λ s what sent holds. sends_piece_good w inv i what (seen_ids s.bytes what holds)) (slice_get w.pool place) (λ s at. sent_at inv.all w.pool place s inv.pool at) out h
comes_good w inv (SendFirst i what bytes) is out h = subst (IsGood w inv) (sym h) (record { what = what; holds = first_is_read bytes what is.0; tells = is.1; within = inv.within i })
comes_good w inv (Take i place) is out h =
    reads_good w inv (takes w i) (λ s what sent holds. takes_good w inv i what s.reached (told inv.all s what sent holds) sent.within) (slice_get w.pool place) (λ s at. sent_at inv.all w.pool place s inv.pool at) out h
comes_good w inv (TakeOne i place id) is out h =
    reads_good w inv (λ what reached. takes_one w i (picked id (ops_in what)))
    (λ s what sent holds. one_good w inv i id (ops_in what) (λ o k. sent.within o (ops_within s.reached what (told inv.all s what sent holds) o k)))
    (slice_get w.pool place) (λ s at. sent_at inv.all w.pool place s inv.pool at) out h
comes_good w inv (Restart i) is out h = subst (IsGood w inv) (sym h.2) (same_good w inv i h.0 (one_content (w.offices i).last h.0 (state (w.offices i).reached) h.1 (inv.last i)))
comes_good w inv (Upgrade i bytes) is out h =
    let held : HoldsFirst bytes (state (w.offices i).reached) = subst (HoldsFirst bytes) (inv.content i) is in
    subst (IsGood w inv) (sym h.2) (same_good w inv i h.0 (one_reading bytes h.0 (state (w.offices i).reached) h.1 (inr held)))
comes_good w inv (Stop e left) is out (inl new) = comes_good w inv e is.1 out new.0
comes_good w inv (Stop e left) is out (inr old) = subst (IsGood w inv) (sym old.2) (same_good w inv (office_of e) (w.offices (office_of e)).content (inv.content (office_of e)))
