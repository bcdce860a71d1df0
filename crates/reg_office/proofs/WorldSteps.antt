-- The world after each event.
use Rattle.std.proofs.Common.{◌≡◌, ◌≢◌, ℕ, Bool, true, false, cond, List, [], ◌∷◌, Some, None, Result, Ok, Err, refl, sym, ap, ◌∙◌, subst, inl, inr, ◌⊎◌}
use Rattle.std.proofs.lemmas.Bool.{or_cases, or_left, or_right, true≢false}
use Rattle.std.specs.Cmp.{Equal-is}
use Rattle.std.specs.Ordering.{is_eq, eq_by_cmp}
use Rattle.std.specs.List.{find, slice_get}
use Rattle.std.specs.Cmp.{tied_itself}
use Rattle.reg_op.specs.Set as set
use Rattle.reg_op.specs.Set.{contains, contains-items}
use Rattle.reg_op.specs.Ids.{Id, Ids, is_same}
use Rattle.reg_op.specs.Lists.{has}
use Rattle.reg_op.specs.Operations.{Op, Ops, one, op_cmp, ids, OneBody}
use Rattle.reg_op.specs.declared.operation.OpBody.{OpBody as Body}
use Rattle.reg_op.specs.Contents.{Content, state}
use Rattle.reg_op.proofs.OpLemmas.{op_total, op_exact, id_total, is_same_exact}
use Rattle.reg_op.proofs.ContentLemmas.{OneBody-within}
use Rattle.reg_state.specs.Runs.{replica_cmp}
use Rattle.reg_state.proofs.RunLemmas.{same_replica, replica_itself}
use Rattle.reg_file.specs.Files.{Holds, ReadsAs, HoldsSeen, ReadsAsSeen, HoldsPiece, ReadsAsPiece}
use Rattle.reg_op.specs.Pieces.{Piece, piece_for, IsHeld}
use Rattle.reg_file.proofs.HoldLemmas.{one_content, one_reading, one_file}
use Rattle.reg_office.specs.declared.fault.OfficeFault.{OfficeFault}
use Rattle.reg_office.specs.Making.{made}
use Rattle.reg_office.specs.Pooled.{Pooled, OfRegister, OfSeen, OfPiece, ReadsAsAny, ops_in}
use Rattle.reg_office.specs.World.{Office, Sent, World, Make, Send, SendSeen, SendPiece, SendFirst, Take, TakeOne, Restart, Upgrade, Outcome, Gains, gained, gained_by_piece, joins, makes, takes, takes_one, sends_piece, picked, Reads, stays, After, put, pooled, Happens}
use Rattle.reg_office.specs.Reached.{Reaches}
use Rattle.reg_office.proofs.PooledLemmas.{one_pooled, ops_within}
use Rattle.reg_office.proofs.WorldInvariant.{IsWithin, IsSent, sent_at, Invariant, IsGood}
use Rattle.reg_office.proofs.WorldComes.{found_is_in, one_good, told, piece_joins, piece_refused, held_or_not, takes_good, comes_good}

-- ---- one office of a world is replaced

pub put_here : (w : World) (i : List ℕ) (office : Office) → (put w i office).offices i ≡ office
put_here w i office = ap (λ b. cond b office (w.offices i)) (replica_itself i)

put_other : (w : World) (i : List ℕ) (office : Office) (j : List ℕ) → j ≢ i → (put w i office).offices j ≡ w.offices j
put_other w i office j differ =
    elim (is_eq (replica_cmp j i)) as (λ b. is_eq (replica_cmp j i) ≡ b → cond b office (w.offices j) ≡ w.offices j) [
      | true ↦ λ e. absurd (differ (same_replica j i e))
      | false ↦ λ e. refl
    ] refl

-- replacing an office by itself does not change the world
put_same : (w : World) (i : List ℕ) (office : Office) → office ≡ w.offices i → put w i office ≡ w
put_same w i office same = λ k. record { offices = λ j. each j k; pool = w.pool }
  where
    each : (j : List ℕ) → (put w i office).offices j ≡ w.offices j
    each j =
        elim (is_eq (replica_cmp j i)) as (λ b. is_eq (replica_cmp j i) ≡ b → cond b office (w.offices j) ≡ w.offices j) [
          | true ↦ λ e. same ∙ ap w.offices (sym (same_replica j i e))
          | false ↦ λ e. refl
        ] refl

put_reaches : (w : World) (i : List ℕ) (more : Ops) (x : Content) (last : List ℕ) → Reaches w i more (put w i (record { content = x; last = last; reached = set.union (w.offices i).reached more }))
put_reaches w i more x last =
    let office : Office = record { content = x; last = last; reached = set.union (w.offices i).reached more } in
    record {
      reached = ap (λ (p : Office). p.reached) (put_here w i office);
      others = put_other w i office;
      pool = refl;
    }

-- ---- an office joins a content

gains_reach : (w : World) (i : List ℕ) (more : Ops) (x : Content) (v : World) → After w (Gains i x (set.union (w.offices i).reached more)) v → Reaches w i more v
gains_reach w i more x v h = subst (Reaches w i more) (sym h.2) (put_reaches w i more x h.0)

gained_reaches : (w : World) (i : List ℕ) (more : Ops) (r : Result Content Id) → ((id : Id) → r ≡ Err id → ⊥) → (v : World) → After w (gained i (set.union (w.offices i).reached more) r) v → Reaches w i more v
gained_reaches w i more (Ok x) never v h = gains_reach w i more x v h
gained_reaches w i more (Err id) never v h = absurd (never id refl)

pub join_reaches : (w : World) (inv : Invariant w) (i : List ℕ) (x : Content) (more : Ops) → IsGood w inv (joins w i x more) → (v : World) → After w (joins w i x more) v → Reaches w i more v
join_reaches w inv i x more good v h =
    gained_reaches w i more _ (λ id e. subst (λ r. IsGood w inv (gained i (set.union (w.offices i).reached more) r)) e good) v h

-- ---- an office makes operations

pub made_reaches : (w : World) (inv : Invariant w) (i : List ℕ) (bs : List Body) (note : List ℕ) (os : List Op) (v : World) → made (w.offices i).content i note bs ≡ Ok os → Happens w (Make i bs note) v → Reaches w i (set.from_list os) v
made_reaches w inv i bs note os v e h =
    let good = comes_good w inv (Make i bs note) h.0 (makes w i (made (w.offices i).content i note bs)) refl in
    let after = subst (λ out. After w out v) h.1.1 h.1.2 in
    join_reaches w inv i (state (set.from_list os)) (set.from_list os) (subst (λ r. IsGood w inv (makes w i r)) e good) v (subst (λ r. After w (makes w i r) v) e after)

pub refused_makes : (w v : World) (i : List ℕ) (bs : List Body) (note : List ℕ) (fault : OfficeFault) → made (w.offices i).content i note bs ≡ Err fault → Happens w (Make i bs note) v → v ≡ w
refused_makes w v i bs note fault e h = subst (λ r. After w (makes w i r) v) e (subst (λ out. After w out v) h.1.1 h.1.2)

-- ---- an office sends a file, or restarts

pub sent_is_pooled : (w v : World) (i : List ℕ) → Happens w (Send i) v → v ≡ pooled w (record { bytes = (w.offices i).last; reached = (w.offices i).reached })
sent_is_pooled w v i h = subst (λ out. After w out v) h.1.1 h.1.2

pub first_is_pooled : (w v : World) (i : List ℕ) (what : Pooled) (bytes : List ℕ) → Happens w (SendFirst i what bytes) v → v ≡ pooled w (record { bytes = bytes; reached = (w.offices i).reached })
first_is_pooled w v i what bytes h = subst (λ out. After w out v) h.1.1 h.1.2

-- an office that gains what it had does not change the world
stays_same : (w v : World) (inv : Invariant w) (i : List ℕ) (x : Content) → Holds (w.offices i).last x → After w (Gains i x (w.offices i).reached) v → v ≡ w
stays_same w v inv i x held after =
    let office = w.offices i in
    let content : x ≡ office.content = one_content office.last x (state office.reached) held (inv.last i) ∙ sym (inv.content i) in
    let last : after.0 ≡ office.last = one_file x after.0 office.last after.1.bytes_are held.bytes_are in
    after.2 ∙ put_same w i (record { content = x; last = after.0; reached = office.reached }) (λ k. record { content = content k; last = last k; reached = office.reached })

pub restart_keeps : (w v : World) (inv : Invariant w) (i : List ℕ) → Happens w (Restart i) v → v ≡ w
restart_keeps w v inv i h =
    let came = h.1.1 in
    stays_same w v inv i came.0 came.1 (subst (λ out. After w out v) came.2 h.1.2)

pub upgrade_keeps : (w v : World) (inv : Invariant w) (i : List ℕ) (bytes : List ℕ) → Happens w (Upgrade i bytes) v → v ≡ w
upgrade_keeps w v inv i bytes h =
    let came = h.1.1 in
    let same : (w.offices i).content ≡ came.0 = one_reading bytes (w.offices i).content came.0 (inr h.0) came.1 in
    stays_same w v inv i came.0 (subst (Holds (w.offices i).last) (sym (inv.content i) ∙ same) (inv.last i)) (subst (λ out. After w out v) came.2 h.1.2)

-- a stop that leaves the old content does not change the world
pub stopped_before : (w v : World) (inv : Invariant w) (i : List ℕ) → After w (stays w i) v → v ≡ w
stopped_before w v inv i after = stays_same w v inv i (w.offices i).content (subst (Holds (w.offices i).last) (sym (inv.content i)) (inv.last i)) after

-- a summary of what the office has reached is added to the pool
pub seen_is_pooled : (w v : World) (inv : Invariant w) (i : List ℕ) → Happens w (SendSeen i) v
    → (bytes : List ℕ) × HoldsSeen bytes (ids (w.offices i).reached) × (v ≡ pooled w (record { bytes = bytes; reached = (w.offices i).reached }))
seen_is_pooled w v inv i h =
    let after = subst (λ out. After w out v) h.1.1 h.1.2 in
    (after.0, subst (λ (x : Content). HoldsSeen after.0 x.seen) (inv.content i) after.1, after.2)

-- ---- an office reads a file of the pool

nothing_read : (w v : World) (next : Pooled → Ops → Outcome) (place : ℕ) (out : Outcome) → slice_get w.pool place ≡ None → Reads next (slice_get w.pool place) out → After w out v → v ≡ w
nothing_read w v next place out none came after = subst (λ o. After w o v) (subst (λ s. Reads next s out) none came) after

pub nothing_to_take : (w v : World) (i : List ℕ) (place : ℕ) → slice_get w.pool place ≡ None → Happens w (Take i place) v → v ≡ w
nothing_to_take w v i place none h = nothing_read w v (takes w i) place h.1.0 none h.1.1 h.1.2

pub nothing_to_find : (w v : World) (i : List ℕ) (place : ℕ) (id : Id) → slice_get w.pool place ≡ None → Happens w (TakeOne i place id) v → v ≡ w
nothing_to_find w v i place id none h = nothing_read w v (λ what reached. takes_one w i (picked id (ops_in what))) place h.1.0 none h.1.1 h.1.2

pub nothing_to_answer : (w v : World) (i : List ℕ) (place : ℕ) → slice_get w.pool place ≡ None → Happens w (SendPiece i place) v → v ≡ w
nothing_to_answer w v i place none h = nothing_read w v (λ what reached. sends_piece w i what) place h.1.0 none h.1.1 h.1.2

-- after an office reads a file, the world is that after the outcome for the one content of the file
read_as : (w v : World) (next : Pooled → Ops → Outcome) (place : ℕ) (sent : Sent) (what : Pooled) (out : Outcome) → slice_get w.pool place ≡ Some sent → ReadsAsAny sent.bytes what
    → Reads next (slice_get w.pool place) out → After w out v → After w (next what sent.reached) v
read_as w v next place sent what out at holds came after =
    let read = subst (λ s. Reads next s out) at came in
    let is : out ≡ next what sent.reached = read.2 ∙ ap (λ p. next p sent.reached) (one_pooled sent.bytes read.0 what read.1 holds) in
    subst (λ o. After w o v) is after

module _ (w : World) (inv : Invariant w) (i : List ℕ) (place : ℕ) (sent : Sent) (v : World) (at : slice_get w.pool place ≡ Some sent) where
  is_sent : IsSent inv.all sent
  is_sent = sent_at inv.all w.pool place sent inv.pool at

  taken_as : (what : Pooled) → ReadsAsAny sent.bytes what → Happens w (Take i place) v → After w (takes w i what sent.reached) v
  taken_as what holds h = read_as w v (takes w i) place sent what h.1.0 at holds h.1.1 h.1.2

  pub taken_reaches : (x : Content) → ReadsAs sent.bytes x → Happens w (Take i place) v → Reaches w i sent.reached v
  taken_reaches x holds h =
      join_reaches w inv i x sent.reached (takes_good w inv i (OfRegister x) sent.reached (told inv.all sent (OfRegister x) is_sent holds) is_sent.within) v (taken_as (OfRegister x) holds h)

  pub piece_reaches : (piece : Piece) → ReadsAsPiece sent.bytes piece → IsHeld piece.basis (ids (w.offices i).reached) → Happens w (Take i place) v → Reaches w i sent.reached v
  piece_reaches piece holds is_held h =
      let reached = set.union (w.offices i).reached sent.reached in
      let joined = piece_joins w inv i piece sent.reached (told inv.all sent (OfPiece piece) is_sent holds) is_sent.within is_held in
      gains_reach w i sent.reached (state reached) v (subst (λ r. After w (gained_by_piece i reached r) v) joined (taken_as (OfPiece piece) holds h))

  pub piece_is_refused : (piece : Piece) → ReadsAsPiece sent.bytes piece → (IsHeld piece.basis (ids (w.offices i).reached) → ⊥) → Happens w (Take i place) v → v ≡ w
  piece_is_refused piece holds never h =
      subst (λ r. After w (gained_by_piece i (set.union (w.offices i).reached sent.reached) r) v) (piece_refused w inv i piece never).1 (taken_as (OfPiece piece) holds h)

  pub summary_is_refused : (seen : Ids) → ReadsAsSeen sent.bytes seen → Happens w (Take i place) v → v ≡ w
  summary_is_refused seen holds h = taken_as (OfSeen seen) holds h

  -- an office that takes a file reaches what the sender had reached, or nothing changes
  pub taken_or_not : Happens w (Take i place) v → (v ≡ w) ⊎ Reaches w i sent.reached v
  taken_or_not h = by_kind is_sent.what is_sent.holds
    where
      by_kind : (what : Pooled) → ReadsAsAny sent.bytes what → (v ≡ w) ⊎ Reaches w i sent.reached v
      by_kind (OfRegister x) holds = inr (taken_reaches x holds h)
      by_kind (OfSeen seen) holds = inl (summary_is_refused seen holds h)
      by_kind (OfPiece piece) holds = elim (held_or_not piece.basis (ids (w.offices i).reached)) [
        | inl is_held ↦ inr (piece_reaches piece holds is_held h)
        | inr never ↦ inl (piece_is_refused piece holds never h)
      ]

  -- ---- an office answers a summary with a piece

  pub piece_is_pooled : (seen : Ids) → ReadsAsSeen sent.bytes seen → Happens w (SendPiece i place) v
      → (bytes : List ℕ) × HoldsPiece bytes (piece_for (state (w.offices i).reached) seen) × (v ≡ pooled w (record { bytes = bytes; reached = (w.offices i).reached }))
  piece_is_pooled seen holds h =
      let after = read_as w v (λ what reached. sends_piece w i what) place sent (OfSeen seen) h.1.0 at holds h.1.1 h.1.2 in
      (after.0, subst (λ (x : Content). HoldsPiece after.0 (piece_for x seen)) (inv.content i) after.1, after.2)

  pub no_summary : ((seen : Ids) → ReadsAsSeen sent.bytes seen → ⊥) → Happens w (SendPiece i place) v → v ≡ w
  no_summary none h = by_kind is_sent.what is_sent.holds
    where
      by_kind : (what : Pooled) → ReadsAsAny sent.bytes what → v ≡ w
      by_kind (OfRegister x) holds = read_as w v (λ what reached. sends_piece w i what) place sent (OfRegister x) h.1.0 at holds h.1.1 h.1.2
      by_kind (OfSeen seen) holds = absurd (none seen holds)
      by_kind (OfPiece piece) holds = read_as w v (λ what reached. sends_piece w i what) place sent (OfPiece piece) h.1.0 at holds h.1.1 h.1.2

-- answering a file does not change what offices have reached
pub answer_keeps : (w v : World) (inv : Invariant w) (i : List ℕ) (place : ℕ) → Happens w (SendPiece i place) v → (k : List ℕ) → (v.offices k).reached ≡ (w.offices k).reached
answer_keeps w v inv i place h k =
    elim (slice_get w.pool place) as (λ r. slice_get w.pool place ≡ r → (v.offices k).reached ≡ (w.offices k).reached) [
      | Some sent ↦ λ at. let is = sent_at inv.all w.pool place sent inv.pool at in by_kind sent at is.what is.holds
      | None ↦ λ none. ap (λ (u : World). (u.offices k).reached) (nothing_to_answer w v i place none h)
    ] refl
  where
    by_kind : (sent : Sent) → slice_get w.pool place ≡ Some sent → (what : Pooled) → ReadsAsAny sent.bytes what → (v.offices k).reached ≡ (w.offices k).reached
    by_kind sent at (OfRegister x) holds = ap (λ (u : World). (u.offices k).reached) (read_as w v (λ what reached. sends_piece w i what) place sent (OfRegister x) h.1.0 at holds h.1.1 h.1.2)
    by_kind sent at (OfSeen seen) holds = ap (λ (u : World). (u.offices k).reached) (piece_is_pooled w inv i place sent v at seen holds h).2
    by_kind sent at (OfPiece piece) holds = ap (λ (u : World). (u.offices k).reached) (read_as w v (λ what reached. sends_piece w i what) place sent (OfPiece piece) h.1.0 at holds h.1.1 h.1.2)

-- ---- an operation is found by its id

pub head_has : (p : Op) (os : List Op) → has (p ∷ os) p ≡ true
head_has p os = or_left _ (has os p) (ap is_eq (tied_itself op_total p))

pub tail_has : (q p : Op) (os : List Op) → has os q ≡ true → has (p ∷ os) q ≡ true
tail_has q p os h = or_right (eq_by_cmp op_cmp q p) _ h

same_id : (o p : Op) → eq_by_cmp op_cmp o p ≡ true → is_same p.id o.id ≡ true
same_id o p h = subst (λ (q : Op). is_same q.id o.id ≡ true) (op_exact o p ((Equal-is (op_cmp o p)).0 h)) (ap is_eq (tied_itself id_total o.id))

found_in : (os : List Op) (o : Op) → ((p : Op) → has os p ≡ true → p.id ≡ o.id → p ≡ o) → has os o ≡ true → find (λ (p : Op). is_same p.id o.id) os ≡ Some o
found_in [] o one h = absurd (true≢false (sym h))
found_in (p ∷ os) o one h =
    elim (is_same p.id o.id) as (λ b. is_same p.id o.id ≡ b → cond b (Some p) (find (λ (q : Op). is_same q.id o.id) os) ≡ Some o) [
      | true ↦ λ e. ap Some (one p (head_has p os) (is_same_exact p.id o.id e))
      | false ↦ λ e. elim (or_cases (eq_by_cmp op_cmp o p) (has os o) h) [
        | inl same ↦ absurd (true≢false (sym (same_id o p same) ∙ e))
        | inr later ↦ found_in os o (λ q a. one q (tail_has q p os a)) later
      ]
    ] refl

found_of : (s : Ops) (o : Op) → OneBody s → contains s o ≡ true → find (λ (p : Op). is_same p.id o.id) (set.items s) ≡ Some o
found_of s o one h = found_in (set.items s) o (λ p a. one p o (contains-items s p ∙ a) h) (sym (contains-items s o) ∙ h)

passes : (t : Op → Bool) (os : List Op) (o : Op) → find t os ≡ Some o → t o ≡ true
passes t [] o h = cc
passes t (p ∷ os) o h =
    elim (t p) as (λ b. t p ≡ b → cond b (Some p) (find t os) ≡ Some o → t o ≡ true) [
      | true ↦ λ e k. let is : p ≡ o = cc in subst (λ q. t q ≡ true) is e
      | false ↦ λ e k. passes t os o k
    ] refl h

-- ---- an office takes one operation of a file

-- an operation that is picked from a set is in the set, and has the id
picked_is : (s : Ops) (id : Id) (o : Op) → picked id s ≡ Some o → (contains s o ≡ true) × (o.id ≡ id)
picked_is s id o e = (
  contains-items s o ∙ found_is_in (λ (p : Op). is_same p.id id) (set.items s) o e,
  is_same_exact o.id id (passes (λ (p : Op). is_same p.id id) (set.items s) o e),
)

module _ (w : World) (inv : Invariant w) (i : List ℕ) (place : ℕ) (id : Id) (sent : Sent) (what : Pooled) (v : World)
    (at : slice_get w.pool place ≡ Some sent) (holds : ReadsAsAny sent.bytes what) (h : Happens w (TakeOne i place id) v) where
  one_after : After w (takes_one w i (picked id (ops_in what))) v
  one_after = read_as w v (λ p reached. takes_one w i (picked id (ops_in p))) place sent what h.1.0 at holds h.1.1 h.1.2

  are_within : IsWithin (ops_in what) inv.all
  are_within o k = let is = sent_at inv.all w.pool place sent inv.pool at in is.within o (ops_within sent.reached what (told inv.all sent what is holds) o k)

  pub one_reaches : (o : Op) → contains (ops_in what) o ≡ true → o.id ≡ id → Reaches w i (one o) v
  one_reaches o there named =
      let found : picked id (ops_in what) ≡ Some o = subst (λ n. picked n (ops_in what) ≡ Some o) named (found_of (ops_in what) o (OneBody-within _ _ are_within inv.one_body) there) in
      join_reaches w inv i (state (one o)) (one o) (subst (λ r. IsGood w inv (takes_one w i r)) found (one_good w inv i id (ops_in what) are_within)) v (subst (λ r. After w (takes_one w i r) v) found one_after)

  pub one_is_missing : ((o : Op) → contains (ops_in what) o ≡ true → o.id ≢ id) → v ≡ w
  one_is_missing none =
      elim (picked id (ops_in what)) as (λ r. picked id (ops_in what) ≡ r → After w (takes_one w i r) v → v ≡ w) [
        | Some o ↦ λ e k. let is = picked_is (ops_in what) id o e in absurd (none o is.0 is.1)
        | None ↦ λ e k. k
      ] refl one_after

  pub one_or_none : (v ≡ w) ⊎ ((o : Op) × (contains (ops_in what) o ≡ true) × Reaches w i (one o) v)
  one_or_none =
      elim (picked id (ops_in what)) as (λ r. picked id (ops_in what) ≡ r → (v ≡ w) ⊎ ((o : Op) × (contains (ops_in what) o ≡ true) × Reaches w i (one o) v)) [
        | Some o ↦ λ e. let is = picked_is (ops_in what) id o e in inr (o, is.0, one_reaches o is.0 is.1)
        | None ↦ λ e. inl (subst (λ r. After w (takes_one w i r) v) e one_after)
      ] refl
