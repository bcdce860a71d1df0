-- Files are joined to a content in four walks.
use Rattle.std.proofs.Common.{◌≡◌, ◌↔◌, ◌∷◌, ◌++◌, [], true, false, List, ℕ, ◌+◌, ◌≤◌, length, drop, Result, Ok, Err, Option, None, Some, refl, sym, ap, subst, ◌∙◌}
use Rattle.std.proofs.lemmas.List.{drop_all}
use Rattle.std.specs.Prelude.{IfOk}
use Rattle.reg_op.specs.Joining.{all_joined, joined_with}
use Rattle.reg_op.specs.Ids.{Id}
use Rattle.reg_op.specs.Contents.{Content, nothing, joined, joined_unless, merged, clash_of, IsContent}
use Rattle.reg_op.specs.Pieces.{Piece, PieceRefusal, Basis, Clash, part_of, joined_where, joined_piece, first_missing}
use Rattle.reg_state.specs.RegisterLaws.{register_laws}
use Rattle.reg_state.specs.declared.piece.PieceFault.{PieceFault}
use Rattle.reg_state.specs.declared.piece.PieceFault.TheVariants as piece
use Rattle.reg_tree.specs.Chain.{with_piece, with_pieces}
use Rattle.reg_commands.specs.Merge.{begun}
use Rattle.reg_take.specs.declared.files.Arrival.{Arrival}
use Rattle.reg_take.specs.declared.files.Arrival.TheVariants as arrival
use Rattle.reg_take.specs.declared.taking.TakePhase.{TakePhase}
use Rattle.reg_take.specs.declared.taking.TakePhase.TheVariants as phase
use Rattle.reg_take.specs.declared.taking.LeftOut.{LeftOut}
use Rattle.reg_take.specs.declared.taking.Taking.{Taking}
use Rattle.reg_take.specs.Taken.{Progress, Shows, left_out, leaving, starting, after_register, after_piece, taken, each_taken, sorted, all_taken, rounds, AllWait, IsJoin, Keeps, IsTakenFrom, IsRefusal}
use Rattle.reg_take.proofs.AgainLemmas.{rounds_keep}

-- ---- one file

-- if two properties of a value imply a third, they do so for the value of a result
pub if_ok_weaker : {T E : Type 0} (P Q R : T → Type 0) (r : Result T E) → ((v : T) → P v → Q v → R v) → IfOk r P → IfOk r Q → IfOk r R
if_ok_weaker P Q R (Ok v) f p q = f v p q
if_ok_weaker P Q R (Err e) f p q = tt

-- one more file is left out
pub left_more : (t : Progress) (o : LeftOut) (x : Content) (l m : List LeftOut) → x ≡ t.content → l ≡ t.left → m ≡ l ++ o ∷ []
    → (x ≡ (leaving t o).content) × (m ≡ (leaving t o).left)
left_more t o x l m is left more = (is, more ∙ ap (λ k. k ++ o ∷ []) left)

pub register_left : (t : Progress) (i : ℕ) (z x : Content) (l m : List LeftOut) (id : Id) → x ≡ t.content → l ≡ t.left → joined x z ≡ Err id → m ≡ l ++ left_out i (Clash id) ∷ []
    → (x ≡ (after_register t i z (begun (joined t.content z))).content) × (m ≡ (after_register t i z (begun (joined t.content z))).left)
register_left t i z x l m id is left e more =
    let same : begun (joined t.content z) ≡ Err (Clash id) = ap begun (ap (λ k. joined k z) (sym is) ∙ e) in
    subst (λ q. (x ≡ (after_register t i z q).content) × (m ≡ (after_register t i z q).left)) (sym same) (left_more t (left_out i (Clash id)) x l m is left more)

pub piece_left : (t : Progress) (i : ℕ) (p : Piece) (x : Content) (l m : List LeftOut) (why : PieceRefusal) → x ≡ t.content → l ≡ t.left → joined_piece x p ≡ Err why → m ≡ l ++ left_out i why ∷ []
    → (x ≡ (after_piece t i p (joined_piece t.content p)).content) × (m ≡ (after_piece t i p (joined_piece t.content p)).left)
piece_left t i p x l m why is left e more =
    let same : joined_piece t.content p ≡ Err why = ap (λ k. joined_piece k p) (sym is) ∙ e in
    subst (λ q. (x ≡ (after_piece t i p q).content) × (m ≡ (after_piece t i p q).left)) (sym same) (left_more t (left_out i why) x l m is left more)

-- the refusal that the program reports for a piece is that of `joined_piece`
pub why_not : (x : Content) (p : Piece) (r : Result Content PieceFault) → ((id : Id) → (r ≡ Err (piece.Basis id)) ↔ (joined_piece x p ≡ Err (Basis id))) → ((id : Id) → (r ≡ Err (piece.Clash id)) ↔ (joined_piece x p ≡ Err (Clash id)))
    → (fault : PieceFault) (why : PieceRefusal) → r ≡ Err fault → IsRefusal fault why → joined_piece x p ≡ Err why
why_not x p r basis clash (piece.Basis id) why e is = (basis id).0 e ∙ ap Err (sym is)
why_not x p r basis clash (piece.Clash id) why e is = (clash id).0 e ∙ ap Err (sym is)
why_not x p r basis clash piece.Memory why e is = absurd is

-- one step of a walk
pub one_taken : (w : TakePhase) (t : Progress) (i : ℕ) (a : Arrival) (gave : List Arrival) → drop i gave ≡ a ∷ drop (i + 1) gave
    → each_taken w t i (drop i gave) ≡ each_taken w (taken w t i a) (i + 1) (drop (i + 1) gave)
one_taken w t i a gave e = ap (each_taken w t i) e

-- after the last file, the walk is complete
pub walked : (w : TakePhase) (now t : Progress) (i : ℕ) (gave : List Arrival) (taking : Taking) → length gave ≤ i → each_taken w now i (drop i gave) ≡ each_taken w t 0 gave → Shows taking now
    → Shows taking (each_taken w t 0 gave)
walked w now t i gave taking past e shows = subst (Shows taking) (sym (ap (each_taken w now i) (drop_all i gave past)) ∙ e) shows

-- ---- a property that each step keeps is kept by a walk

pub each_keeps : (P : Progress → Type 0) (w : TakePhase) → ((t : Progress) (i : ℕ) (a : Arrival) → P t → P (taken w t i a)) → (t : Progress) (i : ℕ) (gave : List Arrival) → P t → P (each_taken w t i gave)
each_keeps P w keeps t i [] h = h
each_keeps P w keeps t i (a ∷ gave) h = each_keeps P w keeps (taken w t i a) (i + 1) gave (keeps t i a h)

-- ---- the join

all_joined-push : (r : Result Content Id) (xs : List Content) (z : Content) → all_joined joined r (xs ++ z ∷ []) ≡ joined_with joined (all_joined joined r xs) z
all_joined-push r [] z = refl
all_joined-push r (x ∷ xs) z = all_joined-push (joined_with joined r x) xs z

with_pieces-push : (r : Result Content PieceRefusal) (ps : List Piece) (p : Piece) → with_pieces r (ps ++ p ∷ []) ≡ with_piece (with_pieces r ps) p
with_pieces-push r [] p = refl
with_pieces-push r (q ∷ ps) p = with_pieces-push (with_piece r q) ps p

-- a join that succeeds is the merge
merged_of : (c : Option Id) (m y : Content) → joined_unless c m ≡ Ok y → m ≡ y
merged_of None m y e = cc
merged_of (Some id) m y e = absurd (cc)

pub joined_is : (x z y : Content) → joined x z ≡ Ok y → merged x z ≡ y
joined_is x z y e = merged_of (clash_of x z) (merged x z) y e

joined_of : (missing : Option Id) (r : Result Content Id) (y : Content) → joined_where missing r ≡ Ok y → r ≡ Ok y
joined_of None (Ok x) y e = cc
joined_of None (Err id) y e = absurd (cc)
joined_of (Some id) r y e = absurd (cc)

pub piece_is : (x : Content) (p : Piece) (y : Content) → joined_piece x p ≡ Ok y → merged x (part_of p) ≡ y
piece_is x p y e = joined_is x (part_of p) y (joined_of (first_missing p.basis x.seen) (joined x (part_of p)) y e)

module _ (x : Content) where
  -- only registers are joined so far, and the content is their join
  record AreJoined (t : Progress) : Type 0 where
    pub join : all_joined joined (Ok nothing) (x ∷ t.registers) ≡ Ok t.content
    pub pieces : t.pieces ≡ []

  joined_one : (t : Progress) (i : ℕ) (z : Content) (r : Result Content Id) → joined t.content z ≡ r → AreJoined t → AreJoined (after_register t i z (begun r))
  joined_one t i z (Ok y) e h = record { join = all_joined-push (Ok nothing) (x ∷ t.registers) z ∙ ap (λ r. joined_with joined r z) h.join ∙ e; pieces = h.pieces }
  joined_one t i z (Err id) e h = record { join = h.join; pieces = h.pieces }

  unread_keeps : (t : Progress) (i : ℕ) (a : Arrival) → AreJoined t → AreJoined (taken phase.Unread t i a)
  unread_keeps t i (arrival.Register z) h = h
  unread_keeps t i (arrival.Piece p) h = h
  unread_keeps t i (arrival.Unread k f) h = record { join = h.join; pieces = h.pieces }
  unread_keeps t i (arrival.Forged id) h = h

  forged_keeps : (t : Progress) (i : ℕ) (a : Arrival) → AreJoined t → AreJoined (taken phase.Forged t i a)
  forged_keeps t i (arrival.Register z) h = h
  forged_keeps t i (arrival.Piece p) h = h
  forged_keeps t i (arrival.Unread k f) h = h
  forged_keeps t i (arrival.Forged id) h = record { join = h.join; pieces = h.pieces }

  register_keeps : (t : Progress) (i : ℕ) (a : Arrival) → AreJoined t → AreJoined (taken phase.Registers t i a)
  register_keeps t i (arrival.Register z) h = joined_one t i z (joined t.content z) refl h
  register_keeps t i (arrival.Piece p) h = h
  register_keeps t i (arrival.Unread k f) h = h
  register_keeps t i (arrival.Forged id) h = h

  with_one : (t : Progress) (i : ℕ) (p : Piece) (r : Result Content PieceRefusal) → joined_piece t.content p ≡ r → IsJoin x t → IsJoin x (after_piece t i p r)
  with_one t i p (Ok y) e h = with_pieces-push (begun (all_joined joined (Ok nothing) (x ∷ t.registers))) t.pieces p ∙ ap (λ r. with_piece r p) h ∙ e
  with_one t i p (Err r) e h = h

  piece_keeps : (t : Progress) (i : ℕ) (a : Arrival) → IsJoin x t → IsJoin x (taken phase.Pieces t i a)
  piece_keeps t i (arrival.Register z) h = h
  piece_keeps t i (arrival.Piece p) h = with_one t i p (joined_piece t.content p) refl h
  piece_keeps t i (arrival.Unread k f) h = h
  piece_keeps t i (arrival.Forged id) h = h

  is_join : (t : Progress) → AreJoined t → IsJoin x t
  is_join t h = ap (λ r. with_pieces (begun r) t.pieces) h.join ∙ ap (with_pieces (Ok t.content)) h.pieces

  -- after the four walks, the content is the join of the first one with all files that are not left out
  pub all_join : IsContent x → (gave : List Arrival) → IsJoin x (all_taken x gave)
  all_join is gave =
      let unread = each_taken phase.Unread (starting x) 0 gave in
      let registers = each_taken phase.Registers (sorted x gave) 0 gave in
      each_keeps (IsJoin x) phase.Pieces piece_keeps registers 0 gave
      (is_join registers (each_keeps AreJoined phase.Registers register_keeps (sorted x gave) 0 gave
      (each_keeps AreJoined phase.Forged forged_keeps unread 0 gave
      (each_keeps AreJoined phase.Unread unread_keeps (starting x) 0 gave (record { join = register_laws.neutral x is; pieces = refl })))))

  -- ---- the content keeps all of the first one

  has_more : (y z w : Content) → merged y z ≡ w → Keeps x y → Keeps x w
  has_more y z w e h =
      ap (merged x) (sym e) ∙ sym (register_laws.merged_assoc x y z) ∙ ap (λ k. merged k z) h ∙ e

  register_has : (t : Progress) (i : ℕ) (z : Content) (r : Result Content Id) → joined t.content z ≡ r → Keeps x t.content → Keeps x (after_register t i z (begun r)).content
  register_has t i z (Ok y) e h = has_more t.content z y (joined_is t.content z y e) h
  register_has t i z (Err id) e h = h

  piece_has : (t : Progress) (i : ℕ) (p : Piece) (r : Result Content PieceRefusal) → joined_piece t.content p ≡ r → Keeps x t.content → Keeps x (after_piece t i p r).content
  piece_has t i p (Ok y) e h = has_more t.content (part_of p) y (piece_is t.content p y e) h
  piece_has t i p (Err r) e h = h

  step_has : (w : TakePhase) (t : Progress) (i : ℕ) (a : Arrival) → Keeps x t.content → Keeps x (taken w t i a).content
  step_has phase.Unread t i (arrival.Unread k f) h = h
  step_has phase.Unread t i (arrival.Forged id) h = h
  step_has phase.Unread t i (arrival.Register z) h = h
  step_has phase.Unread t i (arrival.Piece p) h = h
  step_has phase.Forged t i (arrival.Unread k f) h = h
  step_has phase.Forged t i (arrival.Forged id) h = h
  step_has phase.Forged t i (arrival.Register z) h = h
  step_has phase.Forged t i (arrival.Piece p) h = h
  step_has phase.Registers t i (arrival.Unread k f) h = h
  step_has phase.Registers t i (arrival.Forged id) h = h
  step_has phase.Registers t i (arrival.Register z) h = register_has t i z (joined t.content z) refl h
  step_has phase.Registers t i (arrival.Piece p) h = h
  step_has phase.Pieces t i (arrival.Unread k f) h = h
  step_has phase.Pieces t i (arrival.Forged id) h = h
  step_has phase.Pieces t i (arrival.Register z) h = h
  step_has phase.Pieces t i (arrival.Piece p) h = piece_has t i p (joined_piece t.content p) refl h

  itself : IsContent x → Keeps x x
  itself is = joined_is x x x (register_laws.itself x is)

  pub all_has : IsContent x → (gave : List Arrival) → Keeps x (all_taken x gave).content
  all_has is gave =
      let unread = each_taken phase.Unread (starting x) 0 gave in
      let registers = each_taken phase.Registers (sorted x gave) 0 gave in
      each_keeps (λ t. Keeps x t.content) phase.Pieces (step_has phase.Pieces) registers 0 gave
      (each_keeps (λ t. Keeps x t.content) phase.Registers (step_has phase.Registers) (sorted x gave) 0 gave
      (each_keeps (λ t. Keeps x t.content) phase.Forged (step_has phase.Forged) unread 0 gave
      (each_keeps (λ t. Keeps x t.content) phase.Unread (step_has phase.Unread) (starting x) 0 gave (itself is))))

  -- ---- the pieces that are tried again

  piece_joins : (t : Progress) (i : ℕ) (p : Piece) → IsJoin x t → IsJoin x (after_piece t i p (joined_piece t.content p))
  piece_joins t i p h = with_one t i p (joined_piece t.content p) refl h

  piece_holds : (t : Progress) (i : ℕ) (p : Piece) → Keeps x t.content → Keeps x (after_piece t i p (joined_piece t.content p)).content
  piece_holds t i p h = piece_has t i p (joined_piece t.content p) refl h

  pub rounds_join : IsContent x → (gave : List Arrival) (n : ℕ) → IsJoin x (rounds gave n (all_taken x gave))
  rounds_join is gave n = rounds_keep (IsJoin x) gave (λ t l h. h) (λ t h. h) piece_joins n (all_taken x gave) (all_join is gave)

  pub rounds_have : IsContent x → (gave : List Arrival) (n : ℕ) → Keeps x (rounds gave n (all_taken x gave)).content
  rounds_have is gave n = rounds_keep (λ t. Keeps x t.content) gave (λ t l h. h) (λ t h. h) piece_holds n (all_taken x gave) (all_has is gave)

  -- a state that shows the four walks, or these and some rounds, is the result of the take
  pub taken_from : IsContent x → (gave : List Arrival) (taking : Taking) → Shows taking (all_taken x gave) → IsTakenFrom false x gave taking.register taking.left.items
  taken_from is gave taking shows = record {
    end = all_taken x gave;
    far = refl;
    content = shows.0;
    left_out = shows.1;
    join = all_join is gave;
    keeps = subst (Keeps x) (sym shows.0) (all_has is gave);
  }

  pub taken_again : IsContent x → (gave : List Arrival) (taking : Taking) (n : ℕ) → Shows taking (rounds gave n (all_taken x gave)) → AllWait gave (rounds gave n (all_taken x gave))
      → IsTakenFrom true x gave taking.register taking.left.items
  taken_again is gave taking n shows wait = record {
    end = rounds gave n (all_taken x gave);
    far = ((n, refl), wait);
    content = shows.0;
    left_out = shows.1;
    join = rounds_join is gave n;
    keeps = subst (Keeps x) (sym shows.0) (rounds_have is gave n);
  }
