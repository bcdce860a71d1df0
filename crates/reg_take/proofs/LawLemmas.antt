-- A take that leaves no part out is a merge; otherwise the merge is refused with the fault of the first that is left out.
use Rattle.std.proofs.Common.{◌≡◌, ◌⊎◌, ◌∷◌, ◌++◌, [], List, ℕ, ◌+◌, Result, Ok, Err, refl, sym, ap, subst, inl, inr, ◌∙◌}
use Rattle.reg_op.specs.Joining.{all_joined}
use Rattle.reg_op.specs.Ids.{Id}
use Rattle.reg_op.specs.Contents.{Content, joined, IsContent}
use Rattle.reg_op.specs.Pieces.{Piece, PieceRefusal, Basis, Clash, joined_piece}
use Rattle.reg_state.specs.RegisterLaws.{register_laws}
use Rattle.reg_file.specs.declared.parts.Part.{Part}
use Rattle.reg_file.specs.declared.parts.Part.TheVariants as part
use Rattle.reg_engine.specs.Inputs.{registers, pieces}
use Rattle.reg_commands.specs.Merge.{begun, with_pieces, join_of, JoinTo, IsUnjoined}
use Rattle.reg_take.specs.declared.files.Arrival.{Arrival}
use Rattle.reg_take.specs.declared.files.Arrival.TheVariants as arrival
use Rattle.reg_take.specs.declared.taking.LeftOut.{LeftOut}
use Rattle.reg_take.specs.declared.taking.LeftOut.TheVariants as left
use Rattle.reg_take.specs.declared.taking.TakePhase.{TakePhase}
use Rattle.reg_take.specs.declared.taking.TakePhase.TheVariants as phase
use Rattle.reg_take.specs.Taken.{Progress, fault_of, left_out, leaving, starting, after_register, after_piece, taken, each_taken, sorted, all_taken, parts_given}
use Rattle.reg_take.proofs.TakenLemmas.{each_keeps}
use Rattle.reg_tree.proofs.Held.{stays}

-- ---- the first file that is left out remains the first

abbrev Begins : LeftOut → List LeftOut → Type 0
Begins l all = (ls : List LeftOut) × (all ≡ l ∷ ls)

more_begins : (l m : LeftOut) (all : List LeftOut) → Begins l all → Begins l (all ++ m ∷ [])
more_begins l m all (ls, e) = (ls ++ m ∷ [], ap (λ k. k ++ m ∷ []) e)

register_begins : (l : LeftOut) (t : Progress) (i : ℕ) (z : Content) (r : Result Content PieceRefusal) → Begins l t.left → Begins l (after_register t i z r).left
register_begins l t i z (Ok y) h = h
register_begins l t i z (Err r) h = more_begins l (left_out i r) t.left h

piece_begins : (l : LeftOut) (t : Progress) (i : ℕ) (p : Piece) (r : Result Content PieceRefusal) → Begins l t.left → Begins l (after_piece t i p r).left
piece_begins l t i p (Ok y) h = h
piece_begins l t i p (Err r) h = more_begins l (left_out i r) t.left h

step_begins : (l : LeftOut) (w : TakePhase) (t : Progress) (i : ℕ) (a : Arrival) → Begins l t.left → Begins l (taken w t i a).left
step_begins l phase.Unread t i (arrival.Unread k f) h = more_begins l (left.Unread i k f) t.left h
step_begins l phase.Unread t i (arrival.Register z) h = h
step_begins l phase.Unread t i (arrival.Piece p) h = h
step_begins l phase.Unread t i (arrival.Forged id) h = h
step_begins l phase.Forged t i (arrival.Unread k f) h = h
step_begins l phase.Forged t i (arrival.Register z) h = h
step_begins l phase.Forged t i (arrival.Piece p) h = h
step_begins l phase.Forged t i (arrival.Forged id) h = more_begins l (left.Forged i id) t.left h
step_begins l phase.Registers t i (arrival.Unread k f) h = h
step_begins l phase.Registers t i (arrival.Register z) h = register_begins l t i z (begun (joined t.content z)) h
step_begins l phase.Registers t i (arrival.Piece p) h = h
step_begins l phase.Registers t i (arrival.Forged id) h = h
step_begins l phase.Pieces t i (arrival.Unread k f) h = h
step_begins l phase.Pieces t i (arrival.Register z) h = h
step_begins l phase.Pieces t i (arrival.Forged id) h = h
step_begins l phase.Pieces t i (arrival.Piece p) h = piece_begins l t i p (joined_piece t.content p) h

walk_begins : (l : LeftOut) (w : TakePhase) (t : Progress) (i : ℕ) (gave : List Arrival) → Begins l t.left → Begins l (each_taken w t i gave).left
walk_begins l w t i gave h = each_keeps (λ u. Begins l u.left) w (step_begins l w) t i gave h

first_begins : (l : LeftOut) (all : List LeftOut) → all ≡ [] → Begins l (all ++ l ∷ [])
first_begins l all e = ([], ap (λ k. k ++ l ∷ []) e)

-- ---- a walk leaves no file out, or the join is refused for the first that it leaves out

abbrev Walked : List LeftOut → Content → Result Content PieceRefusal → Type 0
Walked left y r = ((left ≡ []) × (r ≡ Ok y)) ⊎ ((i : ℕ) × (why : PieceRefusal) × Begins (left_out i why) left × (r ≡ Err why))

pub refused_joined : (id : Id) (xs : List Content) → all_joined joined (Err id) xs ≡ Err id
refused_joined id [] = refl
refused_joined id (x ∷ xs) = refused_joined id xs

is_refusal : (i : ℕ) (r : PieceRefusal) (q : Result Content PieceRefusal) → q ≡ Err r → IsUnjoined q (fault_of (left_out i r))
is_refusal i (Clash id) q e = e
is_refusal i (Basis id) q e = e

one_register : (t : Progress) (i : ℕ) (z : Content) (ps : List Part)
    → ((u : Progress) → u.left ≡ [] → Walked (each_taken phase.Registers u (i + 1) (parts_given ps)).left (each_taken phase.Registers u (i + 1) (parts_given ps)).content (begun (all_joined joined (Ok u.content) (registers ps))))
    → (r : Result Content Id) → t.left ≡ []
    → Walked (each_taken phase.Registers (after_register t i z (begun r)) (i + 1) (parts_given ps)).left (each_taken phase.Registers (after_register t i z (begun r)) (i + 1) (parts_given ps)).content
    (begun (all_joined joined r (registers ps)))
one_register t i z ps others (Ok y) h = others (after_register t i z (Ok y)) h
one_register t i z ps others (Err id) h =
    inr (
      i,
      Clash id,
      walk_begins (left_out i (Clash id)) phase.Registers (leaving t (left_out i (Clash id))) (i + 1) (parts_given ps) (first_begins (left_out i (Clash id)) t.left h),
      ap begun (refused_joined id (registers ps)),
    )

walk_registers : (t : Progress) (i : ℕ) (ps : List Part) → t.left ≡ []
    → Walked (each_taken phase.Registers t i (parts_given ps)).left (each_taken phase.Registers t i (parts_given ps)).content (begun (all_joined joined (Ok t.content) (registers ps)))
walk_registers t i [] h = inl (h, refl)
walk_registers t i (part.Register z ∷ ps) h = one_register t i z ps (λ u k. walk_registers u (i + 1) ps k) (joined t.content z) h
walk_registers t i (part.Piece p ∷ ps) h = walk_registers t (i + 1) ps h

one_piece : (t : Progress) (i : ℕ) (p : Piece) (ps : List Part)
    → ((u : Progress) → u.left ≡ [] → Walked (each_taken phase.Pieces u (i + 1) (parts_given ps)).left (each_taken phase.Pieces u (i + 1) (parts_given ps)).content (with_pieces (Ok u.content) (pieces ps)))
    → (r : Result Content PieceRefusal) → t.left ≡ []
    → Walked (each_taken phase.Pieces (after_piece t i p r) (i + 1) (parts_given ps)).left (each_taken phase.Pieces (after_piece t i p r) (i + 1) (parts_given ps)).content (with_pieces r (pieces ps))
one_piece t i p ps others (Ok y) h = others (after_piece t i p (Ok y)) h
one_piece t i p ps others (Err r) h =
    inr (i, r, walk_begins (left_out i r) phase.Pieces (leaving t (left_out i r)) (i + 1) (parts_given ps) (first_begins (left_out i r) t.left h), stays r (pieces ps))

walk_pieces : (t : Progress) (i : ℕ) (ps : List Part) → t.left ≡ []
    → Walked (each_taken phase.Pieces t i (parts_given ps)).left (each_taken phase.Pieces t i (parts_given ps)).content (with_pieces (Ok t.content) (pieces ps))
walk_pieces t i [] h = inl (h, refl)
walk_pieces t i (part.Register z ∷ ps) h = walk_pieces t (i + 1) ps h
walk_pieces t i (part.Piece p ∷ ps) h = one_piece t i p ps (λ u k. walk_pieces u (i + 1) ps k) (joined_piece t.content p) h

-- if all files gave a part, none is left out before they are joined
none_unread : (t : Progress) (i : ℕ) (ps : List Part) → each_taken phase.Unread t i (parts_given ps) ≡ t
none_unread t i [] = refl
none_unread t i (part.Register z ∷ ps) = none_unread t (i + 1) ps
none_unread t i (part.Piece p ∷ ps) = none_unread t (i + 1) ps

none_forged : (t : Progress) (i : ℕ) (ps : List Part) → each_taken phase.Forged t i (parts_given ps) ≡ t
none_forged t i [] = refl
none_forged t i (part.Register z ∷ ps) = none_forged t (i + 1) ps
none_forged t i (part.Piece p ∷ ps) = none_forged t (i + 1) ps

none_left : (x : Content) (ps : List Part) → sorted x (parts_given ps) ≡ starting x
none_left x ps = ap (λ t. each_taken phase.Forged t 0 (parts_given ps)) (none_unread (starting x) 0 ps) ∙ none_forged (starting x) 0 ps

-- ---- all walks

abbrev head_of : LeftOut → List LeftOut → LeftOut
head_of d [] = d
head_of d (l ∷ ls) = l

some_none : (l : LeftOut) (all ls : List LeftOut) → all ≡ [] → all ≡ l ∷ ls → ⊥
some_none l all ls e f = absurd (cc)

module _ (x : Content) (ps : List Part) (is : IsContent x) where
  abbrev after : Progress → Progress
  after t = each_taken phase.Pieces t 0 (parts_given ps)

  then_pieces : (t : Progress) (r : Result Content PieceRefusal) → Walked t.left t.content r → Walked (after t).left (after t).content (with_pieces r (pieces ps))
  then_pieces t r (inl (none, e)) = subst (λ q. Walked (after t).left (after t).content (with_pieces q (pieces ps))) (sym e) (walk_pieces t 0 ps none)
  then_pieces t r (inr (i, why, begins, e)) =
      inr (i, why, walk_begins (left_out i why) phase.Pieces t 0 (parts_given ps) begins, ap (λ q. with_pieces q (pieces ps)) e ∙ stays why (pieces ps))

  total : join_of (part.Register x ∷ ps) ≡ with_pieces (begun (all_joined joined (Ok x) (registers ps))) (pieces ps)
  total = ap (λ r. with_pieces (begun (all_joined joined r (registers ps))) (pieces ps)) (register_laws.neutral x is)

  abbrev whole : Progress → Progress
  whole t = after (each_taken phase.Registers t 0 (parts_given ps))

  walked : Walked (all_taken x (parts_given ps)).left (all_taken x (parts_given ps)).content (join_of (part.Register x ∷ ps))
  walked =
      let made = then_pieces (each_taken phase.Registers (starting x) 0 (parts_given ps)) (begun (all_joined joined (Ok x) (registers ps))) (walk_registers (starting x) 0 ps refl) in
      subst (λ (t : Progress). Walked (whole t).left (whole t).content (join_of (part.Register x ∷ ps))) (sym (none_left x ps))
      (subst (λ r. Walked (whole (starting x)).left (whole (starting x)).content r) (sym total) made)

joins_where : (left : List LeftOut) (y : Content) (r : Result Content PieceRefusal) → Walked left y r → left ≡ [] → r ≡ Ok y
joins_where left y r (inl (none, e)) h = e
joins_where left y r (inr (i, why, (ls, begins), e)) h = absurd (some_none (left_out i why) left ls h begins)

refuses_where : (left : List LeftOut) (y : Content) (r : Result Content PieceRefusal) (l : LeftOut) (ls : List LeftOut) → Walked left y r → left ≡ l ∷ ls → IsUnjoined r (fault_of l)
refuses_where left y r l ls (inl (none, e)) h = absurd (some_none l left ls none h)
refuses_where left y r l ls (inr (i, why, (ks, begins), e)) h =
    subst (λ (k : LeftOut). IsUnjoined r (fault_of k)) (ap (head_of l) (sym begins ∙ h)) (is_refusal i why r e)

pub take_joins : (x : Content) (ps : List Part) → IsContent x → (all_taken x (parts_given ps)).left ≡ [] → JoinTo (part.Register x ∷ ps) (all_taken x (parts_given ps)).content
take_joins x ps is none = joins_where (all_taken x (parts_given ps)).left (all_taken x (parts_given ps)).content (join_of (part.Register x ∷ ps)) (walked x ps is) none

pub take_refuses : (x : Content) (ps : List Part) (l : LeftOut) (ls : List LeftOut) → IsContent x → (all_taken x (parts_given ps)).left ≡ l ∷ ls → IsUnjoined (join_of (part.Register x ∷ ps)) (fault_of l)
take_refuses x ps l ls is left = refuses_where (all_taken x (parts_given ps)).left (all_taken x (parts_given ps)).content (join_of (part.Register x ∷ ps)) l ls (walked x ps is) left
