-- Files that are joined at once, where none of them is refused, are joined as by a walk.
use Rattle.std.proofs.Common.{◌≡◌, ◌++◌, ◌∷◌, [], List, ℕ, ◌+◌, Result, Ok, Err, refl, sym, ap, subst, ◌∙◌}
use Rattle.std.proofs.lemmas.List.{append_assoc}
use Rattle.reg_op.specs.Joining.{all_joined}
use Rattle.reg_op.specs.Set as set
use Rattle.reg_op.specs.Ids.{Id, Ids}
use Rattle.reg_op.specs.Operations.{Op, op_cmp}
use Rattle.reg_op.specs.Lists.{has, content_at}
use Rattle.reg_op.proofs.OpLemmas.{op_total, op_exact}
use Rattle.reg_state.specs.Pieces.{piece_of}
use Rattle.reg_op.specs.Contents.{Content, nothing, joined, IsContent}
use Rattle.reg_op.specs.Pieces.{Piece, PieceRefusal, joined_piece}
use Rattle.reg_state.specs.RegisterLaws.{register_laws}
use Rattle.reg_tree.specs.Chain.{with_pieces}
use Rattle.reg_tree.proofs.Held.{stays}
use Rattle.reg_commands.specs.Merge.{begun}
use Rattle.reg_take.specs.declared.files.Arrival.{Arrival}
use Rattle.reg_take.specs.declared.files.Arrival.TheVariants as arrival
use Rattle.reg_take.specs.declared.taking.TakePhase.TheVariants as phase
use Rattle.reg_take.specs.declared.taking.Taking.{Taking}
use Rattle.reg_take.specs.Taken.{Progress, Shows, after_register, after_piece, each_taken}
use Rattle.reg_take.specs.AtOnce.{registers_in, pieces_in}
use Rattle.reg_take.proofs.LawLemmas.{refused_joined}

registers_before : (a : Arrival) (gave : List Arrival) → registers_in (a ∷ gave) ≡ registers_in (a ∷ []) ++ registers_in gave
registers_before (arrival.Register z) gave = refl
registers_before (arrival.Piece p) gave = refl
registers_before (arrival.Unread k f) gave = refl
registers_before (arrival.Forged id) gave = refl

pieces_before : (a : Arrival) (gave : List Arrival) → pieces_in (a ∷ gave) ≡ pieces_in (a ∷ []) ++ pieces_in gave
pieces_before (arrival.Register z) gave = refl
pieces_before (arrival.Piece p) gave = refl
pieces_before (arrival.Unread k f) gave = refl
pieces_before (arrival.Forged id) gave = refl

-- after one more file, the copies so far and those of the rest are those of all files
pub registers_next : (a : Arrival) (rest gave : List Arrival) (made more all : List Content) → rest ≡ a ∷ gave → more ≡ made ++ registers_in (a ∷ []) → made ++ registers_in rest ≡ all → more ++ registers_in gave ≡ all
registers_next a rest gave made more all is pushed h =
    ap (λ (l : List Content). l ++ registers_in gave) pushed ∙ append_assoc made (registers_in (a ∷ [])) (registers_in gave)
    ∙ ap (λ (l : List Content). made ++ l) (sym (registers_before a gave)) ∙ ap (λ (l : List Arrival). made ++ registers_in l) (sym is) ∙ h

pub pieces_next : (a : Arrival) (rest gave : List Arrival) (made more all : List Piece) → rest ≡ a ∷ gave → more ≡ made ++ pieces_in (a ∷ []) → made ++ pieces_in rest ≡ all → more ++ pieces_in gave ≡ all
pieces_next a rest gave made more all is pushed h =
    ap (λ (l : List Piece). l ++ pieces_in gave) pushed ∙ append_assoc made (pieces_in (a ∷ [])) (pieces_in gave)
    ∙ ap (λ (l : List Piece). made ++ l) (sym (pieces_before a gave)) ∙ ap (λ (l : List Arrival). made ++ pieces_in l) (sym is) ∙ h

-- the content and the files left out of a walk that leaves out no more
abbrev Ends : Progress → Content → Progress → Type 0
Ends t y s = (y ≡ s.content) × (t.left ≡ s.left)

registers_from : (t : Progress) (i : ℕ) (z : Content) (gave : List Arrival) (y : Content)
    → ((u : Progress) → all_joined joined (Ok u.content) (registers_in gave) ≡ Ok y → Ends u y (each_taken phase.Registers u (i + 1) gave))
    → (r : Result Content Id) → all_joined joined r (registers_in gave) ≡ Ok y → Ends t y (each_taken phase.Registers (after_register t i z (begun r)) (i + 1) gave)
registers_from t i z gave y others (Ok x) h = others (after_register t i z (Ok x)) h
registers_from t i z gave y others (Err id) h = absurd (never (sym (refused_joined id (registers_in gave)) ∙ h))
  where
    never : ◌≡◌ {A = Result Content Id} (Err id) (Ok y) → ⊥
    never e = absurd (cc)

registers_end : (t : Progress) (i : ℕ) (gave : List Arrival) (y : Content) → all_joined joined (Ok t.content) (registers_in gave) ≡ Ok y → Ends t y (each_taken phase.Registers t i gave)
registers_end t i [] y h = (same h, refl)
  where
    same : ◌≡◌ {A = Result Content Id} (Ok t.content) (Ok y) → y ≡ t.content
    same e = cc
registers_end t i (arrival.Register z ∷ gave) y h = registers_from t i z gave y (λ u k. registers_end u (i + 1) gave y k) (joined t.content z) h
registers_end t i (arrival.Piece p ∷ gave) y h = registers_end t (i + 1) gave y h
registers_end t i (arrival.Unread k f ∷ gave) y h = registers_end t (i + 1) gave y h
registers_end t i (arrival.Forged id ∷ gave) y h = registers_end t (i + 1) gave y h

pieces_from : (t : Progress) (i : ℕ) (p : Piece) (gave : List Arrival) (y : Content)
    → ((u : Progress) → with_pieces (Ok u.content) (pieces_in gave) ≡ Ok y → Ends u y (each_taken phase.Pieces u (i + 1) gave))
    → (r : Result Content PieceRefusal) → with_pieces r (pieces_in gave) ≡ Ok y → Ends t y (each_taken phase.Pieces (after_piece t i p r) (i + 1) gave)
pieces_from t i p gave y others (Ok x) h = others (after_piece t i p (Ok x)) h
pieces_from t i p gave y others (Err why) h = absurd (never (sym (stays why (pieces_in gave)) ∙ h))
  where
    never : ◌≡◌ {A = Result Content PieceRefusal} (Err why) (Ok y) → ⊥
    never e = absurd (cc)

pieces_end : (t : Progress) (i : ℕ) (gave : List Arrival) (y : Content) → with_pieces (Ok t.content) (pieces_in gave) ≡ Ok y → Ends t y (each_taken phase.Pieces t i gave)
pieces_end t i [] y h = (same h, refl)
  where
    same : ◌≡◌ {A = Result Content PieceRefusal} (Ok t.content) (Ok y) → y ≡ t.content
    same e = cc
pieces_end t i (arrival.Register z ∷ gave) y h = pieces_end t (i + 1) gave y h
pieces_end t i (arrival.Piece p ∷ gave) y h = pieces_from t i p gave y (λ u k. pieces_end u (i + 1) gave y k) (joined_piece t.content p) h
pieces_end t i (arrival.Unread k f ∷ gave) y h = pieces_end t (i + 1) gave y h
pieces_end t i (arrival.Forged id ∷ gave) y h = pieces_end t (i + 1) gave y h

-- a state that has the join of its registers, or pieces, at once shows the walk
pub shows_registers : (old new : Taking) (gave : List Arrival) (y : Content) (all : List Content) → IsContent old.register → all ≡ old.register ∷ registers_in gave → all_joined joined (Ok nothing) all ≡ Ok y
    → new.register ≡ y → new.left.items ≡ old.left.items → (t : Progress) → Shows old t → Shows new (each_taken phase.Registers t 0 gave)
shows_registers old new gave y all is e joins register left t shows =
    let begins : all_joined joined (Ok t.content) (registers_in gave) ≡ Ok y =
    subst (λ (x : Content). all_joined joined (Ok x) (registers_in gave) ≡ Ok y) shows.0
    (sym (ap (λ r. all_joined joined r (registers_in gave)) (register_laws.neutral old.register is)) ∙ subst (λ (xs : List Content). all_joined joined (Ok nothing) xs ≡ Ok y) e joins) in
    let end = registers_end t 0 gave y begins in
    (register ∙ end.0, left ∙ shows.1 ∙ end.1)

pub shows_pieces : (old new : Taking) (gave : List Arrival) (x y : Content) (all : List Piece) → x ≡ old.register → all ≡ pieces_in gave → with_pieces (Ok x) all ≡ Ok y
    → new.register ≡ y → new.left.items ≡ old.left.items → (t : Progress) → Shows old t → Shows new (each_taken phase.Pieces t 0 gave)
shows_pieces old new gave x y all is e joins register left t shows =
    let begins : with_pieces (Ok t.content) (pieces_in gave) ≡ Ok y =
    subst (λ (z : Content). with_pieces (Ok z) (pieces_in gave) ≡ Ok y) (is ∙ shows.0)
    (subst (λ (ps : List Piece). with_pieces (Ok x) ps ≡ Ok y) e joins) in
    let end = pieces_end t 0 gave y begins in
    (register ∙ end.0, left ∙ shows.1 ∙ end.1)

-- a copy of the parts of a piece is the piece
pub copy_is : (p : Piece) (os : List Op) (b v : Ids) (r : Piece) → r ≡ piece_of b (content_at os v) → os ≡ set.items p.ops → b ≡ p.basis → v ≡ p.seen → r ≡ p
copy_is p os b v r is e f g =
    let same : set.from_list {R = op_cmp} os ≡ p.ops = set.same_set op_total op_exact (set.from_list os) p.ops
    (λ q. set.contains-from_list op_total os q ∙ ap (λ (l : List Op). has l q) e ∙ sym (set.contains-items p.ops q)) in
    is ∙ (λ k. record { ops = same k; basis = f k; seen = g k })
