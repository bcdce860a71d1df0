-- What the engines of the commands do with a register is a list of steps.
use Rattle.std.proofs.Common.{◌≡◌, ℕ, ◌+◌, List, [], ◌∷◌, ◌++◌, Result, Ok, Err, refl, sym, ap, ◌∙◌, subst, inl, inr}
use Rattle.std.proofs.lemmas.List.{append-nil}
use Rattle.reg_op.specs.Ids.{Id}
use Rattle.reg_op.specs.declared.operation.OpBody.{OpBody as Body}
use Rattle.reg_op.specs.Contents.{Content, IsContent, nothing, joined}
use Rattle.reg_op.specs.Pieces.{Piece, PieceRefusal, Clash, joined_piece}
use Rattle.reg_op.proofs.ContentLemmas.{joined_nothing}
use Rattle.reg_op.specs.Joining.{all_joined}
use Rattle.reg_office.specs.Commands.{Does}
use Rattle.reg_commands.specs.Merge.{begun, with_pieces}
use Rattle.reg_disorder.specs.Retiring.{RetiresFor}
use Rattle.reg_supersede.specs.Lines.{words}
use Rattle.reg_supersede.specs.Lists.{Task, effects_of, DoesFor, DoesAll}
use Rattle.reg_supersede.specs.declared.fault.RefusedLine.{RefusedLine}
use Rattle.reg_writers.specs.Registers.{Makes, Joins, JoinsPiece, AreNew, IsReached}
use Rattle.reg_writers.proofs.RegisterLemmas.{none_in}

-- ---- lists of supersessions

-- a line is a step, and a blank line is none
line_reaches : (t : Task) (x z : Content) (ws : List (List ℕ)) (now : List Id) → DoesFor t x ws z now → (y : Content) (later : List Id) → IsReached z y later → IsReached x y (now ++ later)
line_reaches t x z [] now d y later r =
    subst (λ (w : Content). IsReached w y (now ++ later)) d.0 (subst (λ (ids : List Id). IsReached z y (ids ++ later)) (sym d.1) r)
line_reaches t x z (w ∷ []) now d y later r = absurd d
line_reaches t x z (w ∷ v ∷ ws) now (olds, newer, are_old, are_newer, does) y later r =
    (Makes t.replica t.note (effects_of x.ops olds newer) ∷ r.0, (z, now, later, does, r.1, refl))

pub list_reaches : (t : Task) (n : ℕ) (x : Content) (lines : List (List ℕ)) (y : Content) (ids : List Id) (left : List RefusedLine) → DoesAll t n x lines y ids left → IsReached x y ids
list_reaches t n x [] y ids left (same, none, all) = ([], (same, none))
list_reaches t n x (line ∷ lines) y ids left (inl (z, now, later, does, rest, all)) =
    subst (λ (given : List Id). IsReached x y given) (sym all) (line_reaches t x z (words line) now does y later (list_reaches t (n + 1) z lines y later left rest))
list_reaches t n x (line ∷ lines) y ids left (inr (f, more, going, why, rest, all)) = list_reaches t (n + 1) x lines y ids more rest

-- ---- two steps of an office

pub two_make : (x m y : Content) (replica note noted : List ℕ) (first next : List Body) (a b : List Id) → Does x replica note first m a → Does m replica noted next y b → IsReached x y (a ++ b)
two_make x m y replica note noted first next a b f t =
    (Makes replica note first ∷ Makes replica noted next ∷ [], (m, a, b, f, (y, b, [], t, (refl, refl), sym (append-nil b)), refl))

pub retiring_reaches : (x : Content) (replica note : List ℕ) (entries : List Id) (y : Content) (ids : List Id) → RetiresFor x replica note entries y ids → IsReached x y ids
retiring_reaches x replica note entries y ids r =
    subst (λ (given : List Id). IsReached x y given) (sym r.are) (two_make x r.between y replica note note _ _ r.retired r.linked r.retires r.passes.does)

-- ---- registers and pieces

none_new : (x z : Content) → AreNew x z []
none_new x z i h = absurd (none_in i h)

-- a join that succeeds in the end has succeeded before
clashed : (zs : List Content) (i : Id) (m : Content) → all_joined joined (Err i) zs ≡ Ok m → ⊥
clashed [] i m e = never e
  where
    never : ◌≡◌ {A = Result Content Id} (Err i) (Ok m) → ⊥
    never h = absurd (cc)
clashed (z ∷ zs) i m e = clashed zs i m e

began : (r : Result Content Id) (zs : List Content) (m : Content) → all_joined joined r zs ≡ Ok m → (w : Content) × (r ≡ Ok w)
began (Ok w) zs m e = (w, refl)
began (Err i) zs m e = absurd (clashed zs i m e)

refused : (ps : List Piece) (why : PieceRefusal) (y : Content) → with_pieces (Err why) ps ≡ Ok y → ⊥
refused [] why y e = never e
  where
    never : ◌≡◌ {A = Result Content PieceRefusal} (Err why) (Ok y) → ⊥
    never h = absurd (cc)
refused (p ∷ ps) why y e = refused ps why y e

began_piece : (r : Result Content PieceRefusal) (ps : List Piece) (y : Content) → with_pieces r ps ≡ Ok y → (w : Content) × (r ≡ Ok w)
began_piece (Ok w) ps y e = (w, refl)
began_piece (Err why) ps y e = absurd (refused ps why y e)

same_ok : {C : Type 0} (x y : Content) → ◌≡◌ {A = Result Content C} (Ok x) (Ok y) → x ≡ y
same_ok x y e = cc

begun_ok : (r : Result Content Id) (m : Content) → begun r ≡ Ok m → r ≡ Ok m
begun_ok (Ok w) m e = ap Ok (same_ok w m e)
begun_ok (Err i) m e = never e
  where
    never : ◌≡◌ {A = Result Content PieceRefusal} (Err (Clash i)) (Ok m) → ◌≡◌ {A = Result Content Id} (Err i) (Ok m)
    never h = absurd (cc)

-- pieces that are joined one after another
pieces_reach : (ps : List Piece) (x y : Content) → with_pieces (Ok x) ps ≡ Ok y → IsReached x y []
pieces_reach [] x y e = ([], (sym (same_ok x y e), refl))
pieces_reach (p ∷ ps) x y e =
    let w = began_piece (joined_piece x p) ps y e in
    let rest = pieces_reach ps w.0 y (ap (λ (r : Result Content PieceRefusal). with_pieces r ps) (sym w.1) ∙ e) in
    (JoinsPiece p ∷ rest.0, (w.0, [], [], (w.1, refl), rest.1, refl))

-- registers, and then these steps
registers_reach : (zs : List Content) (x m : Content) → all_joined joined (Ok x) zs ≡ Ok m → (y : Content) → IsReached m y [] → IsReached x y []
registers_reach [] x m e y r = subst (λ (w : Content). IsReached w y []) (sym (same_ok x m e)) r
registers_reach (z ∷ zs) x m e y r =
    let w = began (joined x z) zs m e in
    let rest = registers_reach zs w.0 m (ap (λ (q : Result Content Id). all_joined joined q zs) (sym w.1) ∙ e) y r in
    (Joins z ∷ rest.0, (w.0, [], [], (w.1, none_new x z), rest.1, refl))

pub merge_reaches : (x : Content) (others : List Content) (pieces : List Piece) (y : Content) → IsContent x
    → with_pieces (begun (all_joined joined (Ok nothing) (x ∷ others))) pieces ≡ Ok y → IsReached x y []
merge_reaches x others pieces y valid e =
    let m = began_piece (begun (all_joined joined (Ok nothing) (x ∷ others))) pieces y e in
    let all : all_joined joined (Ok x) others ≡ Ok m.0 = ap (λ (q : Result Content Id). all_joined joined q others) (sym (joined_nothing x valid)) ∙ begun_ok (all_joined joined (Ok nothing) (x ∷ others)) m.0 m.1 in
    registers_reach others x m.0 all y (pieces_reach pieces m.0 y (ap (λ (r : Result Content PieceRefusal). with_pieces r pieces) (sym m.1) ∙ e))
