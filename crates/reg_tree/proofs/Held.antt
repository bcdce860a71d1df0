-- Pieces that are joined to a content without a refusal.
use Rattle.std.proofs.Common.{◌≡◌, ◌⊎◌, inl, inr, ℕ, ◌<◌, Bool, true, false, not, ◌&&◌, ◌||◌, List, [], ◌∷◌, ◌++◌, map, length, take, drop, Ok, refl, sym, ap, ◌∙◌, subst, arith}
use Rattle.std.specs.Prelude.{Result, Err, Option, Some, None, IfOk, is_some}
use Rattle.std.specs.Bool.{OnTrue}
use Rattle.std.specs.Borrow.{Bor}
use Rattle.std.proofs.lemmas.Bool.{true≢false}
use Rattle.std.proofs.lemmas.List.{take-append-drop, map-append}
use mathlib.Core.Bool.{or-true}
use Rattle.reg_op.specs.Set as set
use Rattle.reg_op.specs.Set.{contains, union, difference}
use Rattle.reg_op.specs.Ids.{Id, Ids}
use Rattle.reg_op.specs.Operations.{Op, Ops, OneBody, kept, op_cmp}
use Rattle.reg_op.specs.Lists.{has, content_at}
use Rattle.reg_op.specs.Contents.{Content, IsContent, merged, joined}
use Rattle.reg_op.specs.Pieces.{Piece, IsPiece, PieceRefusal, IsHeld, part_of, first_missing, joined_where, joined_piece}
use Rattle.reg_op.proofs.OpLemmas.{id_total, id_exact, op_total, op_exact}
use Rattle.reg_op.proofs.FiniteLemmas.{union_assoc, union_comm, union-empty}
use Rattle.reg_op.proofs.ContentLemmas.{kept_is_within, OneBody-within, union_left, union_right, union_within, joined_content, same_content, kept-union_left, kept-union_right}
use Rattle.reg_op.proofs.RefusalLemmas.{missing_none}
use Rattle.reg_op.proofs.JoinLemmas.{joined_ok}
use Rattle.reg_state.specs.ManyLaws.{all_ops, all_seen, merged_all}
use Rattle.reg_tree.specs.Chain.{AllHeld, Fit, with_pieces}
use Rattle.reg_tree.specs.Listed.{OneEach, ops_at, ops_in}
use Rattle.reg_tree.proofs.Halves.{all_seen-append}
use Rattle.reg_tree.proofs.Neighbours.{more_true, one_body}

-- ---- bases

seen_either : (s t : Ids) (i : Id) → (contains s i ≡ true) ⊎ (contains t i ≡ true) → contains (union s t) i ≡ true
seen_either s t i (inl h) = set.contains-union id_total s t i ∙ ap (λ b. b || contains t i) h
seen_either s t i (inr h) = set.contains-union id_total s t i ∙ ap (λ b. contains s i || b) h ∙ or-true (contains s i)

held_front : (a b v : Ids) → IsHeld (union a b) v → IsHeld a v
held_front a b v h i is = h i (seen_either a b i (inl is))

-- if v has all ids of a, and those of b that are not in s, then v and s together have all ids of b
held_behind : (a b s v : Ids) → IsHeld (union a (difference b s)) v → IsHeld b (union v s)
held_behind a b s v h i is = elim (contains s i) as (λ t. contains s i ≡ t → contains (union v s) i ≡ true) [
  | true ↦ λ there. seen_either v s i (inr there)
  | false ↦ λ not_there. seen_either v s i (inl (h i (seen_either a (difference b s) i
      (inr (set.contains-difference id_total b s i ∙ ap (λ t. t && not (contains s i)) is ∙ ap not not_there)))))
] refl

all_held-append : (ps qs : List Piece) (v : Ids) → AllHeld ps v → AllHeld qs (union v (all_seen (map part_of ps))) → AllHeld (ps ++ qs) v
all_held-append [] qs v h k = subst (AllHeld qs) (union_comm id_total id_exact v set.empty ∙ union-empty id_total id_exact v) k
all_held-append (p ∷ ps) qs v h k =
    (h.0, all_held-append ps qs (union v p.seen) h.1 (subst (AllHeld qs) (sym (union_assoc id_total id_exact v p.seen (all_seen (map part_of ps)))) k))

pub held_halves : (n : ℕ) (ps : List Piece) (a b s v : Ids) → ((w : Ids) → IsHeld a w → AllHeld (take n ps) w) → ((w : Ids) → IsHeld b w → AllHeld (drop n ps) w)
    → s ≡ all_seen (map part_of (take n ps)) → IsHeld (union a (difference b s)) v → AllHeld ps v
held_halves n ps a b s v front behind is h =
    subst (λ (l : List Piece). AllHeld l v) (take-append-drop n ps)
    (all_held-append (take n ps) (drop n ps) v (front v (held_front a (difference b s) v h))
    (subst (λ (t : Ids). AllHeld (drop n ps) (union v t)) is (behind (union v s) (held_behind a b s v h))))

pub seen_halves : (n : ℕ) (ps : List Piece) (a b : Ids) → a ≡ all_seen (map part_of (take n ps)) → b ≡ all_seen (map part_of (drop n ps)) → union a b ≡ all_seen (map part_of ps)
seen_halves n ps a b e f =
    (λ j. union (e j) (f j)) ∙ sym (all_seen-append (map part_of (take n ps)) (map part_of (drop n ps)))
    ∙ ap all_seen (sym (map-append part_of (take n ps) (drop n ps)) ∙ ap (map part_of) (take-append-drop n ps))

-- ---- the joins

with_one : (c : Content) (p : Piece) → IsHeld p.basis c.seen → OneBody (union c.ops p.ops) → joined_piece c p ≡ Ok (merged c (part_of p))
with_one c p held one = ap (λ m. joined_where m (joined c (part_of p))) ((missing_none p.basis c.seen).1 held) ∙ ap (joined_where None) (joined_content c (part_of p) one)

chain_from : (k : Ops) (v : Ids) (ps : List Piece) → OneBody (union k (all_ops (map part_of ps))) → AllHeld ps v
    → with_pieces (Ok (record { ops = kept k; seen = v })) ps ≡ Ok (record { ops = kept (union k (all_ops (map part_of ps))); seen = union v (all_seen (map part_of ps)) })
chain_from k v [] one held = ap Ok (same_content _ _ (ap kept (sym (union_comm op_total op_exact k set.empty ∙ union-empty op_total op_exact k))) (sym (union_comm id_total id_exact v set.empty ∙ union-empty id_total id_exact v)))
chain_from k v (p ∷ ps) one held =
    let later : Ops = all_ops (map part_of ps) in
    let rest : Ops = union p.ops later in
    let c : Content = record { ops = kept k; seen = v } in
    let in_k : (o : Op) → contains (kept k) o ≡ true → contains (union k rest) o ≡ true = λ o h. union_left k rest o (kept_is_within k o h) in
    let in_p : (o : Op) → contains p.ops o ≡ true → contains (union k rest) o ≡ true = λ o h. union_right k rest o (union_left p.ops later o h) in
    let first : OneBody (union (kept k) p.ops) = OneBody-within (union (kept k) p.ops) (union k rest) (union_within (kept k) p.ops (union k rest) in_k in_p) one in
    let whole : union (union k p.ops) later ≡ union k rest = union_assoc op_total op_exact k p.ops later in
    ap (λ r. with_pieces r ps) (with_one c p held.0 first ∙ ap Ok (same_content _ _ (kept-union_left k p.ops) refl))
    ∙ chain_from (union k p.ops) (union v p.seen) ps (subst OneBody (sym whole) one) held.1
    ∙ ap Ok (same_content _ _ (ap kept whole) (union_assoc id_total id_exact v p.seen (all_seen (map part_of ps))))

-- if the pieces fit, joining x with their merge gives what joining them to x one by one gives
pub at_once : (x : Content) (ps : List Piece) (y z : Content) → IsContent x → Fit x ps → y ≡ merged_all (map part_of ps) → joined x y ≡ Ok z → with_pieces (Ok x) ps ≡ Ok z
at_once x ps y z is fit e both =
    let k = x.ops in
    let all = all_ops (map part_of ps) in
    let start : record { ops = kept k; seen = x.seen } ≡ x = same_content _ _ is.is_kept refl in
    ap (λ (c : Content). with_pieces (Ok c) ps) (sym start)
    ∙ chain_from k x.seen ps fit.one_body fit.held
    ∙ ap Ok (same_content _ _ (sym (kept-union_right k all)) refl ∙ ap (merged x) (sym e) ∙ (joined_ok x y z both).1)

-- ---- single steps

pub stays : (r : PieceRefusal) (ps : List Piece) → with_pieces (Err r) ps ≡ Err r
stays r [] = refl
stays r (p ∷ ps) = stays r ps

pub few_seen : (p : Piece) (ps rest : List Piece) (v : Ids) → ps ≡ p ∷ rest → length ps < 2 → v ≡ p.seen → v ≡ all_seen (map part_of ps)
few_seen p ps [] v e short is = is ∙ sym (union_comm id_total id_exact p.seen set.empty ∙ union-empty id_total id_exact p.seen) ∙ ap (λ (l : List Piece). all_seen (map part_of l)) (sym e)
few_seen p ps (q ∷ rest) v e short is = absurd (omega (arith, short, ap length e))

pub held_none : (b v : Ids) (m : Option Id) (t : Bool) → m ≡ first_missing b v → t ≡ is_some m → t ≡ false → IsHeld b v
held_none b v None t e f g = (missing_none b v).0 (sym e)
held_none b v (Some i) t e f g = absurd (true≢false (sym f ∙ g))

pub if_fit : {E : Type 0} (r : Result Bool E) (os : List (Bor Op)) (x : Content) (ps : List Piece) → AllHeld ps x.seen → ops_at os ≡ ops_in (x ∷ map part_of ps)
    → IfOk r (λ b. OnTrue b (OneEach (ops_at os))) → IfOk r (λ b. OnTrue b (Fit x ps))
if_fit (Ok b) os x ps held e h = more_true b (λ each. record { held = held; one_body = one_body (x ∷ map part_of ps) (subst OneEach e each) }) h
if_fit (Err y) os x ps held e h = tt

pub one_of_parts : (x : Content) (ps : List Piece) → Fit x ps → OneBody (all_ops (map part_of ps))
one_of_parts x ps fit = OneBody-within (all_ops (map part_of ps)) (union x.ops (all_ops (map part_of ps))) (λ o h. union_right x.ops (all_ops (map part_of ps)) o h) fit.one_body

pub piece_seen : (p : Piece) (os : List Op) (v : Ids) → IsPiece p → os ≡ set.items p.ops → v ≡ p.seen → (o : Op) → has os o ≡ true → contains v o.id ≡ true
piece_seen p os v is e f o h =
    let there : contains p.ops o ≡ true = set.contains-items p.ops o ∙ ap (λ (l : List Op). has l o) (sym e) ∙ h in
    ap (λ (s : Ids). contains s o.id) f ∙ is.content.are_seen o there

pub part_is : (p : Piece) (os : List Op) (v : Ids) (r : Content) → r ≡ content_at os v → os ≡ set.items p.ops → v ≡ p.seen → r ≡ part_of p
part_is p os v r e f g =
    let same : set.from_list {R = op_cmp} os ≡ p.ops = set.same_set op_total op_exact (set.from_list os) p.ops
    (λ q. set.contains-from_list op_total os q ∙ ap (λ (l : List Op). has l q) f ∙ sym (set.contains-items p.ops q)) in
    e ∙ same_content _ _ same g
