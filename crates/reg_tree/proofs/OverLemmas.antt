-- Operations of a file, read over the content that they are joined to.
use Rattle.std.proofs.Common.{◌≡◌, true, List, Ok, refl, sym, ap, ◌∙◌, subst, inl, inr}
use Rattle.std.proofs.lemmas.Bool.{and_parts, or_left, or_right, or_cases}
use Rattle.std.specs.Cmp.{both_ways}
use Rattle.reg_op.specs.Set.{contains, union, retain, items, from_list, contains-union, contains-retain, contains-items, contains-from_list, same_set}
use Rattle.reg_op.specs.Ids.{Ids, is_same}
use Rattle.reg_op.specs.Operations.{Op, Ops, op_cmp, ids, kept, OneBody}
use Rattle.reg_op.specs.Contents.{Content, state, merged, joined}
use Rattle.reg_op.specs.Lists.{ById, has, content_at}
use Rattle.reg_op.specs.Pieces.{Piece, part_of, IsHeld, joined_piece}
use Rattle.reg_op.proofs.FiniteLemmas.{member_from_any}
use Rattle.reg_op.proofs.SetLemmas.{items-retain}
use Rattle.reg_state.proofs.MergeLemmas.{ById-filter}
use Rattle.reg_op.proofs.OpLemmas.{id_total, id_exact, op_total, op_exact, is_same_exact}
use Rattle.reg_op.proofs.ContentLemmas.{contains-ids, same_content, kept_is_within, kept-union_left, kept-union_right, joined_content, OneBody-within, union_within, union_left, union_right}
use Rattle.reg_op.proofs.JoinLemmas.{joined_ok}
use Rattle.reg_op.proofs.RefusalLemmas.{piece_joined}
use Rattle.reg_tree.specs.Over.{known_in, over, piece_over, known}

pub seen_parts : (seen : Ids) (s : Ops) (o : Op) → contains (retain s (λ q. contains seen q.id)) o ≡ true → (contains s o ≡ true) × (contains seen o.id ≡ true)
seen_parts seen s o h = and_parts _ _ (sym (contains-retain s (λ q. contains seen q.id) o (λ y e. ap (λ (q : Op). contains seen q.id) (sym (op_exact o y e)))) ∙ h)

over_seen : (a b : Ids) (v : Ids) → IsHeld b v → union v (union a b) ≡ union v a
over_seen a b v held = same_set id_total id_exact _ _ (λ i. both_ways _ _
    (λ h. contains-union id_total v a i ∙ (elim (or_cases (contains v i) _ (sym (contains-union id_total v (union a b) i) ∙ h)) [
      | inl m ↦ or_left (contains v i) _ m
      | inr m ↦ elim (or_cases (contains a i) _ (sym (contains-union id_total a b i) ∙ m)) [
        | inl k ↦ or_right (contains v i) _ k
        | inr k ↦ or_left (contains v i) _ (held i k)
      ]
    ]))
    (λ h. contains-union id_total v (union a b) i ∙ (elim (or_cases (contains v i) _ (sym (contains-union id_total v a i) ∙ h)) [
      | inl m ↦ or_left (contains v i) _ m
      | inr m ↦ or_right (contains v i) _ (contains-union id_total a b i ∙ or_left (contains a i) _ m)
    ])))

pub over_joins : (x z : Content) (p : Piece) → joined_piece x p ≡ Ok z → joined x (piece_over x p) ≡ Ok z
over_joins x z p e =
    let r = (piece_joined x p z).0 e in
    let j = joined_ok x (part_of p) z r.1 in
    let known = union p.seen p.basis in
    let part : Ops = retain x.ops (λ q. contains known q.id) in
    let in_x : (o : Op) → contains part o ≡ true → contains (union x.ops p.ops) o ≡ true = λ o h. union_left x.ops p.ops o (seen_parts known x.ops o h).0 in
    let in_two : (o : Op) → contains (union p.ops part) o ≡ true → contains (union x.ops p.ops) o ≡ true = union_within p.ops part (union x.ops p.ops) (union_right x.ops p.ops) in_x in
    let same : union x.ops (union p.ops part) ≡ union x.ops p.ops = same_set op_total op_exact _ _ (λ o. both_ways _ _
    (union_within x.ops (union p.ops part) (union x.ops p.ops) (union_left x.ops p.ops) in_two o)
    (union_within x.ops p.ops (union x.ops (union p.ops part)) (union_left x.ops (union p.ops part)) (λ q h. union_right x.ops (union p.ops part) q (union_left p.ops part q h)) o)) in
    let one : OneBody (union x.ops (piece_over x p).ops) = OneBody-within (union x.ops (piece_over x p).ops) (union x.ops p.ops)
    (union_within x.ops (piece_over x p).ops (union x.ops p.ops) (union_left x.ops p.ops) (λ o h. in_two o (kept_is_within (union p.ops part) o h))) j.0 in
    joined_content x (piece_over x p) one
    ∙ ap Ok (same_content _ _ (kept-union_right x.ops (union p.ops part) ∙ ap kept same) (over_seen p.seen p.basis x.seen r.0) ∙ j.1)

-- if no id has two bodies, an operation of s is in t if t has its id
in_other : (s t : Ops) → OneBody (union s t) → (o : Op) → contains s o ≡ true → contains (ids t) o.id ≡ true → contains t o ≡ true
in_other s t one o m h =
    let r = member_from_any op_total op_exact (λ p. is_same o.id p.id) t (sym (contains-ids t o.id) ∙ h) in
    let is : r.0 ≡ o = one r.0 o (union_right s t r.0 r.1) (union_left s t o m) (sym (is_same_exact o.id r.0.id r.2)) in
    subst (λ p. contains t p ≡ true) is r.1

pub whole_is_itself : (s t : Ops) → OneBody (union s t) → over (state s) (kept t) (ids t) ≡ state t
whole_is_itself s t one = same_content _ _
    (kept-union_left t part ∙ ap kept (same_set op_total op_exact _ _ (λ o. both_ways _ _ (union_within t part t (λ q h. h) in_t o) (union_left t part o))))
    refl
  where
    part : Ops
    part = retain (kept s) (λ q. contains (ids t) q.id)

    in_t : (o : Op) → contains part o ≡ true → contains t o ≡ true
    in_t o h =
        let p = seen_parts (ids t) (kept s) o h in
        in_other s t one o (kept_is_within s o p.0) p.1

-- ---- the operations of a register that a piece's maker has seen

items_back : (s : Ops) → from_list {R = op_cmp} (items s) ≡ s
items_back s = same_set op_total op_exact _ _ (λ q. contains-from_list op_total (items s) q ∙ sym (contains-items s q))

module _ (s : Ops) (seen : Ids) (os out : List Op) (up : ById os) (all : os ≡ items s) (e : out ≡ known seen os) where
  pub known_by_id : ById out
  known_by_id = subst ById (sym e) (ById-filter (λ (o : Op). contains seen o.id) os up)

  set_of_known : from_list {R = op_cmp} out ≡ retain s (λ o. contains seen o.id)
  set_of_known =
      ap (λ (l : List Op). from_list {R = op_cmp} l) (e ∙ ap (known seen) all ∙ sym (items-retain op_cmp op_total op_exact s (λ (o : Op). contains seen o.id)))
      ∙ items_back (retain s (λ o. contains seen o.id))

  pub known_seen : (o : Op) → has out o ≡ true → contains seen o.id ≡ true
  known_seen o h = (seen_parts seen s o (subst (λ (t : Ops). contains t o ≡ true) set_of_known (contains-from_list op_total out o ∙ h))).1

  pub known_is : (x : Content) → x.ops ≡ s → (r : Content) → r ≡ content_at out seen → r ≡ known_in x seen
  known_is x same r is = is ∙ same_content _ _ (set_of_known ∙ ap (λ (t : Ops). retain t (λ o. contains seen o.id)) (sym same)) refl

pub read_over : (x r : Content) (p : Piece) (part brought : Content) (ids : Ids) → ids ≡ union p.seen p.basis → part ≡ known_in x ids → brought ≡ part_of p → joined brought part ≡ Ok r → r ≡ piece_over x p
read_over x r p part brought ids is made from e =
    sym (joined_ok brought part r e).1
    ∙ (λ i. merged (from i) (made i))
    ∙ (λ i. merged (part_of p) (known_in x (is i)))
    ∙ same_content _ _ refl (same_set id_total id_exact _ _ (λ i. both_ways _ _
    (λ h. elim (or_cases (contains p.seen i) _ (sym (contains-union id_total p.seen (union p.seen p.basis) i) ∙ h)) [
      | inl m ↦ contains-union id_total p.seen p.basis i ∙ or_left _ _ m
      | inr m ↦ m
    ])
    (λ h. contains-union id_total p.seen (union p.seen p.basis) i ∙ or_right (contains p.seen i) _ h)))
