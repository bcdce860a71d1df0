-- The piece of a state, joined to a state that has seen its basis, gives the state of the union.
use Rattle.std.proofs.Common.{◌≡◌, Bool, true, false, not, ◌&&◌, ◌||◌, Ok, refl, sym, ap, ◌∙◌, subst, inl, inr}
use Rattle.std.proofs.lemmas.Bool.{and_from, and_parts, cases_Bool, not-true, not_from_false}
use Rattle.std.specs.Cmp.{both_ways}
use Rattle.reg_op.specs.Set.{contains, union, difference, contains-union, contains-retain, contains-difference, same_set}
use Rattle.reg_op.specs.Ids.{Id, IsId, Ids, is_same}
use Rattle.reg_op.specs.Operations.{Op, Ops, ids, OneBody, kept}
use Rattle.reg_op.specs.Contents.{Content, state, joined, IsContent}
use Rattle.reg_op.specs.Pieces.{piece_for, outside, IsPiece, IsHeld}
use Rattle.reg_op.proofs.FiniteLemmas.{union_comm, member_from_any}
use Rattle.reg_op.proofs.OpLemmas.{id_total, id_exact, op_total, op_exact, is_same_exact}
use Rattle.reg_op.proofs.ContentLemmas.{contains-ids, ids-union, same_content, kept-union_left, kept-union_right, kept_is_within, joined_content, OneBody-within, union_within, union_left, union_right}
use Rattle.reg_op.proofs.OneLemmas.{kept_free, kept_has}

pub contains-outside : (b : Ids) (x : Content) (o : Op) → contains (outside b x).ops o ≡ (contains x.ops o && not (contains b o.id))
contains-outside b x o = contains-retain x.ops (λ p. not (contains b p.id)) o (λ y e. ap (λ (p : Op). not (contains b p.id)) (sym (op_exact o y e)))

-- an operation outside the basis is in the content, and its id is not in the basis
pub outside_parts : (b : Ids) (x : Content) (o : Op) → contains (outside b x).ops o ≡ true → (contains x.ops o ≡ true) × (not (contains b o.id) ≡ true)
outside_parts b x o h = and_parts _ _ (sym (contains-outside b x o) ∙ h)

-- if `kept` leaves s as it is, it leaves each subset of s as it is
pub kept_part : (s t : Ops) → kept s ≡ s → ((o : Op) → contains t o ≡ true → contains s o ≡ true) → kept t ≡ t
kept_part s t is within = same_set op_total op_exact _ _ (λ o. both_ways _ _
    (kept_is_within t o)
    (λ h. kept_has t o h (λ p n r. kept_free s o p (subst (λ u. contains u o ≡ true) (sym is) (within o h)) (within p n) r)))

pub outside_is_content : (b : Ids) (x : Content) → IsContent x → IsContent (outside b x)
outside_is_content b x is = record {
  are_operations = λ o h. is.are_operations o (outside_parts b x o h).0;
  one_body = OneBody-within (outside b x).ops x.ops (λ o h. (outside_parts b x o h).0) is.one_body;
  is_kept = kept_part x.ops (outside b x).ops is.is_kept (λ o h. (outside_parts b x o h).0);
  are_seen = λ o h. let p = outside_parts b x o h in contains-difference id_total x.seen b o.id ∙ and_from _ _ (is.are_seen o p.0) p.1;
  are_ids = λ i h. is.are_ids i (and_parts _ _ (sym (contains-difference id_total x.seen b i) ∙ h)).0;
}

pub piece_is : (x : Content) (b : Ids) → IsContent x → ((i : Id) → contains b i ≡ true → IsId i) → IsPiece (piece_for x b)
piece_is x b is are_ids = record {
  content = outside_is_content b x is;
  are_ids = are_ids;
  apart = λ i h. not-true _ (and_parts _ _ (sym (contains-difference id_total x.seen b i) ∙ h)).1;
}

-- if no id has two bodies, an operation of s is in t if t has its id
in_other : (s t : Ops) → OneBody (union s t) → (o : Op) → contains s o ≡ true → contains (ids t) o.id ≡ true → contains t o ≡ true
in_other s t one o m h =
    let r = member_from_any op_total op_exact (λ p. is_same o.id p.id) t (sym (contains-ids t o.id) ∙ h) in
    let is : r.0 ≡ o = one r.0 o (union_right s t r.0 r.1) (union_left s t o m) (sym (is_same_exact o.id r.0.id r.2)) in
    subst (λ p. contains t p ≡ true) is r.1

outside_enough : (s t : Ops) (b : Ids) → OneBody (union s t) → IsHeld b (ids t) → union t (outside b (state s)).ops ≡ union t (kept s)
outside_enough s t b one held = same_set op_total op_exact _ _ (λ o.
    both_ways _ _
    (union_within t (outside b (state s)).ops (union t (kept s)) (union_left t (kept s)) (λ p h. union_right t (kept s) p (outside_parts b (state s) p h).0) o)
    (union_within t (kept s) (union t (outside b (state s)).ops) (union_left t (outside b (state s)).ops)
    (λ p h. elim (cases_Bool (contains b p.id)) [
      | inl e ↦ union_left t (outside b (state s)).ops p (in_other s t one p (kept_is_within s p h) (held p.id e))
      | inr n ↦ union_right t (outside b (state s)).ops p (contains-outside b (state s) p ∙ and_from _ _ h (not_from_false _ n))
    ]) o))

ids_enough : (s t b : Ids) → IsHeld b t → union t (difference s b) ≡ union s t
ids_enough s t b held = same_set id_total id_exact _ _ (λ i.
    contains-union id_total t (difference s b) i
    ∙ ap (λ x. contains t i || x) (contains-difference id_total s b i)
    ∙ held_or (contains t i) (contains s i) (contains b i) (held i)
    ∙ sym (contains-union id_total s t i))
  where
    held_or : (t s b : Bool) → (b ≡ true → t ≡ true) → (t || (s && not b)) ≡ (s || t)
    held_or true true b h = refl
    held_or true false b h = refl
    held_or false true true h = h refl
    held_or false true false h = refl
    held_or false false b h = refl

pub joined-outside : (s t : Ops) (b : Ids) → OneBody (union s t) → IsHeld b (ids t) → joined (state t) (outside b (state s)) ≡ Ok (state (union s t))
joined-outside s t b one held =
    let x = outside b (state s) in
    let both = union_within (kept t) x.ops (union s t) (λ o h. union_right s t o (kept_is_within t o h)) (λ o h. union_left s t o (kept_is_within s o (outside_parts b (state s) o h).0)) in
    joined_content (state t) x (OneBody-within _ _ both one)
    ∙ ap Ok (same_content _ _
    (kept-union_left t x.ops ∙ ap kept (outside_enough s t b one held) ∙ kept-union_right t s ∙ ap kept (union_comm op_total op_exact t s))
    (ids_enough (ids s) (ids t) b held ∙ sym (ids-union s t)))
