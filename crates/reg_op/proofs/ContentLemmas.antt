-- Laws of contents and of their join.
use Rattle.std.proofs.Common.{◌≡◌, Bool, true, false, not, ◌&&◌, ◌||◌, cond, List, [], ◌∷◌, map, Option, Some, None, Ok, refl, sym, ap, ◌∙◌, subst, inl, inr}
use Rattle.std.proofs.lemmas.Bool.{and_from, and_parts, or_left, or_right, or_cases, or_parts, cond-false, true≢false, not_from_false, false_from_ne_true, true_from_ne_false, not-true}
use Rattle.std.specs.Cmp.{tied_itself, Equal-is}
use Rattle.std.specs.Ordering.{is_eq, eq_by_cmp}
use Rattle.std.specs.List.{list_any, find}
use Rattle.std.specs.Option.{option_map}
use Rattle.reg_op.specs.Set as set
use Rattle.reg_op.specs.Set.{contains, union, items, contains-union, contains-from_list, contains-empty, same_set}
use Rattle.reg_op.specs.Ids.{Id, IsId, id_cmp, is_same}
use Rattle.reg_op.specs.Finite.{any}
use Rattle.reg_op.specs.Operations.{Op, Ops, op_cmp, ids, OneBody, replaces, kept, has_other_body, first_clash}
use Rattle.reg_op.specs.Contents.{Content, state, nothing, merged, joined_unless, joined, AreOperations, IsContent}
use Rattle.reg_op.proofs.FiniteLemmas.{any_from_member, member_from_any, any-union, contains-topmost, topmost-topmost, union_comm, union_assoc, union_again, union-empty, union_itself}
use Rattle.reg_op.proofs.OpLemmas.{id_total, id_exact, op_total, op_exact, is_same_exact, replaces_irreflexive, replaces_chain, kept-union}

pub contains_op-union : (s t : Ops) (o : Op) → contains (union s t) o ≡ (contains s o || contains t o)
contains_op-union = contains-union op_total

pub contains-kept : (s : Ops) (o : Op) → contains (kept s) o ≡ (contains s o && not (any (λ p. replaces p o) s))
contains-kept = contains-topmost op_total op_exact replaces replaces_irreflexive replaces_chain

pub kept_is_within : (s : Ops) (o : Op) → contains (kept s) o ≡ true → contains s o ≡ true
kept_is_within s o h = (and_parts _ _ (sym (contains-kept s o) ∙ h)).0

pub kept-kept : (s : Ops) → kept (kept s) ≡ kept s
kept-kept = topmost-topmost op_total op_exact replaces replaces_irreflexive replaces_chain

-- ---- ids

contains-ids_list : (i : Id) (xs : List Op) → list_any (eq_by_cmp id_cmp i) (map (λ o. o.id) xs) ≡ list_any (λ o. is_same i o.id) xs
contains-ids_list i [] = refl
contains-ids_list i (x ∷ xs) = ap (λ b. is_same i x.id || b) (contains-ids_list i xs)

pub contains-ids : (s : Ops) (i : Id) → contains (ids s) i ≡ any (λ o. is_same i o.id) s
contains-ids s i = contains-from_list id_total _ i ∙ contains-ids_list i (items s)

pub ids_has : (s : Ops) (o : Op) → contains s o ≡ true → contains (ids s) o.id ≡ true
ids_has s o h = contains-ids s o.id ∙ any_from_member op_total op_exact (λ p. is_same o.id p.id) s o h (ap is_eq (tied_itself id_total o.id))

pub ids-union : (s t : Ops) → ids (union s t) ≡ union (ids s) (ids t)
ids-union s t = same_set id_total id_exact _ _ (λ i.
    contains-ids (union s t) i
    ∙ any-union op_total op_exact (λ o. is_same i o.id) s t
    ∙ sym (contains-union id_total (ids s) (ids t) i ∙ (λ j. contains-ids s i j || contains-ids t i j)))

-- ---- the join of contents

pub same_content : (x y : Content) → x.ops ≡ y.ops → x.seen ≡ y.seen → x ≡ y
same_content x y p q = λ i. record { ops = p i; seen = q i }

pub merged-state : (s t : Ops) → merged (state s) (state t) ≡ state (union s t)
merged-state s t = same_content _ _ (sym (kept-union s t)) (sym (ids-union s t))

-- what is kept of a union does not change if `kept` is applied to one side first
pub kept-union_left : (s t : Ops) → kept (union (kept s) t) ≡ kept (union s t)
kept-union_left s t = kept-union (kept s) t ∙ ap (λ k. kept (union k (kept t))) (kept-kept s) ∙ sym (kept-union s t)

pub kept-union_right : (s t : Ops) → kept (union s (kept t)) ≡ kept (union s t)
kept-union_right s t = ap kept (union_comm op_total op_exact s (kept t)) ∙ kept-union_left t s ∙ ap kept (union_comm op_total op_exact t s)

pub merged_comm : (x y : Content) → merged x y ≡ merged y x
merged_comm x y = same_content _ _ (ap kept (union_comm op_total op_exact x.ops y.ops)) (union_comm id_total id_exact x.seen y.seen)

pub merged_assoc : (x y z : Content) → merged (merged x y) z ≡ merged x (merged y z)
merged_assoc x y z =
    same_content _ _
    (kept-union_left (union x.ops y.ops) z.ops ∙ ap kept (union_assoc op_total op_exact x.ops y.ops z.ops) ∙ sym (kept-union_right x.ops (union y.ops z.ops)))
    (union_assoc id_total id_exact x.seen y.seen z.seen)

pub merged_again : (x y : Content) → merged x (merged x y) ≡ merged x y
merged_again x y =
    same_content _ _
    (kept-union_right x.ops (union x.ops y.ops) ∙ ap kept (union_again op_total op_exact x.ops y.ops))
    (union_again id_total id_exact x.seen y.seen)

pub joined_comm : (x y : Content) → joined x y ≡ joined y x
joined_comm x y = λ i. joined_unless (first_clash (union_comm op_total op_exact x.ops y.ops i)) (merged_comm x y i)

-- ---- clashes

other_body_refuted : (s : Ops) → OneBody s → (o : Op) → contains s o ≡ true → has_other_body s o ≡ false
other_body_refuted s one o m = false_from_ne_true _ (λ h.
    let r = member_from_any op_total op_exact (λ p. is_same p.id o.id && not (is_eq (op_cmp p o))) s h in
    let q = and_parts _ _ r.2 in
    let is : r.0 ≡ o = one r.0 o r.1 m (is_same_exact r.0.id o.id q.0) in
    let differ : is_eq (op_cmp o o) ≡ false = subst (λ p. is_eq (op_cmp p o) ≡ false) is (not-true _ q.1) in
    true≢false (sym (ap is_eq (tied_itself op_total o)) ∙ differ))

pub find_none : {K : Type 0} (t : K → Bool) (xs : List K) → list_any t xs ≡ false → find t xs ≡ None
find_none t [] h = refl
find_none t (x ∷ xs) h = let p = or_parts (t x) (list_any t xs) h in cond-false (t x) _ _ p.0 ∙ find_none t xs p.1

any_from_find : {K : Type 0} (t : K → Bool) (xs : List K) → find t xs ≡ None → list_any t xs ≡ false
any_from_find t [] h = refl
any_from_find t (x ∷ xs) h =
    elim (t x) as (λ b. cond b (Some x) (find t xs) ≡ None → (b || list_any t xs) ≡ false) [
      | true ↦ λ e. cc
      | false ↦ λ e. any_from_find t xs e
    ] h

pub no_clash : (s : Ops) → OneBody s → first_clash s ≡ None
no_clash s one = ap (option_map (λ o. o.id)) (find_none (has_other_body s) (items s) (false_from_ne_true _ (λ h.
    let r = member_from_any op_total op_exact (has_other_body s) s h in
    true≢false (sym r.2 ∙ other_body_refuted s one r.0 r.1))))

no_value : {A B : Type 0} (f : A → B) (o : Option A) → option_map f o ≡ None → o ≡ None
no_value f None h = refl
no_value f (Some x) h = cc

pub one_body_from : (s : Ops) → first_clash s ≡ None → OneBody s
one_body_from s h p o a b e =
    let nobody : any (has_other_body s) s ≡ false = any_from_find _ (items s) (no_value _ _ h) in
    op_exact p o ((Equal-is (op_cmp p o)).0 (true_from_ne_false _ (λ differ.
    let other : has_other_body s o ≡ true = any_from_member op_total op_exact (λ q. is_same q.id o.id && not (is_eq (op_cmp q o))) s p a
    (and_from _ _ (subst (λ i. is_same i o.id ≡ true) (sym e) (ap is_eq (tied_itself id_total o.id))) (not_from_false _ differ)) in
    true≢false (sym (any_from_member op_total op_exact (has_other_body s) s o b other) ∙ nobody))))

pub OneBody-within : (s t : Ops) → ((o : Op) → contains s o ≡ true → contains t o ≡ true) → OneBody t → OneBody s
OneBody-within s t within one p o a b e = one p o (within p a) (within o b) e

pub union_within : (s t u : Ops) → ((o : Op) → contains s o ≡ true → contains u o ≡ true) → ((o : Op) → contains t o ≡ true → contains u o ≡ true) → (o : Op) → contains (union s t) o ≡ true → contains u o ≡ true
union_within s t u f g o h = elim (or_cases (contains s o) (contains t o) (sym (contains_op-union s t o) ∙ h)) [ inl a ↦ f o a | inr b ↦ g o b ]

pub union_left : (s t : Ops) (o : Op) → contains s o ≡ true → contains (union s t) o ≡ true
union_left s t o h = contains_op-union s t o ∙ or_left _ _ h

pub union_right : (s t : Ops) (o : Op) → contains t o ≡ true → contains (union s t) o ≡ true
union_right s t o h = contains_op-union s t o ∙ or_right _ _ h

pub joined-state : (s t : Ops) → OneBody (union s t) → joined (state s) (state t) ≡ Ok (state (union s t))
joined-state s t one =
    let within = union_within (kept s) (kept t) (union s t) (λ o h. union_left s t o (kept_is_within s o h)) (λ o h. union_right s t o (kept_is_within t o h)) in
    (λ i. joined_unless (no_clash (union (kept s) (kept t)) (OneBody-within _ _ within one) i) (merged (state s) (state t)))
    ∙ ap Ok (merged-state s t)

pub state_is_content : (s : Ops) → AreOperations s → OneBody s → IsContent (state s)
state_is_content s each one = record {
  are_operations = λ o h. each o (kept_is_within s o h);
  one_body = OneBody-within _ _ (kept_is_within s) one;
  is_kept = kept-kept s;
  are_seen = λ o h. ids_has s o (kept_is_within s o h);
  are_ids = λ i h.
      let r = member_from_any op_total op_exact (λ o. is_same i o.id) s (sym (contains-ids s i) ∙ h) in
      subst IsId (sym (is_same_exact i r.0.id r.2)) (each r.0 r.1).id;
}

pub joined_content : (x y : Content) → OneBody (union x.ops y.ops) → joined x y ≡ Ok (merged x y)
joined_content x y one = ap (λ c. joined_unless c (merged x y)) (no_clash (union x.ops y.ops) one)

pub joined_itself : (x : Content) → IsContent x → joined x x ≡ Ok x
joined_itself x is =
    let same_ops : union x.ops x.ops ≡ x.ops = union_itself op_total op_exact x.ops in
    joined_content x x (subst OneBody (sym same_ops) is.one_body)
    ∙ ap Ok (same_content _ _ (ap kept same_ops ∙ is.is_kept) (union_itself id_total id_exact x.seen))

pub joined_nothing : (x : Content) → IsContent x → joined nothing x ≡ Ok x
joined_nothing x is =
    let same_ops : union set.empty x.ops ≡ x.ops = union-empty op_total op_exact x.ops in
    joined_content nothing x (subst OneBody (sym same_ops) is.one_body)
    ∙ ap Ok (same_content _ _ (ap kept same_ops ∙ is.is_kept) (union-empty id_total id_exact x.seen))

pub kept-empty : kept set.empty ≡ set.empty
kept-empty = same_set op_total op_exact _ _ (λ o. contains-kept set.empty o ∙ (λ i. contains-empty op_cmp o i && not (any {R = op_cmp} (λ p. replaces p o) set.empty)) ∙ sym (contains-empty op_cmp o))

pub ids-empty : ids set.empty ≡ set.empty
ids-empty = same_set id_total id_exact _ _ (λ i.
    contains-ids set.empty i
    ∙ false_from_ne_true _ (λ h. let r = member_from_any op_total op_exact (λ o. is_same i o.id) set.empty h in true≢false (sym r.1 ∙ contains-empty op_cmp r.0))
    ∙ sym (contains-empty id_cmp i))

pub state-empty : state set.empty ≡ nothing
state-empty = same_content _ _ kept-empty ids-empty

pub nothing_is_content : IsContent nothing
nothing_is_content = record {
  are_operations = λ o h. absurd (true≢false (sym h ∙ contains-empty op_cmp o));
  one_body = λ p o a b e. absurd (true≢false (sym a ∙ contains-empty op_cmp p));
  is_kept = kept-empty;
  are_seen = λ o h. absurd (true≢false (sym h ∙ contains-empty op_cmp o));
  are_ids = λ i h. absurd (true≢false (sym h ∙ contains-empty id_cmp i));
}
