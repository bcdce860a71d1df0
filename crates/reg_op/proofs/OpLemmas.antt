-- The orders of ids and operations are total and exact, and `replaces` is strict.
use Rattle.std.proofs.Common.{◌≡◌, ℕ, Bool, true, List, IsTrue, ◌↔◌, refl, sym, ap, ◌∙◌, subst}
use Rattle.std.proofs.lemmas.Bool.{and_from, and_parts, true≢false}
use Rattle.std.specs.declared.cmp.Ordering.{Ordering}
use Rattle.std.specs.declared.cmp.Ordering.TheVariants.{Less, Equal, Greater}
use Rattle.std.specs.Ordering.{nat_cmp, is_lt, is_eq, ordering_then}
use Rattle.std.specs.Cmp.{IsTotalOrder, Equal-is, tied_itself, eq_by_cmp_equiv, on_total, then_total, nat_cmp_total, both_ways}
use Rattle.std.specs.Cmp.Lexicographic.{slice_cmp}
use Rattle.std.proofs.lemmas.Cmp.{nat_list_cmp_total, lists_total}
use Rattle.reg_op.specs.Set as set
use Rattle.reg_op.specs.Set.{IsAntisymmetric, nat_cmp-IsAntisymmetric, slice_cmp-IsAntisymmetric}
use Rattle.std.proofs.lemmas.Map.Lookups.{exact_pairs}
use Rattle.reg_op.specs.Ids.{Id, id_cmp, is_before, is_same}
use Rattle.reg_op.specs.Operations.{Body, Enter, Supersede, Retire, kind_of, text_of, named_in, Op, Ops, body_cmp, op_cmp, replaces_body, replaces, kept}
use Rattle.reg_op.proofs.FiniteLemmas.{topmost-union}
use Rattle.reg_op.proofs.SetLemmas.{less}

pub bytes_exact : IsAntisymmetric (slice_cmp nat_cmp)
bytes_exact = slice_cmp-IsAntisymmetric nat_cmp-IsAntisymmetric

pub id_total : IsTotalOrder id_cmp
id_total = then_total (on_total (λ a. a.replica) nat_list_cmp_total) (on_total (λ a. a.count) nat_cmp_total)

pub id_exact : IsAntisymmetric id_cmp
id_exact a b e = ap (λ (p : List ℕ × ℕ). record { replica = p.0; count = p.1 }) (exact_pairs (slice_cmp nat_cmp) nat_cmp bytes_exact nat_cmp-IsAntisymmetric (a.replica, a.count) (b.replica, b.count) e)

body_total : IsTotalOrder body_cmp
body_total = then_total (on_total kind_of nat_cmp_total) (then_total (on_total text_of nat_list_cmp_total) (on_total named_in (lists_total id_total)))

pub op_total : IsTotalOrder op_cmp
op_total = then_total (on_total (λ a. a.id) id_total) (then_total (on_total (λ a. a.body) body_total) (on_total (λ a. a.note) nat_list_cmp_total))

same_body : (a b : Body) → kind_of a ≡ kind_of b → text_of a ≡ text_of b → named_in a ≡ named_in b → a ≡ b
same_body (Enter t) (Enter u) k e f = ap Enter e
same_body (Supersede o n) (Supersede p m) k e f = cc
same_body (Retire x) (Retire y) k e f = cc
same_body a b k e f = cc

-- a comparison by two parts is Equal only if both parts are
pub both_equal : (r t : Ordering) → ordering_then r t ≡ Equal → (r ≡ Equal) × (t ≡ Equal)
both_equal Less t e = cc
both_equal Equal t e = (refl, e)
both_equal Greater t e = cc

pub body_exact : IsAntisymmetric body_cmp
body_exact a b e =
    let k = both_equal (nat_cmp (kind_of a) (kind_of b)) _ e in
    let t = both_equal (slice_cmp nat_cmp (text_of a) (text_of b)) _ k.1 in
    same_body a b (nat_cmp-IsAntisymmetric _ _ k.0) (bytes_exact _ _ t.0) (slice_cmp-IsAntisymmetric id_exact _ _ t.1)

pub op_exact : IsAntisymmetric op_cmp
op_exact a b e =
    let i = both_equal (id_cmp a.id b.id) _ e in
    let n = both_equal (body_cmp a.body b.body) _ i.1 in
    let id : a.id ≡ b.id = id_exact _ _ i.0 in
    let body : a.body ≡ b.body = body_exact _ _ n.0 in
    let note : a.note ≡ b.note = bytes_exact _ _ n.1 in
    λ j. record { id = id j; body = body j; note = note j }

-- ---- `replaces` is a strict order

pub is_same_exact : (a b : Id) → is_same a b ≡ true → a ≡ b
is_same_exact a b h = id_exact a b ((Equal-is (id_cmp a b)).0 h)

pub is_same_back : (a b : Id) → is_same a b ≡ true → is_same b a ≡ true
is_same_back a b h = (eq_by_cmp_equiv id_total).symm b a ∙ h

pub is_same_chain : (a b c : Id) → is_same a b ≡ true → is_same b c ≡ true → is_same a c ≡ true
is_same_chain a b c h k = (eq_by_cmp_equiv id_total).congr a b c h ∙ k

pub is_before_chain : (a b c : Id) → is_before a b ≡ true → is_before b c ≡ true → is_before a c ≡ true
is_before_chain a b c h k = ap is_lt (id_total.trans a b c (less _ h) (less _ k))

pub not_before_itself : (a : Id) → is_before a a ≡ true → ⊥
not_before_itself a h = true≢false (sym h ∙ ap is_lt (tied_itself id_total a))

needs_before : (before : Bool) (b : Body) → replaces_body before b b ≡ true → before ≡ true
needs_before before (Enter text) h = absurd (true≢false (sym h))
needs_before before (Supersede old newer) h = (and_parts _ _ (and_parts _ _ h).1).1
needs_before before (Retire entry) h = (and_parts _ _ h).1

pub replaces_irreflexive : (o : Op) → replaces o o ≡ true → ⊥
replaces_irreflexive o h = not_before_itself o.id (needs_before _ o.body h)

body_chain : (b c d : Bool) → (b ≡ true → c ≡ true → d ≡ true) → (x y z : Body) → replaces_body b x y ≡ true → replaces_body c y z ≡ true → replaces_body d x z ≡ true
body_chain b c d chain (Retire x) (Retire y) (Retire z) h k =
    let p = and_parts _ _ h in
    let q = and_parts _ _ k in
    and_from _ _ (is_same_chain x y z p.0 q.0) (chain p.1 q.1)
body_chain b c d chain (Retire x) (Retire y) (Supersede z w) h k = is_same_chain x y z (and_parts _ _ h).0 k
body_chain b c d chain (Retire x) (Supersede y v) (Supersede z w) h k = is_same_chain x y z h (and_parts _ _ k).0
body_chain b c d chain (Supersede x u) (Supersede y v) (Supersede z w) h k =
    let p = and_parts _ _ h in
    let q = and_parts _ _ k in
    let p' = and_parts _ _ p.1 in
    let q' = and_parts _ _ q.1 in
    and_from _ _ (is_same_chain x y z p.0 q.0) (and_from _ _ (is_same_chain u v w p'.0 q'.0) (chain p'.1 q'.1))
body_chain b c d chain x y z h k = cc

pub replaces_chain : (x y z : Op) → replaces x y ≡ true → replaces y z ≡ true → replaces x z ≡ true
replaces_chain x y z h k = body_chain _ _ _ (is_before_chain x.id y.id z.id) x.body y.body z.body h k

pub kept-union : (s t : Ops) → kept (set.union s t) ≡ kept (set.union (kept s) (kept t))
kept-union s t = topmost-union op_total op_exact replaces replaces_irreflexive replaces_chain s t

-- a test that holds exactly for equal operations agrees with `op_cmp`
pub same_test : (a b : Op) (r : Bool) → (IsTrue r ↔ (a ≡ b)) → r ≡ is_eq (op_cmp a b)
same_test a b r h =
    both_ways r (is_eq (op_cmp a b))
    (λ e. subst (λ c. is_eq (op_cmp a c) ≡ true) (h.0 e) (ap is_eq (tied_itself op_total a)))
    (λ e. h.1 (op_exact a b ((Equal-is (op_cmp a b)).0 e)))
