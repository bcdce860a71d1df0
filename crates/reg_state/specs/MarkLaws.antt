-- The join of two sets of least marks has the least marks of their union.
use Rattle.std.proofs.Common.{◌≡◌, ◌&&◌, Bool, true, false, Option, Some, None, Result, Ok, refl, ap, sym, ◌∙◌, subst}
use Rattle.std.proofs.lemmas.Bool.{true≢false, and_from, and_parts}
use Rattle.std.specs.declared.cmp.Ordering.TheVariants.{Equal}
use Rattle.std.specs.Cmp.{IsTotalOrder, then_total, on_total, Equal-is}
use Rattle.std.specs.Cmp.Lexicographic.{options_total}
use Rattle.std.specs.Option.{option_cmp}
use Rattle.std.specs.Ordering.{ordering_then}
use Rattle.std.specs.declared.convert.Infallible.{Infallible}
use Rattle.reg_op.specs.Set as set
use Rattle.reg_op.specs.Set.{IsAntisymmetric, contains, union, same_set, contains-empty}
use Rattle.reg_op.specs.Ids.{Id, id_cmp}
use Rattle.reg_op.proofs.FiniteLemmas.{union_comm, union_assoc, union_again, union_itself, union-empty, topmost-union, topmost-topmost, contains-topmost}
use Rattle.reg_op.proofs.OpLemmas.{id_total, id_exact, is_same_chain, is_before_chain, not_before_itself, both_equal}
use Rattle.reg_op.specs.Joining.{JoinLaws}
use Rattle.reg_state.specs.declared.mark.Mark.{Mark}
use Rattle.reg_state.specs.declared.mark.MarkTarget.{MarkTarget}
use Rattle.reg_state.specs.MarkSets.{target_cmp, mark_cmp, is_at, MarkSet, lessens_by, lessens, least, AreLeast}

-- ---- the order of marks

pub target_total : IsTotalOrder target_cmp
target_total = then_total (on_total (λ t. t.entry) id_total) (on_total (λ t. t.by) (options_total id_total))

pub mark_total : IsTotalOrder mark_cmp
mark_total = then_total (on_total (λ m. m.target) target_total) (on_total (λ m. m.id) id_total)

options_exact : (a b : Option Id) → option_cmp id_cmp a b ≡ Equal → a ≡ b
options_exact None None e = refl
options_exact None (Some j) e = cc
options_exact (Some i) None e = cc
options_exact (Some i) (Some j) e = ap Some (id_exact i j e)

pub target_exact : IsAntisymmetric target_cmp
target_exact a b e =
    let p = both_equal (id_cmp a.entry b.entry) (option_cmp id_cmp a.by b.by) e in
    let entry = id_exact a.entry b.entry p.0 in
    let by = options_exact a.by b.by p.1 in
    λ k. record { entry = entry k; by = by k }

pub mark_exact : IsAntisymmetric mark_cmp
mark_exact a b e =
    let p = both_equal (target_cmp a.target b.target) (id_cmp a.id b.id) e in
    let target = target_exact a.target b.target p.0 in
    let id = id_exact a.id b.id p.1 in
    λ k. record { target = target k; id = id k }

-- ---- lesser marks

pub at_exact : (t : MarkTarget) (m : Mark) → is_at t m ≡ true → m.target ≡ t
at_exact t m h = target_exact m.target t ((Equal-is (target_cmp m.target t)).0 h)

needs_before : (by : Option Id) (before : Bool) → lessens_by by by before ≡ true → before ≡ true
needs_before None before h = h
needs_before (Some n) before h = (and_parts _ _ h).1

pub lessens_irreflexive : (m : Mark) → lessens m m ≡ true → ⊥
lessens_irreflexive m h = not_before_itself m.id (needs_before m.target.by _ (and_parts _ _ h).1)

by_chain : (b c d : Bool) → (b ≡ true → c ≡ true → d ≡ true) → (x y z : Option Id) → lessens_by x y b ≡ true → lessens_by y z c ≡ true → lessens_by x z d ≡ true
by_chain b c d chain None None None h k = chain h k
by_chain b c d chain None None (Some z) h k = refl
by_chain b c d chain None (Some y) None h k = absurd (true≢false (sym k))
by_chain b c d chain None (Some y) (Some z) h k = refl
by_chain b c d chain (Some x) None z h k = absurd (true≢false (sym h))
by_chain b c d chain (Some x) (Some y) None h k = absurd (true≢false (sym k))
by_chain b c d chain (Some x) (Some y) (Some z) h k =
    let p = and_parts _ _ h in
    let q = and_parts _ _ k in
    and_from _ _ (is_same_chain x y z p.0 q.0) (chain p.1 q.1)

pub lessens_chain : (p q m : Mark) → lessens p q ≡ true → lessens q m ≡ true → lessens p m ≡ true
lessens_chain p q m h k =
    let a = and_parts _ _ h in
    let b = and_parts _ _ k in
    and_from _ _ (is_same_chain p.target.entry q.target.entry m.target.entry a.0 b.0)
    (by_chain _ _ _ (is_before_chain p.id q.id m.id) p.target.by q.target.by m.target.by a.1 b.1)

-- ---- the laws

pub least_least : (s : MarkSet) → least (least s) ≡ least s
least_least s = topmost-topmost mark_total mark_exact lessens lessens_irreflexive lessens_chain s

pub least-union : (s t : MarkSet) → least (union s t) ≡ least (union (least s) (least t))
least-union s t = topmost-union mark_total mark_exact lessens lessens_irreflexive lessens_chain s t

least-left : (s t : MarkSet) → least (union (least s) t) ≡ least (union s t)
least-left s t = least-union (least s) t ∙ ap (λ k. least (union k (least t))) (least_least s) ∙ sym (least-union s t)

least-right : (s t : MarkSet) → least (union s (least t)) ≡ least (union s t)
least-right s t = ap least (union_comm mark_total mark_exact s (least t)) ∙ least-left t s ∙ ap least (union_comm mark_total mark_exact t s)

abbrev pub merged_marks : MarkSet → MarkSet → MarkSet
merged_marks x y = least (union x y)

abbrev pub joined_marks : MarkSet → MarkSet → Result MarkSet Infallible
joined_marks x y = Ok (merged_marks x y)

abbrev pub AlwaysAgree : MarkSet → MarkSet → Type 0
AlwaysAgree x y = Unit {0}

pub least-empty : least set.empty ≡ set.empty
least-empty = same_set mark_total mark_exact _ _ (λ m.
    contains-topmost mark_total mark_exact lessens lessens_irreflexive lessens_chain set.empty m
    ∙ from (contains {R = mark_cmp} set.empty m) _ (contains-empty mark_cmp m))
  where
    from : (a b : Bool) → a ≡ false → (a && b) ≡ a
    from true b h = absurd (true≢false h)
    from false b h = refl

pub marks_laws : JoinLaws set.empty joined_marks merged_marks AlwaysAgree AreLeast
marks_laws = record {
  agreed = λ x y a. refl;
  refused = λ x y z e. tt;
  comm = λ x y. ap (λ s. Ok (least s)) (union_comm mark_total mark_exact x y);
  merged_comm = λ x y. ap least (union_comm mark_total mark_exact x y);
  merged_assoc = λ x y z. least-left (union x y) z ∙ ap least (union_assoc mark_total mark_exact x y z) ∙ sym (least-right x (union y z));
  merged_again = λ x y. least-right x (union x y) ∙ ap least (union_again mark_total mark_exact x y);
  itself = λ x a. ap Ok (ap least (union_itself mark_total mark_exact x) ∙ a);
  neutral = λ x a. ap Ok (ap least (union-empty mark_total mark_exact x) ∙ a);
  agree_nothing = λ x a. tt;
  agree_comm = λ x y a. tt;
  agree_merged = λ x y z a b c. tt;
  value_nothing = least-empty;
  value_joined = λ x y z a b e. subst AreLeast (same_ok _ _ e) (least_least (union x y));
}
  where
    same_ok : (a b : MarkSet) → ◌≡◌ {A = Result MarkSet Infallible} (Ok a) (Ok b) → a ≡ b
    same_ok a b h = cc
