-- The ids that operations name, without those that were entered.
use Rattle.std.proofs.Common.{◌≡◌, ℕ, ◌≤◌, Bool, true, false, not, ◌&&◌, ◌||◌, cond, List, [], ◌∷◌, ◌++◌, length, take, refl, sym, ap, ◌∙◌}
use Rattle.std.proofs.lemmas.List.{take_all}
use Rattle.std.proofs.Math.Bool.{and-false}
use Rattle.std.specs.List.{list_any, flat_map, filter}
use Rattle.reg_op.specs.Set as set
use Rattle.reg_op.specs.Set.{contains-from_list, contains-retain, same_set}
use Rattle.reg_op.specs.Ids.{Id, id_cmp, is_same}
use Rattle.reg_op.specs.Operations.{Op, Ops, kept, named_in}
use Rattle.reg_op.specs.Rows.{awaited}
use Rattle.reg_op.specs.Status.{enters}
use Rattle.reg_op.proofs.OpLemmas.{id_total, id_exact, is_same_exact}

has_filter : (p : Id → Bool) (n : Id) (xs : List Id) → list_any (is_same n) (filter p xs) ≡ (list_any (is_same n) xs && p n)
has_filter p n [] = refl
has_filter p n (x ∷ xs) =
    elim (is_same n x) as (λ e. is_same n x ≡ e → list_any (is_same n) (cond (p x) (x ∷ filter p xs) (filter p xs)) ≡ ((e || list_any (is_same n) xs) && p n)) [
      | true ↦ λ e. at (p x) (p n) (ap p (sym (is_same_exact n x e))) e (has_filter p n xs)
      | false ↦ λ e. past (p x) e (has_filter p n xs)
    ] refl
  where
    at : (b c : Bool) → b ≡ c → is_same n x ≡ true → list_any (is_same n) (filter p xs) ≡ (list_any (is_same n) xs && c) → list_any (is_same n) (cond b (x ∷ filter p xs) (filter p xs)) ≡ c
    at true c f e rest = (λ k. e k || list_any (is_same n) (filter p xs)) ∙ f
    at false true f e rest = cc
    at false false f e rest = rest ∙ and-false _

    past : (b : Bool) → is_same n x ≡ false → list_any (is_same n) (filter p xs) ≡ (list_any (is_same n) xs && p n) → list_any (is_same n) (cond b (x ∷ filter p xs) (filter p xs)) ≡ (list_any (is_same n) xs && p n)
    past true e rest = (λ k. e k || list_any (is_same n) (filter p xs)) ∙ rest
    past false e rest = rest

filter_append : (p : Id → Bool) (xs ys : List Id) → filter p xs ++ filter p ys ≡ filter p (xs ++ ys)
filter_append p [] ys = refl
filter_append p (x ∷ xs) ys = elim (p x) as (λ b. cond b (x ∷ filter p xs) (filter p xs) ++ filter p ys ≡ cond b (x ∷ filter p (xs ++ ys)) (filter p (xs ++ ys))) [
  | true ↦ ap (λ l. x ∷ l) (filter_append p xs ys)
  | false ↦ filter_append p xs ys
]

filter_each : (p : Id → Bool) (os : List Op) → flat_map (λ (o : Op). filter p (named_in o.body)) os ≡ filter p (flat_map (λ (o : Op). named_in o.body) os)
filter_each p [] = refl
filter_each p (o ∷ os) = ap (λ l. filter p (named_in o.body) ++ l) (filter_each p os) ∙ filter_append p (named_in o.body) (flat_map (λ (o : Op). named_in o.body) os)

pub awaited_are : (s : Ops) (os : List Op) (k : ℕ) (ids : List Id) → kept s ≡ s → os ≡ set.items s → length os ≤ k → ids ≡ flat_map (λ (o : Op). filter (λ i. not (enters s i)) (named_in o.body)) (take k os)
    → set.items (set.from_list {R = id_cmp} ids) ≡ set.items (awaited s)
awaited_are s os k ids is_kept e h f =
    let p : Id → Bool = λ i. not (enters s i) in
    let named : List Id = flat_map (λ (o : Op). named_in o.body) (set.items (kept s)) in
    let ids_are : ids ≡ filter p named =
    f ∙ ap (flat_map (λ (o : Op). filter p (named_in o.body))) (take_all k os h ∙ e ∙ ap set.items (sym is_kept)) ∙ filter_each p (set.items (kept s)) in
    ap set.items (same_set id_total id_exact (set.from_list ids) (awaited s) (λ n.
    contains-from_list id_total ids n ∙ ap (list_any (is_same n)) ids_are ∙ has_filter p n named
    ∙ sym (contains-retain (set.from_list named) p n (λ x t. ap p (sym (id_exact n x t))) ∙ ap (λ b. b && p n) (contains-from_list id_total named n))))
