-- Sets of ids, one id after another, and the rows whose entries are in one.
use Rattle.std.proofs.Common.{◌≡◌, ℕ, ◌+◌, ◌<◌, ◌≤◌, Bool, true, false, cond, ◌||◌, List, [], ◌∷◌, ◌++◌, map, filter, length, get_or, take, refl, sym, ap, ◌∙◌, subst}
use Rattle.std.proofs.lemmas.List.{take_all, take_more}
use Rattle.std.proofs.lemmas.List.Folds.{list_any-append}
use Rattle.std.specs.List.{list_any}
use Rattle.std.specs.BTreeSet.{BTreeSet, contains}
use Rattle.std.specs.Cmp.{eq_by_cmp_equiv}
use Rattle.reg_op.specs.Ids.{Id, id_cmp, is_same}
use Rattle.reg_op.proofs.OpLemmas.{id_total}
use Rattle.reg_news.specs.Revived.{HasIds}

pub no_ids : (s : BTreeSet Id) → s.keys ≡ [] → HasIds [] s
no_ids s e i = λ j. contains id_cmp (record { keys = e j }) i

pub ids_more : (ids : List Id) (k : ℕ) (id : Id) (old new : BTreeSet Id) → k < length ids → id ≡ get_or ids k id → ((i : Id) → contains id_cmp new i ≡ (is_same id i || contains id_cmp old i))
    → HasIds (take k ids) old → HasIds (take (k + 1) ids) new
ids_more ids k id old new h at puts has i =
    puts i ∙ (λ j. (eq_by_cmp_equiv id_total).symm id i j || has i j) ∙ turned (is_same i id) (list_any (is_same i) (take k ids)) ∙ sym (list_any-append (is_same i) (take k ids) (id ∷ []))
    ∙ ap (list_any (is_same i)) ((λ j. take k ids ++ at j ∷ []) ∙ sym (take_more ids k id h))
  where
    turned : (a b : Bool) → (a || b) ≡ (b || (a || false))
    turned true true = refl
    turned true false = refl
    turned false true = refl
    turned false false = refl

pub ids_all : (ids : List Id) (k : ℕ) (s : BTreeSet Id) → length ids ≤ k → HasIds (take k ids) s → HasIds ids s
ids_all ids k s h has = subst (λ (l : List Id). HasIds l s) (take_all k ids h) has

pub rows_kept : {X Y : Type 0} (f : X → Y) (p : Y → Bool) (xs : List X) → map f (filter (λ x. p (f x)) xs) ≡ filter p (map f xs)
rows_kept f p [] = refl
rows_kept f p (x ∷ xs) = elim (p (f x)) as (λ b. map f (cond b (x ∷ filter (λ y. p (f y)) xs) (filter (λ y. p (f y)) xs)) ≡ cond b (f x ∷ filter p (map f xs)) (filter p (map f xs))) [
  | true ↦ ap (λ l. f x ∷ l) (rows_kept f p xs)
  | false ↦ rows_kept f p xs
]
