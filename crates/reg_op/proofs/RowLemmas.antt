-- The rows, conflicts and awaited ids of a set are those of its kept operations.
use Rattle.std.proofs.Common.{◌≡◌, ℕ, Bool, true, false, not, ◌&&◌, ◌||◌, cond, List, [], ◌∷◌, ◌++◌, refl, sym, ap, ◌∙◌, subst, ◌↔◌}
use Rattle.std.proofs.lemmas.Bool.{true≢false, not-false}
use Rattle.std.proofs.lemmas.List.Folds.{list_any-append}
use Rattle.std.proofs.Math.Bool.{or-false}
use Rattle.std.specs.List.{list_any, flat_map, filter}
use Rattle.reg_op.specs.Set as set
use Rattle.reg_op.specs.Set.{contains, items, contains-from_list, contains-empty, same_set}
use Rattle.reg_op.specs.Ids.{Id, id_cmp, is_same}
use Rattle.reg_op.specs.Operations.{Body, Enter, Supersede, Retire, named_in, Op, Ops, replaces_body, replaces, kept}
use Rattle.reg_op.specs.Finite.{any}
use Rattle.reg_op.specs.Status.{retires, is_supersession, is_replaced_by}
use Rattle.reg_op.specs.Rows.{Row, newer_in, newer_of, rows_at, rows, IsInConflict, awaited}
use Rattle.reg_op.proofs.FiniteLemmas.{member_from_any}
use Rattle.reg_op.proofs.OpLemmas.{id_total, id_exact, op_total, op_exact}
use Rattle.reg_op.proofs.ContentLemmas.{kept-kept}
use Rattle.reg_op.proofs.StatusLemmas.{enters-kept, status-kept, replaced_by-kept}
use Rattle.reg_op.proofs.SetLemmas.{items-retain}

newer_one : (e n : Id) (b : Body) → list_any (is_same n) (newer_in e b) ≡ is_supersession e (is_same n) b
newer_one e n (Enter text) = refl
newer_one e n (Supersede old newer) = from (is_same e old)
  where
    from : (b : Bool) → list_any (is_same n) (cond b (newer ∷ []) []) ≡ (b && is_same n newer)
    from true = or-false _
    from false = refl
newer_one e n (Retire entry) = refl

newer_all : (e n : Id) (os : List Op) → list_any (is_same n) (flat_map (λ (o : Op). newer_in e o.body) os) ≡ list_any (λ o. is_supersession e (is_same n) o.body) os
newer_all e n [] = refl
newer_all e n (o ∷ os) = list_any-append (is_same n) (newer_in e o.body) (flat_map (λ (o : Op). newer_in e o.body) os) ∙ (λ k. newer_one e n o.body k || newer_all e n os k)

pub contains-newer_of : (s : Ops) (e n : Id) → contains (newer_of s e) n ≡ is_replaced_by s e n
contains-newer_of s e n = from (retires s e)
  where
    from : (r : Bool) → contains {R = id_cmp} (cond r set.empty (set.from_list (flat_map (λ (o : Op). newer_in e o.body) (items s)))) n ≡ (not r && any (λ o. is_supersession e (is_same n) o.body) s)
    from true = contains-empty id_cmp n
    from false = contains-from_list id_total _ n ∙ newer_all e n (items s)

newer_of-kept : (s : Ops) (e : Id) → newer_of (kept s) e ≡ newer_of s e
newer_of-kept s e = same_set id_total id_exact _ _ (λ n. contains-newer_of (kept s) e n ∙ replaced_by-kept s e n ∙ sym (contains-newer_of s e n))

rows_at-kept : (s : Ops) (i : Id) (b : Body) → rows_at (kept s) i b ≡ rows_at s i b
rows_at-kept s i (Enter text) = λ k. record { entry = i; definition = text; status = status-kept s i k; newer = items (newer_of-kept s i k) } ∷ []
rows_at-kept s i (Supersede old newer) = refl
rows_at-kept s i (Retire entry) = refl

-- an operation that is replaced has no row
replaced_rowless : (s : Ops) (before : Bool) (p : Body) (i : Id) (b : Body) → replaces_body before p b ≡ true → rows_at s i b ≡ []
replaced_rowless s before (Enter t) i (Enter text) h = absurd (true≢false (sym h))
replaced_rowless s before (Supersede a b) i (Enter text) h = absurd (true≢false (sym h))
replaced_rowless s before (Retire e) i (Enter text) h = absurd (true≢false (sym h))
replaced_rowless s before p i (Supersede old newer) h = refl
replaced_rowless s before p i (Retire entry) h = refl

pub flat_map-filter : {X Y : Type 0} (f : X → List Y) (p : X → Bool) (xs : List X) → ((x : X) → p x ≡ false → f x ≡ []) → flat_map f (filter p xs) ≡ flat_map f xs
flat_map-filter f p [] h = refl
flat_map-filter f p (x ∷ xs) h =
    elim (p x) as (λ b. p x ≡ b → flat_map f (cond b (x ∷ filter p xs) (filter p xs)) ≡ (f x ++ flat_map f xs)) [
      | true ↦ λ e. ap (λ ys. f x ++ ys) (flat_map-filter f p xs h)
      | false ↦ λ e. flat_map-filter f p xs h ∙ nil_append _ ∙ (λ k. sym (h x e) k ++ flat_map f xs)
    ] refl
  where
    nil_append : {Y : Type 0} (ys : List Y) → ys ≡ ([] ++ ys)
    nil_append ys = refl

pub rows-kept : (s : Ops) → rows (kept s) ≡ rows s
rows-kept s =
    (λ k. flat_map (λ (o : Op). rows_at-kept s o.id o.body k) (items-retain _ op_total op_exact s (λ o. not (any (λ p. replaces p o) s)) k))
    ∙ flat_map-filter (λ (o : Op). rows_at s o.id o.body) (λ o. not (any (λ p. replaces p o) s)) (items s)
    (λ o h. let r = member_from_any op_total op_exact (λ p. replaces p o) s (not-false _ h) in replaced_rowless s _ r.0.body o.id o.body r.2)

pub conflicts-kept : {Key : Type 0} (HasKey : List ℕ → Key → Type 0) (s : Ops) (key : Key) → IsInConflict HasKey (rows (kept s)) key ↔ IsInConflict HasKey (rows s) key
conflicts-kept HasKey s key = (
  subst (λ (rs : List Row). IsInConflict HasKey rs key) (rows-kept s),
  subst (λ (rs : List Row). IsInConflict HasKey rs key) (sym (rows-kept s)),
)

pub awaited-kept : (s : Ops) → awaited (kept s) ≡ awaited s
awaited-kept s = λ k. set.retain (set.from_list (flat_map (λ (o : Op). named_in o.body) (items (kept-kept s k)))) (λ i. not (enters-kept s i k))
