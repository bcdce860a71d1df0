-- Keys in a set, one key after another, and lists of keys.
use Rattle.std.proofs.Common.{◌≡◌, ℕ, ◌+◌, ◌<◌, ◌≤◌, Bool, true, false, cond, ◌||◌, List, [], ◌∷◌, ◌++◌, map, length, get_or, take, refl, sym, ap, ◌∙◌, subst}
use Rattle.std.proofs.lemmas.List.{take_all, map_more}
use Rattle.std.proofs.lemmas.List.Folds.{list_any-append}
use Rattle.std.specs.List.{list_any, dedup, dedup_from}
use Rattle.std.specs.Borrow.{Bor}
use Rattle.std.specs.BTreeSet.{BTreeSet}
use Rattle.std.specs.Cmp.{eq_by_cmp_equiv}
use Rattle.std.specs.Ordering.{is_eq}
use Rattle.reg_op.specs.Rows.{Row}
use Rattle.reg_report.specs.Conflicts.{KeyBytes, key_cmp}
use Rattle.reg_report.proofs.ConflictLemmas.{key_total}
use Rattle.reg_report.specs.declared.key.KeyText.{KeyText}
use Rattle.reg_report.specs.Keys.{key_bytes}
use Rattle.reg_disorder.specs.Keys.{PutsKey}
use Rattle.reg_news.specs.Keys.{same_key, HasKeys}

abbrev pub as_key : List ℕ → Bor (List ℕ)
as_key t = record { ref_ptr = (0, 0); now = t }

-- F holds of the first k items and one more
pub items_more : {X Y : Type 0} (f : X → Y) (F : List Y → Type 0) (xs : List X) (k : ℕ) (x : X) → k < length xs → x ≡ get_or xs k x → F (map f (take k xs) ++ f x ∷ []) → F (map f (take (k + 1) xs))
items_more f F xs k x h at p = subst F ((λ j. map f (take k xs) ++ f (at j) ∷ []) ∙ sym (map_more f xs k x h)) p

pub items_all : {X Y : Type 0} (f : X → Y) (F : List Y → Type 0) (xs : List X) (k : ℕ) → length xs ≤ k → F (map f (take k xs)) → F (map f xs)
items_all f F xs k h p = subst (λ l. F (map f l)) (take_all k xs h) p

-- ---- a set of keys

pub no_keys : (s : BTreeSet KeyText) → s.keys ≡ [] → HasKeys [] s
no_keys s e k = ap (list_any (λ (q : KeyText). is_eq (key_cmp k (key_bytes q)))) e

pub keys_more : (ks : List KeyBytes) (key : KeyBytes) (old new : BTreeSet KeyText) → PutsKey key old new → HasKeys ks old → HasKeys (ks ++ key ∷ []) new
keys_more ks key old new puts has k =
    puts k ∙ (λ j. (eq_by_cmp_equiv key_total).symm key k j || has k j) ∙ turned (same_key k key) (list_any (same_key k) ks) ∙ sym (list_any-append (same_key k) ks (key ∷ []))
  where
    turned : (a b : Bool) → (a || b) ≡ (b || (a || false))
    turned true true = refl
    turned true false = refl
    turned false true = refl
    turned false false = refl

-- ---- lists

module _ {X Y : Type 0} (f : X → Y) (E : Y → Y → Bool) where
  dedup_map_from : (k : X) (xs : List X) → map f (dedup_from (λ a b. E (f a) (f b)) k xs) ≡ dedup_from E (f k) (map f xs)
  dedup_map_from k [] = refl
  dedup_map_from k (x ∷ xs) =
      elim (E (f x) (f k)) as (λ b. map f (cond b (dedup_from (λ a c. E (f a) (f c)) k xs) (k ∷ dedup_from (λ a c. E (f a) (f c)) x xs)) ≡ cond b (dedup_from E (f k) (map f xs)) (f k ∷ dedup_from E (f x) (map f xs))) [
        | true ↦ dedup_map_from k xs
        | false ↦ ap (λ l. f k ∷ l) (dedup_map_from x xs)
      ]

  pub dedup_map : (xs : List X) → map f (dedup (λ a b. E (f a) (f b)) xs) ≡ dedup E (map f xs)
  dedup_map [] = refl
  dedup_map (x ∷ xs) = dedup_map_from x xs

pub map_twice : {X Y Z : Type 0} (f : X → Y) (g : Y → Z) (xs : List X) → map (λ x. g (f x)) xs ≡ map g (map f xs)
map_twice f g [] = refl
map_twice f g (x ∷ xs) = ap (λ l. g (f x) ∷ l) (map_twice f g xs)

-- a property of some rows holds of the same rows
pub of_rows : (P : List Row → List Row → Type 0) (rs ss ts us : List Row) → rs ≡ ts → ss ≡ us → P rs ss → P ts us
of_rows P rs ss ts us e l p = subst (λ v. P ts v) l (subst (λ v. P v ss) e p)
