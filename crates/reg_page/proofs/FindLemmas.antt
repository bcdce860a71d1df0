-- The description with an id, among descriptions in any order.
use Rattle.std.proofs.Common.{◌≡◌, ℕ, ◌+◌, ◌<◌, true, false, cond, List, [], ◌∷◌, map, length, get_or, zero, suc, Option, Some, None, Err, refl, sym, ap, ◌∙◌, subst, inl, inr, arith}
use Rattle.std.proofs.lemmas.Bool.{false_from_ne_true}
use Rattle.std.proofs.lemmas.List.Sorted.{ranks_by, searchable_from_sorted, Contains-permutation, IsPermutation-sym, IsPermutation-map}
use Rattle.std.proofs.lemmas.Map.Keys.{IsDistinct-tail}
use Rattle.std.specs.List.{Contains, HoldsAt, IsDistinct}
use Rattle.std.specs.List.Sorted.{IsPermutation, IsSortedBy, IsPartitionPoint, IsBinarySearchResult}
use Rattle.std.specs.Cmp.{Equal-is}
use Rattle.std.specs.Ordering.{is_lt, is_eq}
use Rattle.std.specs.declared.cmp.Ordering.{Ordering}
use Rattle.std.specs.declared.cmp.Ordering.TheVariants.{Less, Equal, Greater}
use Rattle.reg_op.specs.Ids.{Id, id_cmp, is_same}
use Rattle.reg_op.proofs.OpLemmas.{id_total, is_same_exact}
use Rattle.reg_op.proofs.PointLemmas.{lt_or_ge}
use Rattle.reg_report.proofs.ConflictLemmas.{none_in, in_cons, in_head, in_tail, in_map}
use Rattle.reg_page.specs.declared.described.Described.{Described}
use Rattle.reg_page.specs.Descriptions.{AscendById}
use Rattle.reg_page.specs.Page.{described_at}
use Rattle.reg_page.proofs.IdLemmas.{distinct, still_distinct, differs}
use Rattle.reg_page.proofs.SideLemmas.{found_in}

abbrev pub ids_of : List Described → List Id
ids_of ts = map (λ (t : Described). t.id) ts

-- if the ids are distinct, the description with the id is found
found : (ts : List Described) → IsDistinct is_same (ids_of ts) → (t : Described) (i : Id) → Contains ts t → is_same t.id i ≡ true → described_at ts i ≡ Some t
found [] d t i c e = absurd (none_in t c)
found (u ∷ ts) d t i c e = elim (in_cons t u ts c) [
  | inl is ↦ subst (λ (v : Described). described_at (v ∷ ts) i ≡ Some t) is (ap (λ b. cond b (Some t) (described_at ts i)) e)
  | inr after ↦
      let other : is_same u.id i ≡ false = subst (λ j. is_same u.id j ≡ false) (is_same_exact t.id i e) (differs u.id (ids_of ts) d t.id (in_map (λ (v : Described). v.id) ts t after)) in
      ap (λ b. cond b (Some u) (described_at ts i)) other ∙ found ts (IsDistinct-tail is_same u.id (ids_of ts) d) t i after e
]

missing : (ts : List Described) (i : Id) → ((t : Described) → Contains ts t → is_same t.id i ≡ false) → described_at ts i ≡ None
missing [] i h = refl
missing (t ∷ ts) i h = ap (λ b. cond b (Some t) (described_at ts i)) (h t (in_head t ts)) ∙ missing ts i (λ u c. h u (in_tail u t ts c))

pub has_id : (ts : List Described) (i : Id) (t : Described) → described_at ts i ≡ Some t → is_same t.id i ≡ true
has_id [] i t e = absurd cc
has_id (u ∷ ts) i t e =
    elim (is_same u.id i) as (λ b. is_same u.id i ≡ b → cond b (Some u) (described_at ts i) ≡ Some t → is_same t.id i ≡ true) [
      | true ↦ λ same h. let is : u ≡ t = cc in subst (λ (v : Described). is_same v.id i ≡ true) is same
      | false ↦ λ _ h. has_id ts i t h
    ] refl e

pub lacks : (ts : List Described) (i : Id) → described_at ts i ≡ None → (t : Described) → Contains ts t → is_same t.id i ≡ false
lacks [] i e t c = absurd (none_in t c)
lacks (u ∷ ts) i e t c =
    elim (is_same u.id i) as (λ b. is_same u.id i ≡ b → cond b (Some u) (described_at ts i) ≡ None → is_same t.id i ≡ false) [
      | true ↦ λ _ h. absurd cc
      | false ↦ λ other h. elim (in_cons t u ts c) [
        | inl is ↦ subst (λ (v : Described). is_same v.id i ≡ false) (sym is) other
        | inr after ↦ lacks ts i h t after
      ]
    ] refl e

-- a permutation of the descriptions has the same one with each id
pub same_at : (ts us : List Described) → AscendById ts → IsPermutation ts us → (i : Id) → described_at ts i ≡ described_at us i
same_at ts us up p i =
    let apart : IsDistinct is_same (ids_of us) = still_distinct (ids_of ts) (ids_of us) (IsPermutation-map (λ (t : Described). t.id) ts us p) (distinct (ids_of ts) up) in
    elim (described_at ts i) as (λ (o : Option Described). described_at ts i ≡ o → o ≡ described_at us i) [
      | None ↦ λ e. sym (missing us i (λ t c. lacks ts i e t (Contains-permutation us ts t (IsPermutation-sym ts us p) c)))
      | Some t ↦ λ e. sym (found us apart t i (Contains-permutation ts us t p (found_in (λ (u : Described). is_same u.id i) ts t e)) (has_id ts i t e))
    ] refl

-- ---- a binary search

absent : (ord : Described → Ordering) (ts : List Described) (p : ℕ) → IsPartitionPoint (λ y. ord y ≡ Less) (λ y. ord y ≡ Greater) ts p → (t : Described) → Contains ts t → ord t ≡ Equal → ⊥
absent ord ts p point t h same = elim (lt_or_ge h.0 p) [
  | inl below ↦ let no : Less ≡ Equal = sym (point.0 h.0 t (omega arith) below) ∙ ap ord h.2 ∙ same in absurd cc
  | inr above ↦ let no : Greater ≡ Equal = sym (point.1 h.0 t above h.1) ∙ ap ord h.2 ∙ same in absurd cc
]

sorted : (ts : List Described) → AscendById ts → IsSortedBy (λ (a b : Described). is_lt (id_cmp a.id b.id)) ts
sorted [] up k d low h = absurd (omega arith)
sorted (t ∷ []) up k d low h = absurd (omega arith)
sorted (t ∷ u ∷ ts) up zero d low h = (ranks_by id_total (λ (i : Id). i)).one_way t.id u.id (ap is_lt up.0)
sorted (t ∷ u ∷ ts) up (suc k) d low h =
    let e : suc k + 1 ≡ suc (k + 1) = omega arith in
    subst (λ m. is_lt (id_cmp (get_or (t ∷ u ∷ ts) m d).id (get_or (u ∷ ts) k d).id) ≡ false) (sym e) (sorted (u ∷ ts) up.1 k d (omega arith) (omega arith))

pub found_at : (ts : List Described) (place : ℕ) (t : Described) (i : Id) → AscendById ts → place < length ts → t ≡ get_or ts place t → HoldsAt (λ (y : Described). id_cmp y.id i ≡ Equal) ts place
    → Some t ≡ described_at ts i
found_at ts place t i up h is equal = sym (found ts (distinct (ids_of ts) up) t i (place, h, sym is) (ap is_eq (ap (λ (y : Described). id_cmp y.id i) is ∙ equal t)))

pub none_at : (ts : List Described) (i : Id) (p : ℕ) → AscendById ts → IsBinarySearchResult (λ (y : Described). id_cmp y.id i) ts (Err p) → None ≡ described_at ts i
none_at ts i p up searched =
    let point = searched (searchable_from_sorted id_total (λ (y : Described). y.id) ts i (sorted ts up)) in
    sym (missing ts i (λ t c. false_from_ne_true _ (λ same. absent (λ (y : Described). id_cmp y.id i) ts p point t c ((Equal-is (id_cmp t.id i)).0 same))))
