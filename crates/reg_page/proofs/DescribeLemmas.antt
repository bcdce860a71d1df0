-- The descriptions of entries, and their order.
use Rattle.std.proofs.Common.{◌≡◌, ℕ, ◌+◌, zero, suc, true, false, All, List, [], ◌∷◌, map, get_or, arith, refl, sym, ◌∙◌, subst}
use Rattle.std.specs.Borrow.{Bor}
use Rattle.std.proofs.lemmas.Cmp.{nat_list_cmp_total}
use Rattle.std.proofs.lemmas.List.Sorted.{ranks_by, All-permutation, IsPermutation-map}
use Rattle.std.specs.List.Sorted.{IsSorted, IsSortedBy, IsPermutation}
use Rattle.std.specs.Cmp.{IsTotalOrder, IsStrictWeakOrder, then_total, on_total}
use Rattle.std.specs.Ordering.{is_lt}
use Rattle.reg_op.specs.Set as set
use Rattle.reg_op.specs.Ids.{Id}
use Rattle.reg_op.specs.Operations.{Op, Ops}
use Rattle.reg_op.specs.declared.operation.OpBody.TheVariants.{Enter}
use Rattle.reg_op.proofs.OpLemmas.{id_total}
use Rattle.crs_sense.specs.declared.rule.Rule.{Rule}
use Rattle.reg_page.specs.declared.described.Described.{Described}
use Rattle.reg_page.proofs.CodeLemmas.{code_total}
use Rattle.reg_page.specs.Descriptions.{DescribesEntry, IsDescribed, described_cmp, AreDescribed, AreById, at, InOrder}

-- a description of the entry that an operation of s enters describes an entry of s
pub described_here : (rules : List Rule) (s : Ops) (o : Op) (i : Id) (d written : List ℕ) (t : Described) → set.contains s o ≡ true → o.body ≡ Enter d → i ≡ o.id → written ≡ o.note → DescribesEntry rules i d written t → IsDescribed rules s t
described_here rules s o i d written t there body id note h = record {
  definition = d;
  note = written;
  entered = subst (λ (p : Op). set.contains s p ≡ true) (λ j. record { id = (sym (h.id ∙ id)) j; body = body j; note = (sym note) j }) there;
  described = record {
    id = refl;
    keyed = h.keyed;
    note = h.note;
    system = h.system;
  };
}

pub alone : (P : Described → Type 0) (t : Described) → P t → All P (t ∷ [])
alone P t p zero d h = p
alone P t p (suc k) d h = absurd (omega (arith, h))

-- ---- the order of descriptions

pub described_total : IsTotalOrder described_cmp
described_total =
    then_total (on_total (λ (t : Described). t.key.authority.bytes) nat_list_cmp_total)
    (then_total (on_total (λ (t : Described). t.key.code.bytes) code_total) (on_total (λ (t : Described). t.id) id_total))

pub by_described : IsStrictWeakOrder (λ (a b : Bor Described). is_lt (described_cmp a.now b.now))
by_described = ranks_by described_total (λ (t : Bor Described). t.now)

-- sorted references give sorted descriptions
pub sorted_at : (ts : List (Bor Described)) → IsSortedBy (λ (a b : Bor Described). is_lt (described_cmp a.now b.now)) ts → IsSorted described_cmp (at ts)
sorted_at [] up k d low h = absurd (omega (arith, h))
sorted_at (t ∷ []) up k d low h = absurd (omega (arith, h))
sorted_at (t ∷ u ∷ ts) up zero d low h = up 0 t (omega arith) (omega arith)
sorted_at (t ∷ u ∷ ts) up (suc k) d low h =
    let e : suc k + 1 ≡ suc (k + 1) = omega arith in
    subst (λ m. is_lt (described_cmp (get_or (at (t ∷ u ∷ ts)) m d) (get_or (at (u ∷ ts)) k d)) ≡ false) (sym e)
    (sorted_at (u ∷ ts) (λ i v a b.
    let f : suc i + 1 ≡ suc (i + 1) = omega arith in
    subst (λ m. is_lt (described_cmp (get_or (t ∷ u ∷ ts) m v).now (get_or (u ∷ ts) i v).now) ≡ false) f (up (suc i) v (omega arith) (omega arith))) k d (omega arith) (omega (arith, h)))

-- the descriptions by id, sorted by key, are those of the page
pub in_order : (rules : List Rule) (s : Ops) (ts rows : List Described) → AreById rules s ts → InOrder ts rows → AreDescribed rules s rows
in_order rules s ts rows h order = record {
  each = All-permutation (IsDescribed rules s) ts rows order.same h.each;
  ids = subst (λ l. IsPermutation l (map (λ (t : Described). t.id) rows)) h.ids (IsPermutation-map (λ (t : Described). t.id) ts rows order.same);
  sorted = order.sorted;
}
