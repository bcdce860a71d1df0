-- The rows of a content ascend by entry, each with the status of its entry; and which of ascending rows come earlier.
use Rattle.std.proofs.Common.{◌≡◌, ℕ, ◌≤◌, true, false, List, [], ◌∷◌, ◌++◌, map, take, length, Some, refl, sym, ap, ◌∙◌, subst, inl, inr}
use Rattle.std.proofs.lemmas.Bool.{true≢false}
use Rattle.std.proofs.lemmas.List.{take_all, map-append}
use Rattle.std.proofs.lemmas.List.Elements.{Contains-append_cases}
use Rattle.std.specs.List.{Contains, flat_map}
use Rattle.std.specs.Cmp.{IsTotalOrder, on_total}
use Rattle.std.specs.Ordering.{is_lt, ordering_reverse}
use Rattle.std.specs.declared.cmp.Ordering.TheVariants.{Less}
use Rattle.reg_op.specs.Set as set
use Rattle.reg_op.specs.Set.{Ascends}
use Rattle.reg_op.specs.Ids.{Id, id_cmp, is_before}
use Rattle.reg_op.specs.Kept.{entering}
use Rattle.reg_op.specs.Lists.{AllAfter, ById}
use Rattle.reg_op.specs.Operations.{Op, Ops}
use Rattle.reg_op.specs.declared.operation.OpBody.{OpBody as Body}
use Rattle.reg_op.specs.declared.operation.OpBody.TheVariants.{Enter, Supersede, Retire}
use Rattle.reg_op.specs.Status.{enters, status}
use Rattle.reg_op.specs.Contents.{Content, IsContent}
use Rattle.reg_op.specs.Rows.{Row, newer_of, rows_at, rows}
use Rattle.reg_op.proofs.OpLemmas.{id_total}
use Rattle.reg_op.proofs.SetLemmas.{less}
use Rattle.reg_op.proofs.ItemLemmas.{items_by_id}
use Rattle.reg_op.proofs.ClashLemmas.{lt_id_itself}
use Rattle.reg_report.proofs.ConflictLemmas.{none_in, in_cons}
use Rattle.reg_report.specs.declared.row.Row.{Row as MadeRow}
use Rattle.reg_report.specs.Rows.{row_cmp}
use Rattle.reg_report.specs.Seen.{row_seen}
use Rattle.reg_report.proofs.EntryLemmas.{row_is_entered}
use Rattle.reg_report.proofs.PairLemmas.{it_enters}
use Rattle.reg_report.proofs.OrderLemmas.{first_before, rest_ascends, put_before}

pub row_total : IsTotalOrder row_cmp
row_total = on_total (λ (r : Row). r.entry) id_total

entry_of : (s : Ops) (i : Id) (b : Body) (r : Row) → Contains (rows_at s i b) r → r.entry ≡ i
entry_of s i (Enter text) r h = elim (in_cons r _ [] h) [ inl e ↦ ap (λ (q : Row). q.entry) e | inr d ↦ absurd (none_in r d) ]
entry_of s i (Supersede old newer) r h = absurd (none_in r h)
entry_of s i (Retire entry) r h = absurd (none_in r h)

abbrev rows_in : Ops → List Op → List Row
rows_in s os = flat_map (λ (o : Op). rows_at s o.id o.body) os

rows_after : (s : Ops) (i : Id) (os : List Op) → AllAfter i os → (r : Row) → Contains (rows_in s os) r → id_cmp i r.entry ≡ Less
rows_after s i [] up r h = absurd (none_in r h)
rows_after s i (o ∷ os) up r h = elim (Contains-append_cases (rows_at s o.id o.body) (rows_in s os) r h) [
  | inl here ↦ subst (λ k. id_cmp i k ≡ Less) (sym (entry_of s o.id o.body r here)) (less _ up.0)
  | inr later ↦ rows_after s i os up.1 r later
]

rows_ascend_in : (s : Ops) (os : List Op) → ById os → Ascends row_cmp (rows_in s os)
rows_ascend_in s [] up = tt
rows_ascend_in s (o ∷ os) up = by_body o.body (rows_ascend_in s os up.1)
  where
    by_body : (b : Body) → Ascends row_cmp (rows_in s os) → Ascends row_cmp (rows_at s o.id b ++ rows_in s os)
    by_body (Enter text) rest = put_before row_total (record { entry = o.id; definition = text; status = status s o.id; newer = set.items (newer_of s o.id) }) (rows_in s os) (rows_after s o.id os up.0) rest
    by_body (Supersede old newer) rest = rest
    by_body (Retire entry) rest = rest

pub rows_ascend : (x : Content) → IsContent x → Ascends row_cmp (rows x.ops)
rows_ascend x is = rows_ascend_in x.ops (set.items x.ops) (items_by_id x.ops is.one_body)

-- so do the rows of the first k operations, if there are no more
pub made_ascend : (x : Content) (os : List Op) (k : ℕ) (made : List MadeRow) → os ≡ set.items x.ops → length os ≤ k → map row_seen made ≡ rows_in x.ops (take k os) → IsContent x → Ascends row_cmp (map row_seen made)
made_ascend x os k made e h is content = subst (Ascends row_cmp) (sym (is ∙ ap (λ l. rows_in x.ops l) (take_all k os h ∙ e))) (rows_ascend x content)

-- ---- a row that is made

pub row_made : (s : Ops) (o : Op) (old new : List MadeRow) (row : MadeRow) (text : List ℕ) (b : Body) → set.contains s o ≡ true → b ≡ o.body → b ≡ Enter text → new ≡ old ++ row ∷ [] → row.entry ≡ o.id
    → row.definition ≡ text → (enters s o.id ≡ true → status s o.id ≡ Some row.status) → row.newer.items ≡ set.items (newer_of s o.id) → map row_seen new ≡ map row_seen old ++ rows_at s o.id o.body
row_made s o old new row text b there is enter pushed at defined stands newer =
    let status_is : Some row.status ≡ status s o.id = sym (stands (it_enters s o o.id text b there is enter refl)) in
    ap (map row_seen) pushed ∙ map-append row_seen old (row ∷ [])
    ∙ ap (λ l. map row_seen old ++ l) ((λ k. record { entry = at k; definition = defined k; status = status_is k; newer = newer k } ∷ []) ∙ ap (rows_at s o.id) (sym enter ∙ is))

-- ---- the status of a row

at_op : (s : Ops) (e : Id) (b : Body) (r : Row) → Contains (rows_at s e b) r → r.status ≡ status s r.entry
at_op s e (Enter text) r h = elim (in_cons r _ [] h) [
  | inl same ↦ subst (λ (q : Row). q.status ≡ status s q.entry) (sym same) refl
  | inr later ↦ absurd (none_in r later)
]
at_op s e (Supersede old newer) r h = absurd (none_in r h)
at_op s e (Retire entry) r h = absurd (none_in r h)

among_ops : (s : Ops) (os : List Op) (r : Row) → Contains (rows_in s os) r → r.status ≡ status s r.entry
among_ops s [] r h = absurd (none_in r h)
among_ops s (o ∷ os) r h = elim (Contains-append_cases (rows_at s o.id o.body) (rows_in s os) r h) [
  | inl here ↦ at_op s o.id o.body r here
  | inr later ↦ among_ops s os r later
]

-- a row has the status of its entry
pub row_status : (s : Ops) (r : Row) → Contains (rows s) r → r.status ≡ status s r.entry
row_status s r h = among_ops s (set.items s) r h

pub row_enters : (s : Ops) (r : Row) → Contains (rows s) r → enters s r.entry ≡ true
row_enters s r h =
    let o = row_is_entered s r h in
    it_enters s (entering r.entry r.definition o.0) r.entry r.definition (Enter r.definition) o.1 refl refl refl

-- ---- earlier and later rows

never_back : (a b : Id) → id_cmp a b ≡ Less → is_before b a ≡ false
never_back a b h = ap is_lt (id_total.antisymm b a ∙ ap ordering_reverse h)

-- what stands behind a row is not before it
behind : (front back : List Row) (x : Row) → Ascends row_cmp (front ++ x ∷ back) → (r : Row) → Contains back r → is_before r.entry x.entry ≡ false
behind [] back x up r h = never_back x.entry r.entry (first_before row_total x back up r h)
behind (q ∷ front) back x up r h = behind front back x (rest_ascends row_total q (front ++ x ∷ back) up) r h

-- what is before a row stands in front of it
pub in_front : (front back : List Row) (x : Row) → Ascends row_cmp (front ++ x ∷ back) → (r : Row) → Contains (front ++ x ∷ back) r → is_before r.entry x.entry ≡ true → Contains front r
in_front front back x up r h b = elim (Contains-append_cases front (x ∷ back) r h) [
  | inl early ↦ early
  | inr late ↦ elim (in_cons r x back late) [
    | inl same ↦ absurd (true≢false (sym b ∙ ap (λ (q : Row). is_before q.entry x.entry) same ∙ lt_id_itself x.entry))
    | inr later ↦ absurd (true≢false (sym b ∙ behind front back x up r later))
  ]
]
