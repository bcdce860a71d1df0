-- The pairs of the page are those of the register's keys in conflict.
use Rattle.std.proofs.Common.{◌≡◌, ◌≢◌, ◌⊎◌, ℕ, true, filter, List, [], ◌∷◌, ◌++◌, map, Option, Some, None, refl, sym, ap, ap₂, ◌∙◌, subst, inl, inr}
use Rattle.std.proofs.lemmas.Bool.{true≢false}
use Rattle.std.proofs.lemmas.List.{map-append}
use Rattle.std.proofs.lemmas.List.Sorted.{Contains-permutation}
use Rattle.std.proofs.lemmas.Map.Views.{Contains-from_any}
use Rattle.std.specs.List.{Contains}
use Rattle.std.specs.List.Sorted.{IsPermutation}
use Rattle.std.specs.Cmp.{Equal-is, tied_itself}
use Rattle.std.specs.Ordering.{is_eq, eq_by_cmp}
use Rattle.html_page.specs.Shown as shown
use Rattle.reg_op.specs.Contents.{Content, IsContent}
use Rattle.reg_op.specs.Ids.{Id, id_cmp, is_same}
use Rattle.reg_op.specs.Kept.{entering}
use Rattle.reg_op.specs.Operations.{Op, Ops, op_cmp, text_of}
use Rattle.reg_op.specs.Rows.{Row, IsInConflict, rows}
use Rattle.reg_op.specs.Set as set
use Rattle.reg_op.specs.Status.{is_enter}
use Rattle.reg_op.specs.Text.{printed}
use Rattle.reg_op.proofs.OpLemmas.{id_total, op_exact, is_same_exact}
use Rattle.reg_report.specs.Conflicts.{KeyBytes, HasKey, Stands, Contested, AreConflicts}
use Rattle.reg_report.proofs.ConflictLemmas.{none_in, in_cons, in_head, in_tail, in_map, from_map, any_of_member}
use Rattle.reg_report.proofs.EntryLemmas.{row_is_entered}
use Rattle.crs_sense.specs.declared.rule.Rule.{Rule}
use Rattle.reg_page.specs.declared.described.Described.{Described}
use Rattle.reg_page.specs.Descriptions.{entry_ids}
use Rattle.reg_page.specs.Page.{described_at, pairs_of, pairs_from, pairs_among, conflict_of, IsShown}
use Rattle.reg_page.specs.Pairs.{Paired, neighbours_from, neighbours, sides, paired, contested, IsPaired}
use Rattle.reg_page.proofs.FindLemmas.{ids_of, has_id, lacks}
use Rattle.reg_page.proofs.SideLemmas.{filter_in}

same_itself : (i : Id) → is_same i i ≡ true
same_itself i = ap is_eq (tied_itself id_total i)

-- ---- each entry of the register is described

in_items : (s : Ops) (o : Op) → set.contains s o ≡ true → Contains (set.items s) o
in_items s o h = Contains-from_any {eq = eq_by_cmp op_cmp} (λ x y e. op_exact x y ((Equal-is (op_cmp x y)).0 e)) o (set.items s) (sym (set.contains-items s o) ∙ h)

entered : (s : Ops) (r : Row) → Contains (rows s) r → Contains (entry_ids s) r.entry
entered s r h =
    let there = row_is_entered s r h in
    let o = entering r.entry r.definition there.0 in
    in_map (λ (p : Op). p.id) (filter (λ (p : Op). is_enter p.body) (set.items s)) o (filter_in (λ (p : Op). is_enter p.body) (set.items s) o (in_items s o there.1) refl)

module _ (s : Ops) (described : List Described) (ids : IsPermutation (entry_ids s) (ids_of described)) where
  abbrev IsThere : Id → Type 0
  IsThere i = (t : Described) × (described_at described i ≡ Some t) × (printed t.id ≡ printed i)

  there : (i : Id) → Contains (entry_ids s) i → IsThere i
  there i c =
      let m = from_map (λ (t : Described). t.id) described i (Contains-permutation (entry_ids s) (ids_of described) i ids c) in
      elim (described_at described i) as (λ (o : Option Described). described_at described i ≡ o → IsThere i) [
        | None ↦ λ e. absurd (true≢false (sym (subst (λ k. is_same k i ≡ true) m.2 (same_itself i)) ∙ lacks described i e m.0 m.1))
        | Some t ↦ λ e. (t, e, ap printed (is_same_exact t.id i (has_id described i t e)))
      ] refl

  one_pair : (i k : Id) → IsThere i → IsThere k → map sides (pairs_of (described_at described i) (described_at described k)) ≡ (printed i, printed k) ∷ []
  one_pair i k a b =
      let seen : map sides (pairs_of (Some a.0) (Some b.0)) ≡ (printed i, printed k) ∷ [] = λ j. (a.2 j, b.2 j) ∷ [] in
      (λ j. map sides (pairs_of (a.1 j) (b.1 j))) ∙ seen

  from : (i : Id) (is : List Id) → Contains (entry_ids s) i → ((k : Id) → Contains is k → Contains (entry_ids s) k) → map sides (pairs_from described i is) ≡ neighbours_from (printed i) (map printed is)
  from i [] here all = refl
  from i (k ∷ ks) here all =
      let next = all k (in_head k ks) in
      map-append sides (pairs_of (described_at described i) (described_at described k)) (pairs_from described k ks)
      ∙ ap₂ (λ p ps. p ++ ps) (one_pair i k (there i here) (there k next)) (from k ks next (λ l c. all l (in_tail l k ks c)))

  among : (is : List Id) → ((k : Id) → Contains is k → Contains (entry_ids s) k) → map sides (pairs_among described is) ≡ neighbours (map printed is)
  among [] all = refl
  among (i ∷ is) all = from i is (all i (in_head i is)) (λ k c. all k (in_tail k i is c))

  all_paired : (ks : List Contested) → ((c : Contested) → Contains ks c → (i : Id) → Contains c.entries i → Contains (entry_ids s) i) → map paired (map (conflict_of described) ks) ≡ map contested ks
  all_paired [] all = refl
  all_paired (k ∷ ks) all =
      (λ j. ((k.key.authority, k.key.code), among k.entries (all k (in_head k ks)) j) ∷ all_paired ks (λ c h. all c (in_tail c k ks h)) j)

-- ---- the entries of keys in conflict

-- an id is among a key's entries exactly if it stands there
stands_from : (rs : List Row) (cs : List Contested) → AreConflicts rs cs → (c : Contested) → Contains cs c → (i : Id) → Contains c.entries i → Stands rs c.key i
stands_from rs cs h c there i has =
    let e = h.entries c there in
    (e.2 i).0 (set.contains-items e.0 i ∙ any_of_member (eq_by_cmp id_cmp i) (set.items e.0) i (subst (λ is. Contains is i) e.1 has) (same_itself i))

stands_in : (rs : List Row) (cs : List Contested) → AreConflicts rs cs → (c : Contested) → Contains cs c → (i : Id) → Stands rs c.key i → Contains c.entries i
stands_in rs cs h c there i stands =
    let e = h.entries c there in
    subst (λ is. Contains is i) (sym e.1) (Contains-from_any {eq = eq_by_cmp id_cmp} is_same_exact i (set.items e.0) (sym (set.contains-items e.0 i) ∙ (e.2 i).1 stands))

pub are_paired : (rules : List Rule) (title : List ℕ) (x : Content) (s : shown.Shown) → IsShown rules title x s → (cs : List Contested) × AreConflicts (rows x.ops) cs × (map paired s.conflicts ≡ map contested cs)
are_paired rules title x s h =
    let rs = rows x.ops in
    let listed = all_paired x.ops h.described h.are_described.ids h.conflicts (λ c there i has.
    let stands = stands_from rs h.conflicts h.are_conflicts c there i has in
    subst (Contains (entry_ids x.ops)) stands.is (entered x.ops stands.row stands.there)) in
    (h.conflicts, h.are_conflicts, (λ j. map paired (h.is j).conflicts) ∙ listed)

-- ---- each entry of a key in conflict is in a pair

abbrev Two : Type 0
Two = List ℕ × List ℕ

abbrev Beside : List Two → List ℕ → Type 0
Beside ps i = (p : Two) × Contains ps p × ((p.0 ≡ i) ⊎ (p.1 ≡ i))

has_neighbour : (x y : List ℕ) (ys : List (List ℕ)) (i : List ℕ) → Contains (x ∷ y ∷ ys) i → Beside (neighbours_from x (y ∷ ys)) i
has_neighbour x y [] i c = elim (in_cons i x (y ∷ []) c) [
  | inl e ↦ ((x, y), in_head {X = Two} (x, y) [], inl (sym e))
  | inr d ↦ elim (in_cons i y [] d) [
    | inl e ↦ ((x, y), in_head {X = Two} (x, y) [], inr (sym e))
    | inr none ↦ absurd (none_in i none)
  ]
]
has_neighbour x y (z ∷ zs) i c = elim (in_cons i x (y ∷ z ∷ zs) c) [
  | inl e ↦ ((x, y), in_head {X = Two} (x, y) (neighbours_from y (z ∷ zs)), inl (sym e))
  | inr d ↦
      let later = has_neighbour y z zs i d in
      (later.0, in_tail {X = Two} later.0 (x, y) (neighbours_from y (z ∷ zs)) later.1, later.2)
]

-- two different ids are among some, so each of these has a neighbour
two_have : (is : List Id) (a b i : Id) → Contains is a → Contains is b → a ≢ b → Contains is i → Beside (neighbours (map printed is)) (printed i)
two_have [] a b i ha hb apart hi = absurd (none_in a ha)
two_have (x ∷ []) a b i ha hb apart hi = elim (in_cons a x [] ha) [
  | inl e ↦ elim (in_cons b x [] hb) [
    | inl f ↦ absurd (apart (e ∙ sym f))
    | inr none ↦ absurd (none_in b none)
  ]
  | inr none ↦ absurd (none_in a none)
]
two_have (x ∷ y ∷ ys) a b i ha hb apart hi = has_neighbour (printed x) (printed y) (map printed ys) (printed i) (in_map printed (x ∷ y ∷ ys) i hi)

-- two rows of one entry have one text
one_text : (x : Content) → IsContent x → (a b : Row) → Contains (rows x.ops) a → Contains (rows x.ops) b → a.entry ≡ b.entry → a.definition ≡ b.definition
one_text x is a b ha hb e =
    let first = row_is_entered x.ops a ha in
    let second = row_is_entered x.ops b hb in
    ap (λ (o : Op). text_of o.body) (is.one_body (entering a.entry a.definition first.0) (entering b.entry b.definition second.0) first.1 second.1 e)

pub is_paired : (rules : List Rule) (title : List ℕ) (x : Content) (s : shown.Shown) → IsContent x → IsShown rules title x s → (k : KeyBytes) → IsInConflict HasKey (rows x.ops) k → (i : Id) → Stands (rows x.ops) k i → IsPaired s k i
is_paired rules title x s is h k conflict i stands =
    let rs = rows x.ops in
    let all = are_paired rules title x s h in
    let m = from_map (λ (c : Contested). c.key) all.0 k ((all.1.each k).1 conflict) in
    let c : Contested = m.0 in
    let at : (j : Id) → Stands rs k j → Contains c.entries j = λ j st. stands_in rs all.0 all.1 c m.1 j (subst (λ l. Stands rs l j) m.2 st) in
    let one = at conflict.one.entry (record { row = conflict.one; there = conflict.has_one; is = refl; stands = conflict.one_stands; keyed = conflict.key_of_one }) in
    let other = at conflict.other.entry (record { row = conflict.other; there = conflict.has_other; is = refl; stands = conflict.other_stands; keyed = conflict.key_of_other }) in
    let apart : conflict.one.entry ≢ conflict.other.entry = λ e. conflict.differ (one_text x is conflict.one conflict.other conflict.has_one conflict.has_other e) in
    let beside = two_have c.entries conflict.one.entry conflict.other.entry i one other apart (at i stands) in
    let d = from_map paired s.conflicts (contested c) (subst (λ l. Contains l (contested c)) (sym all.2) (in_map contested all.0 c m.1)) in
    let p = from_map sides (d.0).pairs beside.0 (subst (λ ps. Contains ps beside.0) (ap (λ (q : Paired). q.1) d.2) beside.1) in
    record {
      conflict = d.0;
      there = d.1;
      authority = sym (ap (λ (q : Paired). q.0.0) d.2) ∙ sym (ap (λ (l : KeyBytes). l.authority) m.2);
      code = sym (ap (λ (q : Paired). q.0.1) d.2) ∙ sym (ap (λ (l : KeyBytes). l.code) m.2);
      pair = p.0;
      below = p.1;
      is = elim beside.2 [
        | inl e ↦ inl (sym (ap (λ (q : Two). q.0) p.2) ∙ e)
        | inr e ↦ inr (sym (ap (λ (q : Two). q.1) p.2) ∙ e)
      ];
    }
