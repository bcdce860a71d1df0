-- The tables of a register, and the join of two.
use Rattle.std.proofs.Common.{◌≡◌, ℕ, Bool, true, false, not, ◌&&◌, ◌||◌, cond, List, [], ◌∷◌, refl, sym, ap, ◌∙◌, subst, inl, inr, ◌⊎◌, Option, Some, None, Ok, Err}
use Rattle.std.proofs.lemmas.Bool.{true≢false, and_parts, or_cases, false_from_ne_true, not-true}
use Rattle.std.proofs.lemmas.List.Folds.{list_any-append}
use Rattle.std.specs.List.{list_any, find}
use Rattle.std.proofs.Common.{Result, length, arith, ◌<◌, get_or, IfSome, IfNone, is_some}
use Rattle.std.proofs.lemmas.List.Folds.{list_any_at}
use Rattle.std.proofs.Math.Bool.{and_comm, or-false}
use Rattle.std.specs.Option.{option_map}
use Rattle.std.specs.Cmp.{Equal-is, tied_itself}
use Rattle.std.specs.Ordering.{is_eq, eq_by_cmp}
use Rattle.reg_op.specs.Set as set
use Rattle.std.specs.declared.convert.Infallible.{Infallible}
use Rattle.reg_op.specs.Set.{contains, union, items, contains-from_list, same_set}
use Rattle.reg_op.specs.Ids.{Id}
use Rattle.reg_op.specs.Operations.{Op}
use Rattle.reg_op.specs.declared.operation.OpBody.{OpBody as Body}
use Rattle.reg_op.specs.declared.operation.OpBody.TheVariants.{Enter, Supersede, Retire}
use Rattle.reg_op.specs.Finite.{any}
use Rattle.reg_op.specs.Ids.{Ids, IsId, is_same, is_before}
use Rattle.reg_op.specs.Operations.{IsOperation, Ops, replaces_body, op_cmp, clashes, replaces, kept, first_clash, has_other_body, OneBody}
use Rattle.reg_op.specs.Contents.{Content, merged, joined, joined_unless, IsContent}
use Rattle.reg_op.proofs.FiniteLemmas.{any_from_member, member_from_any, any-union, some_of}
use Rattle.reg_op.proofs.OpLemmas.{op_total, op_exact, is_same_exact}
use Rattle.reg_op.proofs.ContentLemmas.{contains_op-union, contains-kept, union_left, union_right, one_body_from, same_content, nothing_is_content}
use Rattle.reg_op.proofs.OneLemmas.{any-from_list, merged_is_content}
use Rattle.reg_op.proofs.ClashLemmas.{items_are, items_rise, found, any_of, Matched, same_first, rises_by_id, clashes_back, same_no_clash, lt_id_itself}
use Rattle.reg_state.specs.MarkSets.{MarkSet, is_at}
use Rattle.reg_state.specs.MarkLaws.{least-empty}
use Rattle.reg_state.specs.Marks.{marks_of, marks_of_body, least_marks, op_of}
use Rattle.reg_op.specs.Lists.{has, AllAfter, ById}
use Rattle.reg_state.specs.Merge.{Agree, clash_in, is_marked_off, stays, first_off}
use Rattle.reg_op.specs.Lists.{content_at}
use Rattle.reg_op.specs.Kept.{first_dropped}
use Rattle.reg_state.specs.Tables.{AreTables}
use Rattle.reg_op.specs.declared.status.Status.{Status}
use Rattle.reg_op.specs.declared.status.Status.TheVariants.{Retired, Superseded, Valid}
use Rattle.reg_op.specs.Status.{enters, retires, supersedes, status, is_enter, is_retirement, is_supersession}
use Rattle.reg_state.proofs.MarkLemmas.{any_marks, any_retired, any_superseded, any_touched}
use Rattle.reg_state.proofs.MarkJoin.{replacing_falls}

-- ---- the least clash of two lists is that of the union of their sets

module _ (xs ys : List Op) (up : ById xs) (vp : ById ys) (one : OneBody (set.from_list {R = op_cmp} xs)) (two : OneBody (set.from_list {R = op_cmp} ys)) where
  abbrev both_of : Ops
  both_of = union (set.from_list {R = op_cmp} xs) (set.from_list {R = op_cmp} ys)

  abbrev across : Op → Bool
  across o = list_any (λ p. clashes p o) ys

  in_left : (o : Op) → has xs o ≡ true → contains both_of o ≡ true
  in_left o h = union_left (set.from_list xs) (set.from_list ys) o (contains-from_list op_total xs o ∙ h)

  in_right : (o : Op) → has ys o ≡ true → contains both_of o ≡ true
  in_right o h = union_right (set.from_list xs) (set.from_list ys) o (contains-from_list op_total ys o ∙ h)

  in_either : (o : Op) → contains both_of o ≡ true → (has xs o ≡ true) ⊎ (has ys o ≡ true)
  in_either o h = elim (or_cases (contains (set.from_list {R = op_cmp} xs) o) (contains (set.from_list {R = op_cmp} ys) o) (sym (contains_op-union (set.from_list xs) (set.from_list ys) o) ∙ h)) [
    | inl a ↦ inl (sym (contains-from_list op_total xs o) ∙ a)
    | inr b ↦ inr (sym (contains-from_list op_total ys o) ∙ b)
  ]

  walked : Matched across xs (has_other_body both_of) (items both_of)
  walked o h k =
      let p = some_of op_total op_exact (λ p. clashes p o) ys k in
      (o, sym (set.contains-items both_of o) ∙ in_left o h, any_from_member op_total op_exact (λ p. clashes p o) both_of p.0 (in_right p.0 p.1) p.2, refl)

  found_in_walk : Matched (has_other_body both_of) (items both_of) across xs
  found_in_walk o h k =
      let there = set.contains-items both_of o ∙ h in
      let p = member_from_any op_total op_exact (λ p. clashes p o) both_of k in
      elim (in_either o there) [
        | inl a ↦ elim (in_either p.0 p.1) [
          | inl b ↦ absurd (same_no_clash (set.from_list xs) p.0 o one (contains-from_list op_total xs p.0 ∙ b) (contains-from_list op_total xs o ∙ a) p.2)
          | inr b ↦ (o, a, any_of (λ q. clashes q o) ys p.0 b p.2, refl)
        ]
        | inr a ↦ elim (in_either p.0 p.1) [
          | inl b ↦ (p.0, b, any_of (λ q. clashes q p.0) ys o a (clashes_back p.0 o p.2), is_same_exact p.0.id o.id (and_parts _ _ p.2).0)
          | inr b ↦ absurd (same_no_clash (set.from_list ys) p.0 o two (contains-from_list op_total ys p.0 ∙ b) (contains-from_list op_total ys o ∙ a) p.2)
        ]
      ]

  pub clash_is : clash_in xs ys ≡ first_clash both_of
  clash_is = same_first across (has_other_body both_of) xs (items both_of) (rises_by_id xs up) (items_rise both_of) walked found_in_walk

-- ---- the marks replace what their operations replace

pub enter_replaces : (e note : List ℕ) (q : Op) (i : Id) → replaces (record { id = i; body = Enter e; note = note }) q ≡ false
enter_replaces e note q i = from (is_before i q.id) q.body
  where
    from : (b : Bool) (x : Body) → replaces_body b (Enter e) x ≡ false
    from b (Enter t) = refl
    from b (Supersede old newer) = refl
    from b (Retire entry) = refl

marks_replace : (os : List Op) (q : Op) → list_any (λ m. replaces (op_of m) q) (marks_of os) ≡ list_any (λ p. replaces p q) os
marks_replace [] q = refl
marks_replace (o ∷ os) q =
    list_any-append (λ m. replaces (op_of m) q) (marks_of_body o.id o.body) (marks_of os) ∙ (λ k. one o.body k || marks_replace os q k)
  where
    one : (b : Body) → list_any (λ m. replaces (op_of m) q) (marks_of_body o.id b) ≡ replaces (record { id = o.id; body = b; note = o.note }) q
    one (Enter e) = sym (enter_replaces e o.note q o.id)
    one (Supersede old newer) = or-false _
    one (Retire entry) = or-false _

pub marked_off : (os : List Op) (ms : MarkSet) → ms ≡ least_marks os → (q : Op) → is_marked_off ms q ≡ any (λ p. replaces p q) (set.from_list {R = op_cmp} os)
marked_off os ms marked q = any_marks (λ m. replaces (op_of m) q) (replacing_falls q) os ms marked ∙ marks_replace os q ∙ sym (any-from_list (λ p. replaces p q) os)

-- ---- the join

pub kept_is : (xs ys out : List Op) (ms ns : MarkSet)
    → ms ≡ least_marks xs → ns ≡ least_marks ys
    → ((q : Op) → has out q ≡ (stays ms ns q && (has xs q || has ys q)))
    → set.from_list {R = op_cmp} out ≡ kept (union (set.from_list {R = op_cmp} xs) (set.from_list {R = op_cmp} ys))
kept_is xs ys out ms ns left right covered =
    let s : Ops = set.from_list xs in
    let t : Ops = set.from_list ys in
    same_set op_total op_exact _ _ (λ q.
    contains-from_list op_total out q
    ∙ covered q
    ∙ (λ k. not (marked_off xs ms left q k || marked_off ys ns right q k) && (sym (contains-from_list op_total xs q) k || sym (contains-from_list op_total ys q) k))
    ∙ and_comm (not (any (λ p. replaces p q) s || any (λ p. replaces p q) t)) (contains s q || contains t q)
    ∙ sym (contains-kept (union s t) q ∙ (λ k. contains_op-union s t q k && not (any-union op_total op_exact (λ p. replaces p q) s t k))))

pub agree_from : (xs ys : List Op) → OneBody (union (set.from_list {R = op_cmp} xs) (set.from_list {R = op_cmp} ys)) → Agree xs ys
agree_from xs ys one p o h k e =
    one p o (union_left (set.from_list xs) (set.from_list ys) p (contains-from_list op_total xs p ∙ h)) (union_right (set.from_list xs) (set.from_list ys) o (contains-from_list op_total ys o ∙ k)) e

pub merged_at : (xs ys out : List Op) (ms ns : MarkSet) (v w z : Ids) → AreTables xs ms v → AreTables ys ns w
    → ((q : Op) → has out q ≡ (stays ms ns q && (has xs q || has ys q))) → z ≡ union v w → content_at out z ≡ merged (content_at xs v) (content_at ys w)
merged_at xs ys out ms ns v w z is js covered seen = same_content _ _ (kept_is xs ys out ms ns is.marked js.marked covered) seen

pub merged_tables : (xs ys out : List Op) (ms ns os : MarkSet) (v w z : Ids) → AreTables xs ms v → AreTables ys ns w → OneBody (union (set.from_list {R = op_cmp} xs) (set.from_list {R = op_cmp} ys))
    → ById out → ((q : Op) → has out q ≡ (stays ms ns q && (has xs q || has ys q))) → z ≡ union v w
    → os ≡ least_marks out → AreTables out os z
merged_tables xs ys out ms ns os v w z is js one by_id covered seen marked = record {
  by_id = by_id;
  marked = marked;
  is_content = subst IsContent (sym (merged_at xs ys out ms ns v w z is js covered seen)) (merged_is_content (content_at xs v) (content_at ys w) is.is_content js.is_content one);
}

-- the join is refused with the least clash of the two lists, or is the merge if there is none
pub joined_is : (xs ys : List Op) (ms ns : MarkSet) (v w : Ids) → AreTables xs ms v → AreTables ys ns w
    → joined (content_at xs v) (content_at ys w) ≡ joined_unless (clash_in xs ys) (merged (content_at xs v) (content_at ys w))
joined_is xs ys ms ns v w is js = ap (λ c. joined_unless c (merged (content_at xs v) (content_at ys w))) (sym (clash_is xs ys is.by_id js.by_id is.is_content.one_body js.is_content.one_body))

pub one_body_of : (xs ys : List Op) (ms ns : MarkSet) (v w : Ids) → AreTables xs ms v → AreTables ys ns w → clash_in xs ys ≡ None → OneBody (union (set.from_list {R = op_cmp} xs) (set.from_list {R = op_cmp} ys))
one_body_of xs ys ms ns v w is js h = one_body_from _ (sym (clash_is xs ys is.by_id js.by_id is.is_content.one_body js.is_content.one_body) ∙ h)

pub tables_empty : (os : List Op) (ms : MarkSet) (v : Ids) → os ≡ [] → ms ≡ set.empty → v ≡ set.empty → AreTables os ms v
tables_empty os ms v e f g =
    subst (λ (p : List Op × (MarkSet × Ids)). AreTables p.0 p.1.0 p.1.1) (λ k. (sym e k, (sym f k, sym g k)))
    (record { by_id = tt; marked = sym least-empty; is_content = nothing_is_content })

pub err_same : (a b : Id) → ◌≡◌ {A = Result Content Id} (Err a) (Err b) → a ≡ b
err_same a b h = cc

pub ok_not_err : (x : Content) (b : Id) → ◌≡◌ {A = Result Content Id} (Ok x) (Err b) → ⊥
ok_not_err x b h = cc

-- ---- statuses

pub retired_at : (xs : List Op) (ms : MarkSet) → ms ≡ least_marks xs → kept (set.from_list {R = op_cmp} xs) ≡ set.from_list xs → (e : Id)
    → any (λ m. is_at (record { entry = e; by = None }) m) ms ≡ retires (set.from_list {R = op_cmp} xs) e
retired_at xs ms marked k e = any_retired e xs ms marked k ∙ sym (any-from_list (λ o. is_retirement e o.body) xs)

pub superseded_at : (xs : List Op) (ms : MarkSet) → ms ≡ least_marks xs → kept (set.from_list {R = op_cmp} xs) ≡ set.from_list xs → (e n : Id)
    → any (λ m. is_at (record { entry = e; by = Some n }) m) ms ≡ any (λ o. is_supersession e (is_same n) o.body) (set.from_list {R = op_cmp} xs)
superseded_at xs ms marked k e n = any_superseded e n xs ms marked k ∙ sym (any-from_list (λ o. is_supersession e (is_same n) o.body) xs)

abbrev pub status_by : Bool → Bool → Bool → Option Status
status_by entered retired touched = cond entered (Some (cond retired Retired (cond touched Superseded Valid))) None

inner : (r s t : Bool) → t ≡ (r || s) → cond r Retired (cond s Superseded Valid) ≡ cond r Retired (cond t Superseded Valid)
inner true s t h = refl
inner false s t h = ap (λ b. cond b Superseded Valid) (sym h)

pub status_at : (xs : List Op) (ms : MarkSet) → ms ≡ least_marks xs → kept (set.from_list {R = op_cmp} xs) ≡ set.from_list xs → (e : Id)
    → status (set.from_list {R = op_cmp} xs) e ≡ status_by (list_any (λ o. is_same e o.id && is_enter o.body) xs) (any (λ m. is_at (record { entry = e; by = None }) m) ms) (any (λ m. is_same e m.target.entry) ms)
status_at xs ms marked own e =
    let s : Ops = set.from_list xs in
    let touched : any (λ m. is_same e m.target.entry) ms ≡ (retires s e || supersedes s e) =
    any_touched e xs ms marked own ∙ sym (λ k. any-from_list (λ o. is_retirement e o.body) xs k || any-from_list (λ o. is_supersession e (λ n. true) o.body) xs k) in
    (λ k. cond (any-from_list (λ o. is_same e o.id && is_enter o.body) xs k) (Some (inner (retires s e) (supersedes s e) _ touched k)) None)
    ∙ (λ k. cond (list_any (λ o. is_same e o.id && is_enter o.body) xs) (Some (cond (sym (retired_at xs ms marked own e) k) Retired (cond (any (λ m. is_same e m.target.entry) ms) Superseded Valid))) None)

-- ---- the tables of a list that is ordered by id

after_has : (i : Id) (xs : List Op) (o : Op) → AllAfter i xs → has xs o ≡ true → is_before i o.id ≡ true
after_has i [] o h k = absurd (true≢false (sym k))
after_has i (x ∷ xs) o h k = elim (or_cases (eq_by_cmp op_cmp o x) (has xs o) k) [
  | inl e ↦ subst (λ y. is_before i y.id ≡ true) (sym (op_exact o x ((Equal-is (op_cmp o x)).0 e))) h.0
  | inr e ↦ after_has i xs o h.1 e
]

never_before : (i j : Id) → i ≡ j → is_before i j ≡ true → ⊥
never_before i j e h = true≢false (sym (subst (λ k. is_before k j ≡ true) e h) ∙ lt_id_itself j)

by_id_one : (xs : List Op) → ById xs → (p o : Op) → has xs p ≡ true → has xs o ≡ true → p.id ≡ o.id → p ≡ o
by_id_one [] h p o a b e = absurd (true≢false (sym a))
by_id_one (x ∷ xs) h p o a b e =
    elim (or_cases (eq_by_cmp op_cmp p x) (has xs p) a) [
      | inl c ↦ let p_is : p ≡ x = op_exact p x ((Equal-is (op_cmp p x)).0 c) in
          elim (or_cases (eq_by_cmp op_cmp o x) (has xs o) b) [
            | inl d ↦ p_is ∙ sym (op_exact o x ((Equal-is (op_cmp o x)).0 d))
            | inr d ↦ absurd (never_before x.id o.id (sym (ap (λ y. y.id) p_is) ∙ e) (after_has x.id xs o h.0 d))
          ]
      | inr c ↦
          elim (or_cases (eq_by_cmp op_cmp o x) (has xs o) b) [
            | inl d ↦ let o_is : o ≡ x = op_exact o x ((Equal-is (op_cmp o x)).0 d) in
                absurd (never_before x.id p.id (sym (ap (λ y. y.id) o_is) ∙ sym e) (after_has x.id xs p h.0 c))
            | inr d ↦ by_id_one xs h.1 p o c d e
          ]
    ]

none_found : (t : Op → Bool) (xs : List Op) → option_map (λ (o : Op). o.id) (find t xs) ≡ None → list_any t xs ≡ false
none_found t [] h = refl
none_found t (x ∷ xs) h =
    elim (t x) as (λ b. option_map (λ (o : Op). o.id) (cond b (Some x) (find t xs)) ≡ None → (b || list_any t xs) ≡ false) [ true ↦ λ e. cc | false ↦ λ e. none_found t xs e ] h

pub dropped_at : (os : List Op) (ms : MarkSet) → ById os → ms ≡ least_marks os → first_dropped (set.from_list {R = op_cmp} os) ≡ first_off ms os
dropped_at os ms up marked =
    let s : Ops = set.from_list os in
    (λ k. option_map (λ o. o.id) (find (λ o. sym (marked_off os ms marked o) k) (items_are os up k)))

pub own_tables : (os : List Op) (ms : MarkSet) (v : Ids) → ById os → ms ≡ least_marks os
    → ((o : Op) → has os o ≡ true → contains v o.id ≡ true) → ((o : Op) → has os o ≡ true → IsOperation o) → ((i : Id) → contains v i ≡ true → IsId i) → first_off ms os ≡ None → AreTables os ms v
own_tables os ms v up marked seen operations are_ids none =
    let s : Ops = set.from_list os in
    let in_list : (o : Op) → contains s o ≡ true → has os o ≡ true = λ o h. sym (contains-from_list op_total os o) ∙ h in
    record {
      by_id = up;
      marked = marked;
      is_content = record {
        are_operations = λ o h. operations o (in_list o h);
        are_ids = are_ids;
        one_body = λ p o a b e. by_id_one os up p o (in_list p a) (in_list o b) e;
        is_kept = same_set op_total op_exact _ _ (λ q. contains-kept s q ∙ keeps (contains s q) (any (λ p. replaces p q) s) (λ h. sym (marked_off os ms marked q) ∙ false_from_ne_true _ (λ off.
            true≢false (sym (any_of (is_marked_off ms) os q (in_list q h) off) ∙ none_found (is_marked_off ms) os none))));
        are_seen = λ o h. seen o (in_list o h);
      };
    }
  where
    keeps : (a b : Bool) → (a ≡ true → b ≡ false) → (a && not b) ≡ a
    keeps true b h = ap not (h refl)
    keeps false b h = refl

pub kept_off : (xs : List Op) (ms : MarkSet) (v : Ids) → AreTables xs ms v → (q : Op) → has xs q ≡ true → is_marked_off ms q ≡ false
kept_off xs ms v is q h =
    let s : Ops = set.from_list xs in
    let k : contains (kept s) q ≡ true = subst (λ z. contains z q ≡ true) (sym is.is_content.is_kept) (contains-from_list op_total xs q ∙ h) in
    marked_off xs ms is.marked q ∙ not-true _ (and_parts _ _ (sym (contains-kept s q) ∙ k)).1

-- ---- each element of a list is an operation

pub sound_more : (xs more : List Op) (a : Op) → xs ≡ a ∷ more → IsOperation a → ((o : Op) → has more o ≡ true → IsOperation o) → (o : Op) → has xs o ≡ true → IsOperation o
sound_more xs more a e is rest o h =
    elim (or_cases (eq_by_cmp op_cmp o a) (has more o) (subst (λ l. has l o ≡ true) e h)) [
      | inl same ↦ subst IsOperation (sym (op_exact o a ((Equal-is (op_cmp o a)).0 same))) is
      | inr later ↦ rest o later
    ]

pub sound_end : (xs : List Op) → length xs ≡ 0 → (o : Op) → has xs o ≡ true → IsOperation o
sound_end [] e o h = absurd (true≢false (sym h))
sound_end (x ∷ xs) e o h = absurd (omega arith)

pub united_same : (a b : Ids) → ◌≡◌ {A = Result Ids Infallible} (Ok a) (Ok b) → a ≡ b
united_same a b h = cc

-- ---- the operation at an index of a list is in the set of the list

pub found_at : {X : Type 0} (f : X → List ℕ → Op) (os : List Op) (k : ℕ) (o : Op) → k < length os → get_or os k o ≡ o → (r : Option X) → IfSome r (λ d. o ≡ f d o.note)
    → IfSome r (λ d. (note : List ℕ) × (has os (f d note) ≡ true))
found_at f os k o h at None found = tt
found_at f os k o h at (Some d) found =
    let q = f d o.note in
    (o.note, list_any_at (eq_by_cmp op_cmp q) os k o h (ap (eq_by_cmp op_cmp q) (at ∙ found) ∙ ap is_eq (tied_itself op_total q)))

pub found_there : {X : Type 0} (f : X → List ℕ → Op) (os : List Op) (r : Option X) → IfSome r (λ d. (note : List ℕ) × (has os (f d note) ≡ true))
    → IfSome r (λ d. (note : List ℕ) × (contains (set.from_list {R = op_cmp} os) (f d note) ≡ true))
found_there f os None found = tt
found_there f os (Some d) found = (found.0, contains-from_list op_total os (f d found.0) ∙ found.1)

pub entered_none : {X : Type 0} (os : List Op) (e : Id) (r : Option X) → is_some r ≡ list_any (λ o. is_same e o.id && is_enter o.body) os → IfNone r (enters (set.from_list {R = op_cmp} os) e ≡ false)
entered_none os e None told = any-from_list (λ o. is_same e o.id && is_enter o.body) os ∙ sym told
entered_none os e (Some d) told = tt
