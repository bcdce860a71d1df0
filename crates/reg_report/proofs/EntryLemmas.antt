-- An entry has one row, whose text is that of a coordinate reference system.
use Rattle.std.proofs.Common.{◌≡◌, ℕ, true, false, cond, ◌&&◌, List, [], ◌∷◌, ◌++◌, append-nil, refl, sym, ap, ◌∙◌, subst, inl, inr}
use Rattle.std.proofs.lemmas.Bool.{or_cases, or_left, or_right, and_from, and_parts, true≢false, false_from_ne_true}
use Rattle.std.proofs.lemmas.List.Elements.{Contains-append_cases, filter-append}
use Rattle.std.specs.List.{Contains, flat_map, filter}
use Rattle.std.specs.Cmp.{Equal-is, tied_itself}
use Rattle.std.specs.Ordering.{is_eq, eq_by_cmp}
use Rattle.csv.specs.Writing.{row_text, default_writer}
use Rattle.reg_op.specs.Definition.{IsCrsOf}
use Rattle.reg_op.proofs.Defining.{spelled_by_definition}
use Rattle.crs_value.specs.declared.crs.Crs.{Crs}
use Rattle.reg_op.specs.Set as set
use Rattle.reg_op.specs.Set.{contains, contains-items}
use Rattle.reg_op.specs.Ids.{Id, is_same, is_before}
use Rattle.reg_op.specs.Lists.{has, AllAfter, ById}
use Rattle.reg_op.specs.Operations.{text_of, Op, Ops, op_cmp}
use Rattle.reg_op.specs.declared.operation.OpBody.{OpBody as Body}
use Rattle.reg_op.specs.declared.operation.OpBody.TheVariants.{Enter, Supersede, Retire}
use Rattle.reg_op.specs.Kept.{entering}
use Rattle.reg_op.specs.Status.{is_enter, enters, status}
use Rattle.reg_op.specs.Contents.{Content, IsContent}
use Rattle.reg_op.specs.Rows.{Row, newer_of, rows_at, rows}
use Rattle.reg_op.proofs.OpLemmas.{op_total, op_exact, id_total, is_same_exact, not_before_itself}
use Rattle.reg_op.proofs.FiniteLemmas.{member_from_any, any_from_member}
use Rattle.reg_op.proofs.ItemLemmas.{items_by_id}
use Rattle.reg_report.specs.Lines.{AreLines, entries_header, IsEntryLine}
use Rattle.reg_report.specs.Reports.{rows_of, IsEntryReport}
use Rattle.reg_report.proofs.ConflictLemmas.{none_in, in_cons}
use Rattle.reg_report.proofs.ReportLemmas.{one_line, same_lines}

-- ---- the operation of a row

abbrev pub rows_in : Ops → List Op → List Row
rows_in s os = flat_map (λ (o : Op). rows_at s o.id o.body) os

row_at : (s : Ops) (o : Op) (b : Body) (r : Row) → o.body ≡ b → Contains (rows_at s o.id b) r → o ≡ entering r.entry r.definition o.note
row_at s o (Enter text) r e h = elim (in_cons r _ [] h) [
  | inl same ↦ (λ k. record { id = o.id; body = e k; note = o.note }) ∙ sym (ap (λ (q : Row). entering q.entry q.definition o.note) same)
  | inr later ↦ absurd (none_in r later)
]
row_at s o (Supersede old newer) r e h = absurd (none_in r h)
row_at s o (Retire entry) r e h = absurd (none_in r h)

row_among : (s : Ops) (os : List Op) (r : Row) → Contains (rows_in s os) r → (note : List ℕ) × (has os (entering r.entry r.definition note) ≡ true)
row_among s [] r h = absurd (none_in r h)
row_among s (o ∷ os) r h = elim (Contains-append_cases (rows_at s o.id o.body) (rows_in s os) r h) [
  | inl here ↦ (o.note, or_left _ (has os (entering r.entry r.definition o.note)) (subst (λ p. eq_by_cmp op_cmp p o ≡ true) (row_at s o o.body r refl here) (ap is_eq (tied_itself op_total o))))
  | inr later ↦ let rest = row_among s os r later in (rest.0, or_right (eq_by_cmp op_cmp (entering r.entry r.definition rest.0) o) _ rest.1)
]

pub row_is_entered : (s : Ops) (r : Row) → Contains (rows s) r → (note : List ℕ) × (contains s (entering r.entry r.definition note) ≡ true)
row_is_entered s r h = let there = row_among s (set.items s) r h in (there.0, contains-items s (entering r.entry r.definition there.0) ∙ there.1)

pub row_is_spelled : (x : Content) → IsContent x → (r : Row) → Contains (rows x.ops) r → (crs : Crs) × IsCrsOf crs r.definition
row_is_spelled x is r h =
    let there = row_is_entered x.ops r h in
    let d = (is.are_operations (entering r.entry r.definition there.0) there.1).body in
    (d.crs, (d.canonical, spelled_by_definition r.definition d))

-- ---- the rows of one entry

abbrev pub of_entry : Id → List Row → List Row
of_entry e rs = filter (λ (r : Row). is_same e r.entry) rs

pub of_both : (e : Id) (rs qs : List Row) → of_entry e (rs ++ qs) ≡ of_entry e rs ++ of_entry e qs
of_both e rs qs = filter-append (λ (r : Row). is_same e r.entry) rs qs

pub of_other : (s : Ops) (e i : Id) (b : Body) → is_same e i ≡ false → of_entry e (rows_at s i b) ≡ []
of_other s e i (Enter text) n = ap (λ t. cond t (rows_at s i (Enter text)) []) n
of_other s e i (Supersede old newer) n = refl
of_other s e i (Retire entry) n = refl

others_after : (s : Ops) (e : Id) (os : List Op) → AllAfter e os → of_entry e (rows_in s os) ≡ []
others_after s e [] up = refl
others_after s e (o ∷ os) up =
    of_both e (rows_at s o.id o.body) (rows_in s os)
    ∙ (λ k. of_other s e o.id o.body (is_other e o.id up.0) k ++ others_after s e os up.1 k)
  where
    is_other : (a b : Id) → is_before a b ≡ true → is_same a b ≡ false
    is_other a b h = false_from_ne_true _ (λ same. not_before_itself a (subst (λ i. is_before a i ≡ true) (sym (is_same_exact a b same)) h))

-- if a list is after an id, each of its operations has a later id
pub is_after_first : (i : Id) (os : List Op) (o : Op) → AllAfter i os → has os o ≡ true → is_before i o.id ≡ true
is_after_first i [] o up h = absurd (true≢false (sym h))
is_after_first i (p ∷ os) o up h = elim (or_cases (eq_by_cmp op_cmp o p) (has os o) h) [
  | inl same ↦ subst (λ (q : Op). is_before i q.id ≡ true) (sym (op_exact o p ((Equal-is (op_cmp o p)).0 same))) up.0
  | inr later ↦ is_after_first i os o up.1 later
]

abbrev entry_row : Ops → Id → List ℕ → Row
entry_row s e text = record { entry = e; definition = text; status = status s e; newer = set.items (newer_of s e) }

-- r is the only row of the entry
pub record IsRowOf (e : Id) (rs : List Row) (r : Row) : Type 0 where
  pub alone : of_entry e rs ≡ r ∷ []
  pub entry : r.entry ≡ e

one_row : (s : Ops) (e : Id) (text note : List ℕ) (os : List Op) → ById os → has os (entering e text note) ≡ true → (r : Row) × IsRowOf e (rows_in s os) r
one_row s e text note [] up h = absurd (true≢false (sym h))
one_row s e text note (o ∷ os) up h = elim (or_cases (eq_by_cmp op_cmp (entering e text note) o) (has os (entering e text note)) h) [
  | inl same ↦
      let is : entering e text note ≡ o = op_exact (entering e text note) o ((Equal-is (op_cmp (entering e text note) o)).0 same) in
      subst (λ p. (r : Row) × IsRowOf e (rows_in s (p ∷ os)) r) is (here (subst (λ (p : Op). AllAfter p.id os) (sym is) up.0))
  | inr later ↦
      let rest = one_row s e text note os up.1 later in
      let before : is_before o.id e ≡ true = is_after_first o.id os (entering e text note) up.0 later in
      let other : is_same e o.id ≡ false = false_from_ne_true _ (λ same. not_before_itself o.id (subst (λ i. is_before o.id i ≡ true) (is_same_exact e o.id same) before)) in (
        rest.0,
        record {
          alone = of_both e (rows_at s o.id o.body) (rows_in s os) ∙ (λ k. of_other s e o.id o.body other k ++ rest.1.alone k);
          entry = rest.1.entry;
        },
      )
]
  where
    here : AllAfter e os → (r : Row) × IsRowOf e (rows_in s (entering e text note ∷ os)) r
    here after = (
      entry_row s e text,
      record {
        alone = of_both e (entry_row s e text ∷ []) (rows_in s os) ∙ (λ k. cond (ap is_eq (tied_itself id_total e) k) (entry_row s e text ∷ []) [] ++ others_after s e os after k);
        entry = refl;
      },
    )

pub row_of_entry : (x : Content) → IsContent x → (e : Id) → enters x.ops e ≡ true → (r : Row) × (rows_of e x ≡ r ∷ []) × (r.entry ≡ e)
row_of_entry x is e h =
    let m = member_from_any op_total op_exact (λ (o : Op). is_same e o.id && is_enter o.body) x.ops h in
    let parts = and_parts _ _ m.2 in
    let there : has (set.items x.ops) m.0 ≡ true = sym (contains-items x.ops m.0) ∙ m.1 in
    let row = one_row x.ops e (text_of m.0.body) m.0.note (set.items x.ops) (items_by_id x.ops is.one_body) (subst (λ o. has (set.items x.ops) o ≡ true) (enters_text m.0 m.0.body refl (is_same_exact e m.0.id parts.0) parts.1) there) in
    (row.0, row.1.alone, row.1.entry)
  where
    enters_text : (o : Op) (b : Body) → o.body ≡ b → e ≡ o.id → is_enter b ≡ true → o ≡ entering e (text_of o.body) o.note
    enters_text o (Enter text) is same h = λ k. record { id = sym same k; body = (is ∙ ap Enter (sym (ap text_of is))) k; note = o.note }
    enters_text o (Supersede old newer) is same h = absurd (true≢false (sym h))
    enters_text o (Retire entry) is same h = absurd (true≢false (sym h))

-- if no operation of a list enters the entry, the list has no row of it
none_of : (s : Ops) (e : Id) (os : List Op) → ((o : Op) → has os o ≡ true → (is_same e o.id && is_enter o.body) ≡ true → ⊥) → of_entry e (rows_in s os) ≡ []
none_of s e [] never = refl
none_of s e (o ∷ os) never =
    of_both e (rows_at s o.id o.body) (rows_in s os)
    ∙ (λ k. first o.body refl k ++ none_of s e os (λ p h. never p (or_right (eq_by_cmp op_cmp p o) _ h)) k)
  where
    first : (b : Body) → o.body ≡ b → of_entry e (rows_at s o.id b) ≡ []
    first (Enter text) is = of_other s e o.id (Enter text) (false_from_ne_true _ (λ same. never o (or_left _ _ (ap is_eq (tied_itself op_total o))) (and_from _ _ same (ap is_enter is))))
    first (Supersede old newer) is = refl
    first (Retire entry) is = refl

pub no_row : (x : Content) (e : Id) → enters x.ops e ≡ false → rows_of e x ≡ []
no_row x e h = none_of x.ops e (set.items x.ops) (λ o there is.
    true≢false (sym (any_from_member op_total op_exact (λ (p : Op). is_same e p.id && is_enter p.body) x.ops o (contains-items x.ops o ∙ there) is) ∙ h))

-- ---- the report of one entry

pub line_of_row : (x : Content) (e : Id) (r : Row) (text : List ℕ) → rows_of e x ≡ r ∷ [] → IsEntryReport e x text
    → (fields : List (List ℕ)) × IsEntryLine r fields × (text ≡ row_text default_writer entries_header ++ row_text default_writer fields)
line_of_row x e r text alone h =
    let lines = subst (λ rs. AreLines IsEntryLine rs h.0) alone h.1 in
    (lines.0, lines.2, h.2 ∙ ap (λ ls. row_text default_writer entries_header ++ ls) (lines.4 ∙ ap (λ ls. row_text default_writer lines.0 ++ ls) lines.3 ∙ append-nil (row_text default_writer lines.0)))

pub one_entry_report : (e : Id) (x : Content) (text other : List ℕ) → IsEntryReport e x text → IsEntryReport e x other → text ≡ other
one_entry_report e x text other h k =
    h.2 ∙ ap (λ lines. row_text default_writer entries_header ++ lines) (same_lines IsEntryLine one_line (rows_of e x) h.0 k.0 h.1 k.1) ∙ sym k.2
