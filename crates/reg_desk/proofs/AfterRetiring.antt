-- The rows of a content after entries were retired for others, and the links of those passed on to these.
use Rattle.std.proofs.Common.{◌≡◌, ◌≢◌, ◌↔◌, ◌&&◌, ◌||◌, ℕ, Bool, true, false, List, [], ◌∷◌, refl, sym, ap, ◌∙◌, subst, inl, inr}
use Rattle.std.specs.Prelude.{Contains, Some, map}
use Rattle.std.specs.List.{list_any}
use Rattle.std.specs.Cmp.{Equal-is, tied_itself}
use Rattle.std.specs.Ordering.{is_eq, eq_by_cmp}
use Rattle.std.proofs.lemmas.Bool.{true≢false, or_cases, or_left, or_right}
use Rattle.std.proofs.Math.Bool.{and-false}
use mathlib.Core.Bool.{or-false}
use Rattle.reg_op.specs.Set as set
use Rattle.reg_op.specs.Set.{contains, union, contains-from_list}
use Rattle.reg_op.specs.Ids.{Id, is_same}
use Rattle.reg_op.specs.Kept.{entering}
use Rattle.reg_op.specs.Operations.{Op, op_cmp}
use Rattle.reg_op.specs.declared.operation.OpBody.{OpBody as Body}
use Rattle.reg_op.specs.declared.operation.OpBody.TheVariants.{Enter, Retire}
use Rattle.reg_op.specs.Contents.{Content, state, merged, IsContent}
use Rattle.reg_op.specs.Rows.{Row, rows}
use Rattle.reg_op.specs.Status.{enters, retires, status, is_enter, is_retirement}
use Rattle.reg_op.specs.declared.status.Status.TheVariants.{Superseded, Retired}
use Rattle.reg_op.proofs.OpLemmas.{op_total, op_exact, id_total, is_same_exact}
use Rattle.reg_op.proofs.ContentLemmas.{contains_op-union, kept_is_within}
use Rattle.reg_op.proofs.JoinLemmas.{joined_ok}
use Rattle.reg_office.specs.Commands.{Does, retirements}
use Rattle.reg_office.proofs.LawLemmas.{bodies_are}
use Rattle.reg_report.proofs.ConflictLemmas.{none_in, in_cons, in_head, in_tail, in_map, from_map, member_of_any}
use Rattle.reg_report.proofs.EntryLemmas.{row_is_entered, row_of_entry}
use Rattle.reg_report.proofs.PairLemmas.{it_enters}
use Rattle.reg_disorder.specs.declared.linking.link.Link.{Link}
use Rattle.reg_disorder.specs.Passing.{body_of, bodies_of}
use Rattle.reg_disorder.specs.Retiring.{RetiresFor}
use Rattle.reg_report.proofs.RowLemmas.{row_status, row_enters}
use Rattle.reg_disorder.proofs.Rows.{of_filter, retired_if, stands_if}
use Rattle.reg_disorder.specs.Links.{is_linked}
use Rattle.reg_disorder.specs.LinkHeirs.{IsHeir}
use Rattle.reg_disorder.specs.Law.{SupersedesNone, IsHeirOfBoth}
use Rattle.reg_disorder.proofs.Passes.{retires_after, enters_after, same_links, passes_on, linked_is_superseded}

-- ---- a retirement among others

pub some_retired : (ids : List Id) (e : Id) → Contains ids e → list_any (is_retirement e) (retirements ids) ≡ true
some_retired [] e c = absurd (none_in e c)
some_retired (i ∷ ids) e c = elim (in_cons e i ids c) [
  | inl same ↦ or_left (is_same e i) _ (subst (λ j. is_same e j ≡ true) same (ap is_eq (tied_itself id_total e)))
  | inr later ↦ or_right (is_same e i) _ (some_retired ids e later)
]

pub is_listed : (ids : List Id) (e : Id) → list_any (is_retirement e) (retirements ids) ≡ true → Contains ids e
is_listed [] e h = absurd (true≢false (sym h))
is_listed (i ∷ ids) e h = elim (or_cases (is_same e i) _ h) [
  | inl same ↦ subst (λ j. Contains (i ∷ ids) j) (sym (is_same_exact e i same)) (in_head i ids)
  | inr later ↦ in_tail e i ids (is_listed ids e later)
]

-- ---- a command that enters nothing

module _ (x y : Content) (replica note : List ℕ) (bodies : List Body) (made : List Id) (d : Does x replica note bodies y made) (plain : (text : List ℕ) → ¬ (Contains bodies (Enter text))) where
  abbrev new : Content
  new = state (set.from_list {R = op_cmp} d.ops)

  pub entered_before : (e : Id) (text noted : List ℕ) → contains y.ops (entering e text noted) ≡ true → contains x.ops (entering e text noted) ≡ true
  entered_before e text noted h =
      let o = entering e text noted in
      let kept : contains (merged x new).ops o ≡ true = subst (λ (z : Content). contains z.ops o ≡ true) (sym (joined_ok x new y d.are_joined).1) h in
      let within : contains (union x.ops new.ops) o ≡ true = kept_is_within (union x.ops new.ops) o kept in
      elim (or_cases (contains x.ops o) (contains new.ops o) (sym (contains_op-union x.ops new.ops o) ∙ within)) [
        | inl old ↦ old
        | inr other ↦
            let inside : list_any (eq_by_cmp op_cmp o) d.ops ≡ true = sym (contains-from_list op_total d.ops o) ∙ kept_is_within (set.from_list {R = op_cmp} d.ops) o other in
            let m = member_of_any (eq_by_cmp op_cmp o) d.ops inside in
            let is : o ≡ m.0 = op_exact o m.0 ((Equal-is (op_cmp o m.0)).0 m.2) in
            let there : Contains (map (λ (p : Op). p.body) d.ops) (Enter text) = subst (λ (p : Op). Contains (map (λ (p : Op). p.body) d.ops) p.body) (sym is) (in_map (λ (p : Op). p.body) d.ops m.0 m.1) in
            absurd (plain text (subst (λ l. Contains l (Enter text)) (bodies_are x replica note bodies d.ops d.are_made) there))
      ]

-- effects that are not of entering
pub no_enter : {A : Type 0} (f : A → Body) → ((a : A) (text : List ℕ) → f a ≡ Enter text → ⊥) → (as_ : List A) (text : List ℕ) → ¬ (Contains (map f as_) (Enter text))
no_enter f none as_ text c = let m = from_map f as_ (Enter text) c in none m.0 text (sym m.2)

-- ---- after retirements

-- the first content leads to the second by retiring these entries: none is entered
pub record Leaves (x y : Content) (ids : List Id) : Type 0 where
  -- an entry is retired exactly if it was, or is listed
  pub retired : (e : Id) → retires y.ops e ≡ (retires x.ops e || list_any (is_retirement e) (retirements ids))
  pub still : (e : Id) → enters x.ops e ≡ true → enters y.ops e ≡ true
  pub entered : (e : Id) (text noted : List ℕ) → contains y.ops (entering e text noted) ≡ true → contains x.ops (entering e text noted) ≡ true

pub by_retirements : (x y : Content) (replica note : List ℕ) (ids made : List Id) → Does x replica note (retirements ids) y made → Leaves x y ids
by_retirements x y replica note ids made d = record {
  retired = retires_after x y replica note (retirements ids) made d;
  still = λ e h. enters_after x y replica note (retirements ids) made d e ∙ or_left (enters x.ops e) _ h;
  entered = entered_before x y replica note (retirements ids) made d (no_enter Retire (λ a t e. cc) ids);
}

none_retired : (ls : List Link) (e : Id) → list_any (is_retirement e) (bodies_of ls) ≡ false
none_retired [] e = refl
none_retired (l ∷ ls) e = none_retired ls e

-- links are made afterwards
pub by_settling : (x y : Content) (replica note : List ℕ) (ids made : List Id) → RetiresFor x replica note ids y made → Leaves x y ids
by_settling x y replica note ids made s =
    let first = by_retirements x s.between replica note ids s.retired s.retires in
    let d = (s.passes).does in record {
      retired = λ e. retires_after s.between y replica note (bodies_of s.links) s.linked d e ∙ ap (λ b. retires (s.between).ops e || b) (none_retired s.links e) ∙ or-false (retires (s.between).ops e) ∙ first.retired e;
      still = λ e h. enters_after s.between y replica note (bodies_of s.links) s.linked d e ∙ or_left (enters (s.between).ops e) _ (first.still e h);
      entered = λ e text noted h. first.entered e text noted (entered_before s.between y replica note (bodies_of s.links) s.linked d (no_enter body_of (λ a t e. cc) s.links) e text noted h);
    }

-- a row has the entry and text of an old row, which was not retired if the new one is not
pub record Comes (x : Content) (r : Row) : Type 0 where
  pub row : Row
  pub there : Contains (rows x.ops) row
  pub entry : row.entry ≡ r.entry
  pub text : row.definition ≡ r.definition
  pub stood : r.status ≢ Some Retired → row.status ≢ Some Retired

was_retired : (x : Content) (q : Row) → Contains (rows x.ops) q → q.status ≡ Some Retired → (b : Bool) → retires x.ops q.entry ≡ b → retires x.ops q.entry ≡ true
was_retired x q c gone true e = e
was_retired x q c gone false e = absurd (stands_if x.ops q.entry e (sym (row_status x.ops q c) ∙ gone))

module _ (x y : Content) (ids : List Id) (l : Leaves x y ids) where
  -- each entry that was to be retired is retired in the new content
  pub is_retired_after : (r : Row) → Contains (rows y.ops) r → Contains ids r.entry → r.status ≡ Some Retired
  is_retired_after r h c =
      row_status y.ops r h ∙ retired_if y.ops r.entry (row_enters y.ops r h) (l.retired r.entry ∙ or_right (retires x.ops r.entry) _ (some_retired ids r.entry c))

  pub comes : IsContent x → (r : Row) → Contains (rows y.ops) r → Comes x r
  comes is r h =
      let o = row_is_entered y.ops r h in
      let old : contains x.ops (entering r.entry r.definition o.0) ≡ true = l.entered r.entry r.definition o.0 o.1 in
      let row = row_of_entry x is r.entry (it_enters x.ops (entering r.entry r.definition o.0) r.entry r.definition (Enter r.definition) old refl refl refl) in
      let there : Contains (rows x.ops) row.0 = of_filter (λ (q : Row). is_same r.entry q.entry) (rows x.ops) row.0 (subst (λ ls. Contains ls row.0) (sym row.1) (in_head row.0 [])) in
      let p = row_is_entered x.ops row.0 there in
      let one : entering r.entry r.definition o.0 ≡ entering (row.0).entry (row.0).definition p.0 = is.one_body (entering r.entry r.definition o.0) (entering (row.0).entry (row.0).definition p.0) old p.1 (sym row.2) in
      let bodies : ◌≡◌ {A = Body} (Enter r.definition) (Enter (row.0).definition) = ap (λ (q : Op). q.body) one in
      record {
        row = row.0;
        there = there;
        entry = row.2;
        text = cc;
        stood = λ stands gone.
            let was : retires x.ops r.entry ≡ true = subst (λ i. retires x.ops i ≡ true) row.2 (was_retired x row.0 there gone (retires x.ops (row.0).entry) refl) in
            stands (row_status y.ops r h ∙ retired_if y.ops r.entry (row_enters y.ops r h) (l.retired r.entry ∙ or_left (retires x.ops r.entry) _ was));
      }

-- ---- the links

retirements_only : (ids : List Id) → SupersedesNone (retirements ids)
retirements_only [] = tt
retirements_only (i ∷ ids) = retirements_only ids

none_entered : (ids : List Id) (os : List Op) (i : Id) → map (λ (o : Op). o.body) os ≡ retirements ids → list_any (λ (o : Op). is_same i o.id && is_enter o.body) os ≡ false
none_entered ids [] i e = refl
none_entered [] (o ∷ os) i e = cc
none_entered (k ∷ ids) (o ∷ os) i e =
    let head : o.body ≡ Retire k = cc in
    let tail : map (λ (p : Op). p.body) os ≡ retirements ids = cc in
    (λ j. (is_same i o.id && is_enter (head j)) || none_entered ids os i tail j) ∙ ap (λ b. b || false) (and-false (is_same i o.id))

module _ (x y : Content) (replica note : List ℕ) (ids made : List Id) (s : RetiresFor x replica note ids y made) where
  enters_same : (i : Id) → enters (s.between).ops i ≡ enters x.ops i
  enters_same i =
      enters_after x s.between replica note (retirements ids) s.retired s.retires i
      ∙ ap (λ b. enters x.ops i || b) (none_entered ids (s.retires).ops i (bodies_are x replica note (retirements ids) (s.retires).ops (s.retires).are_made)) ∙ or-false (enters x.ops i)

  pub links_same : (a b : Id) → a ≢ b → (is_linked y.ops a b ≡ true) ↔ IsHeirOfBoth x s.between a b
  links_same a b differ = same_links x s.between y replica note note (retirements ids) s.retired s.linked s.links s.retires (retirements_only ids) s.passes enters_same a b differ

  pub links_superseded : (old newer a b : Id) → is_linked x.ops old newer ≡ true → IsHeir (s.between).ops old a → IsHeir (s.between).ops newer b → a ≢ b → status y.ops a ≡ Some Superseded
  links_superseded old newer a b linked is_a is_b differ =
      linked_is_superseded y.ops a b (passes_on x s.between y replica note note (retirements ids) s.retired s.linked s.links s.retires (retirements_only ids) s.passes old newer a b linked is_a is_b differ)
