-- If two offices settle equal texts and then join, the least entry of each text is still not retired.
use Rattle.std.proofs.Common.{◌≡◌, ◌≢◌, ◌||◌, Bool, true, false, List, [], Some, Ok, refl, sym, ap, ◌∙◌, subst, inl, inr}
use Rattle.std.specs.Prelude.{Contains}
use Rattle.std.specs.List.{list_any}
use Rattle.std.proofs.lemmas.Bool.{or_cases, or_left, or_right, true≢false, or_parts}
use Rattle.reg_op.specs.Set.{contains, union}
use Rattle.reg_op.specs.Ids.{Id, is_same, is_before}
use Rattle.reg_op.specs.Kept.{entering}
use Rattle.reg_op.specs.Operations.{Op}
use Rattle.reg_op.specs.declared.operation.OpBody.{OpBody as Body}
use Rattle.reg_op.specs.declared.operation.OpBody.TheVariants.{Enter}
use Rattle.reg_op.specs.Contents.{Content, joined, IsContent}
use Rattle.reg_op.specs.Rows.{Row, rows}
use Rattle.reg_op.specs.Status.{enters, retires, status, is_retirement}
use Rattle.reg_op.specs.declared.status.Status.TheVariants.{Retired}
use Rattle.reg_op.proofs.ContentLemmas.{joined_comm, union_left}
use Rattle.reg_op.proofs.KeptLemmas.{kept_enter}
use Rattle.reg_op.proofs.JoinLemmas.{joined_ok, joined_is_content}
use Rattle.reg_office.specs.Commands.{retirements}
use Rattle.reg_report.proofs.ConflictLemmas.{in_head}
use Rattle.reg_report.proofs.EntryLemmas.{row_is_entered, row_of_entry}
use Rattle.reg_report.proofs.PairLemmas.{it_enters}
use Rattle.reg_disorder.specs.Doubles.{HasLesser, IsDouble, AreDoubles}
use Rattle.reg_disorder.proofs.Settled.{picked_are}
use Rattle.reg_report.proofs.RowLemmas.{row_status, row_enters}
use Rattle.reg_disorder.proofs.Rows.{one_row, of_filter, stands_if, none_retires, join_retires, join_enters}
use Rattle.reg_desk.proofs.AfterRetiring.{is_listed, Leaves}

-- ---- a join

module _ (x y z : Content) (j : joined x y ≡ Ok z) where
  -- a row of the first has one in the join, with its entry and text
  record Comes (r : Row) : Type 0 where
    row : Row
    there : Contains (rows z.ops) row
    entry : row.entry ≡ r.entry
    text : row.definition ≡ r.definition

  comes : IsContent z → (r : Row) → Contains (rows x.ops) r → Comes r
  comes is r h =
      let o = row_is_entered x.ops r h in
      let op = entering r.entry r.definition o.0 in
      let in_z : contains z.ops op ≡ true =
      subst (λ (c : Content). contains c.ops op ≡ true) (joined_ok x y z j).1 (kept_enter (union x.ops y.ops) r.entry r.definition o.0 ∙ union_left x.ops y.ops op o.1) in
      let row = row_of_entry z is r.entry (it_enters z.ops op r.entry r.definition (Enter r.definition) in_z refl refl refl) in
      let there : Contains (rows z.ops) row.0 = of_filter (λ (q : Row). is_same r.entry q.entry) (rows z.ops) row.0 (subst (λ l. Contains l row.0) (sym row.1) (in_head row.0 [])) in
      let p = row_is_entered z.ops row.0 there in
      let one : op ≡ entering (row.0).entry (row.0).definition p.0 = is.one_body op (entering (row.0).entry (row.0).definition p.0) in_z p.1 (sym row.2) in
      let bodies : ◌≡◌ {A = Body} (Enter r.definition) (Enter (row.0).definition) = ap (λ (q : Op). q.body) one in
      record { row = row.0; there = there; entry = row.2; text = cc }

-- ---- an office retires its doubles

module _ (x xs : Content) (ids : List Id) (l : Leaves x xs ids) where
  -- an entry that is neither retired nor a double is not retired afterwards
  pub stays_unretired : AreDoubles (rows x.ops) ids → (e : Id) → retires x.ops e ≡ false → ((r : Row) → Contains (rows x.ops) r → r.entry ≡ e → HasLesser (rows x.ops) r → ⊥) → retires xs.ops e ≡ false
  stays_unretired doubles e none least = by (retires xs.ops e) refl
    where
      by : (b : Bool) → retires xs.ops e ≡ b → retires xs.ops e ≡ false
      by false h = h
      by true h = elim (or_cases (retires x.ops e) (list_any (is_retirement e) (retirements ids)) (sym (l.retired e) ∙ h)) [
        | inl old ↦ absurd (true≢false (sym old ∙ none))
        | inr new ↦ let r = picked_are (IsDouble (rows x.ops)) (rows x.ops) ids e doubles (is_listed ids e new) in absurd (least r.0 r.1 r.3 r.2.lesser)
      ]

-- ---- two offices retire their doubles

module _ (x y both : Content) (j : joined x y ≡ Ok both) (is : IsContent both) (same : (e : Id) → retires x.ops e ≡ retires y.ops e) where
  -- a row with a lesser one in the first register has a lesser one in the join
  pub lesser_in_both : (one r : Row) → Contains (rows both.ops) one → Contains (rows x.ops) r → r.entry ≡ one.entry → HasLesser (rows x.ops) r → HasLesser (rows both.ops) one
  lesser_in_both one r there at entry h =
      let l = h.lesser in
      let mine = comes x y both j is r at in
      let its = comes x y both j is l h.there in
      let row : mine.row ≡ one = one_row both is mine.row one mine.there there (mine.entry ∙ entry) in
      let text : one.definition ≡ r.definition = ap (λ (q : Row). q.definition) (sym row) ∙ mine.text in
      let none_x : retires x.ops l.entry ≡ false = none_retires x.ops l.entry (row_enters x.ops l h.there) (λ gone. h.is.stands (row_status x.ops l h.there ∙ gone)) in
      let none : retires both.ops l.entry ≡ false = join_retires x y both j l.entry ∙ (λ k. none_x k || (sym (same l.entry) ∙ none_x) k) in
      record {
        lesser = its.row;
        there = its.there;
        is = record {
          stands = λ gone. stands_if both.ops l.entry none (subst (λ i. status both.ops i ≡ Some Retired) its.entry (sym (row_status both.ops its.row its.there) ∙ gone));
          text = its.text ∙ (h.is.text ∙ sym text);
          before = subst (λ i. is_before i one.entry ≡ true) (sym its.entry) (subst (λ i. is_before l.entry i ≡ true) entry h.is.before);
        };
      }

module _ (x y both : Content) (ix : IsContent x) (iy : IsContent y) (j : joined x y ≡ Ok both) (same : (e : Id) → retires x.ops e ≡ retires y.ops e) where
  is_content : IsContent both
  is_content = joined_is_content x y both ix iy j

  pub least_stays : (xs ys z : Content) (ids others : List Id) → AreDoubles (rows x.ops) ids → Leaves x xs ids → AreDoubles (rows y.ops) others → Leaves y ys others → joined xs ys ≡ Ok z
      → (one : Row) → Contains (rows both.ops) one → one.status ≢ Some Retired → (HasLesser (rows both.ops) one → ⊥) → (enters z.ops one.entry ≡ true) × (status z.ops one.entry ≢ Some Retired)
  least_stays xs ys z ids others doubles l doubles_y l_y jz one there stands least =
      let e = one.entry in
      let in_both : enters both.ops e ≡ true = row_enters both.ops one there in
      let none_both : retires both.ops e ≡ false = none_retires both.ops e in_both (λ gone. stands (row_status both.ops one there ∙ gone)) in
      let none = or_parts (retires x.ops e) (retires y.ops e) (sym (join_retires x y both j e) ∙ none_both) in
      let jc : joined y x ≡ Ok both = joined_comm y x ∙ j in
      let none_xs : retires xs.ops e ≡ false = stays_unretired x xs ids l doubles e none.0 (λ r at en h. least (lesser_in_both x y both j is_content same one r there at en h)) in
      let none_ys : retires ys.ops e ≡ false = stays_unretired y ys others l_y doubles_y e none.1 (λ r at en h. least (lesser_in_both y x both jc is_content (λ i. sym (same i)) one r there at en h)) in
      let none_z : retires z.ops e ≡ false = join_retires xs ys z jz e ∙ (λ k. none_xs k || none_ys k) in
      let in_z : enters z.ops e ≡ true = elim (or_cases (enters x.ops e) (enters y.ops e) (sym (join_enters x y both j e) ∙ in_both)) [
        | inl a ↦ join_enters xs ys z jz e ∙ or_left (enters xs.ops e) (enters ys.ops e) (l.still e a)
        | inr b ↦ join_enters xs ys z jz e ∙ or_right (enters xs.ops e) (enters ys.ops e) (l_y.still e b)
      ] in
      (in_z, stands_if z.ops e none_z)
