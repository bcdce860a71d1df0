-- Supersessions leave each row of a content, but for its status, and retire no entry.
use Rattle.std.proofs.Common.{◌≡◌, ◌≢◌, ℕ, ◌+◌, Bool, true, false, cond, List, [], ◌∷◌, ◌++◌, None, refl, sym, ◌∙◌, subst, inl, inr}
use Rattle.std.specs.Prelude.{Contains, Some}
use Rattle.std.specs.List.{flat_map}
use Rattle.std.proofs.lemmas.Bool.{true≢false, or_cases}
use Rattle.std.proofs.lemmas.List.Elements.{Contains-append_left, Contains-append_right}
use Rattle.reg_op.specs.Set as set
use Rattle.reg_op.specs.Set.{contains, contains-items, contains-from_list}
use Rattle.reg_op.specs.Ids.{Id, is_before}
use Rattle.reg_op.specs.Lists.{has}
use Rattle.reg_op.specs.Kept.{entering}
use Rattle.reg_op.specs.Operations.{Op, Ops, kept}
use Rattle.reg_op.specs.declared.operation.OpBody.{OpBody as Body}
use Rattle.reg_op.specs.declared.operation.OpBody.TheVariants.{Enter}
use Rattle.reg_op.specs.Contents.{Content}
use Rattle.reg_op.specs.Rows.{Row, rows, rows_at, newer_of}
use Rattle.reg_op.specs.Status.{enters, retires, supersedes, status}
use Rattle.reg_op.specs.declared.status.Status.TheVariants.{Retired, Superseded, Valid}
use Rattle.reg_op.proofs.OpLemmas.{op_total}
use Rattle.reg_op.proofs.ContentLemmas.{contains_op-union, kept_is_within, union_left}
use Rattle.reg_op.proofs.OneLemmas.{kept_has}
use Rattle.reg_report.proofs.ConflictLemmas.{in_head}
use Rattle.reg_report.proofs.EntryLemmas.{row_is_entered}
use Rattle.reg_report.proofs.PairLemmas.{it_enters}
use Rattle.reg_report.proofs.RowLemmas.{row_status}
use Rattle.reg_office.specs.Making.{greatest}
use Rattle.reg_office.proofs.NumberLemmas.{op_cases}
use Rattle.reg_office.proofs.NewLemmas.{over_enter}
use Rattle.reg_supersede.specs.Effects.{AreSupersessions}
use Rattle.reg_supersede.proofs.AfterLemmas.{of_list, after, ops_of}
use Rattle.reg_supersede.proofs.PairLemmas.{kept_is, retired, each_is}
use Rattle.reg_supersede.proofs.SameRows.{IsThere, AreSame}

-- ---- the row of an entry

abbrev rows_in : Ops → List Op → List Row
rows_in s os = flat_map (λ (o : Op). rows_at s o.id o.body) os

abbrev row_of : Ops → Id → List ℕ → Row
row_of s i text = record { entry = i; definition = text; status = status s i; newer = set.items (newer_of s i) }

row_in : (s : Ops) (os : List Op) (i : Id) (text note : List ℕ) → has os (entering i text note) ≡ true → Contains (rows_in s os) (row_of s i text)
row_in s [] i text note h = absurd (true≢false (sym h))
row_in s (o ∷ os) i text note h = elim (op_cases (entering i text note) o os h) [
  | inl same ↦ subst (λ (p : Op). Contains (rows_at s p.id p.body ++ rows_in s os) (row_of s i text)) same (Contains-append_left (row_of s i text ∷ []) (rows_in s os) (row_of s i text) (in_head (row_of s i text) []))
  | inr later ↦ Contains-append_right (rows_at s o.id o.body) (rows_in s os) (row_of s i text) (row_in s os i text note later)
]

-- ---- an entry that is not retired

retired_or : (en re su : Bool) → cond en (Some (cond re Retired (cond su Superseded Valid))) None ≡ Some Retired → re ≡ true
retired_or true true su h = refl
retired_or true false true h = cc
retired_or true false false h = cc
retired_or false re su h = cc

stays : (s z : Ops) (e : Id) → enters s e ≡ true → retires z e ≡ retires s e → status s e ≢ Some Retired → status z e ≢ Some Retired
stays s z e there same up h =
    let gone : retires s e ≡ true = sym same ∙ retired_or (enters z e) (retires z e) (supersedes z e) h in
    up (simp (there, gone))

-- rows of operations of which the same enter, and that retire the same entries
rows_too : (s z : Ops) → ((e : Id) → retires z e ≡ retires s e) → ((i : Id) (text note : List ℕ) → contains s (entering i text note) ≡ true → contains z (entering i text note) ≡ true)
    → (r : Row) → Contains (rows s) r → IsThere (rows z) r
rows_too s z same more r h =
    let o = row_is_entered s r h in
    let stays_there = more r.entry r.definition o.0 o.1 in
    record {
      row = row_of z r.entry r.definition;
      there = row_in z (set.items z) r.entry r.definition o.0 (sym (contains-items z (entering r.entry r.definition o.0)) ∙ stays_there);
      entry = refl;
      definition = refl;
      stands = λ up. stays s z r.entry (it_enters s (entering r.entry r.definition o.0) r.entry r.definition (Enter r.definition) o.1 refl refl refl) (same r.entry)
          (subst (λ v. v ≢ Some Retired) (row_status s r h) up);
    }

-- ---- after supersessions

module _ (x : Content) (r note : List ℕ) (bs : List Body) (are : AreSupersessions bs) where
  abbrev both : Ops
  both = set.union x.ops (of_list (ops_of x r note bs))

  abbrev here : Ops
  here = (after x r note bs).ops

  is_kept : here ≡ kept both
  is_kept = kept_is x r note bs are

  stays_entered : (i : Id) (text why : List ℕ) → contains x.ops (entering i text why) ≡ true → contains here (entering i text why) ≡ true
  stays_entered i text why h =
      subst (λ s. contains s (entering i text why) ≡ true) (sym is_kept)
      (kept_has both (entering i text why) (union_left x.ops (of_list (ops_of x r note bs)) (entering i text why) h)
      (λ p there over. over_enter (is_before p.id i) p.body text over))

  was_entered : (i : Id) (text why : List ℕ) → contains here (entering i text why) ≡ true → contains x.ops (entering i text why) ≡ true
  was_entered i text why h =
      let within = kept_is_within both (entering i text why) (subst (λ s. contains s (entering i text why) ≡ true) is_kept h) in
      elim (or_cases (contains x.ops (entering i text why)) (contains (of_list (ops_of x r note bs)) (entering i text why)) (sym (contains_op-union x.ops (of_list (ops_of x r note bs)) (entering i text why)) ∙ within)) [
        | inl old ↦ old
        | inr new ↦ absurd (each_is r note (greatest r x.seen + 1) bs (entering i text why) are (sym (contains-from_list op_total (ops_of x r note bs) (entering i text why)) ∙ new))
      ]

  pub rows_after : AreSame (rows x.ops) (rows here)
  rows_after = record {
    to = rows_too x.ops here (retired x r note bs are) stays_entered;
    from = rows_too here x.ops (λ e. sym (retired x r note bs are e)) was_entered;
  }
