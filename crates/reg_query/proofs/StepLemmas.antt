-- How one more row extends the list of changes.
use Rattle.std.proofs.Common.{◌≡◌, ◌⊎◌, List, ◌∷◌, ap, subst, sym, inl, inr}
use Rattle.std.specs.List.{Contains}
use Rattle.std.specs.Cmp.{IsTotalOrder, then_total, on_total, nat_cmp_total}
use Rattle.std.specs.Ordering.{nat_cmp, ordering_then}
use Rattle.std.specs.declared.cmp.Ordering.TheVariants.{Less}
use Rattle.reg_op.specs.Rows.{Row}
use Rattle.reg_report.specs.Rows.{row_cmp}
use Rattle.reg_report.proofs.ConflictLemmas.{in_cons, in_head, in_tail}
use Rattle.reg_report.proofs.OrderLemmas.{Before, never_less, put_before}
use Rattle.reg_report.proofs.RowLemmas.{row_total}
use Rattle.reg_query.specs.declared.diff.change.Sign.{Sign}
use Rattle.reg_query.specs.declared.diff.change.Sign.TheVariants.{Gone, Come}
use Rattle.reg_query.specs.Changes.{Change, signed, IsChange, rank, change_cmp, AreChanges}

-- ---- the order of changes

pub change_total : IsTotalOrder change_cmp
change_total = then_total (on_total (λ c. c.row) row_total) (on_total (λ c. rank c.sign) nat_cmp_total)

abbrev pub gone : Row → Change
gone r = signed Gone r

abbrev pub come : Row → Change
come r = signed Come r

-- ---- one more row

-- the row of a change is in one of the two lists
in_either : (old new : List Row) (c : Change) → IsChange c.sign old new c.row → Contains old c.row ⊎ Contains new c.row
in_either old new c h = elim (by_sign c.sign h) [ inl a ↦ inl a | inr b ↦ inr b ]
  where
    by_sign : (s : Sign) → IsChange s old new c.row → Contains old c.row ⊎ Contains new c.row
    by_sign Gone h = inl h.0
    by_sign Come h = inr h.0

-- a change of a row that is before all others is before their changes
pub before_later : (d : Change) (old new : List Row) (cs : List Change) → Before row_cmp d.row old → Before row_cmp d.row new → AreChanges old new cs → Before change_cmp d cs
before_later d old new cs first second are c h =
    ap (λ r. ordering_then r (nat_cmp (rank d.sign) (rank c.sign))) (elim (in_either old new c ((are.each c).0 h)) [ inl a ↦ first c.row a | inr b ↦ second c.row b ])

pub put_gone : (r : Row) (old new : List Row) (cs : List Change) → ¬ (Contains new r) → Before change_cmp (gone r) cs → AreChanges old new cs → AreChanges (r ∷ old) new (gone r ∷ cs)
put_gone r old new cs lacks before are = record {
  ascend = put_before change_total (gone r) cs before are.ascend;
  each = λ c. (λ h. there c (in_cons c (gone r) cs h), λ h. back c.sign c.row h);
}
  where
    wider : (s : Sign) (q : Row) → IsChange s old new q → IsChange s (r ∷ old) new q
    wider Gone q h = (in_tail q r old h.0, h.1)
    wider Come q h = (h.0, λ k. elim (in_cons q r old k) [ inl e ↦ lacks (subst (Contains new) e h.0) | inr d ↦ h.1 d ])

    there : (c : Change) → (c ≡ gone r) ⊎ Contains cs c → IsChange c.sign (r ∷ old) new c.row
    there c (inl e) = subst (λ (d : Change). IsChange d.sign (r ∷ old) new d.row) (sym e) (in_head r old, lacks)
    there c (inr h) = wider c.sign c.row ((are.each c).0 h)

    back : (s : Sign) (q : Row) → IsChange s (r ∷ old) new q → Contains (gone r ∷ cs) (record { sign = s; row = q })
    back Gone q h = elim (in_cons q r old h.0) [
      | inl e ↦ subst (λ k. Contains (gone r ∷ cs) (gone k)) (sym e) (in_head (gone r) cs)
      | inr d ↦ in_tail (gone q) (gone r) cs ((are.each (gone q)).1 (d, h.1))
    ]
    back Come q h = in_tail (come q) (gone r) cs ((are.each (come q)).1 (h.0, λ k. h.1 (in_tail q r old k)))

pub put_come : (r : Row) (old new : List Row) (cs : List Change) → ¬ (Contains old r) → Before change_cmp (come r) cs → AreChanges old new cs → AreChanges old (r ∷ new) (come r ∷ cs)
put_come r old new cs lacks before are = record {
  ascend = put_before change_total (come r) cs before are.ascend;
  each = λ c. (λ h. there c (in_cons c (come r) cs h), λ h. back c.sign c.row h);
}
  where
    wider : (s : Sign) (q : Row) → IsChange s old new q → IsChange s old (r ∷ new) q
    wider Come q h = (in_tail q r new h.0, h.1)
    wider Gone q h = (h.0, λ k. elim (in_cons q r new k) [ inl e ↦ lacks (subst (Contains old) e h.0) | inr d ↦ h.1 d ])

    there : (c : Change) → (c ≡ come r) ⊎ Contains cs c → IsChange c.sign old (r ∷ new) c.row
    there c (inl e) = subst (λ (d : Change). IsChange d.sign old (r ∷ new) d.row) (sym e) (in_head r new, lacks)
    there c (inr h) = wider c.sign c.row ((are.each c).0 h)

    back : (s : Sign) (q : Row) → IsChange s old (r ∷ new) q → Contains (come r ∷ cs) (record { sign = s; row = q })
    back Come q h = elim (in_cons q r new h.0) [
      | inl e ↦ subst (λ k. Contains (come r ∷ cs) (come k)) (sym e) (in_head (come r) cs)
      | inr d ↦ in_tail (come q) (come r) cs ((are.each (come q)).1 (d, h.1))
    ]
    back Gone q h = in_tail (gone q) (come r) cs ((are.each (gone q)).1 (h.0, λ k. h.1 (in_tail q r new k)))

-- a row that both lists begin with adds no change
pub put_both : (r : Row) (old new : List Row) (cs : List Change) → Before row_cmp r old → Before row_cmp r new → AreChanges old new cs → AreChanges (r ∷ old) (r ∷ new) cs
put_both r old new cs first second are = record {
  ascend = are.ascend;
  each = λ c. (λ h. wider c.sign c.row ((are.each c).0 h), λ h. (are.each c).1 (back c.sign c.row h));
}
  where
    beyond : (q : Row) (rs : List Row) → Before row_cmp r rs → Contains rs q → (q ≡ r) → ⊥
    beyond q rs before h e = never_less row_total r (subst (λ k. row_cmp r k ≡ Less) e (before q h))

    wider : (s : Sign) (q : Row) → IsChange s old new q → IsChange s (r ∷ old) (r ∷ new) q
    wider Gone q h = (in_tail q r old h.0, λ k. elim (in_cons q r new k) [ inl e ↦ beyond q old first h.0 e | inr d ↦ h.1 d ])
    wider Come q h = (in_tail q r new h.0, λ k. elim (in_cons q r old k) [ inl e ↦ beyond q new second h.0 e | inr d ↦ h.1 d ])

    back : (s : Sign) (q : Row) → IsChange s (r ∷ old) (r ∷ new) q → IsChange s old new q
    back Gone q h = (elim (in_cons q r old h.0) [ inl e ↦ absurd (h.1 (subst (Contains (r ∷ new)) (sym e) (in_head r new))) | inr d ↦ d ], λ k. h.1 (in_tail q r new k))
    back Come q h = (elim (in_cons q r new h.0) [ inl e ↦ absurd (h.1 (subst (Contains (r ∷ old)) (sym e) (in_head r old))) | inr d ↦ d ], λ k. h.1 (in_tail q r old k))
