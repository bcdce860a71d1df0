-- A plan that passes gives the result of an import, and one that is refused gives the reason.
use Rattle.std.proofs.Common.{◌≡◌, ℕ, ◌+◌, ◌≤◌, nat_lt, Bool, false, cond, List, [], ◌∷◌, map, length, Some, None, Ok, refl, sym, ap, ◌∙◌, subst, arith}
use Rattle.std.proofs.lemmas.Bool.Decides.{nat_tests}
use Rattle.reg_op.specs.Set as set
use Rattle.reg_op.specs.Lists.{ById}
use Rattle.reg_op.specs.Operations.{Op, op_cmp}
use Rattle.reg_op.specs.Contents.{Content, IsContent, nothing, state, joined}
use Rattle.reg_op.proofs.ContentLemmas.{state-empty, joined_comm, joined_nothing}
use Rattle.reg_state.specs.Tables.{first_dropped}
use Rattle.reg_office.specs.declared.fault.OfficeFault.TheVariants as fault
use Rattle.reg_office.specs.Making.{greatest, note_fault}
use Rattle.reg_office.proofs.NumberLemmas.{made_ok}
use Rattle.reg_import.specs.declared.reading.ReadText.{ReadText}
use Rattle.reg_import.specs.declared.action.Differs.{Differs}
use Rattle.reg_import.specs.declared.action.TextAction.{TextAction}
use Rattle.reg_import.specs.Imports.{Step, effects}
use Rattle.reg_import.specs.Plans.{AreSteps, Plans, IsPassedPlan, Imports}
use Rattle.reg_import.proofs.NumberedLemmas.{length_numbered}
use Rattle.reg_import.proofs.OnceLemmas.{Once, nothing_against, none_dropped}
use Rattle.reg_import.proofs.FreshLemmas.{imports_once}

not_long : (n : ℕ) → n ≤ 200 → nat_lt 200 n ≡ false
not_long n h = grind (arith, nat_tests)

no_note_fault : (note : List ℕ) → length note ≤ 200 → note_fault note ≡ None
no_note_fault note h = λ j. cond (not_long (length note) h j) (Some fault.NoteTooLong) None

module _ (x : Content) (r note : List ℕ) (d : Differs) (texts : List ReadText) (ts : List TextAction) (ops : List Op) where
  steps_once : (steps : List Step) → ById (set.items x.ops) → AreSteps x r d texts steps → Once x.ops [] (effects steps)
  steps_once steps up are = subst (λ s. Once x.ops [] (effects s)) (sym are.2) (imports_once x.ops are.0 d r (greatest r x.seen + 1) texts up are.1)

  pub plan_is_kept : ById (set.items x.ops) → Plans x r note d texts ts ops → first_dropped (set.from_list {R = op_cmp} ops) ≡ None
  plan_is_kept up p = ap (λ (l : List Op). first_dropped (set.from_list l)) p.2.made ∙ none_dropped x.ops r (greatest r x.seen + 1) note (effects p.0) (steps_once p.0 up p.1)

  pub plan_is_done : (keep_going : Bool) (y : Content) → ById (set.items x.ops) → length note ≤ 200 → greatest r x.seen + 1 + length ops ≤ 4294967296 → Plans x r note d texts ts ops → IsPassedPlan keep_going ts
      → joined x (state (set.from_list {R = op_cmp} ops)) ≡ Ok y → Imports x r note d keep_going texts y ts
  plan_is_done keep_going y up short fits p passed joins =
      let long : length ops ≡ length (effects p.0) = ap length p.2.made ∙ length_numbered r (greatest r x.seen + 1) note (effects p.0) in
      let made_fits : greatest r x.seen + length (effects p.0) ≤ 4294967295 = omega arith in record {
        steps = p.0;
        are_steps = p.1;
        told = p.2.told;
        passes = passed.0;
        none_spent = passed.1;
        ids = map (λ (o : Op). o.id) ops;
        does = record {
          ops = ops;
          are_made = made_ok x r note (effects p.0) (no_note_fault note short) (nothing_against x r (greatest r x.seen + 1) note (effects p.0) (steps_once p.0 up p.1)) made_fits ∙ ap Ok (sym p.2.made);
          are_joined = joins;
          their_ids = refl;
        };
      }

-- joining no operations leaves the content unchanged
pub joined_none : (x : Content) (ops : List Op) → IsContent x → length ops ≡ 0 → joined x (state (set.from_list {R = op_cmp} ops)) ≡ Ok x
joined_none x [] is h = ap (joined x) state-empty ∙ joined_comm x nothing ∙ joined_nothing x is
joined_none x (o ∷ ops) is h = absurd (omega arith)
