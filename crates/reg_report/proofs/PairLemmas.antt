-- An operation of a register, and the entry that it enters.
use Rattle.std.proofs.Common.{◌≡◌, ℕ, ◌<◌, true, ◌&&◌, List, length, get_or, sym, ap, ◌∙◌}
use Rattle.std.proofs.lemmas.Bool.{and_from}
use Rattle.std.proofs.lemmas.List.Folds.{list_any_at}
use Rattle.std.specs.List.{list_any}
use Rattle.std.specs.Cmp.{tied_itself}
use Rattle.std.specs.Ordering.{is_eq, eq_by_cmp}
use Rattle.reg_op.specs.Set as set
use Rattle.reg_op.specs.Ids.{Id, is_same}
use Rattle.reg_op.specs.Operations.{Op, Ops, op_cmp}
use Rattle.reg_op.specs.declared.operation.OpBody.{OpBody as Body}
use Rattle.reg_op.specs.declared.operation.OpBody.TheVariants.{Enter}
use Rattle.reg_op.specs.Status.{enters, is_enter}
use Rattle.reg_op.proofs.OpLemmas.{id_total, op_total, op_exact}
use Rattle.reg_op.proofs.FiniteLemmas.{any_from_member}

pub is_member : (s : Ops) (os : List Op) (k : ℕ) (o : Op) → os ≡ set.items s → k < length os → o ≡ get_or os k o → set.contains s o ≡ true
is_member s os k o e h at = set.contains-items s o ∙ ap (list_any (eq_by_cmp op_cmp o)) (sym e)
    ∙ list_any_at (eq_by_cmp op_cmp o) os k o h (ap (eq_by_cmp op_cmp o) (sym at) ∙ ap is_eq (tied_itself op_total o))

pub it_enters : (s : Ops) (o : Op) (i : Id) (text : List ℕ) (b : Body) → set.contains s o ≡ true → b ≡ o.body → b ≡ Enter text → i ≡ o.id → enters s i ≡ true
it_enters s o i text b m e f g =
    any_from_member op_total op_exact (λ p. is_same i p.id && is_enter p.body) s o m
    (and_from _ _ (ap (λ j. is_same i j) (sym g) ∙ ap is_eq (tied_itself id_total i)) (ap is_enter (sym e ∙ f)))
