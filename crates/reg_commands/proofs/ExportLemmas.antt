-- The lines of an export, operation by operation.
use Rattle.std.proofs.Common.{◌≡◌, ◌++◌, ◌∷◌, [], List, refl, sym, ap, ◌∙◌, append_assoc}
use Rattle.std.specs.List.{flat_map}
use Rattle.reg_op.specs.Operations.{Op, Ops}
use Rattle.reg_op.specs.Rows.{Row, rows_at}
use Rattle.reg_report.specs.Exports.{row_line}
use Rattle.reg_commands.specs.Export.{op_line}

lines_of_both : (rs qs : List Row) → flat_map row_line (rs ++ qs) ≡ flat_map row_line rs ++ flat_map row_line qs
lines_of_both [] qs = refl
lines_of_both (r ∷ rs) qs = ap (λ ls. row_line r ++ ls) (lines_of_both rs qs) ∙ sym (append_assoc (row_line r) (flat_map row_line rs) (flat_map row_line qs))

pub lines_are : (s : Ops) (os : List Op) → flat_map (op_line s) os ≡ flat_map row_line (flat_map (λ (o : Op). rows_at s o.id o.body) os)
lines_are s [] = refl
lines_are s (o ∷ os) = ap (λ ls. op_line s o ++ ls) (lines_are s os) ∙ sym (lines_of_both (rows_at s o.id o.body) (flat_map (λ (p : Op). rows_at s p.id p.body) os))
