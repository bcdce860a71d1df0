use Rattle.std.proofs.Common.{ℕ, OnOk, List, subst}
use Rattle.reg_lint.specs.Known.{has_mark}
use Rattle.reg_lint.specs.Lines.{row_of, fields_of, Writes}
use Rattle.reg_lint.proofs.lines.write_line.Goals as goal

pub returns-in-Some-clause-row : goal.returns-in-Some-clause-row
returns-in-Some-clause-row c =
    rw c.in-Some.is
    (λ s is. subst (λ (t : List ℕ). OnOk c.write_found.result (Writes c.args.wtr.now c.write_found.new.wtr (row_of (has_mark c.args.known.now) (fields_of c.args.rule s t))))
    c.deref.ensures.value (c.write_found.ensures.row s is))
