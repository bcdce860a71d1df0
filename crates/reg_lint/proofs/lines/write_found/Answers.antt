use Rattle.std.proofs.Common.{◌≡◌, ℕ, OnOk, List, ap, ◌∙◌, subst}
use Rattle.crs_value.specs.declared.crs.Crs.{Crs}
use Rattle.reg_lint.specs.Known.{has_mark}
use Rattle.reg_lint.specs.Lines.{row_of, fields_in, fields_of, Writes}
use Rattle.reg_lint.proofs.lines.write_found.Goals as goal

pub returns-clause-row : goal.returns-clause-row
returns-clause-row c = λ s is.
    let same : fields_in c.args.rule c.deref.result.now c.as_ref.result.now.parts c.args.detail.now ≡ fields_of c.args.rule s c.args.detail.now
    = λ k. fields_in c.args.rule ((c.deref.ensures.value ∙ is.0) k) ((ap (λ (v : Crs). v.parts) (c.as_ref.ensures ∙ c.in_ok-crs.ensures s is)) k) c.args.detail.now in
    subst (λ (fs : List (List ℕ)). OnOk c.write_told.result (Writes c.args.wtr.now c.write_told.new.wtr (row_of (has_mark c.args.known.now) fs)))
    same c.write_told.ensures
