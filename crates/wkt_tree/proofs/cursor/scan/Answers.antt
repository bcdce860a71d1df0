use Rattle.std.proofs.Common.{Err, refl, ap, ◌∙◌}
use Rattle.std.proofs.lemmas.Result.{err_from_is_err_and}
use Rattle.wkt_tree.proofs.Exclusion.{fault_no}
use Rattle.wkt_tree.proofs.First.{one_first_fault}
use Rattle.wkt_tree.proofs.Unread.{outline_of}
use Rattle.wkt_tree.proofs.cursor.scan.Goals as goal

pub invariant_of-result : goal.invariant_of-result
invariant_of-result c = let o = c.in_ok-check_text.ensures.ok in outline_of c.args.text.now o.0 o.1

pub returns-clause-ok : goal.returns-clause-ok
returns-clause-ok c = let o = c.in_ok-check_text.ensures.ok in (refl, outline_of c.args.text.now o.0 o.1)

pub returns-in_err-check_text-clause-passes : goal.returns-in_err-check_text-clause-passes
returns-in_err-check_text-clause-passes c = λ ts o. absurd (fault_no c.args.text.now ts _ c.in_err-check_text.ensures.err o)

pub returns-in_err-check_text-clause-fails : goal.returns-in_err-check_text-clause-fails
returns-in_err-check_text-clause-fails c = λ fault f.
    let p = err_from_is_err_and c.from_residual.result c.from_residual.ensures.1 in
    p.1 ∙ ap Err (p.2 ∙ one_first_fault c.args.text.now _ fault c.in_err-check_text.ensures.err f)

pub returns-clause-fails : goal.returns-clause-fails
returns-clause-fails c = λ fault f. let o = c.in_ok-check_text.ensures.ok in absurd (fault_no c.args.text.now o.0 fault f o.1)
