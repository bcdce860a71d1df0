use Rattle.std.proofs.lemmas.Result.{err_from_is_err_and}
use Rattle.std.proofs.Common.{Some, Ok}
use Rattle.wkt_tree.specs.Faults.{Lexes, view}
use Rattle.wkt_tree.proofs.Lexemes.{misread_is}
use Rattle.wkt_tree.proofs.lexer.read.Goals as goal

pub returns-in_err-check_number : goal.returns-in_err-check_number
returns-in_err-check_number c =
    let t = c.in-Some.token in
    let p = err_from_is_err_and c.from_residual-in_err-check_number.result c.from_residual-in_err-check_number.ensures.1 in
    let l : Lexes c.args.place c.args.bytes.now (Ok (Some t)) = rw c.in-Some.is at c.in_ok-token.ensures in
    rw (p.1, p.2) (misread_is c.args.place c.args.bytes.now l.0 t.kind (view t).piece c.in_err-check_number.field-0.0 l.1 c.in_err-check_number.ensures.err)
