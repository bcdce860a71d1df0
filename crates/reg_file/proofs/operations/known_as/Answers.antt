use Rattle.std.proofs.Common.{sym, ◌∙◌, nat_eq}
use Rattle.std.specs.Cmp.Lexicographic.{pointwise}
use Rattle.std.proofs.lemmas.Bool.{not-false}
use Rattle.reg_op.proofs.Defining.{same_bytes}
use Rattle.reg_file.proofs.operations.known_as.Goals as goal

pub returns-in-Ok : goal.returns-in-Ok
returns-in-Ok c =
    c.in-Ok.ensures ∙ (sym c.as_bytes.ensures.bytes ∙ same_bytes c.as_bytes.result.now c.args.text.now (not-false (pointwise nat_eq c.as_bytes.result.now c.args.text.now) (sym c.ne.ensures ∙ c.if-ne.false)))
