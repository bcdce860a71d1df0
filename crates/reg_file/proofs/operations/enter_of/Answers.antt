use Rattle.std.proofs.Common.{ap, sym, ◌∙◌, length, Ok}
use Rattle.reg_op.specs.declared.operation.OpBody.TheVariants.{Enter}
use Rattle.reg_file.specs.Fields.{◌>>=◌, body_at, text_at}
use Rattle.reg_file.proofs.BodyLemmas.{stops_first, stops_then, stops_text}
use Rattle.reg_file.proofs.operations.enter_of.Goals as goal

pub returns-in-Err-clause-err : goal.returns-in-Err-clause-err
unfolding body_at
returns-in-Err-clause-err c = stops_first _ (text_at c.args.bytes.now) (λ x. Ok (Enter x.0, x.1)) c.in-Err.stop c.in-Err.ensures

pub returns-in-Ok-definition_of-clause-ok : goal.returns-in-Ok-definition_of-clause-ok
unfolding body_at
returns-in-Ok-definition_of-clause-ok c =
    ap (λ r. r >>= λ x. Ok (Enter x.0, x.1)) c.in-Ok.ensures ∙ ap (λ t. Ok (Enter t, c.in-Ok.read.1.now)) (sym c.in-Ok-definition_of.ensures.ok)

pub returns-in-Err-definition_of-clause-err : goal.returns-in-Err-definition_of-clause-err
unfolding body_at
returns-in-Err-definition_of-clause-err c =
    stops_then _ (text_at c.args.bytes.now) (λ x. Ok (Enter x.0, x.1)) c.in-Err-definition_of.stop (c.in-Ok.read.0.now, c.in-Ok.read.1.now) c.in-Ok.ensures
    (stops_text c.in-Ok.read.0.now (length c.args.bytes.now) c.in-Ok.read.1.now c.in-Err-definition_of.stop c.in-Err-definition_of.ensures.err)
