use Rattle.std.proofs.Common.{ap, Ok}
use Rattle.reg_op.specs.declared.operation.OpBody.TheVariants.{Supersede}
use Rattle.reg_file.specs.Fields.{◌>>=◌, body_at, pair_at}
use Rattle.reg_file.proofs.BodyLemmas.{stops_first}
use Rattle.reg_file.proofs.operations.supersede_of.Goals as goal

pub returns-clause-ok : goal.returns-clause-ok
unfolding body_at
returns-clause-ok c = ap (λ r. r >>= λ x. Ok (Supersede x.0.0 x.0.1, x.1)) c.in-Ok.ensures

pub returns-in-Err-clause-err : goal.returns-in-Err-clause-err
unfolding body_at
returns-in-Err-clause-err c = stops_first _ (pair_at c.args.bytes.now) (λ x. Ok (Supersede x.0.0 x.0.1, x.1)) c.in-Err.stop c.in-Err.ensures
