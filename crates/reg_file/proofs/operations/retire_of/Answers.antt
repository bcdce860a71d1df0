use Rattle.std.proofs.Common.{ap, Ok}
use Rattle.reg_op.specs.declared.operation.OpBody.TheVariants.{Retire}
use Rattle.reg_file.specs.Fields.{◌>>=◌, body_at, id_at}
use Rattle.reg_file.proofs.BodyLemmas.{stops_first}
use Rattle.reg_file.proofs.operations.retire_of.Goals as goal

pub returns-clause-ok : goal.returns-clause-ok
unfolding body_at
returns-clause-ok c = ap (λ r. r >>= λ x. Ok (Retire x.0, x.1)) c.in-Ok.ensures

pub returns-in-Err-clause-err : goal.returns-in-Err-clause-err
unfolding body_at
returns-in-Err-clause-err c = stops_first _ (id_at c.args.bytes.now) (λ x. Ok (Retire x.0, x.1)) c.in-Err.stop c.in-Err.ensures
