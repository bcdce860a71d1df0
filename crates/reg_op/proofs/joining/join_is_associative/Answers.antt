use Rattle.reg_op.proofs.Joins.{associative, joined_three}
use Rattle.reg_op.proofs.joining.join_is_associative.Goals as goal

pub returns : goal.returns
returns g c = let laws = g.met.T.Join.laws in record { associative = associative laws; joined = joined_three laws }
