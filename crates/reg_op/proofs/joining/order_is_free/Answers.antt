use Rattle.reg_op.proofs.Joins.{agreement, order, one}
use Rattle.reg_op.proofs.joining.order_is_free.Goals as goal

pub returns : goal.returns
returns g c = let laws = g.met.T.Join.laws in record { agreement = agreement laws; order = order laws; one = one laws }
