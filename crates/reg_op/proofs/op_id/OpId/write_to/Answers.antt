use Rattle.std.proofs.Common.{subst}
use Rattle.reg_op.specs.Ids.{IsId}
use Rattle.reg_op.proofs.TextLemmas.{printed_reads}
use Rattle.reg_op.proofs.op_id.OpId.write_to.Goals as goal

pub returns-in_err-reserve-clause-reads : goal.returns-in_err-reserve-clause-reads
returns-in_err-reserve-clause-reads c = printed_reads c.args.self.now (subst IsId c.self.view_is c.self.invariant)

pub returns-clause-reads : goal.returns-clause-reads
returns-clause-reads c = printed_reads c.args.self.now (subst IsId c.self.view_is c.self.invariant)
