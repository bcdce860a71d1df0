use Rattle.std.proofs.Common.{sym, ◌∙◌}
use Rattle.wkt_grammar.proofs.Entered.{entered}
use Rattle.wkt_grammar.proofs.argument.row_in.Goals as goal

pub returns-in-Some : goal.returns-in-Some
returns-in-Some c = entered c.args.edition c.args.node c.in-Some.inner c.row_of-row.result.now c.args.slot _ c.args.keyword c.row_of-row.ensures c.if-slot-row.true (sym c.enters.ensures ∙ c.in-Some.is)
