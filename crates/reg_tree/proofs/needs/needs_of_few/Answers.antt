use Rattle.std.proofs.Common.{◌∙◌}
use Rattle.reg_tree.proofs.Held.{few_seen}
use Rattle.reg_tree.proofs.needs.needs_of_few.Goals as goal

pub returns-clause-seen : goal.returns-clause-seen
returns-clause-seen c = few_seen c.in-Some.piece.now c.args.pieces.now c.in-Some.field-0-1.now c.in_ok-seen.seen c.in-Some.ensures.cases.0 c.requires (c.in_ok-seen.ensures ∙ c.seen.ensures.value)
