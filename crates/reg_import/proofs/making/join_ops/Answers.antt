use Rattle.std.proofs.Common.{ap, length, sym, ◌∙◌}
use Rattle.std.proofs.lemmas.Bool.{eqb-true}
use Rattle.reg_import.proofs.ImportLemmas.{joined_none}
use Rattle.reg_import.proofs.making.join_ops.Goals as goal

pub returns-then-is_empty : goal.returns-then-is_empty
returns-then-is_empty c = joined_none c.args.register c.args.ops.items c.seen.ensures.content (ap length (sym c.as_slice-slice.ensures.value) ∙ eqb-true _ _ (sym c.if-is_empty.ensures))
