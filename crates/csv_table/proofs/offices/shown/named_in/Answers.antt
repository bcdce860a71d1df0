use Rattle.std.proofs.Common.{◌∙◌, sym}
use Rattle.csv_table.proofs.ShownLemmas.{ended}
use Rattle.csv_table.proofs.offices.shown.named_in.Goals as goal

pub returns : goal.returns
returns c =
    sym (ended c.loop-byte.rest.now c.loop-byte.out.items c.loop-byte.skip c.loop-byte.starts c.args.keeps c.args.names.now c.in_default.ensures.cases) ∙ c.loop-byte.invariant
