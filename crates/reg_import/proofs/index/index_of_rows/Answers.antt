use Rattle.std.proofs.Common.{[], ◌∷◌, ◌++◌, ◌∙◌}
use Rattle.reg_import.specs.Known.{by_key}
use Rattle.reg_import.specs.Index.{key_bytes}
use Rattle.reg_import.proofs.KnownLemmas.{knows_more, knows_all, by_key_push}
use Rattle.reg_import.proofs.index.index_of_rows.Goals as goal

pub loop-row-preserved : goal.loop-row-preserved
loop-row-preserved c =
    let es = c.loop-row.invariant.0 in
    let e = c.in_ok-entry.entry in (
      es ++ e ∷ [],
      knows_more c.args.rows.now c.loop-row.rest.now c.in-Some.others.now c.in-Some.row.now es e c.in-Some.ensures.cases.0 c.in_ok-entry.ensures c.loop-row.invariant.1,
      λ q. c.in_ok-put_known.ensures (by_key es) c.loop-row.invariant.2 q ∙ by_key_push es e (key_bytes q),
    )

pub returns : goal.returns
returns c = (c.loop-row.invariant.0, knows_all c.args.rows.now c.loop-row.rest.now c.loop-row.invariant.0 c.in_default.ensures.cases c.loop-row.invariant.1, c.loop-row.invariant.2)
