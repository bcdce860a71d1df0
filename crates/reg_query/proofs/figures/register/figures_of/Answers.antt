use Rattle.std.proofs.Common.{List, length, map, ap, ◌∙◌, subst}
use Rattle.reg_op.specs.Rows.{Row, rows}
use Rattle.reg_report.specs.Seen.{row_seen}
use Rattle.reg_query.specs.Figures.{AreCounts, AreCountsAmiss, CountsConflicts}
use Rattle.reg_query.proofs.figures.register.figures_of.Goals as goal

pub returns : goal.returns
returns c =
    let made = c.in_ok-rows.ensures.rows in
    let counts = subst (λ (rs : List Row). AreCounts rs c.counts_in-counts.result) (ap (map row_seen) c.deref.ensures.value ∙ made) c.counts_in-counts.ensures in
    let conflicts = subst (λ (rs : List Row). CountsConflicts rs c.in_ok-conflicts.conflicts) (ap (map row_seen) c.deref-2.ensures.value ∙ made) c.in_ok-conflicts.ensures in
    let amiss = subst (λ (rs : List Row). AreCountsAmiss rs c.in_ok-amiss.amiss) (ap (map row_seen) c.deref-3.ensures.value ∙ made) c.in_ok-amiss.ensures in
    record {
      operations = ap length (c.as_slice.ensures ∙ c.ops.ensures.items);
      entries = counts.entries;
      valid = counts.valid;
      superseded = counts.superseded;
      retired = counts.retired;
      conflicts = conflicts;
      awaited = c.in_ok-awaited.ensures;
      gaps = c.in_ok-gaps.ensures;
      duplicates = amiss.duplicates;
      dangling = amiss.dangling;
      withdrawn = amiss.withdrawn;
    }
