use Rattle.std.proofs.Common.{length, sym, ap, ◌∙◌}
use Rattle.reg_query.proofs.LawLemmas.{differ_of}
use Rattle.reg_query.proofs.diff.comparing.compare.Goals as goal

pub returns-clause-differ : goal.returns-clause-differ
returns-clause-differ c =
    differ_of c.args.old.now c.args.new.now _ _ _ _ c.in_ok-changes.changes.items _ c.is_empty.result c.in_ok-olds.ensures.rows c.in_ok-news.ensures.rows c.in_ok-olds.ensures.order c.in_ok-news.ensures.order
    c.deref.ensures.value c.deref-2.ensures.value c.in_ok-changes.ensures (sym c.deref-3.ensures.len ∙ ap length c.deref-3.ensures.value) c.is_empty.ensures
