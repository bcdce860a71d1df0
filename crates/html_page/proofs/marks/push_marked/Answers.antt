use Rattle.std.proofs.Common.{rules}
use Rattle.html_page.proofs.MarkLemmas.{pushed}
use Rattle.html_page.proofs.marks.push_marked.Goals as goal

pub loop-byte-preserved : goal.loop-byte-preserved
loop-byte-preserved c =
    pushed c.args.feeds c.loop-byte.page.items c.push_first.new.page.items _ c.loop-byte.rest.now c.in-Some.others.now c.after-rest.result.now c.in-Some.byte.now c.in_ok-more.more c.marked_at-hidden.result
    c.loop-byte.invariant (search rules) c.marked_at-hidden.ensures c.in_ok-more.ensures.0 c.in_ok-more.ensures.1 c.after-rest.ensures
