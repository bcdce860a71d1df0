use Rattle.std.proofs.Common.{ap, ◌∙◌}
use Rattle.reg_lint.proofs.MarkLemmas.{any_after, among_keys}
use Rattle.reg_lint.proofs.known.Known.put.Goals as goal

pub returns : goal.returns
returns c = λ m. ap (among_keys m) c.in_ok-insert.ensures.keys ∙ any_after m c.args.mark c.args.self.now.marks.keys
