use Rattle.reg_lint.specs.declared.disputes.Disputes.{Disputes}
use Rattle.reg_lint.proofs.DisputeLemmas.{hears_all}
use Rattle.reg_lint.proofs.disputes.Disputes.hear.Goals as goal

pub returns : goal.returns
returns c =
    let old = c.args.self.now in
    let new : Disputes = record {
      heard = old.heard;
      case = c.hear_rule.new.words;
      datum = c.hear_rule-2.new.words;
      parts = c.hear_rule-3.new.words;
      same_name = c.hear_rule-4.new.words;
      named = c.either-self.result;
    } in
    hears_all c.args.crs.now old new c.in_ok-named.named c.either-self.ensures c.in_ok-named.ensures
    c.in_ok-hear_rule.ensures c.in_ok-hear_rule-2.ensures c.in_ok-hear_rule-3.ensures c.in_ok-hear_rule-4.ensures
