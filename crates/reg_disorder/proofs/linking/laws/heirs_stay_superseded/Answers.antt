use Rattle.std.proofs.Common.{sym, ap, ◌∙◌}
use Rattle.reg_op.specs.Status.{status}
use Rattle.reg_report.proofs.RowLemmas.{row_status}
use Rattle.reg_disorder.proofs.Passes.{passes_on, linked_is_superseded}
use Rattle.reg_disorder.proofs.linking.laws.heirs_stay_superseded.Goals as goal

pub returns : goal.returns
returns c = λ x m y replica note noted bodies made ids links old newer a b d plain p linked is_a is_b differ r k has key. record {
  row = r;
  there = has.there;
  superseded = row_status y.ops r has.there ∙ ap (status y.ops) has.is ∙ linked_is_superseded y.ops a b (passes_on x m y replica note noted bodies made ids links d plain p old newer a b linked is_a is_b differ);
  key = key;
}
