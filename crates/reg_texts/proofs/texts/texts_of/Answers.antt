use Rattle.std.proofs.Common.{map, ap, ◌∙◌, subst}
use Rattle.reg_op.specs.Rows.{rows}
use Rattle.reg_op.specs.Set.{Ascends}
use Rattle.reg_report.specs.Seen.{row_seen}
use Rattle.reg_report.specs.Rows.{row_cmp}
use Rattle.reg_texts.specs.Said.{said}
use Rattle.reg_texts.specs.Gathered.{AreGathered}
use Rattle.reg_texts.specs.Listing.{IsListing}
use Rattle.reg_texts.proofs.SaidLemmas.{gathered}
use Rattle.reg_texts.proofs.texts.texts_of.Goals as goal

pub returns : goal.returns
returns c =
    let rs = rows c.args.register.now.ops in
    let made = ap (map row_seen) c.deref.ensures.value ∙ c.in_ok-rows.ensures.rows in
    let up = subst (Ascends row_cmp) c.in_ok-rows.ensures.rows c.in_ok-rows.ensures.order in
    let all = map said c.in_ok-made.made.items in
    let are = subst (λ l. AreGathered l all) made c.in_ok-made.ensures in
    let order = c.in_order-made.ensures in
    record {
      said = map said c.in_order-made.result.items;
      are = record {
        ascend = order.ascend;
        each = λ s. (λ h. (gathered rs up all are s).0 ((order.same s).0 h), λ h. (order.same s).1 ((gathered rs up all are s).1 h));
      };
      listing = subst (λ l. IsListing (map said l) c.in_ok-text.text.items) c.deref-2.ensures.value c.in_ok-text.ensures;
    }
