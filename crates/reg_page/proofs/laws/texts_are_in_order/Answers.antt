use Rattle.std.proofs.Common.{ap, ◌∙◌}
use Rattle.html_page.specs.Read.{read_of}
use Rattle.html_page.proofs.SaidLemmas.{all_said}
use Rattle.html_page.proofs.TextLemmas.{in_order}
use Rattle.reg_page.specs.Page.{named}
use Rattle.reg_page.proofs.TextLemmas.{all_show, all_in_order}
use Rattle.reg_page.proofs.laws.texts_are_in_order.Goals as goal

pub returns : goal.returns
returns c = record {
  rows = all_show;
  sorted = all_in_order;
  page = λ rules title names x bytes p. (p.is, in_order (named names) p.shows);
  read = λ rules title names x bytes p. ap read_of p.is ∙ all_said (named names) p.shows;
}
