use Rattle.reg_page.proofs.ToldLemmas.{own_texts, all_told}
use Rattle.reg_page.proofs.laws.each_text_is_in_a_row.Goals as goal

pub returns : goal.returns
returns c = record { own = own_texts; linked = all_told }
