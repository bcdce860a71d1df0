use Rattle.reg_page.proofs.OneLemmas.{one_page, one_of_replicas, one_of_merges}
use Rattle.reg_page.proofs.laws.one_page.Goals as goal

pub returns : goal.returns
returns c = record { content = one_page; replicas = one_of_replicas; merges = one_of_merges }
