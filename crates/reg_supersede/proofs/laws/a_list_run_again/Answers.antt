use Rattle.reg_supersede.proofs.AgainLemmas.{makes_again, makes_nothing, refused_for}
use Rattle.reg_supersede.proofs.laws.a_list_run_again.Goals as goal

pub returns : goal.returns
returns c = record {
  again = λ r n s m bytes text keys g h x y is short did. makes_again r n s m bytes text keys g h x y is did short;
  nothing = λ r n s m bytes text more keys g h x y z left is did does. makes_nothing r n s m bytes text keys g h x y is did z more left does;
  refused = λ r n s m bytes text keys g h x y before told f is short did cannot. refused_for r n s m bytes text keys g h x y is did short before told f cannot;
}
