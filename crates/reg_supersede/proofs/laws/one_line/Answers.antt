use Rattle.reg_supersede.proofs.LawLemmas.{one_does, one_refuses, is_command}
use Rattle.reg_supersede.proofs.laws.one_line.Goals as goal

pub returns : goal.returns
returns c = record {
  does = λ t x y text w v ws olds newer ids are s u. one_does t x text w v ws olds newer are s u y ids;
  refuses = λ t x text w v ws olds newer f are s u. one_refuses t x text w v ws olds newer are s u f;
  command = is_command;
}
