use Rattle.reg_writers.specs.OfficeDesk.{start, after}
use Rattle.reg_writers.proofs.DeskLemmas.{always, is_read, is_made, is_current, are_alone, is_copy, two_join}
use Rattle.reg_writers.proofs.offices.laws.each_interleaving_is_a_world.Goals as goal

pub returns : goal.returns
returns g = record {
  world = λ cs ss. (always cs ss).led;
  stands = λ cs ss. (always cs ss).stands;
  read = λ cs ss k c e. let d = after cs ss start in is_read cs d.lock d.world k (d.stage k) c ((always cs ss).fits k) e;
  made = λ cs ss k v e. let d = after cs ss start in is_made cs d.lock d.world k (d.stage k) v ((always cs ss).fits k) e;
  alone = λ cs ss j k. are_alone cs (after cs ss start) (always cs ss) j k;
  current = λ cs ss k f e. let d = after cs ss start in is_current cs d.lock d.world k (d.stage k) f ((always cs ss).fits k) e;
  joins = λ cs ss b c mb mc. let d = after cs ss start in (two_join cs d (always cs ss) b c mb mc, (is_copy cs d (always cs ss) b mb).content);
}
