use Rattle.reg_writers.specs.OfficeDesk.{start, after}
use Rattle.reg_writers.proofs.DeskLemmas.{always, same_op}
use Rattle.reg_writers.proofs.offices.laws.no_number_is_given_twice.Goals as goal

pub returns : goal.returns
returns g = λ cs ss j k o p ho hp same. let h = always cs ss in (h.once j k o p ho hp same, same_op cs (after cs ss start) h j k o p ho hp same)
