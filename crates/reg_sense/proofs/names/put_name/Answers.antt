use Rattle.std.specs.BTreeSet.{contains_by}
use Rattle.reg_sense.specs.Tallies.{bytes_cmp}
use Rattle.reg_sense.proofs.NameLemmas.{name_step}
use Rattle.reg_sense.proofs.names.put_name.Goals as goal

pub returns : goal.returns
returns c = λ names had q. name_step c.args.name q names (contains_by (bytes_cmp q) c.args.set.now) (contains_by (bytes_cmp q) c.insert.new.self) (c.in_ok-insert.ensures.updates.0 q) (had q)
