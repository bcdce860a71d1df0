use Rattle.std.proofs.Common.{length, refl}
use Rattle.reg_desk.proofs.LookLemmas.{register_looked}
use Rattle.reg_desk.proofs.look.register_look.Goals as goal

pub returns : goal.returns
returns c = register_looked c.args.bytes.now c.in-Ok.register (length c.args.bytes.now) c.in_ok-look.look refl c.in-Ok.ensures.found c.in_ok-look.ensures
