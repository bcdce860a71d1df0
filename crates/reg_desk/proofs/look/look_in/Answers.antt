use Rattle.std.proofs.Common.{length, refl}
use Rattle.reg_desk.proofs.LookLemmas.{look_has}
use Rattle.reg_desk.proofs.look.look_in.Goals as goal

pub returns : goal.returns
returns c = look_has c.args.bytes.now c.in-Ok.register (length c.args.bytes.now) c.in_ok-look.look refl c.in-Ok.ensures.found c.in_ok-look.ensures
