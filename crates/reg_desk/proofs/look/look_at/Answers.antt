use Rattle.std.proofs.Common.{List, ℕ, subst}
use Rattle.reg_desk.specs.Look.{HasLook}
use Rattle.reg_desk.proofs.LookLemmas.{looked}
use Rattle.reg_desk.proofs.look.look_at.Goals as goal

pub returns-clause-look : goal.returns-clause-look
returns-clause-look g c = looked (g.S.Source.state c.args.source.now) (g.S.Source.state c.read_up_to.new.source) c.in-Ok.bytes.items c.in_ok-look.look c.in-Ok.ensures.ok
    (subst (λ (bs : List ℕ). HasLook bs c.in_ok-look.look) c.deref.ensures.value c.in_ok-look.ensures)
