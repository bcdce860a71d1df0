use Rattle.std.proofs.Common.{◌≡◌, ◌∷◌, Some, rules}
use Rattle.byte_system.specs.Disk.{Fails}
use Rattle.byte_system.specs.System.{calls}
use Rattle.byte_protocol.specs.Replacing.{begun}
use Rattle.byte_protocol.proofs.replacing.make_new.Goals as goal

pub returns-in-Err-NotMade-make_own-clause-fault : goal.returns-in-Err-NotMade-make_own-clause-fault
returns-in-Err-NotMade-make_own-clause-fault g c =
    let left = Some c.in-Ok-sweep.left in
    let made : calls (g.S.System.state c.make_own-2.new.self) ≡ Fails ∷ begun c.args.new.now left (calls (g.S.System.state c.args.system.now)) = search rules in
    (left, made)
