use Rattle.std.proofs.Common.{refl}
use Rattle.reg_lint.specs.declared.disputes.Disputes.{Disputes}
use Rattle.reg_lint.proofs.DisputeLemmas.{all_settled}
use Rattle.reg_lint.proofs.disputes.Disputes.settle.Goals as goal

pub returns : goal.returns
returns c =
    let old = c.args.self.now in
    let new : Disputes = record { heard = old.heard; case = c.settle.new.self; datum = c.settle-2.new.self; parts = c.settle-3.new.self; same_name = c.settle-4.new.self; named = old.named } in
    all_settled old new c.settle.ensures c.settle-2.ensures c.settle-3.ensures c.settle-4.ensures refl
