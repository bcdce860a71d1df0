use Rattle.std.proofs.Common.{◌≡◌, ◌++◌, ◌∷◌, [], Err, ap, ◌∙◌}
use Rattle.reg_op.specs.Contents.{joined}
use Rattle.reg_op.specs.Pieces.{Clash}
use Rattle.reg_commands.specs.Merge.{begun}
use Rattle.reg_take.specs.declared.taking.Taking.{Taking}
use Rattle.reg_take.specs.Taken.{Shows, left_out, after_register}
use Rattle.reg_take.proofs.TakenLemmas.{register_left, if_ok_weaker}
use Rattle.reg_take.proofs.taking.Taking.take_register.Goals as goal

pub returns-in-Err-Clash : goal.returns-in-Err-Clash
returns-in-Err-Clash c t shows =
    let x = c.args.self.register in
    let l = c.args.self.left.items in
    if_ok_weaker (λ (new : Taking). new.register ≡ x) (λ (new : Taking). new.left.items ≡ l ++ left_out c.args.file (Clash c.in-Err-Clash.id) ∷ [])
    (λ (new : Taking). Shows new (after_register t c.args.file c.args.register.now (begun (joined t.content c.args.register.now)))) c.leave.result
    (λ new same more.
    let both = register_left t c.args.file c.args.register.now x l new.left.items c.in-Err-Clash.id shows.0 shows.1
    ((c.in-Err-Clash.ensures.clash c.in-Err-Clash.id).0 (ap (λ f. Err f) c.in-Err-Clash.field-0-is)) more in
    (same ∙ both.0, both.1))
    c.leave.ensures.register c.leave.ensures.left
