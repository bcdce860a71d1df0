use Rattle.std.proofs.Common.{ap, ◌∙◌}
use Rattle.std.specs.List.{list_any}
use Rattle.reg_state.specs.Runs.{meets, overlap}
use Rattle.reg_state.proofs.MeetLemmas.{meets_is}
use Rattle.reg_state.proofs.seen.Seen.meets.Goals as goal

pub returns : goal.returns
returns c =
    c.is_met.ensures
    ∙ ap (list_any (overlap c.args.run)) c.deref.ensures.value
    ∙ meets_is c.self.inside.runs.items c.self.invariant.runs c.args.run
    ∙ ap (λ s. meets s c.args.run) c.self.view_is
