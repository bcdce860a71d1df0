use Rattle.std.proofs.Common.{sym, subst, option_map}
use Rattle.reg_engine.specs.Outputs.{IsUnpublishedOf}
use Rattle.reg_engine.proofs.OutputLemmas.{unreplaced}
use Rattle.reg_engine.proofs.outputs.publish_chunks.Goals as goal

pub returns-in-Err-clause-fault : goal.returns-in-Err-clause-fault
returns-in-Err-clause-fault g c =
    let old = g.P.Place.state c.args.place.now in
    let new = g.P.Place.state c.replace_with.new.place in
    let read = option_map (λ s. s.now) c.args.read in
    subst (IsUnpublishedOf read (g.C.Chunks.bytes c.args.content.now) old new) (sym c.of_replace.ensures) (unreplaced read (g.C.Chunks.bytes c.args.content.now) old new c.in-Err.fault c.in-Err.ensures.fault)
