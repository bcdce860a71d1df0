use Rattle.std.proofs.Common.{sym, ap, ◌∙◌}
use Rattle.wkt_build.specs.Choices.{is_ensemble}
use Rattle.wkt_build.proofs.Chosen.{vertical_datum_made, vertical_ensemble_made}
use Rattle.wkt_build.proofs.datums.VerticalFrameBuilt.build.Goals as goal

pub returns-then-is_ensemble-clause-builds : goal.returns-then-is_ensemble-clause-builds
returns-then-is_ensemble-clause-builds c = vertical_ensemble_made c.args.cursor.now c.build_vertical_ensemble.new.cursor c.in_ok-ensemble.ensemble (ap is_ensemble (sym c.next_keyword.ensures) ∙ (sym c.is_ensemble.ensures ∙ c.if-is_ensemble.true)) c.in_ok-ensemble.ensures.builds

pub returns-clause-builds : goal.returns-clause-builds
returns-clause-builds c = vertical_datum_made c.args.cursor.now c.build_vertical_datum.new.cursor c.in_ok-datum.datum (ap is_ensemble (sym c.next_keyword.ensures) ∙ (sym c.is_ensemble.ensures ∙ c.if-is_ensemble.false)) c.in_ok-datum.ensures.builds
