use Rattle.std.proofs.Common.{sym, ap, ◌∙◌}
use Rattle.wkt_build.specs.Choices.{geodetic_kind_of, is_projected, is_vertical}
use Rattle.wkt_build.proofs.Chosen.{geodetic_made, projected_made, vertical_made}
use Rattle.wkt_build.proofs.crs.build_single.Goals as goal

pub returns-then-is_projected-clause-builds : goal.returns-then-is_projected-clause-builds
returns-then-is_projected-clause-builds c = projected_made c.args.cursor.now c.build_projected.new.cursor c.in_ok-projected.projected (ap is_projected (sym c.next_keyword-keyword.ensures) ∙ (sym c.is_projected.ensures ∙ c.if-is_projected.true)) c.in_ok-projected.ensures.builds

pub returns-then-is_vertical-clause-builds : goal.returns-then-is_vertical-clause-builds
returns-then-is_vertical-clause-builds c = vertical_made c.args.cursor.now c.build_vertical.new.cursor c.in_ok-vertical.vertical (ap is_vertical (sym c.next_keyword-keyword.ensures) ∙ (sym c.is_vertical.ensures ∙ c.if-is_vertical.true)) c.in_ok-vertical.ensures.builds

pub returns-clause-builds : goal.returns-clause-builds
returns-clause-builds c = geodetic_made c.args.cursor.now c.build_geodetic.new.cursor c.in_ok-geodetic.geodetic (ap is_projected (sym c.next_keyword-keyword.ensures) ∙ (sym c.is_projected.ensures ∙ c.if-is_projected.false)) (ap is_vertical (sym c.next_keyword-keyword.ensures) ∙ (sym c.is_vertical.ensures ∙ c.if-is_vertical.false))
    (c.in_ok-geodetic.ensures.kind ∙ (c.geodetic_kind_of.ensures ∙ ap geodetic_kind_of c.next_keyword-keyword.ensures)) c.in_ok-geodetic.ensures.builds
