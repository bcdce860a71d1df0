use Rattle.std.proofs.Common.{ap, ◌∙◌}
use Rattle.wkt_build.specs.Choices.{geodetic_kind_of}
use Rattle.wkt_build.proofs.Chosen.{base_result}
use Rattle.wkt_build.proofs.crs.BaseCrsBuilt.build.Goals as goal

pub returns-clause-builds : goal.returns-clause-builds
returns-clause-builds c = base_result c.args.cursor.now c.build_base.new.cursor c.geodetic_kind_of-kind.result c.build_base.result (c.geodetic_kind_of-kind.ensures ∙ ap geodetic_kind_of c.next_keyword.ensures) c.build_base.ensures.kind c.build_base.ensures.builds
