use Rattle.std.proofs.Common.{refl}
use Rattle.wkt_grammar.specs.declared.table.SlotName.TheVariants as slots
use Rattle.wkt_grammar.proofs.Nodes.{geoid_model_law}
use Rattle.wkt_build.proofs.Rows.{then_each}
use Rattle.wkt_build.proofs.ending.take_vertical_tail.Goals as goal

pub returns-clause-builds : goal.returns-clause-builds
returns-clause-builds c = then_each slots.GeoidModel geoid_model_law refl c.args.cursor.now c.in_ok-geoid_models.geoid_models c.in_ok-geoid_models.ensures.builds c.in_ok-tail.ensures.builds
