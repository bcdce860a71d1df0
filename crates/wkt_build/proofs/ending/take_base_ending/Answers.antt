use Rattle.std.proofs.Common.{refl}
use Rattle.wkt_grammar.specs.declared.table.SlotName.TheVariants as slots
use Rattle.wkt_grammar.proofs.Nodes.{angle_unit_law, ident_law, prime_meridian_law}
use Rattle.wkt_build.proofs.Rows.{done, then_each, then_maybe}
use Rattle.wkt_build.proofs.ending.take_base_ending.Goals as goal

pub returns-clause-builds : goal.returns-clause-builds
returns-clause-builds c =
    then_maybe slots.PrimeMeridian prime_meridian_law refl c.args.cursor.now c.in_ok-prime_meridian.prime_meridian c.in_ok-prime_meridian.ensures.some c.in_ok-prime_meridian.ensures.none c.in_ok-prime_meridian.ensures.absent
    (then_maybe slots.Unit angle_unit_law refl c.take_maybe.new.cursor c.in_ok-unit.unit c.in_ok-unit.ensures.some c.in_ok-unit.ensures.none c.in_ok-unit.ensures.absent
    (then_each slots.Id ident_law refl c.take_maybe-2.new.cursor c.in_ok-ids.ids c.in_ok-ids.ensures.builds
    (done c.take_each.new.cursor)))
