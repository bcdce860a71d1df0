use Rattle.std.proofs.Common.{nat_le, arith, sym, ap, ◌∙◌}
use Rattle.std.proofs.lemmas.Bool.{le-leb}
use Rattle.crs_exact.specs.Said.{sentence}
use Rattle.crs_meridians.specs.Meridian.{is_central}
use Rattle.crs_meridians.specs.Zone.{meridian_of, constant_of}
use Rattle.crs_meridians.proofs.TellLemmas.{central_said}
use Rattle.crs_meridians.proofs.told.off_said.Goals as goal

pub returns-then-is_central : goal.returns-then-is_central
returns-then-is_central c =
    let z = c.args.zone in
    let p = c.args.parameter.now in
    central_said p (meridian_of z) (constant_of z.grid p.name.bytes) (sentence c.meridian_of.result) (nat_le z.number 99) (is_central p.name.bytes)
    (le-leb z.number 99 (omega arith)) (ap is_central (sym c.as_bytes-name.ensures) ∙ sym c.is_central.ensures ∙ c.if-is_central.true) c.meridian_of.ensures
