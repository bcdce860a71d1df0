use Rattle.std.proofs.Common.{refl, arith}
use Rattle.crs_number.specs.Parts.{parts_of}
use Rattle.crs_number.proofs.Small.{small_spells}
use Rattle.crs_number.proofs.Values.{value_of_form}
use Rattle.crs_number.proofs.check.check_numeral.Goals as goal

pub returns-then-is_small-clause-ok : goal.returns-then-is_small-clause-ok
returns-then-is_small-clause-ok c = (
  λ e. small_spells c.args.text.now (parts_of c.in-Some.numeral) c.in-Some.ensures (c.is_small.ensures.digits c.if-is_small.true) (c.is_small.ensures.power c.if-is_small.true) (omega (arith, c.if-text-gt-MAX_TEXT.false)),
  λ s. refl,
)

pub returns-in-Some-from_parts-clause-ok : goal.returns-in-Some-from_parts-clause-ok
returns-in-Some-from_parts-clause-ok c = (
  λ e. (
    c.in-Some-from_parts.field-0,
    record { parts = parts_of c.in-Some.numeral; form = c.in-Some.ensures; value = c.in-Some-from_parts.ensures.found; short = omega (arith, c.if-text-gt-MAX_TEXT.false) },
  ),
  λ s. refl,
)

pub returns-in-None-clause-ok : goal.returns-in-None-clause-ok
returns-in-None-clause-ok c = (
  λ e. absurd cc,
  λ s. absurd (c.in-None.ensures.only s.0.coefficient s.0.exponent (value_of_form c.args.text.now (parts_of c.in-Some.numeral) s.0.coefficient s.0.exponent c.in-Some.ensures s.1)),
)
