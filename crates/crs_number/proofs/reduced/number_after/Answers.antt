use Rattle.std.proofs.Common.{arith}
use Rattle.crs_number.proofs.Powers.{digit_turn, value_turn, turn_small}
use Rattle.crs_number.proofs.reduced.number_after.Goals as goal

pub overflow_mul-number : goal.overflow_mul-number
overflow_mul-number c =
    omega (arith, c.requires.room, turn_small c.loop-digit.number _ c.args.digits.now c.loop-digit.digit-index c.loop-digit-test.true c.requires.digits c.loop-digit.invariant)

pub overflow_add-number : goal.overflow_add-number
overflow_add-number c =
    omega (arith, c.from.ensures, c.requires.room, turn_small c.loop-digit.number _ c.args.digits.now c.loop-digit.digit-index c.loop-digit-test.true c.requires.digits c.loop-digit.invariant)

pub loop-digit-preserved : goal.loop-digit-preserved
loop-digit-preserved c =
    value_turn c.loop-digit.number _ _ c.args.digits.now c.loop-digit.digit-index c.loop-digit-test.true c.requires.digits c.loop-digit.invariant (omega (arith, c.from.ensures))

pub overflow_sub-digit : goal.overflow_sub-digit
overflow_sub-digit c = (digit_turn c.args.digits.now c.loop-digit.digit-index c.loop-digit-test.true c.requires.digits).0
