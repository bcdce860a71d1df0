use Rattle.std.proofs.Common.{◌≡◌, ◌*◌, ◌^◌, ◌<◌, refl, sym, ap, ◌∙◌, subst, arith}
use Rattle.std.specs.Prelude.{MatchOption}
use Rattle.std.specs.Str.Parse.{digits_value_after}
use Rattle.crs_number.specs.Reduced.{IsTooLong}
use Rattle.crs_number.proofs.Powers.{too_long_all}
use Rattle.crs_number.proofs.Few.{few_alone, few_both, both_is}
use Rattle.crs_number.proofs.reduced.reduced_of.Goals as goal

pub number_after-number-requires-clause-room : goal.number_after-number-requires-clause-room
number_after-number-requires-clause-room c = few_alone c.args.whole.now c.requires.whole (omega (arith, c.if-whole-fraction-le-SMALL_DIGITS.true))

pub number_after-requires-clause-room : goal.number_after-requires-clause-room
number_after-requires-clause-room c =
    subst (λ n. digits_value_after 10 n c.args.fraction.now < 10 ^ 18) (sym c.number_after-number.ensures) (few_both c.args.whole.now c.args.fraction.now c.requires.whole c.requires.fraction c.if-whole-fraction-le-SMALL_DIGITS.true)

pub of_small-requires : goal.of_small-requires
of_small-requires c =
    subst (λ n. n < 10 ^ 18) (sym (c.number_after.ensures ∙ ap (λ n. digits_value_after 10 n c.args.fraction.now) c.number_after-number.ensures)) (few_both c.args.whole.now c.args.fraction.now c.requires.whole c.requires.fraction c.if-whole-fraction-le-SMALL_DIGITS.true)

pub returns-then-whole-fraction-le-SMALL_DIGITS-clause-number :
    goal.returns-then-whole-fraction-le-SMALL_DIGITS-clause-number
returns-then-whole-fraction-le-SMALL_DIGITS-clause-number c =
    c.of_small.ensures.number ∙ both_is _ _ c.args.whole.now c.args.fraction.now c.number_after-number.ensures c.number_after.ensures

pub returns-in_err-before-clause-number : goal.returns-in_err-before-clause-number
returns-in_err-before-clause-number c =
    let long = too_long_all _ c.args.fraction.now c.requires.fraction c.in_err-before.ensures.number in
    rw c.from_residual.ensures (subst IsTooLong (both_is _ _ c.args.whole.now c.args.fraction.now refl refl) long)

pub returns-clause-number : goal.returns-clause-number
returns-clause-number c =
    subst (λ n. MatchOption c.with_digits-2.result (IsTooLong n) (λ r. r.coefficient * 10 ^ r.zeros ≡ n)) (both_is _ _ c.args.whole.now c.args.fraction.now c.in_ok-before.ensures.number refl) c.with_digits-2.ensures.number
