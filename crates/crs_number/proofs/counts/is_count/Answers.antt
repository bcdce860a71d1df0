use Rattle.std.proofs.Common.{rules, sym}
use Rattle.crs_number.proofs.CountLemmas.{counted, digits_count, refused_count}
use Rattle.crs_number.proofs.counts.is_count.Goals as goal

pub returns-in-Ok : goal.returns-in-Ok
returns-in-Ok c =
    rw c.is_some.ensures (counted c.args.numeral.now c.in-Ok.decimal c.as_count.result c.in-Ok.ensures.found (search rules) c.as_count.ensures.found c.as_count.ensures.only)

pub returns-in-Err : goal.returns-in-Err
returns-in-Err c = refused_count c.args.numeral.now c.in-Err.field-0 c.in-Err.ensures.only

pub returns-then-has_few_digits : goal.returns-then-has_few_digits
returns-then-has_few_digits c =
    let few = c.has_few_digits.ensures.few c.if-has_few_digits.true in
    sym (digits_count c.args.numeral.now (c.has_few_digits.ensures.digits c.if-has_few_digits.true) few.0 few.1)
