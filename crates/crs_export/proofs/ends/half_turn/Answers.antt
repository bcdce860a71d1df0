use Rattle.std.proofs.Common.{◌≡◌, pos, subst, arith}
use Rattle.std.specs.Prelude.{IsSomeAnd}
use Rattle.crs_number.specs.declared.decimals.Decimal.{Decimal}
use Rattle.crs_number.specs.Numeral.{signed}
use Rattle.crs_export.proofs.EndLemmas.{normal, in_range}
use Rattle.crs_export.proofs.ends.half_turn.Goals as goal

pub unreachable-requires : goal.unreachable-requires
unreachable-requires c =
    let some = c.from_digits.ensures.only (omega arith) (omega arith) (signed c.args.negative 18) (pos 1) (normal c.args.negative) (in_range c.args.negative) in
    subst (λ o. IsSomeAnd o (λ (d : Decimal). (d.coefficient ≡ signed c.args.negative 18) × (d.exponent ≡ pos 1))) c.in-None.is some

pub returns-clause-coefficient : goal.returns-clause-coefficient
returns-clause-coefficient c =
    let some = c.from_digits.ensures.only (omega arith) (omega arith) (signed c.args.negative 18) (pos 1) (normal c.args.negative) (in_range c.args.negative) in
    (subst (λ o. IsSomeAnd o (λ (d : Decimal). (d.coefficient ≡ signed c.args.negative 18) × (d.exponent ≡ pos 1))) c.in-Some.is some).0

pub returns-clause-exponent : goal.returns-clause-exponent
returns-clause-exponent c =
    let some = c.from_digits.ensures.only (omega arith) (omega arith) (signed c.args.negative 18) (pos 1) (normal c.args.negative) (in_range c.args.negative) in
    (subst (λ o. IsSomeAnd o (λ (d : Decimal). (d.coefficient ≡ signed c.args.negative 18) × (d.exponent ≡ pos 1))) c.in-Some.is some).1
