use Rattle.std.proofs.Common.{sym, ◌∙◌, subst}
use Rattle.crs_number.specs.Numeral.{Spells}
use Rattle.crs_export.proofs.EndLemmas.{trimmed_is}
use Rattle.crs_export.proofs.code.number_of.Goals as goal

pub returns-in-Err : goal.returns-in-Err
returns-in-Err c = λ d spells.
    let text = trimmed_is c.args.code.now c.after_blanks.result.now c.before_blanks-text.result.now c.after_blanks.ensures c.before_blanks-text.ensures in
    let found = c.from_numeral.ensures.only d (subst (λ t. Spells t d.coefficient d.exponent) (sym text) spells) in
    let none = sym c.in-Err.is ∙ found in
    absurd cc
