use Rattle.std.proofs.Common.{◌+◌, ◌<◌, ◌∙◌, refl, sym, length, arith}
use Rattle.std.proofs.lemmas.Bool.{true≢false, and_parts, false_from_ne_true}
use Rattle.reg_office.specs.Making.{greatest}
use Rattle.reg_journal.specs.Journal.{is_own}
use Rattle.reg_journal.proofs.LateLemmas.{none_beyond, greatest_fits}
use Rattle.reg_journal.proofs.late.is_again.Goals as goal

pub returns-then-most-first : goal.returns-then-most-first
returns-then-most-first c =
    let most = c.requires.most in
    let over = c.if-most-first.true in
    let count = c.count-first.ensures.value in
    let top = greatest c.args.replica c.args.joined.now.seen in
    let beyond : top + 1 < c.args.id.count + length c.args.effects.now = omega (arith, most, over, count) in
    let none = none_beyond c.args.seen.now c.args.joined.now c.args.replica c.args.note.now c.requires.content c.args.id.count top c.args.effects.now refl beyond in
    sym (false_from_ne_true _ (λ h. true≢false (sym (and_parts (is_own c.args.replica c.args.id) _ h).1 ∙ none)))

pub are_found-requires-clause-fits : goal.are_found-requires-clause-fits
are_found-requires-clause-fits c =
    let most = c.requires.most in
    let fits = greatest_fits c.args.replica c.args.joined.now c.requires.content in
    let within = c.if-most-first.false in
    omega (arith, most, fits, within)
