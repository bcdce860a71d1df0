use Rattle.std.proofs.Common.{length, ◌≡◌, ◌++◌, ◌-◌, unsigned_abs, rules, arith, ap, sym, ◌∙◌}
use Rattle.std.proofs.lemmas.Result.{on_ok_weaker, on_err_weaker}
use Rattle.std.proofs.lemmas.Int.{ints, to_z-of_z}
use Rattle.crs_number.proofs.Texts.{whole_of, cut_of, fraction_of, whole_length, cut_length, fraction_length}
use Rattle.crs_number.proofs.text.push_plain.Goals as goal

pub returns-then-exponent-ge0-clause-ok : goal.returns-then-exponent-ge0-clause-ok
returns-then-exponent-ge0-clause-ok c =
    let k : c.unsigned_abs-places.result ≡ unsigned_abs c.args.exponent = search (rules, to_z-of_z) in
    let text = whole_of c.args.size c.args.exponent _ _ c.digits_of-digits.ensures k (omega (arith, ints)) in
    on_ok_weaker c.push_whole.result (λ e. e ∙ ap (λ xs. c.args.out.now.items ++ xs) (sym text)) c.push_whole.ensures.ok

pub returns-then-exponent-ge0-clause-full : goal.returns-then-exponent-ge0-clause-full
returns-then-exponent-ge0-clause-full c =
    let k : c.unsigned_abs-places.result ≡ unsigned_abs c.args.exponent = search (rules, to_z-of_z) in
    let text = whole_of c.args.size c.args.exponent _ _ c.digits_of-digits.ensures k (omega (arith, ints)) in
    on_err_weaker c.push_whole.result (λ h. omega (arith, h, ap length text, whole_length c.digits_of-digits.result.now c.unsigned_abs-places.result)) c.push_whole.ensures.full

pub returns-then-places-digits-clause-ok : goal.returns-then-places-digits-clause-ok
returns-then-places-digits-clause-ok c =
    let k : c.unsigned_abs-places.result ≡ unsigned_abs c.args.exponent = search (rules, to_z-of_z) in
    let text = cut_of c.args.size c.args.exponent _ _ c.digits_of-digits.ensures k c.requires (omega (arith, ints)) c.if-places-digits.true in
    on_ok_weaker c.push_places.result (λ e. e ∙ ap (λ xs. c.args.out.now.items ++ xs) (sym text)) c.push_places.ensures.ok

pub returns-then-places-digits-clause-full : goal.returns-then-places-digits-clause-full
returns-then-places-digits-clause-full c =
    let k : c.unsigned_abs-places.result ≡ unsigned_abs c.args.exponent = search (rules, to_z-of_z) in
    let text = cut_of c.args.size c.args.exponent _ _ c.digits_of-digits.ensures k c.requires (omega (arith, ints)) c.if-places-digits.true in
    on_err_weaker c.push_places.result (λ h. omega (arith, h, ap length text, cut_length c.digits_of-digits.result.now (length c.digits_of-digits.result.now - c.unsigned_abs-places.result))) c.push_places.ensures.full

pub returns-else-places-digits-clause-ok : goal.returns-else-places-digits-clause-ok
returns-else-places-digits-clause-ok c =
    let k : c.unsigned_abs-places.result ≡ unsigned_abs c.args.exponent = search (rules, to_z-of_z) in
    let text = fraction_of c.args.size c.args.exponent _ _ c.digits_of-digits.ensures k c.requires (omega (arith, ints)) c.if-places-digits.false in
    on_ok_weaker c.push_fraction.result (λ e. e ∙ ap (λ xs. c.args.out.now.items ++ xs) (sym text)) c.push_fraction.ensures.ok

pub returns-else-places-digits-clause-full : goal.returns-else-places-digits-clause-full
returns-else-places-digits-clause-full c =
    let k : c.unsigned_abs-places.result ≡ unsigned_abs c.args.exponent = search (rules, to_z-of_z) in
    let text = fraction_of c.args.size c.args.exponent _ _ c.digits_of-digits.ensures k c.requires (omega (arith, ints)) c.if-places-digits.false in
    on_err_weaker c.push_fraction.result (λ h. omega (arith, h, ap length text, fraction_length c.digits_of-digits.result.now c.unsigned_abs-places.result c.if-places-digits.false)) c.push_fraction.ensures.full
