use Rattle.std.proofs.Common.{◌||◌, sym, ap, ◌∙◌}
use Rattle.std.proofs.lemmas.Bool.{not-true, not-false}
use Rattle.reg_disorder.specs.Texts.{has_text, is_text}
use Rattle.reg_disorder.proofs.TextLemmas.{as_key, cond_or, not_again, then_again}
use Rattle.reg_disorder.proofs.double.put_text.Goals as goal

pub returns-then-is_new : goal.returns-then-is_new
returns-then-is_new c = record {
  once = λ t. c.in_ok-is_new.ensures.updates.0 (as_key t) ∙ cond_or (is_text c.args.text.now t) (has_text c.args.seen.now t);
  again = λ t. sym (ap (λ b. b || has_text c.args.several.now t) (not_again c.args.seen.now c.args.text.now t (not-true _ (sym c.in_ok-is_new.ensures.added ∙ c.if-is_new.true))));
}

pub returns : goal.returns
returns c = record {
  once = λ t. c.in_ok-is_new.ensures.updates.0 (as_key t) ∙ cond_or (is_text c.args.text.now t) (has_text c.args.seen.now t);
  again = λ t.
      c.in_ok-insert.ensures.updates.0 (as_key t)
      ∙ cond_or (is_text c.args.text.now t) (has_text c.args.several.now t)
      ∙ sym (ap (λ b. b || has_text c.args.several.now t) (then_again c.args.seen.now c.args.text.now t (not-false _ (sym c.in_ok-is_new.ensures.added ∙ c.if-is_new.false))));
}
