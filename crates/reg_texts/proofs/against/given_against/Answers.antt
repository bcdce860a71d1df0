use Rattle.std.proofs.Common.{ap, sym, ◌∙◌, subst, inl, inr, refl}
use Rattle.reg_texts.specs.Gathered.{Each}
use Rattle.reg_texts.specs.Compare.{seen_rows}
use Rattle.reg_texts.specs.Given.{IsPairWith}
use Rattle.reg_texts.proofs.GivenLemmas.{some_seen, rivals_again}
use Rattle.reg_texts.proofs.against.given_against.Goals as goal

pub returns-then-is_none : goal.returns-then-is_none
returns-then-is_none c = λ rs is.
    let none = sym c.deref.ensures.value ∙ c.is_none.ensures.none c.if-is_none.true in
    let found = rivals_again c.args.definition.now c.key.result.now rs _ _ c.key.ensures (c.in_ok-rows.ensures rs is) c.in_ok-found.ensures in
    (c.in_ok-given.given, seen_rows c.in_ok-found.found.items, c.in_ok-given.ensures, found, inl (ap seen_rows none, c.in_ok-text.ensures))

pub returns : goal.returns
returns c = λ rs is.
    let given = c.in_ok-given.given in
    let found = c.in_ok-found.found.items in (
      given,
      seen_rows found,
      c.in_ok-given.ensures,
      rivals_again c.args.definition.now c.key.result.now rs _ _ c.key.ensures (c.in_ok-rows.ensures rs is) c.in_ok-found.ensures,
      inr (
        some_seen found (λ e. c.is_none.ensures.some c.if-is_none.false (c.deref.ensures.value ∙ e)),
        subst (λ l. Each (IsPairWith given) (seen_rows l) c.in_ok-pairs.pairs.items) c.deref-2.ensures.value c.in_ok-pairs.ensures,
      ),
    )
