use Rattle.std.proofs.Common.{refl, ◌∙◌}
use Rattle.reg_lint.specs.Words.{first_content, first_put}
use Rattle.reg_lint.proofs.WordLemmas.{first_after}
use Rattle.reg_lint.proofs.words.Words.put_first.Goals as goal

pub returns : goal.returns
returns c = (
  c.in_ok-content.content,
  c.in_ok-content.ensures.items ∙ c.deref-2.ensures.value,
  refl,
  λ w. first_after c.args.self.now.firsts c.insert.new.self c.in_ok-word.word c.in_ok-content.content c.in_ok-insert.ensures.updates w
      ∙ (λ j. first_put w ((c.in_ok-word.ensures.items ∙ c.deref.ensures.value) j) c.in_ok-content.content (first_content c.args.self.now.firsts w)),
)
