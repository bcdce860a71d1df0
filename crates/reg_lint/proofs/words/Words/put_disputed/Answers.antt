use Rattle.std.proofs.Common.{◌||◌, refl, ap, ◌∙◌}
use Rattle.reg_lint.specs.Known.{is_same}
use Rattle.reg_lint.specs.Words.{is_disputed}
use Rattle.reg_lint.proofs.MarkLemmas.{any_after, among_keys}
use Rattle.reg_lint.proofs.words.Words.put_disputed.Goals as goal

pub returns : goal.returns
returns c = (
  refl,
  λ w. ap (among_keys w) c.in_ok-insert.ensures.keys
      ∙ any_after w c.in_ok-word.word c.args.self.now.disputed.keys
      ∙ (λ j. is_same w ((c.in_ok-word.ensures.items ∙ c.deref.ensures.value) j) || is_disputed c.args.self.now w),
)
