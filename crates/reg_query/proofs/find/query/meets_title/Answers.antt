use Rattle.std.proofs.Common.{sym, ◌∙◌}
use Rattle.std.proofs.lemmas.Bool.{true≢false}
use Rattle.reg_query.proofs.find.query.meets_title.Goals as goal

pub returns-then-not-is_sought : goal.returns-then-not-is_sought
returns-then-not-is_sought c = λ rs tells. (
  λ h. absurd (true≢false (sym h)),
  λ (sought, options). absurd (true≢false (sym ((c.is_sought.ensures rs tells).1 sought) ∙ c.if-not-is_sought.true)),
)

pub returns : goal.returns
returns c = λ rs tells. (
  λ h. ((c.is_sought.ensures rs tells).0 c.if-not-is_sought.false, c.meets_options.ensures.0 h),
  λ (sought, options). c.meets_options.ensures.1 options,
)
