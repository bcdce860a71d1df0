use Rattle.std.proofs.Common.{◌∙◌, subst, arith}
use Rattle.reg_report.specs.Conflicts.{HasKey}
use Rattle.reg_report.proofs.ContenderLemmas.{one_key}
use Rattle.reg_report.specs.Keys.{key_bytes}
use Rattle.reg_texts.proofs.choice.is_rival.Goals as goal

pub returns-then-is_same_key : goal.returns-then-is_same_key
returns-then-is_same_key c =
    let same = c.is_same_key.ensures.0 c.if-is_same_key.true in (
      λ h. ((key_bytes c.key_of.result, subst (HasKey c.args.definition.now) same c.key_in.ensures, c.key_of.ensures), c.is_live.ensures.0 h),
      λ (keyed, live). c.is_live.ensures.1 live,
    )

pub returns-else-is_same_key : goal.returns-else-is_same_key
returns-else-is_same_key c =
    let f = c.if-is_same_key.false in (
      λ h. absurd (grind arith),
      λ ((k, mine, its), live). let t = c.is_same_key.ensures.1 (one_key _ _ k c.key_in.ensures mine ∙ one_key _ k _ its c.key_of.ensures) in grind arith,
    )
