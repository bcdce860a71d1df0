use Rattle.std.proofs.Common.{◌-◌, ◌++◌, take, ap, ◌∙◌, arith}
use Rattle.wkt_explain.specs.Characters.{chars}
use Rattle.wkt_explain.specs.Shown.{shown}
use Rattle.wkt_explain.proofs.ShownLemmas.{char_more, none_shown}
use Rattle.wkt_explain.proofs.shown.push_shown.Goals as goal

pub returns-in_default : goal.returns-in_default
returns-in_default c = none_shown c.loop-left.left c.loop-left.rest.now _ _ c.in_default.ensures c.loop-left.invariant

pub loop-left-preserved : goal.loop-left-preserved
loop-left-preserved c =
    ap (λ o. o ++ shown (take (c.loop-left.left - 1) (chars c.in-Some.others.now))) c.in_ok-push_char.ensures
    ∙ char_more c.loop-left.out.items c.loop-left.left (chars c.loop-left.rest.now) c.in-Some.char.now (chars c.in-Some.others.now) (omega arith) c.in-Some.ensures.0
    ∙ c.loop-left.invariant
