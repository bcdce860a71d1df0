use Rattle.std.proofs.Common.{◌≡◌, ◌-◌, ◌++◌, ◌∷◌, [], ap, ◌∙◌, arith, rules}
use Rattle.wkt_explain.specs.Shown.{blanks}
use Rattle.wkt_explain.proofs.ShownLemmas.{blank_more}
use Rattle.wkt_explain.proofs.shown.push_blanks.Goals as goal

pub loop-left-preserved : goal.loop-left-preserved
loop-left-preserved c =
    let e : c.push.new.self.items ≡ c.loop-left.out.items ++ 32 ∷ [] = search rules in
    ap (λ o. o ++ blanks (c.loop-left.left - 1)) e ∙ blank_more c.loop-left.out.items c.loop-left.left (omega arith) ∙ c.loop-left.invariant
