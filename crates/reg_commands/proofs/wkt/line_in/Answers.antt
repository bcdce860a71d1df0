use Rattle.std.proofs.Common.{◌++◌, ◌∷◌, [], ap, ◌∙◌}
use Rattle.reg_commands.proofs.wkt.line_in.Goals as goal

pub returns : goal.returns
returns c =
    let s = c.in_ok-line.ensures in
    (s.0, s.1, c.in_ok-push.ensures.items ∙ ap (λ t. t ++ 10 ∷ []) s.2)
