use Rattle.std.proofs.Common.{[], refl, inl, inr, sym, ◌∙◌, append-nil, Some}
use Rattle.std.proofs.lemmas.Bool.{true≢false}
use Rattle.crs_export.specs.Graphs.{node}
use Rattle.reg_export.specs.Graph.{color_of}
use Rattle.reg_export.proofs.graph.push_row.Goals as goal

pub returns-then-not-is_drawn : goal.returns-then-not-is_drawn
returns-then-not-is_drawn c = ([], inr (λ d. true≢false (sym (c.is_drawn.ensures.1 d) ∙ c.if-not-is_drawn.true), refl), sym (append-nil c.args.text.now.items))

pub returns : goal.returns
returns c =
    let p = c.in_ok-push_drawn.ensures in
    (node p.0 (color_of (Some c.args.row.now.status)), inl (c.is_drawn.ensures.0 c.if-not-is_drawn.false, (p.0, p.1, refl)), p.2)
