use Rattle.std.proofs.Common.{List, ℕ, ◌++◌, ap, refl, ◌∙◌}
use Rattle.crs_export.specs.Graphs.{node}
use Rattle.reg_export.proofs.graph.push_drawn.Goals as goal

pub returns : goal.returns
returns c =
    let whole = c.title_of-title.result in (
      record {
        entry = whole.entry;
        authority = c.deref-2.result;
        code = c.deref-3.result;
        name = c.deref-4.result;
        status = whole.status;
      },
      record {
        whole = whole;
        is_title = c.title_of-title.ensures;
        entry = refl;
        authority = c.deref-2.ensures.value ∙ c.in_ok-authority.ensures;
        code = c.deref-3.ensures.value ∙ c.in_ok-code.ensures;
        name = c.deref-4.ensures.value ∙ c.in_ok-name.ensures;
        status = refl;
      },
      c.in_ok-push_node.ensures ∙ ap (λ (color : List ℕ). c.args.text.now.items ++ node (record {
        entry = whole.entry;
        authority = c.deref-2.result;
        code = c.deref-3.result;
        name = c.deref-4.result;
        status = whole.status;
      }) color) c.color_of.ensures,
    )
