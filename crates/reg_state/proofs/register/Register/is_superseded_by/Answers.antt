use Rattle.std.proofs.Common.{ap, ◌∙◌}
use Rattle.reg_op.specs.Finite.{any}
use Rattle.reg_op.specs.Ids.{is_same}
use Rattle.reg_op.specs.Status.{is_supersession}
use Rattle.reg_state.proofs.TableLemmas.{superseded_at}
use Rattle.reg_state.proofs.register.Register.is_superseded_by.Goals as goal

pub returns : goal.returns
returns c =
    let xs = c.self.inside.ops.items in
    let ms = c.self.inside.marks in
    c.is_marked.ensures ∙ superseded_at xs ms c.self.invariant.marked c.self.invariant.is_content.is_kept c.args.old c.args.newer
    ∙ ap (λ x. any (λ o. is_supersession c.args.old (is_same c.args.newer) o.body) x.ops) c.self.view_is
