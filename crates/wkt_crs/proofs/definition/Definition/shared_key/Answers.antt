use Rattle.std.proofs.Common.{sym, subst}
use Rattle.wkt_crs.specs.declared.definition.Body.{Body}
use Rattle.wkt_crs.specs.Definition.{IsKeyIn}
use Rattle.wkt_crs.proofs.Defining.{is_key_in}
use Rattle.wkt_crs.proofs.definition.Definition.shared_key.Goals as goal

pub returns : goal.returns
returns c =
    let b = c.self.inside.body.value in
    subst (λ (r : Body). IsKeyIn r.key c.args.self.now) (sym c.in_ok-body.ensures.cases) (subst (IsKeyIn b.key) c.self.view_is (is_key_in b.key b.name b.text b.defined))
