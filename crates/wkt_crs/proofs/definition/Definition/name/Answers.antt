use Rattle.std.proofs.Common.{sym, subst}
use Rattle.wkt_crs.specs.declared.definition.Body.{Body}
use Rattle.wkt_crs.specs.Definition.{IsNameIn}
use Rattle.wkt_crs.proofs.Defining.{is_name_in}
use Rattle.wkt_crs.proofs.definition.Definition.name.Goals as goal

pub returns : goal.returns
returns c =
    let b = c.self.inside.body.value in
    subst (λ (r : Body). IsNameIn r.name c.args.self.now) (sym c.deref.ensures) (subst (IsNameIn b.name) c.self.view_is (is_name_in b.key b.name b.text b.defined))
