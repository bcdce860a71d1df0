use Rattle.std.proofs.Common.{subst, sym}
use Rattle.wkt_crs.specs.Source.{ReadsText}
use Rattle.wkt_crs.proofs.Sources.{read_told}
use Rattle.wkt_crs.proofs.source.read_crs_from.Goals as goal

pub returns-clause-fault : goal.returns-clause-fault
returns-clause-fault g c =
    let old = g.S.Source.state c.args.source.now in
    let new = g.S.Source.state c.text_from.new.source in
    let said = c.in-Err-read_crs.ensures in
    read_told old new c.deref.result.now c.in-Err-read_crs.fault (subst (λ t. ReadsText old new t) (sym c.deref.ensures.value) c.in-Ok.ensures.found) said.fault
    (λ e. (λ f h. let k = said.text f h in absurd cc, λ f h. let k = said.slot f h in absurd cc))
