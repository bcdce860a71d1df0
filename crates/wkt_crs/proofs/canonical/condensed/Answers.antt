use Rattle.std.proofs.Common.{subst}
use Rattle.wkt_crs.specs.Spells.{SpellsCanon}
use Rattle.wkt_crs.proofs.Condensed.{canon_as}
use Rattle.wkt_crs.proofs.canonical.condensed.Goals as goal

pub returns-then-is_seen : goal.returns-then-is_seen
returns-then-is_seen c =
    let bytes = c.in_ok-condensed.condensed.items in
    canon_as c.args.text.now bytes bytes c.in_ok-condensed.ensures.reads
    (subst (λ t. SpellsCanon t t) c.deref.ensures.value (c.is_seen.ensures c.if-is_seen.true))
