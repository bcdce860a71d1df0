use Rattle.std.proofs.Common.{sym, subst}
use Rattle.wkt_tree.proofs.Exclusion.{fault_no}
use Rattle.wkt_crs.specs.Spells.{SpellsCanon}
use Rattle.wkt_crs.proofs.Texts.{no_slot}
use Rattle.wkt_crs.proofs.canonical.canonical_text.Goals as goal

pub returns-then-is_seen-clause-found : goal.returns-then-is_seen-clause-found
returns-then-is_seen-clause-found c = subst (λ t. SpellsCanon c.args.text.now t) (sym c.in-Ok.ensures.items) (c.is_seen.ensures c.if-is_seen.true)

-- a text that is seen to be canonical spells a value, so it has no fault

pub returns-in_default-clause-text : goal.returns-in_default-clause-text
returns-in_default-clause-text c = λ f first.
    let own = c.is_seen.ensures c.if-is_seen.true in
    let spells = own.spells in
    absurd (fault_no c.args.text.now _ f first spells.outline)

pub returns-in_default-clause-slot : goal.returns-in_default-clause-slot
returns-in_default-clause-slot c = λ f first.
    let own = c.is_seen.ensures c.if-is_seen.true in
    absurd (no_slot c.args.text.now own.value f own.spells first)
