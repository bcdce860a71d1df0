use Rattle.std.proofs.Common.{sym, ap, ◌∙◌, subst}
use Rattle.crs_part.specs.Slots.{ids_of}
use Rattle.crs_value.specs.Keys.{IsFirstKey}
use Rattle.wkt_crs.specs.declared.definition.Body.{Body}
use Rattle.wkt_crs.specs.Definition.{IsDefinedBy, IsDefinition}
use Rattle.wkt_crs.proofs.Defining.{defines, key_of_first, some_first}
use Rattle.wkt_crs.proofs.definition.defined.Goals as goal

pub invariant_of-new : goal.invariant_of-new
invariant_of-new c = record {
  defined =
      subst (IsDefinedBy c.in-Ok-Some.key c.in-Ok.name) (sym c.in-Ok-from_vec.ensures.ok)
      (defines c.args.crs.now c.in-Ok-Some.key c.in-Ok.name c.args.text.items c.requires
      (key_of_first (ids_of c.args.crs.now.parts) c.in-Ok-Some.key (subst (IsFirstKey (ids_of c.args.crs.now.parts)) c.in-Ok-Some.field-0-is c.in-Ok-Some.ensures))
      (ap (λ t. t.bytes) (c.in-Ok.ensures ∙ c.name.ensures)));
}

pub returns-in-Ok-new-clause-is : goal.returns-in-Ok-new-clause-is
returns-in-Ok-new-clause-is c =
    subst (λ bytes. IsDefinition bytes) (sym (ap (λ (b : Body). b.text) c.in-Ok-new.ensures.ok ∙ c.in-Ok-from_vec.ensures.ok)) (record { crs = c.args.crs.now; canonical = c.requires.0; short = c.requires.1; identified = c.requires.2 })

pub unreachable-requires : goal.unreachable-requires
unreachable-requires c = some_first (ids_of c.args.crs.now.parts) c.in-Ok-None.field-0 c.in-Ok-None.field-0-is c.requires.2 c.in-Ok-None.ensures
