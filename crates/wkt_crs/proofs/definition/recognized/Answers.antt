use Rattle.std.proofs.Common.{sym, ap, ◌∙◌, subst}
use Rattle.wkt_crs.specs.declared.definition.Body.{Body}
use Rattle.wkt_crs.specs.Definition.{IsDefinedBy}
use Rattle.wkt_crs.proofs.Recognized as recognized
use Rattle.wkt_crs.proofs.definition.recognized.Goals as goal

pub text_of-requires : goal.text_of-requires
text_of-requires c = recognized.authority_utf8 c.args.identifier c.requires.1 c.requires.2

pub text_of-requires-2 : goal.text_of-requires-2
text_of-requires-2 c = recognized.key_code_utf8 c.args.identifier c.requires.1 c.requires.2

pub invariant_of-new : goal.invariant_of-new
invariant_of-new c = record {
  defined =
      subst (IsDefinedBy (record { authority = c.in_ok-text_of.field-0; code = c.in_ok-text_of-2.field-0 }) c.in_ok-name.name) (sym c.in_ok-text.ensures)
      (recognized.defines_seen c.args.identifier _ c.in_ok-name.name c.requires.1 c.requires.0 c.requires.2 c.in_ok-text_of.ensures c.in_ok-text_of-2.ensures c.in_ok-name.ensures);
}

pub returns : goal.returns
returns c = (
  ap (λ (b : Body). b.text) c.in_ok-body.ensures.ok ∙ c.in_ok-text.ensures,
  recognized.is_definition_seen c.args.identifier c.requires.1 c.requires.0 c.requires.2,
)
