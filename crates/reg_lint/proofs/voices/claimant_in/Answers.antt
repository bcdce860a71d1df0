use Rattle.std.proofs.Common.{ap, ◌∙◌, filter}
use Rattle.crs_part.specs.declared.text.Text.{Text}
use Rattle.crs_part.specs.Slots.{name_of}
use Rattle.crs_said.specs.Claims.{Said}
use Rattle.reg_sense.specs.Rules.{claims_of}
use Rattle.reg_lint.specs.Disputes.{is_open}
use Rattle.reg_lint.proofs.voices.claimant_in.Goals as goal

pub returns : goal.returns
returns c = λ j. record {
  authority = (c.in_ok-authority.ensures ∙ c.authority_of.ensures) j;
  code = c.in_ok-code.ensures j;
  name = (c.in_ok-name.ensures ∙ c.as_bytes.ensures ∙ ap (λ (t : Text). t.bytes) (c.name.ensures ∙ ap name_of c.parts.ensures)) j;
  claims = (c.keep_open.ensures
      ∙ ap (filter (λ (x : Said). is_open c.args.disputes.now c.args.rule x.word)) (c.in_ok-claims.ensures ∙ ap (claims_of c.args.rule) c.parts-2.ensures)) j;
}
