use Rattle.std.proofs.Common.{ap, ◌∙◌}
use Rattle.crs_value.specs.declared.crs.Crs.{Crs}
use Rattle.reg_lint.specs.Details.{voice_in}
use Rattle.reg_lint.specs.Disputes.{is_open, sifted}
use Rattle.reg_lint.proofs.voices.claimant_of.Goals as goal

pub returns : goal.returns
returns c = λ s is.
    c.in_ok-made.ensures
    ∙ ap (λ (v : Crs). sifted (is_open c.args.disputes.now c.args.rule) (voice_in c.args.rule v.parts)) (c.as_ref.ensures ∙ c.in_ok-crs.ensures s is)
