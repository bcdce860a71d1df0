use Rattle.std.proofs.Common.{[], ◌∷◌, map, ap, ◌∙◌}
use Rattle.std.proofs.lemmas.List.{map-append}
use Rattle.reg_sense.specs.Claimants.{voice}
use Rattle.reg_lint.specs.Details.{voice_of}
use Rattle.reg_lint.specs.Disputes.{is_open, sifted}
use Rattle.reg_lint.specs.Subjects.{Subject}
use Rattle.reg_lint.proofs.KeptLemmas.{map_begun, map_step, map_done}
use Rattle.reg_lint.proofs.voices.claimants_of.Goals as goal

pub loop-one-init : goal.loop-one-init
loop-one-init c = map_begun (λ (s : Subject). sifted (is_open c.args.disputes.now c.args.rule) (voice_of c.args.rule s)) c.args.kept.now (map voice c.in_ok-made.made.items) (ap (map voice) c.in_ok-made.ensures.items)

pub loop-one-preserved : goal.loop-one-preserved
loop-one-preserved c =
    map_step (λ (s : Subject). sifted (is_open c.args.disputes.now c.args.rule) (voice_of c.args.rule s)) c.args.kept.now c.loop-one.rest.now c.in-Some.others.now c.in-Some.one.now
    (map voice c.loop-one.made.items) (map voice c.push.new.self.items) (voice c.in_ok-claimant.claimant)
    c.in-Some.ensures.cases.0
    (ap (map voice) c.in_ok-push.ensures.items ∙ map-append voice c.loop-one.made.items (c.in_ok-claimant.claimant ∷ []))
    c.in_ok-claimant.ensures c.loop-one.invariant

pub returns : goal.returns
returns c = map_done (λ (s : Subject). sifted (is_open c.args.disputes.now c.args.rule) (voice_of c.args.rule s)) c.args.kept.now c.loop-one.rest.now (map voice c.loop-one.made.items) c.in_default.ensures.cases c.loop-one.invariant
