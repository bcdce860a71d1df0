use Rattle.std.proofs.Common.{ℕ, map, ap}
use Rattle.std.specs.Global.{Vec}
use Rattle.crs_said.specs.References.{system_names}
use Rattle.reg_lint.specs.Subjects.{Subject}
use Rattle.reg_lint.proofs.KeptLemmas.{flat_begun, flat_step, flat_done}
use Rattle.reg_lint.proofs.voices.names_of.Goals as goal

pub loop-one-init : goal.loop-one-init
loop-one-init c =
    flat_begun (λ (s : Subject). system_names s.crs.parts) c.args.kept.now (map (λ (name : Vec ℕ). name.items) c.in_ok-made.made.items)
    (ap (map (λ (name : Vec ℕ). name.items)) c.in_ok-made.ensures.items)

pub loop-one-preserved : goal.loop-one-preserved
loop-one-preserved c =
    flat_step (λ (s : Subject). system_names s.crs.parts) c.args.kept.now c.loop-one.rest.now c.in-Some.others.now c.in-Some.one.now
    (map (λ (name : Vec ℕ). name.items) c.loop-one.made.items) (map (λ (name : Vec ℕ). name.items) c.push_names.new.names.items) (map (λ (name : Vec ℕ). name.items) c.in_ok-names.names.items)
    c.in-Some.ensures.cases.0 c.in_ok-push_names.ensures c.in_ok-names.ensures c.loop-one.invariant

pub returns : goal.returns
returns c = flat_done (λ (s : Subject). system_names s.crs.parts) c.args.kept.now c.loop-one.rest.now (map (λ (name : Vec ℕ). name.items) c.loop-one.made.items) c.in_default.ensures.cases c.loop-one.invariant
