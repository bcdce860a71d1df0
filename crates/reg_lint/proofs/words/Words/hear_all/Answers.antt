use Rattle.std.proofs.Common.{refl}
use Rattle.reg_lint.proofs.WordLemmas.{goes_on, all_heard}
use Rattle.reg_lint.proofs.words.Words.hear_all.Goals as goal

pub loop-claim-init : goal.loop-claim-init
loop-claim-init c = λ xs had. (xs, had, refl)

pub loop-claim-preserved : goal.loop-claim-preserved
loop-claim-preserved c =
    goes_on c.args.self.now c.loop-claim.self c.hear.new.self c.args.claims.now c.loop-claim.rest.now c.in-Some.others.now c.in-Some.claim.now
    c.in-Some.ensures.cases.0 c.in_ok-hear.ensures c.loop-claim.invariant

pub returns : goal.returns
returns c = all_heard c.args.self.now c.loop-claim.self c.args.claims.now c.loop-claim.rest.now c.in_default.ensures.cases c.loop-claim.invariant
