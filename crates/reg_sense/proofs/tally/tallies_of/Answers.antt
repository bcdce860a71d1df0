use Rattle.std.proofs.Common.{◌∷◌, map, subst}
use Rattle.reg_sense.specs.Claimants.{voice}
use Rattle.reg_sense.specs.Tallies.{HasTallies}
use Rattle.reg_sense.proofs.TallyLemmas.{one_less, seen_end, one_longer, few_later}
use Rattle.reg_sense.proofs.tally.tallies_of.Goals as goal

pub loop-claimant-preserved : goal.loop-claimant-preserved
loop-claimant-preserved c =
    let was = c.loop-claimant.invariant in
    let all = c.args.claimants.now in
    let rest = c.loop-claimant.rest.now in
    let others = c.in-Some.others.now in
    let x = c.in-Some.claimant.now in
    let e = c.in-Some.ensures.cases.0 in (
      voice x ∷ was.0,
      one_less (map voice all) (map voice rest) (map voice others) was.0 (voice x) was.1 (seen_end voice rest others x e),
      c.in_ok-put_claims.ensures was.0 (few_later voice all rest others x was.0 e was.1 was.3) (subst (λ n. HasTallies c.loop-claimant.made n was.0) (one_longer rest others x e) was.2),
      was.3,
    )
