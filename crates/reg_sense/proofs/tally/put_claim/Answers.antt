use Rattle.std.proofs.Common.{◌≡◌, suc, Some, None, cond, ap, ◌∙◌, rules}
use Rattle.std.proofs.lemmas.Result.{on_ok_weaker}
use Rattle.std.specs.BTreeMap.{get}
use Rattle.std.specs.List.{list_any}
use Rattle.std.specs.Ordering.{is_eq}
use Rattle.crs_said.specs.Claims.{claim_seen}
use Rattle.reg_sense.specs.Claimants.{voice, is_claim}
use Rattle.reg_sense.specs.declared.tally.WordAndContent.{WordAndContent}
use Rattle.reg_sense.specs.declared.tally.ClaimTally.{ClaimTally}
use Rattle.reg_sense.specs.Tallies.{pair_cmp, counted, with_first, tally}
use Rattle.reg_sense.proofs.TallyLemmas.{one_made, one_roomy, put_step}
use Rattle.reg_sense.proofs.tally.put_claim.Goals as goal

pub returns-in-Some : goal.returns-in-Some
returns-in-Some c = λ done vs few had q.
    let own : WordAndContent = record { word = c.deref.result; content = c.deref-2.result } in
    let x = claim_seen c.args.claim.now in
    let v = voice c.args.claimant.now in
    let i = c.args.place in
    let b = list_any (is_claim x.word x.content) done in
    let o = counted (Some c.in-Some.tally.now) in
    let was =
    ap counted c.in-Some.ensures.value
    ∙ had own
    ∙ (λ j. cond (list_any (is_claim (c.deref.ensures.value j) (c.deref-2.ensures.value j)) done) (Some (with_first (c.deref.ensures.value j) (c.deref-2.ensures.value j) i v vs)) (tally (c.deref.ensures.value j) (c.deref-2.ensures.value j) (suc i) vs)) in
    (λ (w : ClaimTally) (e : w ≡ c.one_more-next.result).
    put_step i v x done vs own q w (get pair_cmp c.args.tallies.now q) (get pair_cmp (c.get_mut.follows.lender w) q)
    c.deref.ensures.value c.deref-2.ensures.value
    (ap (λ (t : ClaimTally). counted (Some t)) e ∙ c.one_more-next.ensures (one_roomy x.word x.content i v vs b o few was) ∙ ap Some (one_made x.word x.content i v vs b o was))
    (((c.get_mut.follows.holds w).3 (search rules)).0 q)
    (had q)) _ (search rules)

pub returns-in-None : goal.returns-in-None
returns-in-None c = λ done vs few had.
    let own : WordAndContent = record { word = c.deref.result; content = c.deref-2.result } in
    let x = claim_seen c.args.claim.now in
    let v = voice c.args.claimant.now in
    let i = c.args.place in
    let b = list_any (is_claim x.word x.content) done in
    let first : ClaimTally = record { first = c.args.claimant; place = i; count = 1 } in
    let was =
    ap counted c.in-None.ensures.value
    ∙ had own
    ∙ (λ j. cond (list_any (is_claim (c.deref.ensures.value j) (c.deref-2.ensures.value j)) done) (Some (with_first (c.deref.ensures.value j) (c.deref-2.ensures.value j) i v vs)) (tally (c.deref.ensures.value j) (c.deref-2.ensures.value j) (suc i) vs)) in
    on_ok_weaker c.put_tally.result (λ put q.
    put_step i v x done vs own q first (get pair_cmp c.args.tallies.now q) (get pair_cmp c.put_tally.new.tallies q)
    c.deref.ensures.value c.deref-2.ensures.value
    (ap Some (one_made x.word x.content i v vs b None was))
    (put q ∙ (λ j. cond (is_eq (pair_cmp own q)) (Some first) (get pair_cmp (c.get_mut.follows.holds-at-none j) q)))
    (had q)) c.put_tally.ensures
