use Rattle.std.proofs.Common.{refl, sym, ◌∙◌}
use Rattle.std.proofs.lemmas.Result.{on_ok_weaker}
use Rattle.crs_said.specs.Claims.{claim_seen}
use Rattle.reg_lint.proofs.WordLemmas.{heard_first, heard_same, heard_other}
use Rattle.reg_lint.proofs.words.Words.hear.Goals as goal

pub returns-in-First : goal.returns-in-First
returns-in-First c = λ xs had.
    on_ok_weaker c.put_first.result
    (heard_first xs (claim_seen c.args.claim.now) c.args.self.now c.put_first.new.self had (sym c.beside.ensures ∙ c.in-First.is))
    c.put_first.ensures

pub returns-in-Same : goal.returns-in-Same
returns-in-Same c = λ xs had. heard_same xs (claim_seen c.args.claim.now) c.args.self.now c.args.self.now had (sym c.beside.ensures ∙ c.in-Same.is) refl

pub returns-in-Other : goal.returns-in-Other
returns-in-Other c = λ xs had.
    on_ok_weaker c.put_disputed.result
    (heard_other xs (claim_seen c.args.claim.now) c.args.self.now c.put_disputed.new.self had)
    c.put_disputed.ensures
