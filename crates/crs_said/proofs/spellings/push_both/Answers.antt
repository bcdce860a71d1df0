use Rattle.std.proofs.Common.{List, [], ◌∷◌, ◌++◌, map, ap, ◌∙◌, append_assoc}
use Rattle.std.proofs.lemmas.Result.{on_ok_weaker}
use Rattle.crs_said.specs.Claims.{Said, claim_seen}
use Rattle.crs_said.specs.Spellings.{authority_claim, code_claim}
use Rattle.crs_said.proofs.spellings.push_both.Goals as goal

pub returns : goal.returns
returns c =
    let one = authority_claim c.args.id.now ∷ [] in
    let other = code_claim c.args.id.now ∷ [] in
    on_ok_weaker c.push_code.result (λ e. e ∙ (ap (λ (xs : List Said). xs ++ other) c.in_ok-push_authority.ensures ∙ append_assoc (map claim_seen c.args.claims.now.items) one other)) c.push_code.ensures
