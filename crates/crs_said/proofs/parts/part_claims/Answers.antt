use Rattle.std.proofs.Common.{List, [], ◌++◌, map, sym, ap, ◌∙◌, append-nil}
use Rattle.std.specs.List.{flat_map}
use Rattle.crs_names.specs.Nodes.{of_parts}
use Rattle.crs_said.specs.declared.claim.Claim.{Claim}
use Rattle.crs_said.specs.Claims.{claim_seen}
use Rattle.crs_said.specs.Parts.{claims_of}
use Rattle.crs_said.proofs.parts.part_claims.Goals as goal

pub returns : goal.returns
returns c =
    let all = of_parts c.args.crs.now [] in
    let met = c.show.ensures c.show.new.to all [] (λ f. ap (λ (l : List Claim). map claim_seen l ++ flat_map claims_of all) c.in_ok-claims.ensures.items) in
    c.claims.ensures (flat_map claims_of all) (λ f. sym (append-nil (map claim_seen c.show.new.to.claims.items)) ∙ met f)
