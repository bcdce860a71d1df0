use Rattle.std.proofs.Common.{[], refl}
use Rattle.wkt_explain.proofs.WalkLemmas.{none_passed, nothing_whole}
use Rattle.wkt_explain.proofs.walk.Walk.new.Goals as goal

pub invariant_of-result-clause-chars : goal.invariant_of-result-clause-chars
invariant_of-result-clause-chars c = none_passed [] refl

pub invariant_of-result-clause-whole : goal.invariant_of-result-clause-whole
invariant_of-result-clause-whole c = nothing_whole [] c.args.file.now refl
