use Rattle.std.specs.Str.{is_utf8}
use Rattle.std.proofs.Common.{◌∙◌, ◌++◌, ap}
use Rattle.crs_number.specs.Canonical.{canonical}
use Rattle.crs_part.proofs.Spelled.{spelled_is_utf8}
use Rattle.crs_part.proofs.text.Text.of_number.Goals as goal

pub invariant_of-result : goal.invariant_of-result
invariant_of-result c =
    let number = c.args.number in
    let is_canonical = c.from_vec.ensures ∙ (c.in_ok-write_to.ensures.ok ∙ ap (λ xs. xs ++ canonical number.coefficient number.exponent) c.new-bytes.ensures.items) in
    record { utf8 = ap is_utf8 is_canonical ∙ spelled_is_utf8 _ _ _ c.in_ok-write_to.ensures.reads_back }
