use Rattle.std.proofs.Common.{◌++◌, ◌∙◌, append_assoc}
use Rattle.std.specs.List.{flat_map}
use Rattle.reg_file.specs.Layout.{four, grouped, group_bytes}
use Rattle.reg_file.proofs.SpellLemmas.{spelled_groups}
use Rattle.reg_file.proofs.spelling.put_ranges.Goals as goal

pub returns : goal.returns
returns c =
    let rs = c.args.runs.now in
    c.in_ok-put_runs.ensures
    ∙ (λ k. c.in_ok-put_number.ensures.ok k ++ spelled_groups rs k)
    ∙ append_assoc c.args.out.now.items (four c.replicas_of-replicas.result) (flat_map group_bytes (grouped rs))
    ∙ (λ k. c.args.out.now.items ++ (four (c.replicas_of-replicas.ensures.count k) ++ flat_map group_bytes (grouped rs)))
