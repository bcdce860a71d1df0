use Rattle.std.proofs.Common.{Bool, option_map, sym, ap, ◌∙◌}
use Rattle.csv_table.specs.declared.offices.names.Name.{Name}
use Rattle.csv_table.specs.Shown.{ends, found}
use Rattle.csv_table.specs.Standing.{standing}
use Rattle.csv_table.proofs.FoundLemmas.{found_at_end, not_at_end}
use Rattle.csv_table.proofs.offices.shown.found.Goals as goal

pub returns-then-not-ends : goal.returns-then-not-ends
returns-then-not-ends c =
    not_at_end c.args.names.now c.args.text.now (ap ends (sym c.split.ensures.1) ∙ sym c.ends.ensures ∙ c.if-not-ends.true)
    ∙ ap (λ (b : Bool). option_map (λ (n : Name). n.name.items) (found c.args.names.now c.args.text.now b)) (sym c.if-not-starts.false)

pub returns : goal.returns
returns c =
    c.name_of.ensures ∙ ap (standing c.args.names.now) c.split.ensures.0
    ∙ found_at_end c.args.names.now c.args.text.now (ap ends (sym c.split.ensures.1) ∙ sym c.ends.ensures ∙ c.if-not-ends.false)
    ∙ ap (λ (b : Bool). option_map (λ (n : Name). n.name.items) (found c.args.names.now c.args.text.now b)) (sym c.if-not-starts.false)
