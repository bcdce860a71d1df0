use Rattle.std.proofs.Common.{◌++◌, ap, sym, ◌∙◌, string_bytes}
use Rattle.std.proofs.lemmas.List.Folds.{flat_map-map}
use Rattle.std.specs.List.{flat_map}
use Rattle.std.proofs.lemmas.Iterator.{YieldsList-from_chars, YieldsList-from_take}
use Rattle.std.proofs.lemmas.Iterator.Consumers.{YieldsList-end}
use Rattle.csv_table.specs.Marks.{most, shown}
use Rattle.csv_table.proofs.marks.push_characters.Goals as goal

pub returns : goal.returns
returns c =
    let t = YieldsList-end (YieldsList-from_take most (YieldsList-from_chars c.args.text.now c.utf8.text cc) cc) c.loop-c.yielded _ c.loop-c.yielded_by _ _ c.in-None.is c.next.ensures.steps in
    c.loop-c.invariant ∙ ap (λ l. string_bytes c.args.out.now ++ l) (sym (flat_map-map shown (λ x. x) c.loop-c.yielded) ∙ ap (flat_map shown) t.0)
