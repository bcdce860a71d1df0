use Rattle.std.proofs.Common.{drop, sym, ap, ◌∙◌, subst}
use Rattle.wkt_crs.specs.Passing.{PassesItem, PassesFirst}
use Rattle.wkt_crs.proofs.Passes.{first_passed}
use Rattle.wkt_crs.proofs.places.pass_first.Goals as goal

pub returns : goal.returns
returns c =
    subst (λ n. PassesFirst c.args.cursor.now n) (sym c.advance-3.ensures)
    (first_passed c.args.cursor.now c.pass_item.new.cursor (subst (λ l. PassesItem l c.pass_item.new.cursor) (c.advance-2.ensures ∙ ap (drop 1) c.advance.ensures) c.pass_item.ensures.passes))
