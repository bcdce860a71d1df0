use Rattle.std.proofs.Common.{sym, subst}
use Rattle.wkt_tree.specs.Cut.{cut}
use Rattle.wkt_crs.specs.Passing.{TellsPlace}
use Rattle.wkt_crs.proofs.Passes.{first_placed, second_placed}
use Rattle.wkt_crs.proofs.places.keyword_place.Goals as goal

pub returns-in-First : goal.returns-in-First
returns-in-First c =
    subst (λ w. TellsPlace (cut 0 c.args.outline.now) w c.next_place-in-First.result) (sym c.in-First.is)
    (first_placed (cut 0 c.args.outline.now) c.cursor-cursor.result c.pass_first.new.cursor c.next_place-in-First.result c.cursor-cursor.ensures.tokens c.pass_first.ensures c.next_place-in-First.ensures)

pub returns-in-Second : goal.returns-in-Second
returns-in-Second c =
    subst (λ w. TellsPlace (cut 0 c.args.outline.now) w c.next_place-in-Second.result) (sym c.in-Second.is)
    (second_placed (cut 0 c.args.outline.now) c.cursor-cursor.result c.pass_first-in-Second.new.cursor c.pass_item.new.cursor c.advance.new.self c.next_place-in-Second.result c.cursor-cursor.ensures.tokens c.pass_first-in-Second.ensures c.pass_item.ensures.passes c.advance.ensures c.next_place-in-Second.ensures)
