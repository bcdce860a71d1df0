use Rattle.std.proofs.Common.{ap, ◌∙◌, None, OnOk, IfOk, ◌≡◌, refl, subst}
use Rattle.wkt_grammar.specs.declared.table.Keyword.TheVariants as keywords
use Rattle.wkt_grammar.specs.declared.table.Node.TheVariants as nodes
use Rattle.wkt_grammar.specs.declared.table.Takes.TheVariants as kinds
use Rattle.wkt_grammar.specs.Denotes.{DenotesAxis, DenotesUnit}
use Rattle.wkt_build.specs.Reads.{BuildsEach, BuildsSome}
use Rattle.wkt_build.specs.Rest.{tail_fields, tail_row, vertical_tail_fields, vertical_tail_row}
use Rattle.wkt_build.specs.declared.ending.Coordinates.{Coordinates}
use Rattle.wkt_build.proofs.Coordinated.{MadeUnit, coordinates_read}
use Rattle.wkt_build.proofs.Held.{held, kept}
use Rattle.wkt_build.proofs.Rows.{Made}
use Rattle.wkt_build.proofs.ending.take_coordinates.Goals as goal

pub returns-clause-before : goal.returns-clause-before
returns-clause-before c = λ w new r.
    let two = c.in_ok-first-2.ensures in
    let three = c.in_ok-axes.ensures in
    let axes = c.in_ok-axes.axes in
    let unit = c.in_ok-axes.unit in
    let start = c.take_each.new.cursor in
    let end = c.take_maybe.new.cursor in
    let v : Coordinates = record { system = c.in_ok-system.system; axes = axes; unit = unit } in
    let came : MadeUnit start end v = record {
      some = λ k. held (BuildsSome kinds.AnyUnit DenotesUnit start end) c.take_maybe.result unit unit three.1 refl (c.take_maybe.ensures.some k);
      left = λ k. subst (λ r. OnOk r (end ≡ start)) three.1 (c.take_maybe.ensures.none k);
      absent = λ k. held (λ r. IfOk r (λ o. o ≡ None)) c.take_maybe.result unit unit three.1 refl (c.take_maybe.ensures.absent k);
    } in
    coordinates_read tail_row (tail_fields w) c.args.cursor.now c.take_one.new.cursor c.take_one-2.new.cursor start end new v refl refl c.in_ok-system.ensures.builds
    (kept (Made (kinds.Node keywords.Axis nodes.Axis) DenotesAxis c.take_one.new.cursor c.take_one-2.new.cursor) c.in_ok-first.first axes.first (ap (λ a. a.first) three.0 ∙ two.0) c.in_ok-first.ensures.builds)
    (held (BuildsEach (kinds.Node keywords.Axis nodes.Axis) DenotesAxis c.take_one-2.new.cursor start) c.take_each.result c.in_ok-first-2.others axes.others two.1 (ap (λ a. a.others) three.0) c.take_each.ensures.builds)
    came r

pub returns-clause-before_vertical : goal.returns-clause-before_vertical
returns-clause-before_vertical c = λ w new r.
    let two = c.in_ok-first-2.ensures in
    let three = c.in_ok-axes.ensures in
    let axes = c.in_ok-axes.axes in
    let unit = c.in_ok-axes.unit in
    let start = c.take_each.new.cursor in
    let end = c.take_maybe.new.cursor in
    let v : Coordinates = record { system = c.in_ok-system.system; axes = axes; unit = unit } in
    let came : MadeUnit start end v = record {
      some = λ k. held (BuildsSome kinds.AnyUnit DenotesUnit start end) c.take_maybe.result unit unit three.1 refl (c.take_maybe.ensures.some k);
      left = λ k. subst (λ r. OnOk r (end ≡ start)) three.1 (c.take_maybe.ensures.none k);
      absent = λ k. held (λ r. IfOk r (λ o. o ≡ None)) c.take_maybe.result unit unit three.1 refl (c.take_maybe.ensures.absent k);
    } in
    coordinates_read vertical_tail_row (vertical_tail_fields w) c.args.cursor.now c.take_one.new.cursor c.take_one-2.new.cursor start end new v refl refl c.in_ok-system.ensures.builds
    (kept (Made (kinds.Node keywords.Axis nodes.Axis) DenotesAxis c.take_one.new.cursor c.take_one-2.new.cursor) c.in_ok-first.first axes.first (ap (λ a. a.first) three.0 ∙ two.0) c.in_ok-first.ensures.builds)
    (held (BuildsEach (kinds.Node keywords.Axis nodes.Axis) DenotesAxis c.take_one-2.new.cursor start) c.take_each.result c.in_ok-first-2.others axes.others two.1 (ap (λ a. a.others) three.0) c.take_each.ensures.builds)
    came r
