use Rattle.std.proofs.Common.{◌+◌, map, drop, ap, sym, subst}
use Rattle.std.proofs.lemmas.List.{drop_more, drop_all}
use Rattle.wkt_compare.specs.Texts.{piece_of}
use Rattle.reg_texts.specs.Given.{IsTextOrNone}
use Rattle.reg_texts.proofs.EachLemmas.{Gathers, gathers_none, gathers_more, gathers_all}
use Rattle.reg_texts.proofs.GivenLemmas.{Leaves, text_or_none, leaves_none, leaves_more, leaves_all}
use Rattle.reg_texts.proofs.against.against_where_read.Goals as goal

pub loop-cut-init : goal.loop-cut-init
loop-cut-init c =
    let all = map piece_of c.args.cuts.now in
    let P = IsTextOrNone c.args.name.now in
    (λ rs is. subst (Gathers (P rs) all all) (sym c.new-text.ensures.items) (gathers_none (P rs) all), leaves_none all)

pub loop-cut-preserved : goal.loop-cut-preserved
loop-cut-preserved c =
    let cuts = c.args.cuts.now in
    let all = map piece_of cuts in
    let rest = map piece_of (drop c.loop-cut.cut-index cuts) in
    let others = map piece_of (drop (c.loop-cut.cut-index + 1) cuts) in
    let name = c.args.name.now in
    let mine = c.in_ok-left.ensures in
    let one = mine c.requires.0 c.requires.1 in
    let first = ap (map piece_of) (drop_more cuts c.loop-cut.cut-index _ c.loop-cut-test.true) in (
      λ rs is.
          let its = mine rs is in
          let P = IsTextOrNone name rs in
          subst (Gathers P all others) (sym its.2) (gathers_more P all rest others _ c.loop-cut.text.items its.0 first (text_or_none name rs _ its.0 c.in_ok-left.left its.1) (c.loop-cut.invariant.0 rs is)),
      subst (Leaves all others) (sym c.earlier-first.ensures) (leaves_more name c.requires.0 all rest others _ one.0 c.loop-cut.first c.in_ok-left.left first one.1 c.loop-cut.invariant.1),
    )

pub returns-clause-text : goal.returns-clause-text
returns-clause-text c = λ rs is.
    let cuts = c.args.cuts.now in
    gathers_all (IsTextOrNone c.args.name.now rs) (map piece_of cuts) (map piece_of (drop c.loop-cut.cut-index cuts)) c.loop-cut.text.items
    (ap (map piece_of) (drop_all c.loop-cut.cut-index cuts c.loop-cut-test.false)) (c.loop-cut.invariant.0 rs is)

pub returns-clause-first : goal.returns-clause-first
returns-clause-first c =
    let cuts = c.args.cuts.now in
    leaves_all (map piece_of cuts) (map piece_of (drop c.loop-cut.cut-index cuts)) c.loop-cut.first (ap (map piece_of) (drop_all c.loop-cut.cut-index cuts c.loop-cut-test.false)) c.loop-cut.invariant.1
