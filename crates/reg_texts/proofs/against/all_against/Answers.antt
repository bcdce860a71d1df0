use Rattle.std.proofs.Common.{◌+◌, map, drop, ap, sym, subst}
use Rattle.std.proofs.lemmas.List.{drop_more, drop_all}
use Rattle.std.proofs.lemmas.Result.{err_from_is_err_and}
use Rattle.wkt_compare.specs.Texts.{piece_of}
use Rattle.reg_texts.specs.Given.{IsTextAgainst}
use Rattle.reg_texts.proofs.EachLemmas.{Gathers, gathers_none, gathers_more, gathers_all}
use Rattle.reg_texts.proofs.GivenLemmas.{passes_more, passes_here}
use Rattle.reg_texts.proofs.against.all_against.Goals as goal

pub loop-cut-init : goal.loop-cut-init
loop-cut-init c =
    let all = map piece_of c.args.cuts.now in
    let P = IsTextAgainst c.args.name.now in
    (λ rs is. subst (Gathers (P rs) all all) (sym c.new-text.ensures.items) (gathers_none (P rs) all), λ f later. later)

pub loop-cut-preserved : goal.loop-cut-preserved
loop-cut-preserved c =
    let cuts = c.args.cuts.now in
    let all = map piece_of cuts in
    let rest = map piece_of (drop c.loop-cut.cut-index cuts) in
    let others = map piece_of (drop (c.loop-cut.cut-index + 1) cuts) in
    let P = IsTextAgainst c.args.name.now in
    let mine = c.in_ok-push_text.ensures.ok in
    let one = mine c.requires.0 c.requires.1 in
    let first = ap (map piece_of) (drop_more cuts c.loop-cut.cut-index _ c.loop-cut-test.true) in (
      λ rs is. let its = mine rs is in subst (Gathers (P rs) all others) (sym its.2) (gathers_more (P rs) all rest others _ c.loop-cut.text.items its.0 first its.1 (c.loop-cut.invariant.0 rs is)),
      passes_more all rest others _ one.1.0 first one.1.1 c.loop-cut.invariant.1,
    )

pub returns-clause-ok : goal.returns-clause-ok
returns-clause-ok c = λ rs is.
    let cuts = c.args.cuts.now in
    gathers_all (IsTextAgainst c.args.name.now rs) (map piece_of cuts) (map piece_of (drop c.loop-cut.cut-index cuts)) c.loop-cut.text.items
    (ap (map piece_of) (drop_all c.loop-cut.cut-index cuts c.loop-cut-test.false)) (c.loop-cut.invariant.0 rs is)

pub returns-in_err-push_text-clause-fault : goal.returns-in_err-push_text-clause-fault
returns-in_err-push_text-clause-fault c =
    let cuts = c.args.cuts.now in
    let p = err_from_is_err_and c.from_residual.result c.from_residual.ensures.1 in
    rw (p.1, p.2)
    (passes_here (map piece_of cuts) (map piece_of (drop c.loop-cut.cut-index cuts)) (map piece_of (drop (c.loop-cut.cut-index + 1) cuts)) _ _
    (ap (map piece_of) (drop_more cuts c.loop-cut.cut-index _ c.loop-cut-test.true)) c.in_err-push_text.ensures.fault c.loop-cut.invariant.1)
