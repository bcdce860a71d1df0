use Rattle.std.proofs.Common.{[], ap, ◌∙◌, length, length-drop, arith}
use Rattle.std.proofs.lemmas.List.{take_rest}
use Rattle.wkt_compare.specs.Texts.{piece_of}
use Rattle.reg_desk.proofs.FirstTextLemmas.{cut_from, begins_with}
use Rattle.reg_desk.proofs.import.first.first_in.Goals as goal

pub next_text-requires : goal.next_text-requires
next_text-requires c =
    let bytes = c.args.bytes.now in
    let place = c.begin-place.result in
    omega (arith, ap length (take_rest bytes place) ∙ length-drop place bytes, c.begin-place.ensures.within)

pub returns-in_default-clause-none : goal.returns-in_default-clause-none
returns-in_default-clause-none c =
    let bytes = c.args.bytes.now in
    let place = c.begin-place.result in
    cut_from bytes _ place [] c.begin-place.ensures.is (take_rest bytes place) c.in_default.ensures.none

pub returns-clause-some : goal.returns-clause-some
returns-clause-some c =
    let bytes = c.args.bytes.now in
    let place = c.begin-place.result in
    begins_with bytes _ _ place (piece_of c.in-Some.cut) c.begin-place.ensures.is (take_rest bytes place) c.in-Some.ensures.some
