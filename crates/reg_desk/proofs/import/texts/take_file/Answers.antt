use Rattle.std.proofs.Common.{◌∙◌, ap, arith, length, length-drop}
use Rattle.std.proofs.lemmas.List.{take_rest}
use Rattle.wkt_compare.specs.Texts.{piece_of}
use Rattle.wkt_compare.proofs.Nexts.{next_len, next_less}
use Rattle.reg_desk.proofs.ImportTextLemmas.{none_yet, one_more, ends_here, file_done}
use Rattle.reg_desk.proofs.import.texts.take_file.Goals as goal

pub loop-cut-init : goal.loop-cut-init
loop-cut-init c =
    let bytes = c.args.bytes.now in
    let place = c.begin-place.result in
    record {
      left = omega (arith, ap length (take_rest bytes place) ∙ length-drop place bytes, c.begin-place.ensures.within);
      explains = c.new-explainer.ensures;
      was = λ x files cuts texts ts h is goes. none_yet c.args.options.now x files c.args.file bytes cuts texts ts place _ c.args.progress c.begin-place.ensures.is (take_rest bytes place) h goes;
    }

pub loop-cut-preserved : goal.loop-cut-preserved
loop-cut-preserved c =
    let next = c.in-Some.ensures.some in
    let was = c.loop-cut.invariant in
    record {
      left = omega (arith, was.left, next_len c.loop-cut.place c.loop-cut.rest.now (piece_of c.in-Some.cut) c.in-Some.later.now next);
      explains = c.in_ok-progress.ensures.file ∙ was.explains;
      was = λ x files cuts texts ts h is goes.
          let s = was.was x files cuts texts ts h is goes in
          one_more c.args.options.now x files c.args.file c.args.bytes.now cuts texts ts c.loop-cut.place c.loop-cut.rest.now c.in-Some.later.now (piece_of c.in-Some.cut) c.loop-cut.progress c.in_ok-progress.progress s next
          (c.in_ok-progress.ensures.come x files _ _ _ s.come c.name_of-name.ensures (was.explains ∙ is)) c.if-progress.false;
    }

pub loop-cut-smaller : goal.loop-cut-smaller
loop-cut-smaller c = next_less c.loop-cut.place c.loop-cut.rest.now (piece_of c.in-Some.cut) c.in-Some.later.now c.in-Some.ensures.some

pub returns-then-progress : goal.returns-then-progress
returns-then-progress c = λ x files cuts texts ts h is goes.
    let was = c.loop-cut.invariant in
    let s = was.was x files cuts texts ts h is goes in
    ends_here c.args.options.now x files c.args.file c.args.bytes.now cuts texts ts c.loop-cut.place c.loop-cut.rest.now c.in-Some.later.now (piece_of c.in-Some.cut) c.loop-cut.progress c.in_ok-progress.progress s c.in-Some.ensures.some
    (c.in_ok-progress.ensures.come x files _ _ _ s.come c.name_of-name.ensures (was.explains ∙ is)) c.if-progress.true

pub returns : goal.returns
returns c = λ x files cuts texts ts h is goes.
    file_done c.args.options.now x files c.args.file c.args.bytes.now cuts texts ts c.loop-cut.place c.loop-cut.rest.now c.loop-cut.progress (c.loop-cut.invariant.was x files cuts texts ts h is goes) c.in_default.ensures.none
