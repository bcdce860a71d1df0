use Rattle.std.proofs.Common.{◌≡◌, ◌+◌, ◌∷◌, arith, drop, sym, ap, ◌∙◌}
use Rattle.std.proofs.lemmas.List.{drop_more}
use Rattle.reg_take.specs.declared.files.Arrival.{Arrival}
use Rattle.reg_take.specs.Taken.{taken}
use Rattle.reg_take.proofs.TakenLemmas.{one_taken, walked}
use Rattle.reg_take.proofs.taking.Taking.walk.Goals as goal

pub loop-file-preserved : goal.loop-file-preserved
loop-file-preserved c t shows =
    let was = c.loop-file.invariant t shows in
    let file = c.loop-file.file in
    let one = c.index-arrivals-file.result in
    let all = c.args.arrivals.now in
    let more : drop file all ≡ one ∷ drop (file + 1) all = drop_more all file one c.loop-file-test.true ∙ ap (λ (a : Arrival). a ∷ drop (file + 1) all) (sym c.index-arrivals-file.is) in
    (taken c.args.phase was.0 file one, c.in_ok-taking.ensures was.0 was.1, sym (one_taken c.args.phase was.0 file one all more) ∙ was.2)

pub returns : goal.returns
returns c t shows =
    let was = c.loop-file.invariant t shows in
    walked c.args.phase was.0 t c.loop-file.file c.args.arrivals.now c.loop-file.taking (omega (arith, c.loop-file-test.false)) was.2 was.1
