use Rattle.std.proofs.Common.{length, ◌∙◌, refl, arith}
use Rattle.reg_file.specs.Layout.{piece_file}
use Rattle.reg_file.proofs.PieceLemmas.{file_long, file_of, not_large}
use Rattle.reg_file.proofs.LongLemmas.{within_most, few_parts}
use Rattle.reg_file.proofs.pieces.write_piece_bytes.Goals as goal

pub returns-in_default-clause-large : goal.returns-in_default-clause-large
returns-in_default-clause-large c =
    let p = c.args.piece.now in
    let bs = c.runs-basis.result.now in
    let os = c.ops-ops.result.now in
    let rs = c.runs-runs.result.now in
    let f = file_of p bs os rs c.ops-ops.ensures.items c.runs-basis.ensures.runs (c.runs-basis.ensures.all ∙ c.basis.ensures.value) c.runs-runs.ensures.runs (c.runs-runs.ensures.all ∙ c.seen.ensures.value) in
    (λ e. (piece_file 2 bs os rs, f, c.in_default.ensures.none), λ t. refl)

pub spell_piece-requires-clause-basis : goal.spell_piece-requires-clause-basis
spell_piece-requires-clause-basis c =
    let bs = c.runs-basis.result.now in
    let os = c.ops-ops.result.now in
    let rs = c.runs-runs.result.now in
    few_parts (length bs) (length (piece_file 2 bs os rs)) c.in-Some.size c.in-Some.ensures.some.0 c.in-Some.ensures.some.1 (file_long 2 bs os rs).basis

pub spell_piece-requires-clause-ops : goal.spell_piece-requires-clause-ops
spell_piece-requires-clause-ops c =
    let bs = c.runs-basis.result.now in
    let os = c.ops-ops.result.now in
    let rs = c.runs-runs.result.now in
    few_parts (length os) (length (piece_file 2 bs os rs)) c.in-Some.size c.in-Some.ensures.some.0 c.in-Some.ensures.some.1 (file_long 2 bs os rs).ops

pub spell_piece-requires-clause-runs : goal.spell_piece-requires-clause-runs
spell_piece-requires-clause-runs c =
    let bs = c.runs-basis.result.now in
    let os = c.ops-ops.result.now in
    let rs = c.runs-runs.result.now in
    few_parts (length rs) (length (piece_file 2 bs os rs)) c.in-Some.size c.in-Some.ensures.some.0 c.in-Some.ensures.some.1 (file_long 2 bs os rs).seen

pub returns-in-Ok-clause-large : goal.returns-in-Ok-clause-large
returns-in-Ok-clause-large c =
    let p = c.args.piece.now in
    let bs = c.runs-basis.result.now in
    let os = c.ops-ops.result.now in
    let rs = c.runs-runs.result.now in
    let f = file_of p bs os rs c.ops-ops.ensures.items c.runs-basis.ensures.runs (c.runs-basis.ensures.all ∙ c.basis.ensures.value) c.runs-runs.ensures.runs (c.runs-runs.ensures.all ∙ c.seen.ensures.value) in
    (λ e. absurd cc, λ t. absurd (not_large p (piece_file 2 bs os rs) f (within_most (length (piece_file 2 bs os rs)) c.in-Some.size c.in-Some.ensures.some.0 c.in-Some.ensures.some.1) t))

pub returns-in-Err-clause-large : goal.returns-in-Err-clause-large
returns-in-Err-clause-large c =
    let p = c.args.piece.now in
    let bs = c.runs-basis.result.now in
    let os = c.ops-ops.result.now in
    let rs = c.runs-runs.result.now in
    let f = file_of p bs os rs c.ops-ops.ensures.items c.runs-basis.ensures.runs (c.runs-basis.ensures.all ∙ c.basis.ensures.value) c.runs-runs.ensures.runs (c.runs-runs.ensures.all ∙ c.seen.ensures.value) in
    (λ e. absurd cc, λ t. absurd (not_large p (piece_file 2 bs os rs) f (within_most (length (piece_file 2 bs os rs)) c.in-Some.size c.in-Some.ensures.some.0 c.in-Some.ensures.some.1) t))
