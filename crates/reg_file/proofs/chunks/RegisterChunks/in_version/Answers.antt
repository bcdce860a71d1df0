use Rattle.std.proofs.Common.{length, ◌∙◌, refl, arith}
use Rattle.reg_file.specs.Layout.{register_file}
use Rattle.reg_file.proofs.HoldLemmas.{file_long}
use Rattle.reg_file.proofs.SizeLemmas.{file_of, not_large}
use Rattle.reg_file.proofs.LongLemmas.{within_most, few_parts}
use Rattle.reg_file.proofs.chunks.RegisterChunks.in_version.Goals as goal

pub returns-in_default-clause-large : goal.returns-in_default-clause-large
returns-in_default-clause-large c =
    let os = c.as_slice-ops.result.now in
    let rs = c.runs-runs.result.now in
    let f = file_of c.args.version c.args.register.now os rs (c.as_slice-ops.ensures ∙ c.ops.ensures.items) c.runs-runs.ensures.runs (c.runs-runs.ensures.all ∙ c.seen.ensures.value) in
    (λ e. (register_file c.args.version os rs, f, c.in_default.ensures.none), λ t. refl)

pub of-requires-clause-ops : goal.of-requires-clause-ops
of-requires-clause-ops c =
    let os = c.as_slice-ops.result.now in
    let rs = c.runs-runs.result.now in
    let long = (file_long c.args.version os rs).ops in
    few_parts (length os) (length (register_file c.args.version os rs)) c.in-Some.size c.in-Some.ensures.some.0 c.in-Some.ensures.some.1 long

pub of-requires-clause-runs : goal.of-requires-clause-runs
of-requires-clause-runs c =
    let os = c.as_slice-ops.result.now in
    let rs = c.runs-runs.result.now in
    let long = (file_long c.args.version os rs).seen in
    few_parts (length rs) (length (register_file c.args.version os rs)) c.in-Some.size c.in-Some.ensures.some.0 c.in-Some.ensures.some.1 long

pub returns-in-Ok-clause-large : goal.returns-in-Ok-clause-large
returns-in-Ok-clause-large c =
    let os = c.as_slice-ops.result.now in
    let rs = c.runs-runs.result.now in
    let f = file_of c.args.version c.args.register.now os rs (c.as_slice-ops.ensures ∙ c.ops.ensures.items) c.runs-runs.ensures.runs (c.runs-runs.ensures.all ∙ c.seen.ensures.value) in
    (λ e. absurd cc, λ t. absurd (not_large c.args.version c.args.register.now (register_file c.args.version os rs) f (within_most (length (register_file c.args.version os rs)) c.in-Some.size c.in-Some.ensures.some.0 c.in-Some.ensures.some.1) t))

pub returns-in-Err-clause-large : goal.returns-in-Err-clause-large
returns-in-Err-clause-large c =
    let os = c.as_slice-ops.result.now in
    let rs = c.runs-runs.result.now in
    let f = file_of c.args.version c.args.register.now os rs (c.as_slice-ops.ensures ∙ c.ops.ensures.items) c.runs-runs.ensures.runs (c.runs-runs.ensures.all ∙ c.seen.ensures.value) in
    (λ e. absurd cc, λ t. absurd (not_large c.args.version c.args.register.now (register_file c.args.version os rs) f (within_most (length (register_file c.args.version os rs)) c.in-Some.size c.in-Some.ensures.some.0 c.in-Some.ensures.some.1) t))
