use Rattle.std.proofs.Common.{length, arith}
use Rattle.reg_file.specs.Layout.{seen_file}
use Rattle.reg_file.proofs.SummaryLemmas.{file_long, file_of, not_large}
use Rattle.reg_file.proofs.LongLemmas.{within_most, few_parts}
use Rattle.reg_file.proofs.summaries.write_seen_bytes.Goals as goal

pub spell_seen-requires : goal.spell_seen-requires
spell_seen-requires c =
    let rs = c.runs-runs.result.now in
    few_parts (length rs) (length (seen_file 2 rs)) c.in-Some.size c.in-Some.ensures.some.0 c.in-Some.ensures.some.1 (file_long 2 rs)

pub returns-in-Ok-clause-large : goal.returns-in-Ok-clause-large
returns-in-Ok-clause-large c =
    let ids = c.args.seen.now in
    let rs = c.runs-runs.result.now in
    let f = file_of ids rs c.runs-runs.ensures.runs c.runs-runs.ensures.all in
    (λ e. absurd cc, λ t. absurd (not_large ids (seen_file 2 rs) f (within_most (length (seen_file 2 rs)) c.in-Some.size c.in-Some.ensures.some.0 c.in-Some.ensures.some.1) t))

pub returns-in-Err-clause-large : goal.returns-in-Err-clause-large
returns-in-Err-clause-large c =
    let ids = c.args.seen.now in
    let rs = c.runs-runs.result.now in
    let f = file_of ids rs c.runs-runs.ensures.runs c.runs-runs.ensures.all in
    (λ e. absurd cc, λ t. absurd (not_large ids (seen_file 2 rs) f (within_most (length (seen_file 2 rs)) c.in-Some.size c.in-Some.ensures.some.0 c.in-Some.ensures.some.1) t))
