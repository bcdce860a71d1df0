use Rattle.reg_file.proofs.SizeLemmas.{ranges_size, ranges_over, many_runs}
use Rattle.reg_file.proofs.length.add_ranges.Goals as goal

pub returns-then-runs-gt-MAX_FILE-clause-none : goal.returns-then-runs-gt-MAX_FILE-clause-none
returns-then-runs-gt-MAX_FILE-clause-none c = many_runs c.args.size c.args.runs.now c.if-runs-gt-MAX_FILE.true

pub returns-then-total-gt-MAX_FILE-clause-none : goal.returns-then-total-gt-MAX_FILE-clause-none
returns-then-total-gt-MAX_FILE-clause-none c =
    ranges_over c.args.size c.args.runs.now c.replicas_of.result 67108864 c.requires.runs c.requires.ids c.if-runs-gt-MAX_FILE.false c.replicas_of.ensures.count c.if-total-gt-MAX_FILE.true

pub returns-clause-some : goal.returns-clause-some
returns-clause-some c =
    (ranges_size c.args.size c.args.runs.now c.replicas_of.result c.requires.runs c.requires.ids c.if-runs-gt-MAX_FILE.false c.replicas_of.ensures.count, c.if-total-gt-MAX_FILE.false)
