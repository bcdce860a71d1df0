use Rattle.std.proofs.Common.{◌++◌, List, map, ap, subst}
use Rattle.reg_report.specs.Lines.{sheet_text}
use Rattle.reg_sense.specs.Claimants.{detail_seen}
use Rattle.reg_lint.specs.declared.kept.KeptSubject.{KeptSubject}
use Rattle.reg_lint.specs.Known.{has_mark}
use Rattle.reg_lint.specs.Lines.{lines_of}
use Rattle.reg_lint.specs.Subjects.{AreKept}
use Rattle.reg_lint.proofs.KeptLemmas.{first_of}
use Rattle.reg_lint.proofs.StepLemmas.{line_step}
use Rattle.reg_lint.proofs.lines.write_lines.Goals as goal

pub loop-one-preserved : goal.loop-one-preserved
loop-one-preserved c = (
  c.in_ok-write_line.ensures.ready,
  λ ss are.
      let m = c.loop-one.invariant.1 ss are in
      let h = first_of c.in-Some-Some.one.now c.in-Some-Some.later.now m.0 (subst (λ (ks : List KeptSubject). AreKept ks m.0) c.in-Some-Some.ensures.cases.0 m.1) in (
        h.others,
        h.are,
        line_step (has_mark c.args.known.now) c.args.rule h.subject h.others m.0
            (detail_seen c.in-Some-Some.detail.now) (map detail_seen c.in-Some-Some.others.now) (map detail_seen c.loop-one.rest.now)
            (sheet_text c.loop-one.wtr) (sheet_text c.write_line.new.wtr) (sheet_text c.args.wtr.now ++ lines_of (has_mark c.args.known.now) c.args.rule ss (map detail_seen c.args.found.now))
            h.same (ap (map detail_seen) c.in-Some-Some.ensures'.cases.0) (c.in_ok-write_line.ensures.row h.subject h.is).wrote m.2,
      ),
)
