use Rattle.std.proofs.Common.{map, ap, sym, subst}
use Rattle.reg_report.specs.Seen.{row_seen}
use Rattle.reg_disorder.proofs.Candidates.{Gathers, gathers_step, gathers_all}
use Rattle.reg_disorder.proofs.Steps.{none_left}
use Rattle.reg_disorder.proofs.settling.rival.rivals_of.Goals as goal

pub loop-row-init : goal.loop-row-init
loop-row-init c = subst (λ l. Gathers c.args.keeps.now (map row_seen c.args.rows.now) (map row_seen c.args.rows.now) l) (sym c.new-made.ensures.items) (λ more m. m)

pub loop-row-preserved : goal.loop-row-preserved
loop-row-preserved c =
    gathers_step c.args.keeps.now (map row_seen c.args.rows.now) (map row_seen c.loop-row.rest.now) (map row_seen c.in-Some.others.now) (row_seen c.in-Some.row.now)
    c.loop-row.made.items c.push_rival.new.rivals.items (ap (map row_seen) c.in-Some.ensures.cases.0) c.in_ok-push_rival.ensures c.loop-row.invariant

pub returns : goal.returns
returns c = gathers_all c.args.keeps.now (map row_seen c.args.rows.now) (map row_seen c.loop-row.rest.now) c.loop-row.made.items (none_left row_seen c.loop-row.rest.now c.in_default.ensures.cases) c.loop-row.invariant
