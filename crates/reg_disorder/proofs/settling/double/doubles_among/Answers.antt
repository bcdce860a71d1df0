use Rattle.std.proofs.Common.{[], ◌∷◌, ◌++◌, map, refl, ap, sym, subst}
use Rattle.reg_report.specs.Seen.{row_seen}
use Rattle.reg_disorder.specs.Doubles.{IsDouble}
use Rattle.reg_disorder.proofs.Steps.{Completes, picks_step, picks_all}
use Rattle.reg_disorder.proofs.Steps.{none_left}
use Rattle.reg_disorder.proofs.Repeated.{none_put_in, more_done, double_is}
use Rattle.reg_disorder.proofs.settling.double.doubles_among.Goals as goal

pub loop-row-init : goal.loop-row-init
loop-row-init c = (
  [],
  refl,
  none_put_in c.new-texts.result c.new-texts.ensures.empty,
  subst (λ l. Completes (IsDouble (map row_seen c.args.rows.now)) (map row_seen c.args.rows.now) (map row_seen c.args.rows.now) l) (sym c.new-ids.ensures.items) (λ more m. m),
)

pub loop-row-preserved : goal.loop-row-preserved
loop-row-preserved c =
    let all = map row_seen c.args.rows.now in
    let rest = map row_seen c.loop-row.rest.now in
    let others = map row_seen c.in-Some.others.now in
    let r = row_seen c.in-Some.row.now in
    let done = c.loop-row.invariant.0 in
    let first = ap (map row_seen) c.in-Some.ensures.cases.0 in
    let texts = c.loop-row.invariant.2 in (
      done ++ r ∷ [],
      more_done all done rest others r c.loop-row.invariant.1 first,
      c.in_ok-picked.ensures.texts done texts,
      picks_step (IsDouble all) all rest others r c.loop-row.ids.items c.push_where.new.ids.items c.in_ok-picked.picked first
          (double_is all done rest others r c.in_ok-picked.picked c.loop-row.invariant.1 first c.requires (c.in_ok-picked.ensures.again done texts)) c.in_ok-push_where.ensures c.loop-row.invariant.3,
    )

pub returns : goal.returns
returns c = picks_all (IsDouble (map row_seen c.args.rows.now)) (map row_seen c.args.rows.now) (map row_seen c.loop-row.rest.now) c.loop-row.ids.items (none_left row_seen c.loop-row.rest.now c.in_default.ensures.cases) c.loop-row.invariant.3
