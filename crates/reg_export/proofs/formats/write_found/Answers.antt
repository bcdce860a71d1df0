use Rattle.std.proofs.Common.{map, subst, inr}
use Rattle.reg_export.specs.Kept.{row_at}
use Rattle.reg_export.specs.Handed.{StopsIn}
use Rattle.reg_export.proofs.formats.write_found.Goals as goal

pub returns-clause-fault : goal.returns-clause-fault
returns-clause-fault g c =
    inr (record {
      taken = c.in-Ok.chosen.taken;
      kept = map row_at c.in-Ok.chosen.rows.items;
      chosen = c.in-Ok.ensures;
      all = c.in_default.ensures.ok;
      stops =
          subst (λ l. StopsIn c.args.format c.args.register.now (map row_at l) (g.K.Sink.state c.args.sink.now) (g.K.Sink.state c.write_in.new.sink) c.in-Err-write_in.fault) c.deref.ensures.value
          c.in-Err-write_in.ensures.fault;
    })
