use Rattle.std.proofs.Common.{◌≡◌, subst, rules}
use Rattle.byte_out.specs.Input.{kept_of}
use Rattle.reg_engine.specs.Store.{in_file, IsUnchanged}
use Rattle.reg_commands.specs.Change.{Enters, CannotEnter}
use Rattle.reg_commands.proofs.on_devices.run_enter.Goals as goal

pub returns-in-Err-clause-fault : goal.returns-in-Err-clause-fault
returns-in-Err-clause-fault g c =
    let s : c.run_change.new.store.source.now ≡ c.source-1.given.0 = search rules in
    let p : c.run_change.new.store.place.now ≡ c.place-1.given.0 = search rules in
    let x : c.run_change.new.command.text.now ≡ c.text-1.given.0 = search rules in
    subst (λ v. IsUnchanged (in_file (g.S.Source.state c.args.source.now) (g.P.Place.state c.args.place.now) (g.S.Source.state c.source-1.given.0) (kept_of (g.S.Input.keeps c.source-1.given.0) (g.S.Source.state c.source-1.given.0)) (g.P.Place.state c.place-1.given.0)) (Enters c.args.replica c.args.note.now (g.X.Source.state c.args.text.now) (g.X.Source.state v)) (CannotEnter c.args.replica c.args.note.now 2 (g.X.Source.state c.args.text.now) (g.X.Source.state v)) (g.X.Source.state v ≡ g.X.Source.state c.args.text.now) (g.K.Sink.state c.args.sink.now) (g.K.Sink.state c.run_change.new.sink) c.in-Err.fault) x
    (subst (λ v. IsUnchanged (in_file (g.S.Source.state c.args.source.now) (g.P.Place.state c.args.place.now) (g.S.Source.state c.source-1.given.0) (kept_of (g.S.Input.keeps c.source-1.given.0) (g.S.Source.state c.source-1.given.0)) (g.P.Place.state v)) (Enters c.args.replica c.args.note.now (g.X.Source.state c.args.text.now) (g.X.Source.state c.run_change.new.command.text.now)) (CannotEnter c.args.replica c.args.note.now 2 (g.X.Source.state c.args.text.now) (g.X.Source.state c.run_change.new.command.text.now)) (g.X.Source.state c.run_change.new.command.text.now ≡ g.X.Source.state c.args.text.now) (g.K.Sink.state c.args.sink.now) (g.K.Sink.state c.run_change.new.sink) c.in-Err.fault) p
    (subst (λ v. IsUnchanged (in_file (g.S.Source.state c.args.source.now) (g.P.Place.state c.args.place.now) (g.S.Source.state v) (kept_of (g.S.Input.keeps v) (g.S.Source.state v)) (g.P.Place.state c.run_change.new.store.place.now)) (Enters c.args.replica c.args.note.now (g.X.Source.state c.args.text.now) (g.X.Source.state c.run_change.new.command.text.now)) (CannotEnter c.args.replica c.args.note.now 2 (g.X.Source.state c.args.text.now) (g.X.Source.state c.run_change.new.command.text.now)) (g.X.Source.state c.run_change.new.command.text.now ≡ g.X.Source.state c.args.text.now) (g.K.Sink.state c.args.sink.now) (g.K.Sink.state c.run_change.new.sink) c.in-Err.fault) s c.in-Err.ensures.fault))
