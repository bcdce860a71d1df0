use Rattle.std.proofs.Common.{rules, ◌≡◌, None, Ok, sym, subst, OnOk, IfErr}
use Rattle.std.proofs.lemmas.Result.{on_ok_weaker, IfErr-weaker}
use Rattle.reg_op.specs.Contents.{Content}
use Rattle.reg_engine.specs.Store.{IsChanged, IsUnchanged, MakesIn, StopsIn}
use Rattle.reg_news.specs.declared.watch.watched.Notes.{Notes}
use Rattle.reg_news.specs.Watching.{IsNoted, Tells, telling}
use Rattle.reg_news.proofs.TellingLemmas.{changed_by, unchanged_by}
use Rattle.reg_news.proofs.watch.telling.change_and_tell.Goals as goal

pub returns-clause-changed : goal.returns-clause-changed
returns-clause-changed g c =
    let last = c.run_change-answer.new.store in
    let s : c.run_change-answer.new.store.store.now ≡ c.store-1.given.0 = search rules in
    let n : c.run_change-answer.new.store.notes.now ≡ c.notes-2-1.given.0 = search rules in
    let told : (x y : Content) → IsNoted x last.notes.now.loaded → IsNoted y last.notes.now.kept → Tells x y c.news-news.result =
    subst (λ (m : Notes). (x y : Content) → IsNoted x m.loaded → IsNoted y m.kept → Tells x y c.news-news.result) (sym n) c.news-news.ensures.told in
    let none : last.notes.now.kept ≡ None → c.news-news.result ≡ Ok None =
    subst (λ (m : Notes). m.kept ≡ None → c.news-news.result ≡ Ok None) (sym n) c.news-news.ensures.none in
    subst (λ v. OnOk c.run_change-answer.result (IsChanged (telling (g.T.Store.around c.args.store.now v) c.news-news.result) (MakesIn (g.T.Store.admission c.args.store.now) (g.C.Change.makes c.args.command.now c.run_change-answer.new.command (g.T.Store.next c.args.store.now))) (g.K.Sink.state c.args.sink.now) (g.K.Sink.state c.run_change-answer.new.sink))) s
    (on_ok_weaker c.run_change-answer.result
    (changed_by (g.T.Store.around c.args.store.now last.store.now) c.none-notes.result.kept last.notes.now.loaded last.notes.now.kept c.news-news.result c.none-notes.ensures.kept told none
    (MakesIn (g.T.Store.admission c.args.store.now) (g.C.Change.makes c.args.command.now c.run_change-answer.new.command (g.T.Store.next c.args.store.now))) (g.K.Sink.state c.args.sink.now) (g.K.Sink.state c.run_change-answer.new.sink))
    c.run_change-answer.ensures.changed)

pub returns-clause-fault : goal.returns-clause-fault
returns-clause-fault g c =
    let last = c.run_change-answer.new.store in
    let s : c.run_change-answer.new.store.store.now ≡ c.store-1.given.0 = search rules in
    let n : c.run_change-answer.new.store.notes.now ≡ c.notes-2-1.given.0 = search rules in
    let told : (x y : Content) → IsNoted x last.notes.now.loaded → IsNoted y last.notes.now.kept → Tells x y c.news-news.result =
    subst (λ (m : Notes). (x y : Content) → IsNoted x m.loaded → IsNoted y m.kept → Tells x y c.news-news.result) (sym n) c.news-news.ensures.told in
    let none : last.notes.now.kept ≡ None → c.news-news.result ≡ Ok None =
    subst (λ (m : Notes). m.kept ≡ None → c.news-news.result ≡ Ok None) (sym n) c.news-news.ensures.none in
    let makes = MakesIn (g.T.Store.admission c.args.store.now) (g.C.Change.makes c.args.command.now c.run_change-answer.new.command (g.T.Store.next c.args.store.now)) in
    let refuses = StopsIn (g.T.Store.admission c.args.store.now) (g.C.Change.unmet c.args.command.now c.run_change-answer.new.command (g.T.Store.next c.args.store.now))
    (λ x. (r : g.row.C-Read.Denot) × g.C.Change.reads c.args.command.now c.run_change-answer.new.command (g.T.Store.next c.args.store.now) x r) (g.C.Change.refuses c.args.command.now c.run_change-answer.new.command (g.T.Store.next c.args.store.now)) in
    let unread = g.C.Change.unread c.args.command.now c.run_change-answer.new.command in
    let first = g.K.Sink.state c.args.sink.now in
    let later = g.K.Sink.state c.run_change-answer.new.sink in
    subst (λ v. IfErr c.run_change-answer.result (IsUnchanged (telling (g.T.Store.around c.args.store.now v) c.news-news.result) makes refuses unread first later)) s
    (IfErr-weaker c.run_change-answer.result _ (IsUnchanged (telling (g.T.Store.around c.args.store.now last.store.now) c.news-news.result) makes refuses unread first later)
    (unchanged_by (g.T.Store.around c.args.store.now last.store.now) c.none-notes.result.kept last.notes.now.loaded last.notes.now.kept c.news-news.result c.none-notes.ensures.kept told none
    makes refuses unread first later)
    c.run_change-answer.ensures.fault)
