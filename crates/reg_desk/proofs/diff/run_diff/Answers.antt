use Rattle.std.proofs.Common.{◌≡◌, List, ℕ, Ok, map, refl, inr, sym, subst, ◌∙◌}
use Rattle.reg_op.specs.Contents.{Content, nothing, joined}
use Rattle.reg_op.specs.Pieces.{Piece}
use Rattle.reg_op.specs.Joining.{all_joined}
use Rattle.reg_query.specs.DiffLines.{IsDiff}
use Rattle.reg_engine.specs.Inputs.{AreUnread, registers}
use Rattle.reg_commands.specs.Merge.{begun, with_pieces, IsUnjoined}
use Rattle.reg_desk.specs.Diff.{joined_ones, IsUntold}
use Rattle.reg_desk.proofs.PartLemmas.{first_is}
use Rattle.reg_desk.proofs.DiffLemmas.{unread, unjoined, compares, untold}
use Rattle.reg_desk.proofs.diff.run_diff.Goals as goal

pub returns-in-Err-read_others-clause-fault : goal.returns-in-Err-read_others-clause-fault
returns-in-Err-read_others-clause-fault g c =
    let old = map g.S.Source.state c.args.others.now in
    let new = map g.S.Source.state c.read_others.new.others in
    inr (
      c.in-Ok.old,
      c.in-Ok.ensures.came,
      unread c.args.joins (g.T.Store.next c.args.store.now) c.in-Ok.old old new (g.K.Sink.state c.args.sink.now) (g.K.Sink.state c.args.sink.now) refl c.in-Err-read_others.fault
          (subst (λ (k : ℕ). AreUnread k old new c.in-Err-read_others.fault) c.next-next.ensures c.in-Err-read_others.ensures.fault),
    )

pub returns-in-Err-join_some-clause-fault : goal.returns-in-Err-join_some-clause-fault
returns-in-Err-join_some-clause-fault g c =
    let old = map g.S.Source.state c.args.others.now in
    let new = map g.S.Source.state c.read_others.new.others in
    let sink = g.K.Sink.state c.args.sink.now in
    let parts = c.in-Ok-read_others.parts in
    let err = subst (λ (qs : List Piece). IsUnjoined (with_pieces (begun (all_joined joined (Ok nothing) (joined_ones c.args.joins c.deref-2.result.now))) qs) c.in-Err-join_some.fault) c.deref-3.ensures.value c.in-Err-join_some.ensures.err in
    inr (
      c.in-Ok.old,
      c.in-Ok.ensures.came,
      unjoined c.args.joins (g.T.Store.next c.args.store.now) c.in-Ok.old old new parts.registers.items parts.pieces.items c.in-Ok-read_others.ensures.found sink sink refl c.in-Err-join_some.fault
          (subst (λ (xs : List Content). IsUnjoined (with_pieces (begun (all_joined joined (Ok nothing) (joined_ones c.args.joins xs))) parts.pieces.items) c.in-Err-join_some.fault) c.deref-2.ensures.value err),
    )

pub returns-in-Err-write_diff-clause-fault : goal.returns-in-Err-write_diff-clause-fault
returns-in-Err-write_diff-clause-fault g c =
    let old = map g.S.Source.state c.args.others.now in
    let new = map g.S.Source.state c.read_others.new.others in
    let before = g.K.Sink.state c.args.sink.now in
    let after = g.K.Sink.state c.write_diff.new.sink in
    let parts = c.in-Ok-read_others.parts in
    let found = c.in-Ok-read_others.ensures.found in
    let y = c.in-Ok-join_some.after in
    let is = first_is c.in-Ok.old c.in-Some.first.now parts.registers.items (registers found.0) c.in-Some._later.now found.2 (sym c.deref.ensures.value ∙ c.in-Some.ensures.cases.0) in
    let ok = subst (λ (xs : List Content). with_pieces (begun (all_joined joined (Ok nothing) (joined_ones c.args.joins xs))) parts.pieces.items ≡ Ok y) c.deref-2.ensures.value
    (subst (λ (qs : List Piece). with_pieces (begun (all_joined joined (Ok nothing) (joined_ones c.args.joins c.deref-2.result.now))) qs ≡ Ok y) c.deref-3.ensures.value c.in-Ok-join_some.ensures.ok) in
    let both = compares c.args.joins (g.T.Store.next c.args.store.now) c.in-Ok.old old new parts.registers.items parts.pieces.items found y ok in
    inr (
      c.in-Ok.old,
      c.in-Ok.ensures.came,
      untold c.args.joins (g.T.Store.next c.args.store.now) c.in-Ok.old old new y before after both c.in-Err-write_diff.fault
          (subst (λ (k : Content). IsUntold (IsDiff k y) before after c.in-Err-write_diff.fault) is c.in-Err-write_diff.ensures.fault),
    )
