use Rattle.std.specs.Prelude.{◌≢◌, ◌↔◌, [], ℕ, List, IsTrue}
use Rattle.std.proofs.Common.{refl, inl, inr, subst}
use Rattle.byte_io.specs.Whole.{WritesAll, IsCutAt}
use Rattle.reg_engine.specs.WholeFile.{IsUnread}
use Rattle.reg_texts.specs.Given.{IsFileAgainstWhereRead}
use Rattle.reg_texts.specs.With.{IsLeftIn}
use Rattle.reg_texts.proofs.LeftLemmas.{part_of}
use Rattle.reg_texts.proofs.engines.with.run_compared_where_read.Goals as goal

pub returns-in-Err-read_whole-clause-fault : goal.returns-in-Err-read_whole-clause-fault
returns-in-Err-read_whole-clause-fault g c =
    let old = g.S.Source.state c.args.file.now in
    let new = g.S.Source.state c.read_whole.new.file in
    inr (
      c.in-Ok.register,
      c.in-Ok.ensures.came,
      inl (subst (λ (k : ℕ). IsUnread k old new c.in-Err-read_whole.fault) c.next-next.ensures c.in-Err-read_whole.ensures.fault, refl),
    )

pub returns-in-Err-compared_where_read-clause-fault : goal.returns-in-Err-compared_where_read-clause-fault
returns-in-Err-compared_where_read-clause-fault g c =
    inr (
      c.in-Ok.register,
      c.in-Ok.ensures.came,
      inr (
        c.in-Ok-read_whole.bytes.items,
        c.in-Ok-read_whole.ensures.gives,
        inl (refl, refl),
      ),
    )

pub returns-in-Ok-write_all-clause-printed : goal.returns-in-Ok-write_all-clause-printed
returns-in-Ok-write_all-clause-printed g c =
    let bytes = c.in-Ok-read_whole.bytes.items in
    let made = c.in-Ok-compared_where_read.made in
    let text = made.text.items in
    let whole = subst (λ (b : List ℕ). IsFileAgainstWhereRead c.args.name.now b c.in-Ok.register text made.first) c.deref.ensures.value c.in-Ok-compared_where_read.ensures in (
      c.in-Ok.register,
      bytes,
      text,
      c.in-Ok.ensures.came,
      c.in-Ok-read_whole.ensures.gives,
      part_of c.args.name.now bytes _ c.in-Ok.register text made.first c.left_in.result whole (λ cuts cut left. subst (λ (k : ℕ). IsLeftIn k bytes cuts c.left_in.result) c.next-next.ensures (c.left_in.ensures bytes cuts cut left)),
      subst (λ (l : List ℕ). IsTrue c.has_any.result ↔ (l ≢ [])) c.deref-in-Ok-write_all.ensures.value c.has_any.ensures,
      subst (λ (l : List ℕ). WritesAll l (g.K.Sink.state c.args.sink.now) (g.K.Sink.state c.write_all.new.sink)) c.deref-2.ensures.value c.in-Ok-write_all.ensures.ok,
    )

pub returns-clause-fault : goal.returns-clause-fault
returns-clause-fault g c =
    let bytes = c.in-Ok-read_whole.bytes.items in
    let made = c.in-Ok-compared_where_read.made in
    let text = made.text.items in
    inr (
      c.in-Ok.register,
      c.in-Ok.ensures.came,
      inr (
        bytes,
        c.in-Ok-read_whole.ensures.gives,
        inr (
          text,
          made.first,
          subst (λ (b : List ℕ). IsFileAgainstWhereRead c.args.name.now b c.in-Ok.register text made.first) c.deref.ensures.value c.in-Ok-compared_where_read.ensures,
          subst (λ (l : List ℕ). IsCutAt c.in-Err-write_all.fault.written l (g.K.Sink.state c.args.sink.now) (g.K.Sink.state c.write_all.new.sink)) c.deref-2.ensures.value c.in-Err-write_all.ensures.fault,
        ),
      ),
    )
