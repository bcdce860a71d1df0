use Rattle.std.specs.Prelude.{◌≢◌, ◌↔◌, [], ℕ, List, IsTrue}
use Rattle.std.proofs.Common.{refl, inl, inr, subst}
use Rattle.byte_io.specs.Whole.{WritesAll, IsCutAt}
use Rattle.reg_engine.specs.WholeFile.{IsUnread}
use Rattle.reg_texts.specs.Given.{IsFileAgainst, IsFileUnread}
use Rattle.reg_texts.specs.With.{IsRefusedIn}
use Rattle.reg_texts.proofs.engines.with.run_compared_with.Goals as goal

pub returns-in-Err-read_whole-clause-fault : goal.returns-in-Err-read_whole-clause-fault
returns-in-Err-read_whole-clause-fault g c =
    let old = g.S.Source.state c.args.file.now in
    let new = g.S.Source.state c.read_whole.new.file in
    inr (
      c.in-Ok.register,
      c.in-Ok.ensures.came,
      inl (subst (λ (k : ℕ). IsUnread k old new c.in-Err-read_whole.fault) c.next-next.ensures c.in-Err-read_whole.ensures.fault, refl),
    )

pub returns-in-Err-compared_texts-clause-fault : goal.returns-in-Err-compared_texts-clause-fault
returns-in-Err-compared_texts-clause-fault g c =
    let bytes = c.in-Ok-read_whole.bytes.items in
    inr (
      c.in-Ok.register,
      c.in-Ok.ensures.came,
      inr (
        bytes,
        c.in-Ok-read_whole.ensures.gives,
        inl (subst (λ (k : ℕ). IsRefusedIn k bytes c.refused_in.result) c.next-next.ensures (c.refused_in.ensures bytes (subst (λ (b : List ℕ). IsFileUnread b c.in-Err-compared_texts.why) c.deref.ensures.value c.in-Err-compared_texts.ensures.fault)), refl),
      ),
    )

pub returns-in-Ok-write_all-clause-printed : goal.returns-in-Ok-write_all-clause-printed
returns-in-Ok-write_all-clause-printed g c =
    let bytes = c.in-Ok-read_whole.bytes.items in
    let text = c.in-Ok-compared_texts.text.items in (
      c.in-Ok.register,
      bytes,
      text,
      c.in-Ok.ensures.came,
      c.in-Ok-read_whole.ensures.gives,
      subst (λ (b : List ℕ). IsFileAgainst c.args.name.now b c.in-Ok.register text) c.deref.ensures.value c.in-Ok-compared_texts.ensures.ok,
      subst (λ (l : List ℕ). IsTrue c.has_any.result ↔ (l ≢ [])) c.deref-in-Ok-write_all.ensures.value c.has_any.ensures,
      subst (λ (l : List ℕ). WritesAll l (g.K.Sink.state c.args.sink.now) (g.K.Sink.state c.write_all.new.sink)) c.deref-2.ensures.value c.in-Ok-write_all.ensures.ok,
    )

pub returns-clause-fault : goal.returns-clause-fault
returns-clause-fault g c =
    let bytes = c.in-Ok-read_whole.bytes.items in
    let text = c.in-Ok-compared_texts.text.items in
    inr (
      c.in-Ok.register,
      c.in-Ok.ensures.came,
      inr (
        bytes,
        c.in-Ok-read_whole.ensures.gives,
        inr (
          text,
          subst (λ (b : List ℕ). IsFileAgainst c.args.name.now b c.in-Ok.register text) c.deref.ensures.value c.in-Ok-compared_texts.ensures.ok,
          subst (λ (l : List ℕ). IsCutAt c.in-Err-write_all.fault.written l (g.K.Sink.state c.args.sink.now) (g.K.Sink.state c.write_all.new.sink)) c.deref-2.ensures.value c.in-Err-write_all.ensures.fault,
        ),
      ),
    )
