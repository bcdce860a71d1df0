use Rattle.std.proofs.Common.{List, ℕ, Option, option_map, refl, inl, inr, sym, subst}
use Rattle.byte_out.specs.Replace.{Replaces}
use Rattle.reg_engine.specs.declared.fault.CliFault.{CliFault}
use Rattle.reg_engine.specs.Outputs.{IsUnpublishedOf}
use Rattle.reg_engine.proofs.drivers.run_give.Goals as goal

pub returns-in-Err-file-clause-fault : goal.returns-in-Err-file-clause-fault
returns-in-Err-file-clause-fault g c = inr (c.in-Ok.register, c.in-Ok.ensures.came, inl (subst (λ (k : ℕ). g.C.Give.refuses c.args.command.now c.file.new.self k c.in-Ok.register c.in-Err-file.fault) c.next-next.ensures c.in-Err-file.ensures.refuses, refl))

pub returns-in-Err-kept-clause-fault : goal.returns-in-Err-kept-clause-fault
returns-in-Err-kept-clause-fault g c =
    inr (
      c.in-Ok.register,
      c.in-Ok.ensures.came,
      inr (
        c.in-Ok-file.bytes.items,
        subst (λ (k : ℕ). g.C.Give.gives c.args.command.now c.file.new.self k c.in-Ok.register c.in-Ok-file.bytes.items) c.next-next.ensures c.in-Ok-file.ensures.gives,
        subst (λ (f : CliFault). IsUnpublishedOf (g.T.Base.kept c.load.new.self) c.in-Ok-file.bytes.items (g.P.Place.state c.args.place.now) (g.P.Place.state c.args.place.now) f) (sym c.in-Err-kept.ensures.fault) refl,
      ),
    )

pub returns-in-Ok-publish_bytes-clause-given : goal.returns-in-Ok-publish_bytes-clause-given
returns-in-Ok-publish_bytes-clause-given g c = (
  c.in-Ok.register,
  c.in-Ok.ensures.came,
  (
    c.in-Ok-file.bytes.items,
    subst (λ (k : ℕ). g.C.Give.gives c.args.command.now c.file.new.self k c.in-Ok.register c.in-Ok-file.bytes.items) c.next-next.ensures c.in-Ok-file.ensures.gives,
    subst (λ (r : Option (List ℕ)). Replaces r c.in-Ok-file.bytes.items (g.P.Place.state c.args.place.now) (g.P.Place.state c.publish_bytes.new.place)) c.in-Ok-kept.ensures.kept
        (subst (λ (l : List ℕ). Replaces (option_map (λ s. s.now) c.in-Ok-kept.read) l (g.P.Place.state c.args.place.now) (g.P.Place.state c.publish_bytes.new.place)) c.deref.ensures.value c.in-Ok-publish_bytes.ensures.published),
  ),
)

pub returns-clause-fault : goal.returns-clause-fault
returns-clause-fault g c =
    inr (
      c.in-Ok.register,
      c.in-Ok.ensures.came,
      inr (
        c.in-Ok-file.bytes.items,
        subst (λ (k : ℕ). g.C.Give.gives c.args.command.now c.file.new.self k c.in-Ok.register c.in-Ok-file.bytes.items) c.next-next.ensures c.in-Ok-file.ensures.gives,
        subst (λ (r : Option (List ℕ)). IsUnpublishedOf r c.in-Ok-file.bytes.items (g.P.Place.state c.args.place.now) (g.P.Place.state c.publish_bytes.new.place) c.in-Err-publish_bytes.fault) c.in-Ok-kept.ensures.kept
            (subst (λ (l : List ℕ). IsUnpublishedOf (option_map (λ s. s.now) c.in-Ok-kept.read) l (g.P.Place.state c.args.place.now) (g.P.Place.state c.publish_bytes.new.place) c.in-Err-publish_bytes.fault) c.deref.ensures.value c.in-Err-publish_bytes.ensures.fault),
      ),
    )
