use Rattle.std.proofs.Common.{◌≡◌, refl, map, subst, Ok, List, ℕ, Option, None}
use Rattle.byte_out.specs.Input.{kept_of, first_kept}
use Rattle.reg_op.specs.Contents.{nothing, joined}
use Rattle.reg_op.specs.Joining.{all_joined}
use Rattle.reg_engine.specs.Outputs.{PublishesFile, IsUnpublished}
use Rattle.reg_commands.specs.Merge.{ends, begun, with_pieces, IsUnjoined}
use Rattle.reg_engine.proofs.InputLemmas.{none_failed}
use Rattle.reg_commands.proofs.MergeLemmas.{unread, unmerged, unjoined_first, unjoined_then, joins_to}
use Rattle.reg_commands.proofs.merge.run_merge.Goals as goal

pub returns-in-Err-clause-fault : goal.returns-in-Err-clause-fault
returns-in-Err-clause-fault g c =
    unread (ends (map g.S.Source.state c.args.sources.now) None (g.P.Place.state c.args.place.now)) (ends (map g.S.Source.state c.read_parts.new.sources) (first_kept (map (λ s. kept_of (g.S.Input.keeps s) (g.S.Source.state s)) c.read_parts.new.sources)) (g.P.Place.state c.args.place.now))
    refl c.in-Err.fault c.in-Err.ensures.fault

pub returns-in-Err-join_registers-clause-fault : goal.returns-in-Err-join_registers-clause-fault
returns-in-Err-join_registers-clause-fault g c =
    unjoined_first (ends (map g.S.Source.state c.args.sources.now) None (g.P.Place.state c.args.place.now)) (ends (map g.S.Source.state c.read_parts.new.sources) (first_kept (map (λ s. kept_of (g.S.Input.keeps s) (g.S.Source.state s)) c.read_parts.new.sources)) (g.P.Place.state c.args.place.now))
    _ _ c.in-Ok.ensures.found refl c.in-Err-join_registers.fault
    (subst (λ xs. IsUnjoined (begun (all_joined joined (Ok nothing) xs)) c.in-Err-join_registers.fault) c.deref.ensures.value c.in-Err-join_registers.ensures.err)

pub returns-in-Err-join_pieces-clause-fault : goal.returns-in-Err-join_pieces-clause-fault
returns-in-Err-join_pieces-clause-fault g c =
    unjoined_then (ends (map g.S.Source.state c.args.sources.now) None (g.P.Place.state c.args.place.now)) (ends (map g.S.Source.state c.read_parts.new.sources) (first_kept (map (λ s. kept_of (g.S.Input.keeps s) (g.S.Source.state s)) c.read_parts.new.sources)) (g.P.Place.state c.args.place.now))
    _ _ c.in-Ok-join_registers.begun c.in-Ok.ensures.found refl
    (subst (λ xs. begun (all_joined joined (Ok nothing) xs) ≡ Ok c.in-Ok-join_registers.begun) c.deref.ensures.value c.in-Ok-join_registers.ensures.ok) c.in-Err-join_pieces.fault
    (subst (λ qs. IsUnjoined (with_pieces (Ok c.in-Ok-join_registers.begun) qs) c.in-Err-join_pieces.fault) c.deref-2.ensures.value c.in-Err-join_pieces.ensures.err)

pub returns-in-Ok-publish_register-clause-merged : goal.returns-in-Ok-publish_register-clause-merged
returns-in-Ok-publish_register-clause-merged g c =
    let found = c.in-Ok.ensures.found in (
      found.0,
      found.1,
      (
        c.in-Ok-join_pieces.joined,
        joins_to found.0 _ _ c.in-Ok-join_registers.begun c.in-Ok-join_pieces.joined found.2 found.3
            (subst (λ xs. begun (all_joined joined (Ok nothing) xs) ≡ Ok c.in-Ok-join_registers.begun) c.deref.ensures.value c.in-Ok-join_registers.ensures.ok)
            (subst (λ qs. with_pieces (Ok c.in-Ok-join_registers.begun) qs ≡ Ok c.in-Ok-join_pieces.joined) c.deref-2.ensures.value c.in-Ok-join_pieces.ensures.ok),
        subst (λ (r : Option (List ℕ)). PublishesFile c.in-Ok-join_pieces.joined r (g.P.Place.state c.args.place.now) (g.P.Place.state c.publish_register.new.place)) c.in-Ok-first_kept.ensures c.in-Ok-publish_register.ensures.published,
      ),
    )

pub returns-in-Err-publish_register-clause-fault : goal.returns-in-Err-publish_register-clause-fault
returns-in-Err-publish_register-clause-fault g c =
    let found = c.in-Ok.ensures.found in
    unmerged (ends (map g.S.Source.state c.args.sources.now) None (g.P.Place.state c.args.place.now)) (ends (map g.S.Source.state c.read_parts.new.sources) (first_kept (map (λ s. kept_of (g.S.Input.keeps s) (g.S.Source.state s)) c.read_parts.new.sources)) (g.P.Place.state c.publish_register.new.place))
    found.0 c.in-Ok-join_pieces.joined found.1
    (joins_to found.0 _ _ c.in-Ok-join_registers.begun c.in-Ok-join_pieces.joined found.2 found.3
    (subst (λ xs. begun (all_joined joined (Ok nothing) xs) ≡ Ok c.in-Ok-join_registers.begun) c.deref.ensures.value c.in-Ok-join_registers.ensures.ok)
    (subst (λ qs. with_pieces (Ok c.in-Ok-join_registers.begun) qs ≡ Ok c.in-Ok-join_pieces.joined) c.deref-2.ensures.value c.in-Ok-join_pieces.ensures.ok))
    c.in-Err-publish_register.fault (subst (λ (r : Option (List ℕ)). IsUnpublished c.in-Ok-join_pieces.joined r (g.P.Place.state c.args.place.now) (g.P.Place.state c.publish_register.new.place) c.in-Err-publish_register.fault) c.in-Ok-first_kept.ensures c.in-Err-publish_register.ensures.fault)

pub returns-in_default-clause-fault : goal.returns-in_default-clause-fault
returns-in_default-clause-fault g c =
    let found = c.in-Ok.ensures.found in
    (none_failed (map g.S.Source.state c.args.sources.now) (map g.S.Source.state c.read_parts.new.sources) found.0 found.1, refl)
