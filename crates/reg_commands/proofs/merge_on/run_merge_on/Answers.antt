use Rattle.std.proofs.Common.{◌≡◌, ◌∷◌, [], Ok, map, subst}
use Rattle.reg_op.specs.Contents.{nothing, joined}
use Rattle.reg_op.specs.Joining.{all_joined}
use Rattle.reg_commands.specs.Merge.{begun, with_pieces, IsUnjoined}
use Rattle.reg_engine.specs.Shelf.{disks}
use Rattle.reg_commands.specs.MergeOn.{shelf_ends}
use Rattle.reg_engine.proofs.InputLemmas.{none_given}
use Rattle.reg_engine.proofs.ShelfLemmas.{kept_then, unkept_then}
use Rattle.reg_commands.proofs.MergeOnLemmas.{merge_unrestored, merge_unread, merge_unjoined_first, gives_from, merge_unjoined_then, merges_to, merge_unkept}
use Rattle.reg_commands.proofs.merge_on.run_merge_on.Goals as goal

pub returns-in-Err-clause-fault : goal.returns-in-Err-clause-fault
returns-in-Err-clause-fault g c =
    merge_unrestored (disks g.D.Disk.tells g.D.Disk.seen g.D.Disk.images g.D.Disk.moment g.D.Disk.images_since g.D.Disk.failures) (map g.S.Source.state c.args.sources.now) c.args.disk.now c.restore_from.new.disk c.in-Err.fault c.in-Err.ensures.fault

pub returns-in-Err-read_parts_after-clause-fault : goal.returns-in-Err-read_parts_after-clause-fault
returns-in-Err-read_parts_after-clause-fault g c =
    merge_unread (disks g.D.Disk.tells g.D.Disk.seen g.D.Disk.images g.D.Disk.moment g.D.Disk.images_since g.D.Disk.failures) (shelf_ends (map g.S.Source.state c.args.sources.now) c.args.disk.now)
    (shelf_ends (map g.S.Source.state c.read_parts_after.new.sources) c.restore_from.new.disk) c.in-Ok.register c.in-Ok.ensures.found c.in-Ok.ensures.stays
    c.in-Err-read_parts_after.fault c.in-Err-read_parts_after.ensures.fault

pub returns-in_default-clause-fault : goal.returns-in_default-clause-fault
returns-in_default-clause-fault g c = (none_given (map g.S.Source.state c.args.sources.now), c.in-Ok.ensures.stays)

pub returns-in-Err-join_registers-clause-fault : goal.returns-in-Err-join_registers-clause-fault
returns-in-Err-join_registers-clause-fault g c =
    merge_unjoined_first (disks g.D.Disk.tells g.D.Disk.seen g.D.Disk.images g.D.Disk.moment g.D.Disk.images_since g.D.Disk.failures) (shelf_ends (map g.S.Source.state c.args.sources.now) c.args.disk.now)
    (shelf_ends (map g.S.Source.state c.read_parts_after.new.sources) c.restore_from.new.disk) c.in-Ok.register _ _ c.in-Ok.ensures.found c.in-Ok.ensures.stays
    (gives_from _ (c.in-Ok.register ∷ []) _ [] _ _ _ _ c.in-Ok-parts_of.ensures.registers c.in-Ok-parts_of.ensures.pieces c.in-Ok-read_parts_after.ensures.found)
    c.in-Err-join_registers.fault (subst (λ xs. IsUnjoined (begun (all_joined joined (Ok nothing) xs)) c.in-Err-join_registers.fault) c.deref.ensures.value c.in-Err-join_registers.ensures.err)

pub returns-in-Err-join_pieces-clause-fault : goal.returns-in-Err-join_pieces-clause-fault
returns-in-Err-join_pieces-clause-fault g c =
    merge_unjoined_then (disks g.D.Disk.tells g.D.Disk.seen g.D.Disk.images g.D.Disk.moment g.D.Disk.images_since g.D.Disk.failures) (shelf_ends (map g.S.Source.state c.args.sources.now) c.args.disk.now)
    (shelf_ends (map g.S.Source.state c.read_parts_after.new.sources) c.restore_from.new.disk) c.in-Ok.register _ _ c.in-Ok-join_registers.begun c.in-Ok.ensures.found c.in-Ok.ensures.stays
    (gives_from _ (c.in-Ok.register ∷ []) _ [] _ _ _ _ c.in-Ok-parts_of.ensures.registers c.in-Ok-parts_of.ensures.pieces c.in-Ok-read_parts_after.ensures.found)
    (subst (λ xs. begun (all_joined joined (Ok nothing) xs) ≡ Ok c.in-Ok-join_registers.begun) c.deref.ensures.value c.in-Ok-join_registers.ensures.ok)
    c.in-Err-join_pieces.fault (subst (λ qs. IsUnjoined (with_pieces (Ok c.in-Ok-join_registers.begun) qs) c.in-Err-join_pieces.fault) c.deref-2.ensures.value c.in-Err-join_pieces.ensures.err)

pub returns-in-Ok-keep_on-clause-merged : goal.returns-in-Ok-keep_on-clause-merged
returns-in-Ok-keep_on-clause-merged g c =
    let to = merges_to (map g.S.Source.state c.args.sources.now) (map g.S.Source.state c.read_parts_after.new.sources) c.in-Ok.register _ _ c.in-Ok-join_registers.begun c.in-Ok-join_pieces.joined
    (gives_from _ (c.in-Ok.register ∷ []) _ [] _ _ _ _ c.in-Ok-parts_of.ensures.registers c.in-Ok-parts_of.ensures.pieces c.in-Ok-read_parts_after.ensures.found)
    (subst (λ xs. begun (all_joined joined (Ok nothing) xs) ≡ Ok c.in-Ok-join_registers.begun) c.deref.ensures.value c.in-Ok-join_registers.ensures.ok)
    (subst (λ qs. with_pieces (Ok c.in-Ok-join_registers.begun) qs ≡ Ok c.in-Ok-join_pieces.joined) c.deref-2.ensures.value c.in-Ok-join_pieces.ensures.ok) in
    (c.in-Ok.register, c.in-Ok.ensures.found, (c.in-Ok-join_pieces.joined, to, kept_then (disks g.D.Disk.tells g.D.Disk.seen g.D.Disk.images g.D.Disk.moment g.D.Disk.images_since g.D.Disk.failures) c.args.disk.now c.restore_from.new.disk c.keep_on.new.disk c.in-Ok.ensures.tells c.in-Ok.ensures.stays c.in-Ok.ensures.sure c.in-Ok.register c.in-Ok.ensures.found c.in-Ok-join_pieces.joined c.in-Ok-keep_on.ensures.kept))

pub returns-in-Err-keep_on-clause-fault : goal.returns-in-Err-keep_on-clause-fault
returns-in-Err-keep_on-clause-fault g c =
    let to = merges_to (map g.S.Source.state c.args.sources.now) (map g.S.Source.state c.read_parts_after.new.sources) c.in-Ok.register _ _ c.in-Ok-join_registers.begun c.in-Ok-join_pieces.joined
    (gives_from _ (c.in-Ok.register ∷ []) _ [] _ _ _ _ c.in-Ok-parts_of.ensures.registers c.in-Ok-parts_of.ensures.pieces c.in-Ok-read_parts_after.ensures.found)
    (subst (λ xs. begun (all_joined joined (Ok nothing) xs) ≡ Ok c.in-Ok-join_registers.begun) c.deref.ensures.value c.in-Ok-join_registers.ensures.ok)
    (subst (λ qs. with_pieces (Ok c.in-Ok-join_registers.begun) qs ≡ Ok c.in-Ok-join_pieces.joined) c.deref-2.ensures.value c.in-Ok-join_pieces.ensures.ok) in
    merge_unkept (disks g.D.Disk.tells g.D.Disk.seen g.D.Disk.images g.D.Disk.moment g.D.Disk.images_since g.D.Disk.failures) (shelf_ends (map g.S.Source.state c.args.sources.now) c.args.disk.now)
    (shelf_ends (map g.S.Source.state c.read_parts_after.new.sources) c.keep_on.new.disk) c.in-Ok.register c.in-Ok-join_pieces.joined c.in-Ok.ensures.found to c.in-Err-keep_on.fault
    (unkept_then (disks g.D.Disk.tells g.D.Disk.seen g.D.Disk.images g.D.Disk.moment g.D.Disk.images_since g.D.Disk.failures) c.args.disk.now c.restore_from.new.disk c.keep_on.new.disk c.in-Ok.ensures.tells c.in-Ok.ensures.stays c.in-Ok.ensures.sure c.in-Ok.register c.in-Ok.ensures.found c.in-Ok-join_pieces.joined c.in-Err-keep_on.fault c.in-Err-keep_on.ensures.fault)
