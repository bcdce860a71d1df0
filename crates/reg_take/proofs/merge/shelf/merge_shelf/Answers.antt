use Rattle.std.proofs.Common.{◌∷◌, [], map, ◌∙◌}
use Rattle.reg_file.specs.declared.parts.Part.TheVariants as part
use Rattle.reg_engine.specs.Shelf.{disks}
use Rattle.reg_engine.proofs.InputLemmas.{none_given}
use Rattle.reg_engine.proofs.ShelfLemmas.{kept_then, unkept_then}
use Rattle.reg_commands.specs.MergeOn.{shelf_ends}
use Rattle.reg_commands.proofs.MergeLemmas.{of_parts}
use Rattle.reg_commands.proofs.MergeOnLemmas.{merge_unrestored, merge_unread, gives_from, merge_unkept}
use Rattle.reg_take.proofs.MergingLemmas.{unjoined_on}
use Rattle.reg_take.proofs.merge.shelf.merge_shelf.Goals as goal

pub returns-in-Err-clause-fault : goal.returns-in-Err-clause-fault
returns-in-Err-clause-fault g c =
    merge_unrestored (disks g.D.Disk.tells g.D.Disk.seen g.D.Disk.images g.D.Disk.moment g.D.Disk.images_since g.D.Disk.failures) (map g.S.Source.state c.args.sources.now) c.args.disk.now c.restore_from.new.disk c.in-Err.fault c.in-Err.ensures.fault

pub returns-in_default-clause-fault : goal.returns-in_default-clause-fault
returns-in_default-clause-fault g c = (none_given (map g.S.Source.state c.args.sources.now), c.in-Ok.ensures.stays)

pub returns-in-Err-read_parts_after-clause-fault : goal.returns-in-Err-read_parts_after-clause-fault
returns-in-Err-read_parts_after-clause-fault g c =
    merge_unread (disks g.D.Disk.tells g.D.Disk.seen g.D.Disk.images g.D.Disk.moment g.D.Disk.images_since g.D.Disk.failures) (shelf_ends (map g.S.Source.state c.args.sources.now) c.args.disk.now)
    (shelf_ends (map g.S.Source.state c.read_parts_after.new.sources) c.restore_from.new.disk) c.in-Ok.register c.in-Ok.ensures.found c.in-Ok.ensures.stays
    c.in-Err-read_parts_after.fault c.in-Err-read_parts_after.ensures.fault

pub returns-in-Err-join_parts-clause-fault : goal.returns-in-Err-join_parts-clause-fault
returns-in-Err-join_parts-clause-fault g c =
    unjoined_on (disks g.D.Disk.tells g.D.Disk.seen g.D.Disk.images g.D.Disk.moment g.D.Disk.images_since g.D.Disk.failures) (shelf_ends (map g.S.Source.state c.args.sources.now) c.args.disk.now)
    (shelf_ends (map g.S.Source.state c.read_parts_after.new.sources) c.restore_from.new.disk) c.in-Ok.register _ _ c.in-Ok.ensures.found c.in-Ok.ensures.stays
    (gives_from _ (c.in-Ok.register ∷ []) _ [] _ _ _ _ c.in-Ok-parts_of.ensures.registers c.in-Ok-parts_of.ensures.pieces c.in-Ok-read_parts_after.ensures.found)
    c.in-Err-join_parts.fault c.in-Err-join_parts.ensures.err

pub returns-in-Ok-keep_on-clause-merged : goal.returns-in-Ok-keep_on-clause-merged
returns-in-Ok-keep_on-clause-merged g c =
    let gave = gives_from _ (c.in-Ok.register ∷ []) _ [] _ _ _ _ c.in-Ok-parts_of.ensures.registers c.in-Ok-parts_of.ensures.pieces c.in-Ok-read_parts_after.ensures.found in (
      c.in-Ok.register,
      c.in-Ok.ensures.found,
      (gave.0, gave.1, (gave.2, gave.3, of_parts (part.Register c.in-Ok.register ∷ gave.0) _ _ gave.2 gave.3 ∙ c.in-Ok-join_parts.ensures.ok)),
      kept_then (disks g.D.Disk.tells g.D.Disk.seen g.D.Disk.images g.D.Disk.moment g.D.Disk.images_since g.D.Disk.failures) c.args.disk.now c.restore_from.new.disk c.keep_on.new.disk c.in-Ok.ensures.tells c.in-Ok.ensures.stays c.in-Ok.ensures.sure c.in-Ok.register c.in-Ok.ensures.found c.in-Ok-join_parts.joined c.in-Ok-keep_on.ensures.kept,
    )

pub returns-in-Err-keep_on-clause-fault : goal.returns-in-Err-keep_on-clause-fault
returns-in-Err-keep_on-clause-fault g c =
    let gave = gives_from _ (c.in-Ok.register ∷ []) _ [] _ _ _ _ c.in-Ok-parts_of.ensures.registers c.in-Ok-parts_of.ensures.pieces c.in-Ok-read_parts_after.ensures.found in
    merge_unkept (disks g.D.Disk.tells g.D.Disk.seen g.D.Disk.images g.D.Disk.moment g.D.Disk.images_since g.D.Disk.failures) (shelf_ends (map g.S.Source.state c.args.sources.now) c.args.disk.now)
    (shelf_ends (map g.S.Source.state c.read_parts_after.new.sources) c.keep_on.new.disk) c.in-Ok.register c.in-Ok-join_parts.joined c.in-Ok.ensures.found
    (gave.0, gave.1, of_parts (part.Register c.in-Ok.register ∷ gave.0) _ _ gave.2 gave.3 ∙ c.in-Ok-join_parts.ensures.ok) c.in-Err-keep_on.fault
    (unkept_then (disks g.D.Disk.tells g.D.Disk.seen g.D.Disk.images g.D.Disk.moment g.D.Disk.images_since g.D.Disk.failures) c.args.disk.now c.restore_from.new.disk c.keep_on.new.disk c.in-Ok.ensures.tells c.in-Ok.ensures.stays c.in-Ok.ensures.sure c.in-Ok.register c.in-Ok.ensures.found c.in-Ok-join_parts.joined c.in-Err-keep_on.fault c.in-Err-keep_on.ensures.fault)
