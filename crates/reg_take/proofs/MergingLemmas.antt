-- The faults of joining what was read, as those of a merge.
use Rattle.std.proofs.Common.{◌≡◌, ◌∷◌, [], List}
use Rattle.reg_op.specs.Contents.{Content}
use Rattle.reg_op.specs.Pieces.{Piece}
use Rattle.reg_file.specs.declared.parts.Part.TheVariants as part
use Rattle.reg_engine.specs.declared.fault.CliFault.{CliFault}
use Rattle.reg_engine.specs.Inputs.{GiveParts, GivePartsAfter}
use Rattle.reg_engine.specs.Shelf.{Disks, Has, StaysOn}
use Rattle.reg_commands.specs.Merge.{IsUnjoined, Ends, IsMergeFault}
use Rattle.reg_commands.specs.MergeOn.{ShelfEnds, IsMergeFaultOn}
use Rattle.reg_commands.proofs.MergeLemmas.{of_parts, refused_as, ways}
use Rattle.reg_commands.proofs.MergeOnLemmas.{refused_on}
use Rattle.reg_take.specs.Merging.{join_all}

-- in a merge of files
pub unjoined : (old new : Ends) (xs : List Content) (qs : List Piece) → GiveParts old.sources new.sources xs qs → new.place ≡ old.place
    → (f : CliFault) → IsUnjoined (join_all xs qs) f → IsMergeFault old new f
unjoined old new xs qs (ps, held, e, g) same f h = refused_as old new ps (join_all xs qs) held (of_parts ps xs qs e g) same f h

-- in a merge into a shelf
pub unjoined_on : {D : Type 0} (d : Disks D) (old new : ShelfEnds D) (x : Content) (xs : List Content) (qs : List Piece) → Has d old.disk x → StaysOn d old.disk new.disk
    → GivePartsAfter (x ∷ []) [] old.sources new.sources xs qs → (f : CliFault) → IsUnjoined (join_all xs qs) f → IsMergeFaultOn d old new f
unjoined_on d old new x xs qs has stays (ps, held, e, g) f h =
    refused_on d old new x ps (join_all xs qs) has stays held (of_parts (part.Register x ∷ ps) xs qs e g) f (ways (join_all xs qs) f h)
