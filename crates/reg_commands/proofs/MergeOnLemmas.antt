-- The results of a merge into a shelf, from those of its steps.
use Rattle.std.proofs.Common.{◌≡◌, ◌∷◌, [], List, Ok, Result, inl, inr, refl, sym, ap, subst, ◌∙◌}
use Rattle.byte_io.specs.Device.{SourceState}
use Rattle.reg_op.specs.Contents.{Content, nothing, joined}
use Rattle.reg_op.specs.Pieces.{Piece, PieceRefusal}
use Rattle.reg_op.specs.Joining.{all_joined}
use Rattle.reg_file.specs.declared.parts.Part.{Part}
use Rattle.reg_file.specs.declared.parts.Part.TheVariants as part
use Rattle.reg_engine.specs.declared.fault.CliFault.{CliFault}
use Rattle.reg_engine.specs.declared.fault.CliFault.TheVariants as cli
use Rattle.reg_engine.specs.Inputs.{HoldAll, GivePartsAfter, AreUnread}
use Rattle.reg_commands.specs.Merge.{begun, with_pieces, join_of, IsUnjoined}
use Rattle.reg_engine.specs.Shelf.{Disks, Has, StaysOn, IsUnrestored, IsUnkept}
use Rattle.reg_commands.specs.MergeOn.{ShelfEnds, shelf_ends, MergesTo, IsMergeFaultOn}
use Rattle.reg_engine.proofs.InputLemmas.{stops_first, none_failed, none_given}
use Rattle.reg_commands.proofs.MergeLemmas.{Ways, ways, of_parts, refusal_stays}

pub merge_unrestored : {D : Type 0} (d : Disks D) (sources : List SourceState) (old new : D) (f : CliFault) → IsUnrestored d old new f
    → IsMergeFaultOn d (shelf_ends sources old) (shelf_ends sources new) f
merge_unrestored d sources old new (cli.Refused r) h = absurd h
merge_unrestored d sources old new (cli.File k f) h = absurd h
merge_unrestored d sources old new (cli.Out f) h = absurd h
merge_unrestored d sources old new cli.Memory h = (none_given sources, h)
merge_unrestored d sources old new (cli.Shelf p) h = inl (h, refl)
merge_unrestored d sources old new (cli.Office t) h = absurd h

pub merge_unread : {D : Type 0} (d : Disks D) (old new : ShelfEnds D) (x : Content) → Has d old.disk x → StaysOn d old.disk new.disk
    → (f : CliFault) → AreUnread 1 old.sources new.sources f → IsMergeFaultOn d old new f
merge_unread d old new x has stays (cli.Refused r) h = absurd h
merge_unread d old new x has stays (cli.File k f) h = ((x, has), stops_first k f old.sources new.sources h, stays)
merge_unread d old new x has stays (cli.Out f) h = absurd h
merge_unread d old new x has stays cli.Memory h = (h, stays)
merge_unread d old new x has stays (cli.Shelf p) h = absurd h
merge_unread d old new x has stays (cli.Office t) h = absurd h

pub gives_from : (some others : List Content) (few none : List Piece) (old new : List SourceState) (xs : List Content) (qs : List Piece) → some ≡ others → few ≡ none
    → GivePartsAfter some few old new xs qs → GivePartsAfter others none old new xs qs
gives_from some others few none old new xs qs e f h =
    subst (λ k. GivePartsAfter k none old new xs qs) e (subst (λ k. GivePartsAfter some k old new xs qs) f h)

-- the parts that were read are not joined
pub refused_on : {D : Type 0} (d : Disks D) (old new : ShelfEnds D) (x : Content) (ps : List Part) (r : Result Content PieceRefusal) → Has d old.disk x → StaysOn d old.disk new.disk
    → HoldAll old.sources new.sources ps → join_of (part.Register x ∷ ps) ≡ r → (f : CliFault) → Ways r f → IsMergeFaultOn d old new f
refused_on d old new x ps r has stays held is f (inl (id, e, h)) = subst (λ k. IsMergeFaultOn d old new k) (sym e) (x, has, (ps, held, is ∙ h), stays)
refused_on d old new x ps r has stays held is f (inr (inl (id, e, h))) = subst (λ k. IsMergeFaultOn d old new k) (sym e) (x, has, (ps, held, is ∙ h), stays)
refused_on d old new x ps r has stays held is f (inr (inr e)) = subst (λ k. IsMergeFaultOn d old new k) (sym e) (none_failed old.sources new.sources ps held, stays)

pub merge_unjoined_first : {D : Type 0} (d : Disks D) (old new : ShelfEnds D) (x : Content) (xs : List Content) (qs : List Piece) → Has d old.disk x → StaysOn d old.disk new.disk
    → GivePartsAfter (x ∷ []) [] old.sources new.sources xs qs → (f : CliFault) → IsUnjoined (begun (all_joined joined (Ok nothing) xs)) f → IsMergeFaultOn d old new f
merge_unjoined_first d old new x xs qs has stays (ps, held, e, g) f h =
    refused_on d old new x ps (with_pieces (begun (all_joined joined (Ok nothing) xs)) qs) has stays held (of_parts (part.Register x ∷ ps) xs qs e g)
    f (ways (with_pieces (begun (all_joined joined (Ok nothing) xs)) qs) f (refusal_stays (begun (all_joined joined (Ok nothing) xs)) qs f h))

pub merge_unjoined_then : {D : Type 0} (d : Disks D) (old new : ShelfEnds D) (x : Content) (xs : List Content) (qs : List Piece) (y : Content) → Has d old.disk x → StaysOn d old.disk new.disk
    → GivePartsAfter (x ∷ []) [] old.sources new.sources xs qs → begun (all_joined joined (Ok nothing) xs) ≡ Ok y → (f : CliFault) → IsUnjoined (with_pieces (Ok y) qs) f → IsMergeFaultOn d old new f
merge_unjoined_then d old new x xs qs y has stays (ps, held, e, g) first f h =
    refused_on d old new x ps (with_pieces (Ok y) qs) has stays held (of_parts (part.Register x ∷ ps) xs qs e g ∙ ap (λ r. with_pieces r qs) first) f (ways (with_pieces (Ok y) qs) f h)

pub merges_to : (old new : List SourceState) (x : Content) (xs : List Content) (qs : List Piece) (y z : Content) → GivePartsAfter (x ∷ []) [] old new xs qs
    → begun (all_joined joined (Ok nothing) xs) ≡ Ok y → with_pieces (Ok y) qs ≡ Ok z → MergesTo old new x z
merges_to old new x xs qs y z (ps, held, e, g) first then-all = (ps, held, of_parts (part.Register x ∷ ps) xs qs e g ∙ ap (λ r. with_pieces r qs) first ∙ then-all)

pub merge_unkept : {D : Type 0} (d : Disks D) (old new : ShelfEnds D) (x y : Content) → Has d old.disk x → MergesTo old.sources new.sources x y
    → (f : CliFault) → IsUnkept d x y old.disk new.disk f → IsMergeFaultOn d old new f
merge_unkept d old new x y has to (cli.Refused r) h = absurd h
merge_unkept d old new x y has to (cli.File k f) h = absurd h
merge_unkept d old new x y has to (cli.Out f) h = absurd h
merge_unkept d old new x y has to cli.Memory h = (none_failed old.sources new.sources to.0 to.1, h)
merge_unkept d old new x y has to (cli.Shelf p) h = inr (x, y, has, to, h)
merge_unkept d old new x y has to (cli.Office t) h = absurd h
