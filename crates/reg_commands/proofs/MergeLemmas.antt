-- The file of a merge depends only on the operations and seen ids that its files bring; and the faults of a merge.
use Rattle.std.proofs.Common.{◌≡◌, ◌⊎◌, inl, inr, ◌++◌, ◌∷◌, [], List, ℕ, Ok, Err, Result, Some, None, map, refl, sym, ap, subst, ◌∙◌}
use Rattle.std.specs.declared.option.Option.{Option}
use Rattle.reg_op.specs.Ids.{Id}
use Rattle.reg_op.specs.Operations.{Ops, OneBody, kept}
use Rattle.reg_op.specs.Contents.{Content, state, nothing, joined}
use Rattle.reg_op.specs.Pieces.{Piece, PieceRefusal, Basis, Clash, part_of, first_missing, joined_where, joined_piece}
use Rattle.reg_op.specs.Joining.{all_joined, joined_with}
use Rattle.reg_file.specs.declared.parts.Part.{Part}
use Rattle.reg_file.specs.declared.parts.Part.TheVariants as part
use Rattle.reg_state.specs.ManyLaws.{all_ops, all_seen, all_of, merged_all}
use Rattle.reg_state.proofs.ManyLemmas.{joined_is, states_all}
use Rattle.reg_op.specs.Set as set
use Rattle.reg_file.specs.Layout.{file}
use Rattle.reg_file.specs.Files.{Holds, IsFileOf}
use Rattle.reg_file.proofs.HoldLemmas.{one_file}
use Rattle.reg_engine.specs.declared.fault.CliFault.{CliFault}
use Rattle.reg_engine.specs.declared.fault.CliFault.TheVariants as cli
use Rattle.reg_engine.specs.declared.fault.OutFault.TheVariants as out
use Rattle.reg_engine.specs.declared.fault.Refusal.TheVariants as refusal
use Rattle.byte_out.specs.Place.{PlaceState}
use Rattle.reg_state.specs.declared.piece.PieceFault.{PieceFault}
use Rattle.reg_state.specs.declared.piece.PieceFault.TheVariants as piece
use Rattle.reg_engine.specs.Fault.{piece_fault}
use Rattle.reg_engine.specs.Inputs.{HoldAll, AreUnread, registers, pieces, GiveParts}
use Rattle.reg_engine.specs.Outputs.{IsUnpublished}
use Rattle.reg_commands.specs.Merge.{begun, with_pieces, join_of, IsUnjoined, brought, IsMergeOf, JoinTo, Ends, IsMergeFault}
use Rattle.reg_engine.proofs.InputLemmas.{none_failed, stops_first}
use Rattle.reg_tree.proofs.Held.{stays}
use Rattle.reg_shelf.proofs.Contents.{empty_fits}

abbrev content_or : {E : Type 0} → Content → Result Content E → Content
content_or d (Ok x) = x
content_or d (Err e) = d

same_join : (ps : List Part) (x y : Content) → JoinTo ps x → JoinTo ps y → x ≡ y
same_join ps x y h k = ap (content_or x) (sym h ∙ k)

-- ---- joining a piece is joining the operations and seen ids that it brings

piece_as_part : (x : Content) (p : Piece) (y : Content) → joined_piece x p ≡ Ok y → joined x (part_of p) ≡ Ok y
piece_as_part x p y e = from (first_missing p.basis x.seen) (joined x (part_of p)) e
  where
    from : (m : Option Id) (r : Result Content Id) → joined_where m r ≡ Ok y → r ≡ Ok y
    from (Some id) r h = absurd (cc)
    from None (Ok z) h = ap Ok (ap (content_or z) h)
    from None (Err id) h = absurd (cc)

refused_stays : (r : PieceRefusal) (ps : List Piece) (x : Content) → with_pieces (Err r) ps ≡ Ok x → ⊥
refused_stays r [] x e = absurd (cc)
refused_stays r (p ∷ ps) x e = refused_stays r ps x e

-- one step: if joining the remaining pieces is joining what they bring, so is joining one more piece before them
piece_step : (q : Result Content PieceRefusal) (y : Content) (p : Piece) (ps : List Piece) (x : Content) → joined_piece y p ≡ q
    → ((z : Content) → with_pieces (Ok z) ps ≡ Ok x → all_joined joined (Ok z) (map part_of ps) ≡ Ok x) → with_pieces q ps ≡ Ok x
    → all_joined joined (joined y (part_of p)) (map part_of ps) ≡ Ok x
piece_step (Ok z) y p ps x is later e = ap (λ q. all_joined joined q (map part_of ps)) (piece_as_part y p z is) ∙ later z e
piece_step (Err q) y p ps x is later e = absurd (refused_stays q ps x e)

pieces_as_parts : (r : Result Content Id) (ps : List Piece) (x : Content) → with_pieces (begun r) ps ≡ Ok x → all_joined joined r (map part_of ps) ≡ Ok x
pieces_as_parts (Err id) ps x e = absurd (refused_stays (Clash id) ps x e)
pieces_as_parts (Ok y) [] x e = ap Ok (ap (content_or y) e)
pieces_as_parts (Ok y) (p ∷ ps) x e = piece_step (joined_piece y p) y p ps x refl (λ z h. pieces_as_parts (Ok z) ps x h) e

all_joined-append : (r : Result Content Id) (xs ys : List Content) → all_joined joined r (xs ++ ys) ≡ all_joined joined (all_joined joined r xs) ys
all_joined-append r [] ys = refl
all_joined-append r (x ∷ xs) ys = all_joined-append (joined_with joined r x) xs ys

joins_brought : (ps : List Part) (x : Content) → JoinTo ps x → all_joined joined (Ok nothing) (brought ps) ≡ Ok x
joins_brought ps x e = all_joined-append (Ok nothing) (registers ps) (map part_of (pieces ps)) ∙ pieces_as_parts (all_joined joined (Ok nothing) (registers ps)) (pieces ps) x e

is_merged_all : (ps : List Part) (x : Content) → JoinTo ps x → x ≡ merged_all (brought ps)
is_merged_all ps x e = joined_is (brought ps) x (joins_brought ps x e)

-- ---- the order of the files

same_all : (xs ys : List Content) → all_ops xs ≡ all_ops ys → all_seen xs ≡ all_seen ys → merged_all xs ≡ merged_all ys
same_all xs ys ops seen = ap (λ k. record { ops = kept k; seen = all_seen xs }) ops ∙ ap (λ v. record { ops = kept (all_ops ys); seen = v }) seen

pub order : (ps qs : List Part) (bytes others : List ℕ) → all_ops (brought ps) ≡ all_ops (brought qs) → all_seen (brought ps) ≡ all_seen (brought qs)
    → IsMergeOf ps bytes → IsMergeOf qs others → bytes ≡ others
order ps qs bytes others ops seen (x, to_x, hold_x) (y, to_y, hold_y) =
    let of_x : x ≡ merged_all (brought ps) = is_merged_all ps x to_x in
    let of_y : y ≡ merged_all (brought qs) = is_merged_all qs y to_y in
    let same : y ≡ x = of_y ∙ sym (same_all (brought ps) (brought qs) ops seen) ∙ sym of_x in
    one_file x bytes others hold_x.bytes_are (subst (λ z. Holds others z) same hold_y).bytes_are

-- parts that are all registers
registers_alone : (xs : List Content) → registers (map part.Register xs) ≡ xs
registers_alone [] = refl
registers_alone (x ∷ xs) = ap (λ ys. x ∷ ys) (registers_alone xs)

no_pieces : (xs : List Content) → pieces (map part.Register xs) ≡ []
no_pieces [] = refl
no_pieces (x ∷ xs) = no_pieces xs

states_joined : (ss : List Ops) → OneBody (all_of ss) → JoinTo (map part.Register (map state ss)) (state (all_of ss))
states_joined ss one =
    ap (λ xs. with_pieces (begun (all_joined joined (Ok nothing) xs)) (pieces (map part.Register (map state ss)))) (registers_alone (map state ss))
    ∙ ap (λ qs. with_pieces (begun (all_joined joined (Ok nothing) (map state ss))) qs) (no_pieces (map state ss))
    ∙ ap begun (states_all ss one)

pub states : (ss : List Ops) (bytes : List ℕ) → OneBody (all_of ss) → IsMergeOf (map part.Register (map state ss)) bytes → Holds bytes (state (all_of ss))
states ss bytes one (x, to_x, hold_x) = subst (λ z. Holds bytes z) (same_join (map part.Register (map state ss)) x (state (all_of ss)) to_x (states_joined ss one)) hold_x

-- ---- the effect of the command

-- the join of the registers and pieces that were read is the join of the parts
pub of_parts : (ps : List Part) (xs : List Content) (qs : List Piece) → xs ≡ registers ps → qs ≡ pieces ps → join_of ps ≡ with_pieces (begun (all_joined joined (Ok nothing) xs)) qs
of_parts ps xs qs e f =
    ap (λ ys. with_pieces (begun (all_joined joined (Ok nothing) ys)) (pieces ps)) (sym e) ∙ ap (λ ys. with_pieces (begun (all_joined joined (Ok nothing) xs)) ys) (sym f)

-- a join is refused for a clash or for a basis, or memory ran out
abbrev pub Ways : Result Content PieceRefusal → CliFault → Type 0
Ways r f = ((id : Id) × (f ≡ cli.Refused (refusal.Clash id)) × (r ≡ Err (Clash id)))
    ⊎ (((id : Id) × (f ≡ cli.Refused (refusal.Basis id)) × (r ≡ Err (Basis id))) ⊎ (f ≡ cli.Memory))

pub ways : (r : Result Content PieceRefusal) (f : CliFault) → IsUnjoined r f → Ways r f
ways r (cli.Refused (refusal.Clash id)) h = inl (id, refl, h)
ways r (cli.Refused (refusal.Basis id)) h = inr (inl (id, refl, h))
ways r (cli.Refused (refusal.Text f)) h = absurd h
ways r (cli.Refused (refusal.Slot f)) h = absurd h
ways r (cli.Refused (refusal.Broken k n)) h = absurd h
ways r (cli.Refused refusal.NoIdentifier) h = absurd h
ways r (cli.Refused refusal.CanonicalTooLong) h = absurd h
ways r (cli.Refused (refusal.HasNote id)) h = absurd h
ways r (cli.Refused (refusal.Office f)) h = absurd h
ways r (cli.Refused refusal.BadId) h = absurd h
ways r (cli.Refused refusal.BadReplica) h = absurd h
ways r (cli.Refused refusal.BadSize) h = absurd h
ways r (cli.Refused refusal.NoEntry) h = absurd h
ways r (cli.Refused (refusal.Several id)) h = absurd h
ways r (cli.Refused refusal.Unsettled) h = absurd h
ways r (cli.Refused (refusal.KeyTaken id)) h = absurd h
ways r (cli.Refused (refusal.Behind id)) h = absurd h
ways r (cli.Refused (refusal.Forged id)) h = absurd h
ways r (cli.File k f) h = absurd h
ways r (cli.Out f) h = absurd h
ways r cli.Memory h = inr (inr refl)
ways r (cli.Shelf p) h = absurd h
ways r (cli.Office t) h = absurd h

refused_by : (old new : Ends) (ps : List Part) (r : Result Content PieceRefusal) → HoldAll old.sources new.sources ps → join_of ps ≡ r → new.place ≡ old.place
    → (f : CliFault) → Ways r f → IsMergeFault old new f
refused_by old new ps r held is same f (inl (id, e, h)) = subst (λ k. IsMergeFault old new k) (sym e) (ps, held, is ∙ h, same)
refused_by old new ps r held is same f (inr (inl (id, e, h))) = subst (λ k. IsMergeFault old new k) (sym e) (ps, held, is ∙ h, same)
refused_by old new ps r held is same f (inr (inr e)) = subst (λ k. IsMergeFault old new k) (sym e) (none_failed old.sources new.sources ps held, same)

pub refused_as : (old new : Ends) (ps : List Part) (r : Result Content PieceRefusal) → HoldAll old.sources new.sources ps → join_of ps ≡ r → new.place ≡ old.place
    → (f : CliFault) → IsUnjoined r f → IsMergeFault old new f
refused_as old new ps r held is same f h = refused_by old new ps r held is same f (ways r f h)

-- a refusal of the registers is also that of the registers and the pieces
stays_by : (r : Result Content PieceRefusal) (qs : List Piece) (f : CliFault) → Ways r f → IsUnjoined (with_pieces r qs) f
stays_by r qs f (inl (id, e, h)) = subst (λ k. IsUnjoined (with_pieces r qs) k) (sym e) (ap (λ z. with_pieces z qs) h ∙ stays (Clash id) qs)
stays_by r qs f (inr (inl (id, e, h))) = subst (λ k. IsUnjoined (with_pieces r qs) k) (sym e) (ap (λ z. with_pieces z qs) h ∙ stays (Basis id) qs)
stays_by r qs f (inr (inr e)) = subst (λ k. IsUnjoined (with_pieces r qs) k) (sym e) tt

pub refusal_stays : (r : Result Content PieceRefusal) (qs : List Piece) (f : CliFault) → IsUnjoined r f → IsUnjoined (with_pieces r qs) f
refusal_stays r qs f h = stays_by r qs f (ways r f h)

-- a fault of joining pieces is why the parts are not joined
pub unjoined_by : (r : Result Content PieceFault) (q : Result Content PieceRefusal) → ((id : Id) → r ≡ Err (piece.Basis id) → q ≡ Err (Basis id))
    → ((id : Id) → r ≡ Err (piece.Clash id) → q ≡ Err (Clash id)) → (f : PieceFault) → r ≡ Err f → IsUnjoined q (piece_fault f)
unjoined_by r q basis clash (piece.Basis id) is = basis id is
unjoined_by r q basis clash (piece.Clash id) is = clash id is
unjoined_by r q basis clash piece.Memory is = tt

pub unjoined_first : (old new : Ends) (xs : List Content) (qs : List Piece) → GiveParts old.sources new.sources xs qs → new.place ≡ old.place
    → (f : CliFault) → IsUnjoined (begun (all_joined joined (Ok nothing) xs)) f → IsMergeFault old new f
unjoined_first old new xs qs (ps, held, e, g) same f h =
    refused_as old new ps (with_pieces (begun (all_joined joined (Ok nothing) xs)) qs) held (of_parts ps xs qs e g) same f (refusal_stays (begun (all_joined joined (Ok nothing) xs)) qs f h)

pub unjoined_then : (old new : Ends) (xs : List Content) (qs : List Piece) (y : Content) → GiveParts old.sources new.sources xs qs → new.place ≡ old.place
    → begun (all_joined joined (Ok nothing) xs) ≡ Ok y → (f : CliFault) → IsUnjoined (with_pieces (Ok y) qs) f → IsMergeFault old new f
unjoined_then old new xs qs y (ps, held, e, g) same first f h =
    refused_as old new ps (with_pieces (Ok y) qs) held (of_parts ps xs qs e g ∙ ap (λ r. with_pieces r qs) first) same f h

-- the parts join to x if their registers join to y, and y and their pieces to x
pub joins_to : (ps : List Part) (xs : List Content) (qs : List Piece) (y x : Content) → xs ≡ registers ps → qs ≡ pieces ps
    → begun (all_joined joined (Ok nothing) xs) ≡ Ok y → with_pieces (Ok y) qs ≡ Ok x → JoinTo ps x
joins_to ps xs qs y x e g first then-all = of_parts ps xs qs e g ∙ ap (λ r. with_pieces r qs) first ∙ then-all

-- a fault of publishing the file of the join is a fault of the merge
pub unmerged : (old new : Ends) (ps : List Part) (x : Content) → HoldAll old.sources new.sources ps → JoinTo ps x
    → (f : CliFault) → IsUnpublished x new.read old.place new.place f → IsMergeFault old new f
unmerged old new ps x held join (cli.Refused r) h = absurd h
unmerged old new ps x held join (cli.File k f) h = absurd h
unmerged old new ps x held join (cli.Out f) h = (ps, held, (x, join, h))
unmerged old new ps x held join cli.Memory h = (none_failed old.sources new.sources ps held, h)
unmerged old new ps x held join (cli.Shelf p) h = absurd h
unmerged old new ps x held join (cli.Office t) h = absurd h

-- the file of the empty content has 14 bytes
empty_file : IsFileOf nothing (file (set.items nothing.ops) [])
empty_file = record { runs = []; are_runs = tt; all = refl; whole = refl }

abbrev fault_or : CliFault → Result (Unit {0}) CliFault → CliFault
fault_or d (Ok x) = d
fault_or d (Err f) = f

pub never_too_large : (old new : PlaceState) (f : CliFault) → IsUnpublished nothing None old new f → ◌≡◌ {A = Result (Unit {0}) CliFault} (Err f) (Err (cli.Out out.TooLarge)) → ⊥
never_too_large old new f h e = empty_fits (subst (λ k. IsUnpublished nothing None old new k) (ap (fault_or f) e) h).0

-- a fault of reading the files is a fault of the merge
pub unread : (old new : Ends) → new.place ≡ old.place → (f : CliFault) → AreUnread 1 old.sources new.sources f → IsMergeFault old new f
unread old new same (cli.Refused r) h = absurd h
unread old new same (cli.File k f) h = (stops_first k f old.sources new.sources h, same)
unread old new same (cli.Out f) h = absurd h
unread old new same cli.Memory h = (h, same)
unread old new same (cli.Shelf p) h = absurd h
unread old new same (cli.Office t) h = absurd h
