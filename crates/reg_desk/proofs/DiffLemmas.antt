-- The result or the fault of a comparison, by its steps.
use Rattle.std.proofs.Common.{◌≡◌, ◌∷◌, [], Bool, true, false, List, ℕ, Ok, refl, ap, sym, subst, ◌∙◌}
use Rattle.byte_io.specs.Device.{SourceState, SinkState}
use Rattle.reg_file.specs.declared.parts.Part.{Part}
use Rattle.reg_op.specs.Joining.{all_joined}
use Rattle.reg_op.specs.Contents.{Content, nothing, joined}
use Rattle.reg_op.specs.Pieces.{Piece}
use Rattle.reg_query.specs.DiffLines.{IsDiff}
use Rattle.reg_engine.specs.declared.fault.CliFault.{CliFault}
use Rattle.reg_engine.specs.declared.fault.CliFault.TheVariants as cli
use Rattle.reg_engine.specs.Inputs.{AreUnread, GivePartsAfter, registers, pieces}
use Rattle.reg_engine.proofs.InputLemmas.{none_failed}
use Rattle.reg_commands.specs.Merge.{begun, with_pieces, join_of, IsUnjoined}
use Rattle.reg_commands.proofs.MergeLemmas.{of_parts}
use Rattle.reg_desk.specs.Diff.{joined_parts, joined_ones, IsUntold, Compares, CannotCompare}

ones_of : (joins : Bool) (x : Content) (ps : List Part) → joined_ones joins (x ∷ registers ps) ≡ registers (joined_parts joins x ps)
ones_of true x ps = refl
ones_of false x ps = refl

pieces_of : (joins : Bool) (x : Content) (ps : List Part) → pieces ps ≡ pieces (joined_parts joins x ps)
pieces_of true x ps = refl
pieces_of false x ps = refl

module _ (joins : Bool) (next : ℕ) (x : Content) (old new : List SourceState) where
  -- a file was not read
  pub unread : (before after : SinkState) → after ≡ before → (f : CliFault) → AreUnread next old new f → CannotCompare joins next x old new before after f
  unread before after same (cli.Refused r) h = absurd h
  unread before after same (cli.File k f) h = (h, same)
  unread before after same (cli.Out f) h = absurd h
  unread before after same cli.Memory h = (h, same)
  unread before after same (cli.Shelf p) h = absurd h
  unread before after same (cli.Office t) h = absurd h

  module _ (xs : List Content) (qs : List Piece) (given : GivePartsAfter (x ∷ []) [] old new xs qs) where
    is_join : join_of (joined_parts joins x given.0) ≡ with_pieces (begun (all_joined joined (Ok nothing) (joined_ones joins xs))) qs
    is_join = of_parts (joined_parts joins x given.0) (joined_ones joins xs) qs (ap (joined_ones joins) given.2 ∙ ones_of joins x given.0) (given.3 ∙ pieces_of joins x given.0)

    -- the registers and pieces do not join
    pub unjoined : (before after : SinkState) → after ≡ before → (f : CliFault)
        → IsUnjoined (with_pieces (begun (all_joined joined (Ok nothing) (joined_ones joins xs))) qs) f → CannotCompare joins next x old new before after f
    unjoined before after same (cli.Refused r) h = ((given.0, given.1, subst (λ j. IsUnjoined j (cli.Refused r)) (sym is_join) h), same)
    unjoined before after same (cli.File k f) h = absurd h
    unjoined before after same (cli.Out f) h = absurd h
    unjoined before after same cli.Memory h = (none_failed old new given.0 given.1, same)
    unjoined before after same (cli.Shelf p) h = absurd h
    unjoined before after same (cli.Office t) h = absurd h

    -- the registers and pieces join to a content
    pub compares : (y : Content) → with_pieces (begun (all_joined joined (Ok nothing) (joined_ones joins xs))) qs ≡ Ok y → Compares joins old new x y
    compares y is = (given.0, given.1, is_join ∙ is)

  -- not all of the text was written
  pub untold : (y : Content) (before after : SinkState) → Compares joins old new x y → (f : CliFault) → IsUntold (IsDiff x y) before after f → CannotCompare joins next x old new before after f
  untold y before after both (cli.Refused r) h = absurd h
  untold y before after both (cli.File k f) h = absurd h
  untold y before after both (cli.Out f) h = (y, both, h)
  untold y before after both cli.Memory h = (none_failed old new both.0 both.1, h)
  untold y before after both (cli.Shelf p) h = absurd h
  untold y before after both (cli.Office t) h = absurd h
