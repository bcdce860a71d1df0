-- Comparisons of registers: their input and output.
use Rattle.std.specs.Prelude.{◌≡◌, ◌⊎◌, ◌↔◌, ◌∷◌, [], Bool, true, false, IsTrue, List, ℕ}
use Rattle.byte_io.specs.Device.{SourceState, SinkState}
use Rattle.byte_io.specs.Whole.{IsCutAt}
use Rattle.reg_op.specs.Contents.{Content}
use Rattle.reg_file.specs.declared.parts.Part.{Part}
use Rattle.reg_file.specs.declared.parts.Part.TheVariants as part
use Rattle.reg_report.specs.Reports.{Reports}
use Rattle.reg_query.specs.DiffLines.{IsDiff, Differ}
use Rattle.reg_engine.specs.declared.fault.OutFault.{OutFault}
use Rattle.reg_engine.specs.declared.fault.OutFault.TheVariants as out
use Rattle.reg_engine.specs.declared.fault.CliFault.{CliFault}
use Rattle.reg_engine.specs.declared.fault.CliFault.TheVariants as cli
use Rattle.reg_engine.specs.Inputs.{HoldAll, StopsFrom, NoneFails}
use Rattle.reg_commands.specs.Merge.{JoinTo, join_of, IsUnjoined}
use Rattle.reg_engine.specs.Store.{Around}
use Rattle.reg_desk.specs.declared.comparison.Comparison.{Comparison}

-- the joined contents: the older register and the parts, or only the parts
abbrev pub joined_parts : Bool → Content → List Part → List Part
joined_parts true x ps = part.Register x ∷ ps
joined_parts false x ps = ps

-- of a list of registers, all, or all but the first
abbrev pub joined_ones : Bool → List Content → List Content
joined_ones true xs = xs
joined_ones false [] = []
joined_ones false (x ∷ xs) = xs

-- each source gave the file of a part, and the join is the newer content
abbrev pub Compares : Bool → List SourceState → List SourceState → Content → Content → Type 0
Compares joins old new x y = (ps : List Part) × HoldAll old new ps × JoinTo (joined_parts joins x ps) y

-- the older register came in; the changes from it to the newer content went out, and the answer is both and whether there are any
abbrev pub IsCompared : Around → Bool → List SourceState → List SourceState → SinkState → SinkState → Comparison → Type 0
IsCompared a joins old new before after c = a.came c.before × Compares joins old new c.before c.after × Reports (IsDiff c.before c.after) before after × (IsTrue c.differ ↔ Differ c.before c.after)

-- exactly the first n bytes of a text with this property were written
abbrev pub IsCutOut : (List ℕ → Type 0) → SinkState → SinkState → OutFault → Type 0
IsCutOut Is before after (out.WriteFailed n) = (text : List ℕ) × Is text × IsCutAt n text before after
IsCutOut Is before after f = ⊥

-- why such a text was not completely written
abbrev pub IsUntold : (List ℕ → Type 0) → SinkState → SinkState → CliFault → Type 0
IsUntold Is before after (cli.Refused r) = ⊥
IsUntold Is before after (cli.File k f) = ⊥
IsUntold Is before after (cli.Out f) = IsCutOut Is before after f
IsUntold Is before after cli.Memory = after ≡ before
IsUntold Is before after (cli.Shelf p) = ⊥
IsUntold Is before after (cli.Office t) = ⊥

-- why nothing was compared with the older content, or why not all differences were written
abbrev pub CannotCompare : Bool → ℕ → Content → List SourceState → List SourceState → SinkState → SinkState → CliFault → Type 0
CannotCompare joins next x old new before after (cli.Refused r) = ((ps : List Part) × HoldAll old new ps × IsUnjoined (join_of (joined_parts joins x ps)) (cli.Refused r)) × (after ≡ before)
CannotCompare joins next x old new before after (cli.File k f) = StopsFrom next k f old new × (after ≡ before)
CannotCompare joins next x old new before after (cli.Out f) = (y : Content) × Compares joins old new x y × IsCutOut (IsDiff x y) before after f
CannotCompare joins next x old new before after cli.Memory = NoneFails old new × (after ≡ before)
CannotCompare joins next x old new before after (cli.Shelf p) = ⊥
CannotCompare joins next x old new before after (cli.Office t) = ⊥

-- the older register did not come in, and nothing else was read; or it did
abbrev pub IsUncompared : Around → Bool → ℕ → List SourceState → List SourceState → SinkState → SinkState → CliFault → Type 0
IsUncompared a joins next old new before after f = (a.none f × (new ≡ old) × (after ≡ before))
    ⊎ ((x : Content) × a.came x × CannotCompare joins next x old new before after f)
