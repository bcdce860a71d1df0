-- What is written of a page, and where its output stops.
use Rattle.std.specs.Prelude.{◌≡◌, ◌++◌, ◌⊎◌, ℕ, List, length}
use Rattle.byte_io.specs.Device.{SinkState}
use Rattle.byte_io.specs.Whole.{WritesAll, IsCutAt}
use Rattle.reg_op.specs.Contents.{Content}
use Rattle.reg_engine.specs.Store.{Around}
use Rattle.reg_engine.specs.declared.fault.CliFault.{CliFault}
use Rattle.reg_engine.specs.declared.fault.CliFault.TheVariants as cli
use Rattle.reg_engine.specs.declared.fault.OutFault.TheVariants as out

-- the text is being written: these are its first bytes that were written since the first state of the sink, so many; others wait; and
-- the rest comes after them
pub record IsUnderWay (first : SinkState) (text : List ℕ) (now : SinkState) (waiting rest : List ℕ) (count : ℕ) : Type 0 where
  pub done : List ℕ
  pub writes : WritesAll done first now
  pub is : done ++ (waiting ++ rest) ≡ text
  pub counted : length done ≡ count

-- exactly the first bytes of the text were written, and the sink did not fail
pub record WritesFirst (text : List ℕ) (before after : SinkState) : Type 0 where
  pub done : List ℕ
  pub rest : List ℕ
  pub is : done ++ rest ≡ text
  pub writes : WritesAll done before after

-- exactly the first bytes of the text were written: then the sink failed, or memory ran out
abbrev pub IsStopped : List ℕ → SinkState → SinkState → CliFault → Type 0
IsStopped text before after (cli.Refused r) = ⊥
IsStopped text before after (cli.File k f) = ⊥
IsStopped text before after (cli.Out out.NotOpened) = ⊥
IsStopped text before after (cli.Out out.NewExists) = ⊥
IsStopped text before after (cli.Out out.TooLarge) = ⊥
IsStopped text before after (cli.Out (out.WriteFailed n)) = IsCutAt n text before after
IsStopped text before after (cli.Out (out.ReadFailed n)) = ⊥
IsStopped text before after (cli.Out out.Changed) = ⊥
IsStopped text before after (cli.Out out.NotSynced) = ⊥
IsStopped text before after cli.Memory = WritesFirst text before after
IsStopped text before after (cli.Shelf p) = ⊥
IsStopped text before after (cli.Office t) = ⊥

-- memory ran out before the first byte; or the output of such a text stopped
abbrev pub IsUnwritten : (List ℕ → Type 0) → SinkState → SinkState → CliFault → Type 0
IsUnwritten Prints before after f = ((f ≡ cli.Memory) × (after ≡ before)) ⊎ ((text : List ℕ) × Prints text × IsStopped text before after f)

-- no register was read, and nothing was written; or a register was, and its text was not written, or not as a whole
abbrev pub IsUnpaged : Around → (Content → List ℕ → Type 0) → SinkState → SinkState → CliFault → Type 0
IsUnpaged a Prints before after f = (a.none f × (after ≡ before)) ⊎ ((x : Content) × a.came x × IsUnwritten (Prints x) before after f)
