-- What is written of a text that is made row by row, and where its output stops.
use Rattle.std.specs.Prelude.{◌≡◌, ◌++◌, ◌⊎◌, ℕ, List, length}
use Rattle.byte_io.specs.Device.{SinkState}
use Rattle.byte_io.specs.Whole.{WritesAll, IsCutAt}
use Rattle.reg_op.specs.Rows.{Row}
use Rattle.reg_engine.specs.declared.fault.CliFault.{CliFault}
use Rattle.reg_engine.specs.declared.fault.CliFault.TheVariants as cli
use Rattle.reg_engine.specs.declared.fault.OutFault.TheVariants as out

-- so much of a text is made: its first bytes were written since the first state of the sink, so many, and the others wait
pub record IsSoFar (first : SinkState) (text : List ℕ) (now : SinkState) (waiting : List ℕ) (count : ℕ) : Type 0 where
  pub done : List ℕ
  pub writes : WritesAll done first now
  pub is : done ++ waiting ≡ text
  pub counted : length done ≡ count

-- exactly the first bytes of the text were written, and the sink did not fail
pub record WritesFirst (text : List ℕ) (before after : SinkState) : Type 0 where
  pub done : List ℕ
  pub rest : List ℕ
  pub is : done ++ rest ≡ text
  pub writes : WritesAll done before after

-- exactly the first bytes of the text were written: then the sink failed, or memory ran out
abbrev pub IsStopped : List ℕ → SinkState → SinkState → CliFault → Type 0
IsStopped text before after (cli.Refused r) = ⊥
IsStopped text before after (cli.File k f) = ⊥
IsStopped text before after (cli.Out out.NotOpened) = ⊥
IsStopped text before after (cli.Out out.NewExists) = ⊥
IsStopped text before after (cli.Out out.TooLarge) = ⊥
IsStopped text before after (cli.Out (out.WriteFailed n)) = IsCutAt n text before after
IsStopped text before after (cli.Out (out.ReadFailed n)) = ⊥
IsStopped text before after (cli.Out out.Changed) = ⊥
IsStopped text before after (cli.Out out.NotSynced) = ⊥
IsStopped text before after cli.Memory = WritesFirst text before after
IsStopped text before after (cli.Shelf p) = ⊥
IsStopped text before after (cli.Office t) = ⊥

-- the output stopped within the text with which the first of these rows begin it
pub record IsCutShort (Begins : List Row → List ℕ → Type 0) (rs : List Row) (before after : SinkState) (f : CliFault) : Type 0 where
  pub some : List Row
  pub later : List Row
  pub are_first : some ++ later ≡ rs
  pub text : List ℕ
  pub begins : Begins some text
  pub stops : IsStopped text before after f

-- the output of the whole text stopped; or it stopped before all rows were made
abbrev pub IsUnwritten : (List Row → List ℕ → Type 0) → (List ℕ → Type 0) → List Row → SinkState → SinkState → CliFault → Type 0
IsUnwritten Begins Is rs before after f = ((text : List ℕ) × Is text × IsStopped text before after f) ⊎ IsCutShort Begins rs before after f
