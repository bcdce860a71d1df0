-- What the command makes of a register and of its list, and why it makes nothing.
use Rattle.std.specs.Prelude.{◌≡◌, ◌⊎◌, ◌++◌, ◌-◌, [], ◌∷◌, ℕ, ◌<◌, ◌≤◌, Bool, false, List, length, Option, Some, None, slice_get, unwrap_or}
use Rattle.byte_io.specs.Device.{SourceState}
use Rattle.reg_engine.specs.WholeFile.{Gives, IsFileFault}
use Rattle.reg_op.specs.Ids.{Id}
use Rattle.reg_op.specs.Contents.{Content}
use Rattle.reg_engine.specs.declared.fault.CliFault.{CliFault}
use Rattle.reg_engine.specs.declared.fault.CliFault.TheVariants as cli
use Rattle.reg_engine.specs.declared.fault.Refusal.{Refusal}
use Rattle.reg_engine.specs.declared.fault.Refusal.TheVariants as refusal
use Rattle.reg_engine.specs.Fault.{office_fault}
use Rattle.reg_engine.specs.Outputs.{id_lines}
use Rattle.reg_office.specs.declared.fault.OfficeFault.TheVariants as fault
use Rattle.reg_supersede.specs.declared.fault.LineWord.{LineWord}
use Rattle.reg_supersede.specs.declared.fault.LineWord.TheVariants.{Old, By}
use Rattle.reg_supersede.specs.declared.fault.LineFault.{LineFault}
use Rattle.reg_supersede.specs.declared.fault.LineFault.TheVariants as line
use Rattle.reg_supersede.specs.declared.fault.RefusedLine.{RefusedLine}
use Rattle.reg_supersede.specs.Lines.{lines, words}
use Rattle.reg_supersede.specs.Lists.{Task, rows_if, DoesAll, RefusesAll}

-- the task that all lines share, given the register before the first line
abbrev pub task : List ℕ → List ℕ → Bool → Bool → Content → Task
task replica note keys keep_going x = record { replica = replica; note = note; keys = keys; rows = rows_if keys x; keep_going = keep_going }

-- the fault of a command that a line refuses
abbrev pub cause_of : LineFault → CliFault
cause_of (line.BadId w) = cli.Refused refusal.BadId
cause_of (line.NoEntry w) = cli.Refused refusal.NoEntry
cause_of (line.Several w id) = cli.Refused (refusal.Several id)
cause_of (line.Office f) = office_fault f
cause_of line.Memory = cli.Memory

-- the note is short, and the lines of a list of these bytes were done, one after the other; these are left out, and those are the
-- lines of the new ids
abbrev pub DoesList : Task → List ℕ → Content → Content → List ℕ → List RefusedLine → Type 0
DoesList t bytes x y text left = (length t.note ≤ 200) × ((ids : List Id) × DoesAll t 1 x (lines bytes) y ids left × (text ≡ id_lines ids))

-- the list was read, it has these bytes, and its lines were done
abbrev pub Supersedes : Task → SourceState → SourceState → List ℕ → Content → Content → List ℕ → List RefusedLine → Type 0
Supersedes t old new bytes x y text left = Gives old new bytes × DoesList t bytes x y text left

-- the note is too long, whatever the lines are, and no line is refused; or a line refuses the command, and is appended to the refused lines
abbrev pub RefusesList : Task → Content → List (List ℕ) → List RefusedLine → List RefusedLine → Refusal → Type 0
RefusesList t x lines before told r = ((200 < length t.note) × (told ≡ before) × (r ≡ refusal.Office fault.NoteTooLong))
    ⊎ ((length t.note ≤ 200) × ((f : RefusedLine) × RefusesAll t x lines f × (told ≡ before ++ f ∷ []) × (cause_of f.fault ≡ cli.Refused r)))

-- a list of these bytes is refused; or memory ran out
abbrev pub CannotDoList : Task → List ℕ → Content → List RefusedLine → List RefusedLine → CliFault → Type 0
CannotDoList t bytes x before told (cli.Refused r) = RefusesList t x (lines bytes) before told r
CannotDoList t bytes x before told cli.Memory = Unit {0}
CannotDoList t bytes x before told f = ⊥

-- the list was not read; or it has these bytes, and is refused; or memory ran out
abbrev pub CannotSupersede : Task → ℕ → SourceState → SourceState → List ℕ → Content → List RefusedLine → List RefusedLine → CliFault → Type 0
CannotSupersede t number old new bytes x before told (cli.Refused r) = Gives old new bytes × RefusesList t x (lines bytes) before told r
CannotSupersede t number old new bytes x before told (cli.File k f) = (k ≡ number) × IsFileFault f old new
CannotSupersede t number old new bytes x before told cli.Memory = Unit {0}
CannotSupersede t number old new bytes x before told f = ⊥

-- the line refuses the command with this fault: refused lines are not left out, it is the last of them, and the fault is its cause
abbrev pub Refuses : Bool → List RefusedLine → CliFault → RefusedLine → Type 0
Refuses keep_going refused f line = (keep_going ≡ false) × ((before : List RefusedLine) × (refused ≡ before ++ line ∷ [])) × (cause_of line.fault ≡ f)

-- ---- the word for which a line is refused

abbrev pub word_at : LineWord → List (List ℕ) → Option (List ℕ)
word_at w [] = None
word_at Old (first ∷ others) = Some first
word_at (By k) (first ∷ others) = slice_get others k

-- the words of the line with this number, from 1
abbrev pub line_words : ℕ → List ℕ → List (List ℕ)
line_words n bytes = words (unwrap_or (slice_get (lines bytes) (n - 1)) [])

-- if it is refused for one
abbrev pub fault_word : LineFault → Option LineWord
fault_word (line.BadId w) = Some w
fault_word (line.NoEntry w) = Some w
fault_word (line.Several w id) = Some w
fault_word (line.Office f) = None
fault_word line.Memory = None

abbrev pub word_of : List ℕ → ℕ → Option LineWord → Option (List ℕ)
word_of bytes n None = None
word_of bytes n (Some w) = word_at w (line_words n bytes)
