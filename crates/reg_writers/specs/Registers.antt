-- Commands on the register of a file, and the ids that a file has seen.
use Rattle.std.specs.Prelude.{◌≡◌, ◌⊎◌, ℕ, true, false, List, [], ◌∷◌, ◌++◌, Some, None, Ok, Contains}
use Rattle.reg_writers.specs.Path.{Content as File, Stage, Replaced, HasPrinted}
use Rattle.reg_op.specs.Set as set
use Rattle.reg_op.specs.Ids.{Id}
use Rattle.reg_op.specs.declared.operation.OpBody.{OpBody as Body}
use Rattle.reg_op.specs.Contents.{Content, joined}
use Rattle.reg_op.specs.Pieces.{Piece, joined_piece}
use Rattle.reg_file.specs.Files.{Holds, ReadsAs}
use Rattle.reg_office.specs.Commands.{Does}

-- a step of a command: an office makes operations, with a note; or a register is joined; or a piece is joined
pub data Step : Type 0 where
  Makes : (replica note : List ℕ) (effects : List Body) → Step
  Joins : (other : Content) → Step
  JoinsPiece : (piece : Piece) → Step

-- what a command does with a register: its steps, one after the other. What it leaves out is not among them
abbrev pub Command : Type 0
Command = List Step

-- the other content has seen these ids, which the first one has not
abbrev pub AreNew : Content → Content → List Id → Type 0
AreNew x other ids = (i : Id) → Contains ids i → (set.contains x.seen i ≡ false) × (set.contains other.seen i ≡ true)

-- the step makes the second content of the first one, and gives these ids. Those of a joined register are its own: a command that
-- is run again prints ids of its office file
abbrev pub Steps : Step → Content → Content → List Id → Type 0
Steps (Makes replica note effects) x y given = Does x replica note effects y given
Steps (Joins other) x y given = (joined x other ≡ Ok y) × AreNew x other given
Steps (JoinsPiece piece) x y given = (joined_piece x piece ≡ Ok y) × (given ≡ [])

-- so does the command: each step is on the content that the steps before it made, and the ids are those that the steps give
abbrev pub Turns : Command → Content → Content → List Id → Type 0
Turns [] x y given = (y ≡ x) × (given ≡ [])
Turns (step ∷ steps) x y given = (z : Content) × (now : List Id) × (later : List Id) × Steps step x z now × Turns steps z y later × (given ≡ now ++ later)

-- some command does so
abbrev pub IsReached : Content → Content → List Id → Type 0
IsReached x y given = (c : Command) × Turns c x y given

-- there is the file of a register, and the new bytes are the file of the one that the command makes of it
pub record IsTurned (c : Command) (file : File) (new : List ℕ) (given : List Id) : Type 0 where
  pub bytes : List ℕ
  pub was : Content
  pub is : Content
  pub file_is : file ≡ Some bytes
  pub reads : ReadsAs bytes was
  pub turns : Turns c was is given
  pub holds : Holds new is

-- some steps do that, which may depend on the register; or nothing is made, and the file stays as it is; or there is no file
abbrev pub Changes : File → List ℕ → Type 0
Changes file new = ((c : Command) × (given : List Id) × IsTurned c file new given) ⊎ ((file ≡ Some new) ⊎ (file ≡ None))

-- so each command does with each file
abbrev pub AreChanges : (ℕ → File → List ℕ) → Type 0
AreChanges change = (k : ℕ) (file : File) → Changes file (change k file)

-- the file has a register that has seen the id
abbrev pub HasSeen : File → Id → Type 0
HasSeen None i = ⊥
HasSeen (Some bytes) i = (x : Content) × ReadsAs bytes x × (set.contains x.seen i ≡ true)

-- steps that give the id make the new file of this one
abbrev pub Gives : File → List ℕ → Id → Type 0
Gives file new i = (c : Command) × (given : List Id) × IsTurned c file new given × Contains given i

-- a command has replaced the file, and so given an id, which it may have printed
abbrev pub HasGiven : (File → List ℕ) → Stage → Id → Type 0
HasGiven change (Replaced file) i = Gives file (change file) i
HasGiven change (HasPrinted file) i = Gives file (change file) i
HasGiven change s i = ⊥
