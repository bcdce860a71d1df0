-- A path, OUT, and any number of commands that replace its file. Nothing else writes OUT or OUT.new.
use Rattle.std.specs.Prelude.{ℕ, ◌==◌, Bool, true, false, List, [], ◌∷◌, Option, Some, None, take, bytes_eq, if◌then◌else◌}

-- the bytes of the file at OUT, if there is one
abbrev pub Content : Type 0
Content = Option (List ℕ)

abbrev pub is_same : Content → Content → Bool
is_same None None = true
is_same None (Some b) = false
is_same (Some a) None = false
is_same (Some a) (Some b) = bytes_eq a b

-- the file at OUT.new, and the command that made it
pub record NewFile : Type 0 where
  pub maker : ℕ
  pub bytes : List ℕ

-- how far a command has come, with the content that it read
pub data Stage : Type 0 where
  Begins : Stage
  HasRead : (x : Content) → Stage
  -- it has made OUT.new, and writes it
  Writes : (x : Content) → Stage
  -- OUT.new is whole and synced
  IsSynced : (x : Content) → Stage
  -- it has read OUT again, and found the same content
  FoundSame : (x : Content) → Stage
  -- in the other order: it has made OUT.new before it reads OUT; and then it has read OUT, which nobody else replaces in between
  HasLocked : Stage
  Keeps : (x : Content) → Stage
  -- it still has to remove OUT.new, since OUT has changed, or a step failed
  Withdraws : Stage
  -- it has replaced OUT, and now prints its ids
  Replaced : (x : Content) → Stage
  HasPrinted : (x : Content) → Stage
  -- it ended with a fault, or was stopped
  Ended : Stage

pub record World : Type 0 where
  pub stands : Content
  pub beside : Option NewFile
  -- the stage of each command, by number
  pub stage : ℕ → Stage

-- a command takes its next step; makes OUT.new before it reads OUT; writes the first bytes of OUT.new; fails at its next
-- step; is stopped, and takes no further step; or somebody (the next command, or a person) removes the file that a
-- stopped command left
pub data Event : Type 0 where
  Goes : (k : ℕ) → Event
  Locks : (k : ℕ) → Event
  Fills : (k : ℕ) (bytes : ℕ) → Event
  Fails : (k : ℕ) → Event
  Stops : (k : ℕ) → Event
  Clears : Event

-- no command has begun
abbrev pub start : Content → World
start x = record { stands = x; beside = None; stage = λ k. Begins }

abbrev pub at_stage : (ℕ → Stage) → ℕ → Stage → ℕ → Stage
at_stage stages k s j = if j == k then s else stages j

-- a command comes to a stage, and no file changes
abbrev pub comes_to : World → ℕ → Stage → World
comes_to w k s = record { stands = w.stands; beside = w.beside; stage = at_stage w.stage k s }

-- OUT.new is made, unless it exists
abbrev pub makes : World → ℕ → Stage → Option NewFile → World
makes w k s None = record { stands = w.stands; beside = Some (record { maker = k; bytes = [] }); stage = at_stage w.stage k s }
makes w k s (Some n) = comes_to w k Ended

-- a command writes to the file that it made, whatever its name is now
abbrev pub filled : ℕ → List ℕ → Option NewFile → Option NewFile
filled k bytes None = None
filled k bytes (Some n) = Some (if n.maker == k then record { maker = k; bytes = bytes } else n)

-- OUT.new is renamed to OUT, whoever made it
abbrev pub puts : World → ℕ → Content → Option NewFile → World
puts w k x None = comes_to w k Withdraws
puts w k x (Some n) = record { stands = Some n.bytes; beside = None; stage = at_stage w.stage k (Replaced x) }

-- the next step. `change k x` are the bytes that command k makes of x
abbrev pub goes : (ℕ → Content → List ℕ) → World → ℕ → Stage → World
goes change w k Begins = comes_to w k (HasRead w.stands)
goes change w k (HasRead x) = makes w k (Writes x) w.beside
goes change w k (Writes x) = record { stands = w.stands; beside = filled k (change k x) w.beside; stage = at_stage w.stage k (IsSynced x) }
goes change w k (IsSynced x) = comes_to w k (if is_same w.stands x then FoundSame x else Withdraws)
goes change w k HasLocked = comes_to w k (Keeps w.stands)
goes change w k (Keeps x) = record { stands = w.stands; beside = filled k (change k x) w.beside; stage = at_stage w.stage k (FoundSame x) }
goes change w k (FoundSame x) = puts w k x w.beside
goes change w k Withdraws = record { stands = w.stands; beside = None; stage = at_stage w.stage k Ended }
goes change w k (Replaced x) = comes_to w k (HasPrinted x)
goes change w k (HasPrinted x) = w
goes change w k Ended = w

abbrev pub fills : (ℕ → Content → List ℕ) → World → ℕ → ℕ → Stage → World
fills change w k n (Writes x) = record { stands = w.stands; beside = filled k (take n (change k x)) w.beside; stage = w.stage }
fills change w k n (Keeps x) = record { stands = w.stands; beside = filled k (take n (change k x)) w.beside; stage = w.stage }
fills change w k n s = w

abbrev pub locks : World → ℕ → Stage → World
locks w k Begins = makes w k HasLocked w.beside
locks w k s = w

-- after a failed step a command removes OUT.new, if it has made it
abbrev pub failed : Stage → Stage
failed (Writes x) = Withdraws
failed (IsSynced x) = Withdraws
failed HasLocked = Withdraws
failed (Keeps x) = Withdraws
failed (FoundSame x) = Withdraws
failed (Replaced x) = Replaced x
failed (HasPrinted x) = HasPrinted x
failed s = Ended

-- the files of a stopped command stay as they are
abbrev pub stopped : Stage → Stage
stopped (Replaced x) = Replaced x
stopped (HasPrinted x) = HasPrinted x
stopped s = Ended

abbrev pub is_ended : Stage → Bool
is_ended Ended = true
is_ended s = false

abbrev pub cleared : (ℕ → Stage) → Option NewFile → Option NewFile
cleared stages None = None
cleared stages (Some n) = if is_ended (stages n.maker) then None else Some n

abbrev pub happens : (ℕ → Content → List ℕ) → World → Event → World
happens change w (Goes k) = goes change w k (w.stage k)
happens change w (Locks k) = locks w k (w.stage k)
happens change w (Fills k n) = fills change w k n (w.stage k)
happens change w (Fails k) = comes_to w k (failed (w.stage k))
happens change w (Stops k) = comes_to w k (stopped (w.stage k))
happens change w Clears = record { stands = w.stands; beside = cleared w.stage w.beside; stage = w.stage }

-- the world after these events, which come in any order
abbrev pub after : (ℕ → Content → List ℕ) → List Event → World → World
after change [] w = w
after change (e ∷ es) w = after change es (happens change w e)
