-- Any number of commands of any offices, by number, whose steps come in any order. Each has an office file, and locks it.
use Rattle.std.specs.Prelude.{ℕ, ◌==◌, Bool, true, false, List, [], ◌∷◌, Option, Some, None, slice_get, if◌then◌else◌}
use Rattle.std.specs.Ordering.{is_eq}
use Rattle.reg_op.specs.Operations.{Op}
use Rattle.reg_state.specs.Runs.{replica_cmp}
use Rattle.reg_journal.specs.Journals.{Copy, World, empty, at_office}
use Rattle.reg_journal.specs.Journals as worlds
use Rattle.reg_writers.specs.Works.{Command, Work, work}

-- how far a command has come
pub data Stage : Type 0 where
  Begins : Stage
  -- it has the lock of its office's file; it has read that file; and then a register
  HasLock : Stage
  HasFile : (f : Copy) → Stage
  HasRead : (f c : Copy) → Stage
  -- it has replaced the office file, and given back its lock; and then it has replaced a register
  HasNoted : (v : Work) → Stage
  HasReplaced : (v : Work) → Stage
  HasPrinted : (os : List Op) → Stage
  -- it ended, or was stopped, and had put these operations into the office file by then
  Ended : (os : List Op) → Stage

pub record Desk : Type 0 where
  -- the office file of each office, and every register that ever was in a file: a new one is in a file beside its path before
  -- the office file is replaced
  pub world : World
  -- the command that has the lock of each office's file
  pub lock : List ℕ → Option ℕ
  -- the register at each path
  pub stands : ℕ → Copy
  pub stage : ℕ → Stage

-- no office made anything, and no command has begun
abbrev pub start : Desk
start = record { world = worlds.start; lock = λ i. None; stands = λ p. empty; stage = λ k. Begins }

-- a step of a command; or somebody puts a register at a path that was in a file at any time, or an office takes another
-- register, or somebody joins two, as in the worlds
pub data Step : Type 0 where
  -- it takes the lock, unless somebody has it
  Locks : (k : ℕ) → Step
  -- it reads the office file
  Opens : (k : ℕ) → Step
  -- it reads the register at a path
  Reads : (k p : ℕ) → Step
  -- it makes its operations, and replaces the office file; or it is refused
  Notes : (k : ℕ) → Step
  -- it replaces what stands at a path
  Replaces : (k p : ℕ) → Step
  Prints : (k : ℕ) → Step
  -- its next step fails, or it is stopped
  Stops : (k : ℕ) → Step
  Puts : (p place : ℕ) → Step
  Takes : (office : List ℕ) (place other : ℕ) → Step
  Joins : (place other : ℕ) → Step

abbrev pub at_stage : (ℕ → Stage) → ℕ → Stage → ℕ → Stage
at_stage stages k s j = if j == k then s else stages j

abbrev pub at_lock : (List ℕ → Option ℕ) → List ℕ → Option ℕ → List ℕ → Option ℕ
at_lock locks i holder j = if is_eq (replica_cmp j i) then holder else locks j

abbrev pub at_path : (ℕ → Copy) → ℕ → Copy → ℕ → Copy
at_path stands p c q = if q == p then c else stands q

-- the command has the lock
abbrev pub is_locking : Stage → Bool
is_locking HasLock = true
is_locking (HasFile f) = true
is_locking (HasRead f c) = true
is_locking s = false

-- what the command has put into the office file: the ids that it prints are those of these operations
abbrev pub given : Stage → List Op
given (HasNoted v) = v.ops
given (HasReplaced v) = v.ops
given (HasPrinted os) = os
given (Ended os) = os
given s = []

-- a command comes to a stage, and no file changes
abbrev pub comes_to : Desk → ℕ → Stage → Desk
comes_to d k s = record { world = d.world; lock = d.lock; stands = d.stands; stage = at_stage d.stage k s }

-- a command of office i takes the lock, or gives it back
abbrev pub locking : Desk → List ℕ → Option ℕ → ℕ → Stage → Desk
locking d i holder k s = record { world = d.world; lock = at_lock d.lock i holder; stands = d.stands; stage = at_stage d.stage k s }

abbrev pub locks : Desk → List ℕ → ℕ → Stage → Option ℕ → Desk
locks d i k Begins None = locking d i (Some k) k HasLock
locks d i k Begins (Some j) = d
locks d i k s holder = d

abbrev pub opens : Desk → ℕ → Copy → Stage → Desk
opens d k f HasLock = comes_to d k (HasFile f)
opens d k f s = d

abbrev pub reads : Desk → ℕ → Copy → Stage → Desk
reads d k c (HasFile f) = comes_to d k (HasRead f c)
reads d k c s = d

-- the office file is replaced, when the new register is in a file beside its path
abbrev pub noted : Desk → List ℕ → ℕ → Option Work → Desk
noted d i k (Some v) = record {
  world = record { files = at_office d.world.files i v.file; copies = v.register ∷ d.world.copies };
  lock = at_lock d.lock i None;
  stands = d.stands;
  stage = at_stage d.stage k (HasNoted v);
}
noted d i k None = locking d i None k (Ended [])

abbrev pub notes : Desk → Command → ℕ → Stage → Desk
notes d a k (HasRead f c) = noted d a.office k (work a f c)
notes d a k s = d

abbrev pub replaces : Desk → ℕ → ℕ → Stage → Desk
replaces d k p (HasNoted v) = record { world = d.world; lock = d.lock; stands = at_path d.stands p v.register; stage = at_stage d.stage k (HasReplaced v) }
replaces d k p s = d

abbrev pub prints : Desk → ℕ → Stage → Desk
prints d k (HasReplaced v) = comes_to d k (HasPrinted v.ops)
prints d k s = d

-- what it has written stays
abbrev pub stops : Desk → List ℕ → ℕ → Stage → Desk
stops d i k s = if is_locking s then locking d i None k (Ended []) else comes_to d k (Ended (given s))

abbrev pub puts : Desk → ℕ → Option Copy → Desk
puts d p (Some c) = record { world = d.world; lock = d.lock; stands = at_path d.stands p c; stage = d.stage }
puts d p None = d

abbrev pub in_world : Desk → World → Desk
in_world d w = record { world = w; lock = d.lock; stands = d.stands; stage = d.stage }

-- the desk after a step. One that cannot come there changes nothing
abbrev pub happens : (ℕ → Command) → Desk → Step → Desk
happens commands d (Locks k) = locks d (commands k).office k (d.stage k) (d.lock (commands k).office)
happens commands d (Opens k) = opens d k (d.world.files (commands k).office) (d.stage k)
happens commands d (Reads k p) = reads d k (d.stands p) (d.stage k)
happens commands d (Notes k) = notes d (commands k) k (d.stage k)
happens commands d (Replaces k p) = replaces d k p (d.stage k)
happens commands d (Prints k) = prints d k (d.stage k)
happens commands d (Stops k) = stops d (commands k).office k (d.stage k)
happens commands d (Puts p place) = puts d p (slice_get d.world.copies place)
happens commands d (Takes i place other) = in_world d (worlds.happens d.world (worlds.Takes i place other))
happens commands d (Joins place other) = in_world d (worlds.happens d.world (worlds.Joins place other))

abbrev pub after : (ℕ → Command) → List Step → Desk → Desk
after commands [] d = d
after commands (s ∷ ss) d = after commands ss (happens commands d s)
