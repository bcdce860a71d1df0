-- What a process that replaces OUT does, call by call, and any number of such processes.
use Rattle.std.specs.Prelude.{◌≡◌, ◌≢◌, ℕ, true, List, [], ◌∷◌, ◌++◌, ◌+◌, Option, Some, None, take, drop}
use Rattle.byte_system.specs.Disk.{Content, content, Disk, Event, Call, Makes, Locks, Looks, Writes, Syncs, Reads, Compares, Renames, Unlinks, Ends, step, after, numbered, Honest, SyncsFolder}
use Rattle.byte_system.specs.System.{own}

-- how far the new file has come, once there are bytes in it
pub data Progress : Type 0 where
  IsWhole : Progress
  IsSynced : Progress
  -- since it was made, OUT was found to be the file that was read
  FoundSame : Progress
  -- it has the first n of the bytes
  IsPart : (n : ℕ) → Progress

-- how far a process has come. i is a file, x is the content of OUT that it has read
pub data Stage : Type 0 where
  Begins : Stage
  -- it made the file, which another process may remove until it is locked
  HasMade : (i : ℕ) → Stage
  HasLocked : (i : ℕ) → Stage
  -- it has the lock, and then found that the new name leads to this file: from now on the name is its own
  Owns : (i : ℕ) → Stage
  -- what it makes of x, or a part of that, is in the file
  Fills : (x : Content) (i : ℕ) (p : Progress) → Stage
  -- it has the lock of a file that it did not make, and then found that the new name leads to it
  HasLeft : (i : ℕ) → Stage
  Sweeps : (i : ℕ) → Stage
  Replaced : (x : Content) → Stage
  -- its file is in the place of OUT, which it had not read
  ReplacedUnread : Stage
  Ended : Stage

-- a step of a process, from one stage to the next. Each is one call
pub data Move : Type 0 where
  MakesNew : (i : ℕ) → Move
  LocksOwn : (i : ℕ) → Move
  FindsOwn : (i : ℕ) → Move
  GivesUp : (i : ℕ) → Move
  WritesAll : (x : Content) (i : ℕ) → Move
  WritesPart : (x : Content) (i n : ℕ) → Move
  -- the m bytes after the first n, or all bytes after them
  WritesMore : (x : Content) (i n m : ℕ) → Move
  WritesRest : (x : Content) (i n : ℕ) → Move
  SyncsNew : (x : Content) (i : ℕ) → Move
  FindsSame : (x : Content) (i : ℕ) → Move
  Puts : (x : Content) (i : ℕ) → Move
  -- the file of one that has not read OUT
  PutsUnread : (i : ℕ) → Move
  Withdraws : (x : Content) (i : ℕ) (p : Progress) → Move
  LocksLeft : (i : ℕ) → Move
  FindsLeft : (i : ℕ) → Move
  SweepsLeft : (i : ℕ) → Move
  -- any call on other files, or one that changes no file, such as a read of OUT
  Strays : (s : Stage) (c : Call) → Move
  -- after such a call it begins anew
  Forgets : (s : Stage) (c : Call) → Move
  -- the process ends, or is killed
  Dies : (s : Stage) → Move

-- the two names, and what each process makes of the content that it read. It is None if OUT was not there, or was not read
pub record Job : Type 0 where
  pub out : List ℕ
  pub new : List ℕ
  pub change : ℕ → Content → List ℕ

abbrev pub from : Move → Stage
from (MakesNew i) = Begins
from (LocksOwn i) = HasMade i
from (FindsOwn i) = HasLocked i
from (GivesUp i) = Owns i
from (WritesAll x i) = Owns i
from (WritesPart x i n) = Owns i
from (WritesMore x i n m) = Fills x i (IsPart n)
from (WritesRest x i n) = Fills x i (IsPart n)
from (SyncsNew x i) = Fills x i IsWhole
from (FindsSame x i) = Fills x i IsSynced
from (Puts x i) = Fills x i FoundSame
from (PutsUnread i) = Fills None i IsSynced
from (Withdraws x i p) = Fills x i p
from (LocksLeft i) = Begins
from (FindsLeft i) = HasLeft i
from (SweepsLeft i) = Sweeps i
from (Strays s c) = s
from (Forgets s c) = s
from (Dies s) = s

-- a process that has replaced OUT stays one that has
abbrev pub dead : Stage → Stage
dead (Replaced x) = Replaced x
dead ReplacedUnread = ReplacedUnread
dead s = Ended

abbrev pub to : Move → Stage
to (MakesNew i) = HasMade i
to (LocksOwn i) = HasLocked i
to (FindsOwn i) = Owns i
to (GivesUp i) = Ended
to (WritesAll x i) = Fills x i IsWhole
to (WritesPart x i n) = Fills x i (IsPart n)
to (WritesMore x i n m) = Fills x i (IsPart (n + m))
to (WritesRest x i n) = Fills x i IsWhole
to (SyncsNew x i) = Fills x i IsSynced
to (FindsSame x i) = Fills x i FoundSame
to (Puts x i) = Replaced x
to (PutsUnread i) = ReplacedUnread
to (Withdraws x i p) = Ended
to (LocksLeft i) = HasLeft i
to (FindsLeft i) = Sweeps i
to (SweepsLeft i) = Begins
to (Strays s c) = s
to (Forgets s c) = Begins
to (Dies s) = dead s

-- OUT is read again, and is the same
abbrev pub finds_call : List ℕ → Content → Call
finds_call out None = Reads out None
finds_call out (Some read) = Compares out read true

-- the call of a move of process k
abbrev pub call_of : Job → ℕ → Move → Call
call_of j k (MakesNew i) = Makes j.new (Some i)
call_of j k (LocksOwn i) = Locks i true
call_of j k (FindsOwn i) = Looks j.new i true
call_of j k (GivesUp i) = Unlinks j.new
call_of j k (WritesAll x i) = Writes i (j.change k x)
call_of j k (WritesPart x i n) = Writes i (take n (j.change k x))
call_of j k (WritesMore x i n m) = Writes i (take m (drop n (j.change k x)))
call_of j k (WritesRest x i n) = Writes i (drop n (j.change k x))
call_of j k (SyncsNew x i) = Syncs i
call_of j k (FindsSame x i) = finds_call j.out x
call_of j k (Puts x i) = Renames j.new j.out
call_of j k (PutsUnread i) = Renames j.new j.out
call_of j k (Withdraws x i p) = Unlinks j.new
call_of j k (LocksLeft i) = Locks i true
call_of j k (FindsLeft i) = Looks j.new i true
call_of j k (SweepsLeft i) = Unlinks j.new
call_of j k (Strays s c) = c
call_of j k (Forgets s c) = c
call_of j k (Dies s) = Ends

-- the new file of a process that has come this far, or the one that it removes
abbrev pub file_of : Stage → Option ℕ
file_of (HasMade i) = Some i
file_of (HasLocked i) = Some i
file_of (Owns i) = Some i
file_of (Fills x i p) = Some i
file_of (HasLeft i) = Some i
file_of (Sweeps i) = Some i
file_of s = None

pub record IsSameFile (i : ℕ) (old new : Disk) : Type 0 where
  pub bytes : new.bytes i ≡ old.bytes i
  pub holder : new.holder i ≡ old.holder i
  pub maker : new.maker i ≡ old.maker i

-- a call of process k, which has come this far, leaves OUT and the new name, the files that others made or locked, their locks, and its own file
pub record IsElsewhere (j : Job) (k : ℕ) (s : Stage) (old new : Disk) : Type 0 where
  pub at_new : new.names j.new ≡ old.names j.new
  pub at_out : new.names j.out ≡ old.names j.out
  pub content : content new j.out ≡ content old j.out
  pub made : (i m : ℕ) → m ≢ k → old.maker i ≡ Some m → (new.maker i ≡ Some m) × (new.bytes i ≡ old.bytes i)
  pub held : (i m : ℕ) → m ≢ k → old.holder i ≡ Some m → (new.holder i ≡ Some m) × (new.bytes i ≡ old.bytes i)
  pub own : (i : ℕ) → file_of s ≡ Some i → IsSameFile i old new

abbrev pub IsFair : Job → Disk → ℕ → Move → Type 0
IsFair j d k (Strays s c) = IsElsewhere j k s d (step d k c)
IsFair j d k (Forgets s c) = IsElsewhere j k s d (step d k c)
IsFair j d k m = Unit {0}

pub record Deed : Type 0 where
  pub by : ℕ
  pub move : Move

-- the events of the deeds. The last deed comes first
abbrev pub events : Job → List Deed → List Event
events j [] = []
events j (e ∷ es) = record { by = e.by; call = call_of j e.by e.move } ∷ events j es

abbrev pub stages : List Deed → ℕ → Stage
stages [] = λ k. Begins
stages (e ∷ es) = numbered (stages es) e.by (to e.move)

-- each process makes moves in the order of its stages
abbrev pub Chains : List Deed → Type 0
Chains [] = Unit {0}
Chains (e ∷ es) = Chains es × (stages es e.by ≡ from e.move)

-- other calls leave alone what the protocol is about
abbrev pub AreFair : Job → Disk → List Deed → Type 0
AreFair j first [] = Unit {0}
AreFair j first (e ∷ es) = AreFair j first es × IsFair j (after first (events j es)) e.by e.move

pub record Follows (j : Job) (first : Disk) (es : List Deed) : Type 0 where
  pub chains : Chains es
  pub fair : AreFair j first es
  -- a system gives such answers
  pub honest : Honest first (events j es)

-- OUT and the new name are two names, and not of one file
pub record IsStart (j : Job) (first : Disk) : Type 0 where
  pub two : j.new ≢ j.out
  pub apart : (i : ℕ) → first.names j.new ≡ Some i → first.names j.out ≢ Some i

-- a process replaced exactly the content that it had read by what it makes of it
pub record IsReplacedBy (j : Job) (k : ℕ) (stage : Stage) (old new : Disk) : Type 0 where
  pub found : (i : ℕ) × (stage ≡ Fills (content old j.out) i FoundSame)
  pub made : content new j.out ≡ Some (j.change k (content old j.out))

-- a process that had not read OUT put its file in the place of OUT
pub record IsPutUnread (j : Job) (k : ℕ) (move : Move) (old new : Disk) : Type 0 where
  pub moved : (i : ℕ) × (move ≡ PutsUnread i)
  pub made : content new j.out ≡ Some (j.change k None)

abbrev pub IsRead : Move → Type 0
IsRead (PutsUnread i) = ⊥
IsRead m = Unit {0}

-- each process that put its file in the place of OUT had read OUT
abbrev pub AreRead : List Deed → Type 0
AreRead [] = Unit {0}
AreRead (e ∷ es) = AreRead es × IsRead e.move

-- the moves of one process, the last one first
abbrev pub end : List Move → Stage
end [] = Begins
end (m ∷ ms) = to m

abbrev pub IsPath : List Move → Type 0
IsPath [] = Unit {0}
IsPath (m ∷ ms) = IsPath ms × (end ms ≡ from m)

abbrev pub calls_of : Job → ℕ → List Move → List Call
calls_of j k [] = []
calls_of j k (m ∷ ms) = call_of j k m ∷ calls_of j k ms

-- the call changes no files
abbrev pub ChangesNone : Call → Type 0
ChangesNone c = (d : Disk) (k : ℕ) → step d k c ≡ d

abbrev pub IsIdle : Move → Type 0
IsIdle (Strays s c) = ChangesNone c
IsIdle (Forgets s c) = ChangesNone c
IsIdle m = Unit {0}

-- the calls that are no moves of the protocol change no files
abbrev pub AreIdle : List Move → Type 0
AreIdle [] = Unit {0}
AreIdle (m ∷ ms) = AreIdle ms × IsIdle m

-- how far one has come that replaced OUT, from which it read these bytes, or none if it did not read it
abbrev pub finished : Option (List ℕ) → Stage
finished None = ReplacedUnread
finished (Some read) = Replaced (Some read)

abbrev pub rest : List Move → List Move
rest [] = []
rest (m ∷ ms) = ms

abbrev pub deed : ℕ → List Move → List Deed → List Deed
deed k [] es = []
deed k (m ∷ ms) es = record { by = k; move = m } ∷ es

-- the deeds in a trace, if each process made these moves
abbrev pub deeds : List Event → (ℕ → List Move) → List Deed
deeds [] paths = []
deeds (e ∷ es) paths = deed e.by (paths e.by) (deeds es (numbered paths e.by (rest (paths e.by))))

-- the calls of each process in the trace are those of its path
pub record ArePaths (j : Job) (trace : List Event) (paths : ℕ → List Move) : Type 0 where
  pub each : (k : ℕ) → IsPath (paths k)
  pub calls : (k : ℕ) → own k trace ≡ calls_of j k (paths k)

-- at one moment process k put what it makes of x in the place of x
pub record WasPut (j : Job) (first : Disk) (k : ℕ) (x : Content) (es : List Deed) : Type 0 where
  pub later : List Deed
  pub earlier : List Deed
  pub file : ℕ
  pub split : es ≡ later ++ (record { by = k; move = Puts x file } ∷ earlier)
  pub found : content (after first (events j earlier)) j.out ≡ x
  pub made : content (after first (events j (record { by = k; move = Puts x file } ∷ earlier))) j.out ≡ Some (j.change k x)

-- one process, which makes OUT on a disk without files
abbrev pub sample_job : Job
sample_job = record { out = 1 ∷ []; new = 2 ∷ []; change = λ k x. 7 ∷ [] }

abbrev pub all_by : ℕ → List Move → List Deed
all_by k [] = []
all_by k (m ∷ ms) = record { by = k; move = m } ∷ all_by k ms

abbrev pub sample_deeds : List Deed
sample_deeds = all_by 0 (Strays (Replaced None) (SyncsFolder (1 ∷ [])) ∷ Puts None 0 ∷ Strays (Fills None 0 FoundSame) (Looks (2 ∷ []) 0 true) ∷ FindsSame None 0 ∷ SyncsNew None 0
    ∷ WritesAll None 0 ∷ FindsOwn 0 ∷ LocksOwn 0 ∷ MakesNew 0 ∷ [])
