-- Which calls a place has made when it has come this far.
use Rattle.std.specs.Prelude.{◌≡◌, ℕ, Bool, true, false, List, [], Some, None, ◌++◌, length}
use Rattle.byte_system.specs.Disk.{Content, Call, Unlinks}
use Rattle.byte_protocol.specs.Protocol.{Job, Move, Stage, Begins, Owns, Fills, Progress, IsPart, IsSynced, FoundSame, finished, from, call_of, end, IsPath, AreIdle, IsIdle, IsRead, calls_of}
use Rattle.byte_protocol.specs.Unread.{HasRead}
use Rattle.byte_place.specs.Steps.{Lands}
use Rattle.byte_place.specs.declared.progress.At.{At}
use Rattle.byte_place.specs.declared.progress.At.TheVariants as at

-- no file is put in place unread, unless it may be
abbrev pub HasReadUnless : Bool → List Move → Type 0
HasReadUnless true ms = Unit {0}
HasReadUnless false ms = HasRead ms

-- moves of the protocol that make these calls and lead to this stage; other calls among them change no file
pub record LeadsTo (unread : Bool) (j : Job) (k : ℕ) (s : Stage) (cs : List Call) : Type 0 where
  pub moves : List Move
  pub path : IsPath moves
  pub idle : AreIdle moves
  pub seen : HasReadUnless unread moves
  pub ends : end moves ≡ s
  pub calls : cs ≡ calls_of j k moves

-- the names are these
pub record IsJobAt (j : Job) (out new : List ℕ) : Type 0 where
  pub at_out : j.out ≡ out
  pub at_new : j.new ≡ new

-- what a place had read when its new file was compared with the old one: nothing, if it was put without a comparison
abbrev pub read_of : Bool → List ℕ → Content
read_of true found = None
read_of false found = Some found

-- the names are these, and process k makes these bytes of what it has read
pub record IsJobOf (j : Job) (k : ℕ) (x : Content) (out new bytes : List ℕ) : Type 0 where
  pub at_out : j.out ≡ out
  pub at_new : j.new ≡ new
  pub makes : j.change k x ≡ bytes

-- how far the new file has come before it is put in the place of one that was read, or was not
abbrev pub checked : Content → Progress
checked None = IsSynced
checked (Some read) = FoundSame

-- the calls lead to a stage from which the process may remove its new file
pub record IsRemovable (unread : Bool) (j : Job) (k : ℕ) (cs : List Call) : Type 0 where
  pub move : Move
  pub idle : IsIdle move
  pub seen : IsRead move
  pub call : call_of j k move ≡ Unlinks j.new
  pub leads : LeadsTo unread j k (from move) cs

-- the calls of the place of OUT that has taken these bytes, has found those or may put its file unread, and has come this far: those of
-- a path of the protocol, for a job that makes the bytes of what was read
abbrev pub Comes : List ℕ → List ℕ → List ℕ → List ℕ → Bool → At → List Call → Type 0
Comes out new bytes found unread at.Start cs =
    (bytes ≡ []) × ((unread ≡ false) × ((j : Job) (k : ℕ) → IsJobAt j out new → LeadsTo false j k Begins cs))
Comes out new bytes found unread (at.Reserved i) cs =
    (bytes ≡ []) × ((unread ≡ false) × ((j : Job) (k : ℕ) → IsJobAt j out new → LeadsTo false j k (Owns i) cs))
Comes out new bytes found unread (at.Owned i) cs = (unread ≡ false)
    × ((rest : List ℕ) (j : Job) (k : ℕ) (x : Content) → IsJobOf j k x out new (bytes ++ rest) → LeadsTo unread j k (Fills x i (IsPart (length bytes))) cs)
Comes out new bytes found unread (at.Synced i) cs = (unread ≡ false)
    × ((j : Job) (k : ℕ) (x : Content) → IsJobOf j k x out new bytes → LeadsTo unread j k (Fills x i IsSynced) cs)
Comes out new bytes found unread (at.Ready i) cs =
    (j : Job) (k : ℕ) → IsJobOf j k (read_of unread found) out new bytes → LeadsTo unread j k (Fills (read_of unread found) i (checked (read_of unread found))) cs
Comes out new bytes found unread (at.Broken i) cs = (j : Job) (k : ℕ) → IsJobOf j k (read_of unread found) out new bytes → IsRemovable unread j k cs
Comes out new bytes found unread at.Put cs =
    (j : Job) (k : ℕ) → IsJobOf j k (read_of unread found) out new bytes → LeadsTo unread j k (finished (read_of unread found)) cs
Comes out new bytes found unread at.Landed cs =
    Lands out cs × ((j : Job) (k : ℕ) → IsJobOf j k (read_of unread found) out new bytes → LeadsTo unread j k (finished (read_of unread found)) cs)
Comes out new bytes found unread at.Over cs = (j : Job) (k : ℕ) → IsJobOf j k (read_of unread found) out new bytes → (s : Stage) × LeadsTo unread j k s cs

-- there is a new file, which takes bytes
abbrev pub is_owned : At → Bool
is_owned (at.Owned i) = true
is_owned a = false

-- no file was put, or its folder was synced since
abbrev pub has_landed : At → Bool
has_landed at.Start = true
has_landed at.Landed = true
has_landed a = false
