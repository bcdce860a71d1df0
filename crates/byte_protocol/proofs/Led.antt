-- Calls that lead a process along the protocol, one after another.
use Rattle.std.proofs.Common.{◌≡◌, ℕ, true, List, [], ◌∷◌, Option, Some, None, refl, ap}
use Rattle.byte_system.specs.Disk.{Content, Call, Makes, Opens, Looks, Finds, Writes, Syncs, Renames}
use Rattle.byte_protocol.specs.Replacing.{entered, begun, reserved, compared, ready}
use Rattle.byte_protocol.specs.Protocol.{Progress, IsWhole, IsSynced, FoundSame, Stage, Begins, Owns, Fills, Sweeps, Replaced, ReplacedUnread, Move, MakesNew, LocksOwn, FindsOwn, WritesAll, SyncsNew, FindsSame, Puts, PutsUnread, LocksLeft, FindsLeft, SweepsLeft, Strays, Forgets, Job, from, to, call_of, end, IsPath, calls_of, ChangesNone, IsIdle, AreIdle, IsRead, finished}
use Rattle.byte_protocol.specs.Unread.{HasRead, HasReadIf}

-- moves that make these calls and lead to this stage, change no file by other calls, and put no file unread
pub record IsLed (j : Job) (k : ℕ) (s : Stage) (now : List Call) : Type 0 where
  pub moves : List Move
  pub path : IsPath moves
  pub idle : AreIdle moves
  pub seen : HasRead moves
  pub ends : end moves ≡ s
  pub calls : now ≡ calls_of j k moves

-- at the start
pub nothing : (j : Job) (k : ℕ) → IsLed j k Begins []
nothing j k = record { moves = []; path = tt; idle = tt; seen = tt; ends = refl; calls = refl }

-- one move more
pub then_by : (j : Job) (k : ℕ) (m : Move) {before : List Call} → IsLed j k (from m) before → IsIdle m → IsRead m → IsLed j k (to m) (call_of j k m ∷ before)
then_by j k m l idle seen = record {
  moves = m ∷ l.moves;
  path = (l.path, l.ends);
  idle = (l.idle, idle);
  seen = (l.seen, seen);
  ends = refl;
  calls = ap (λ cs. call_of j k m ∷ cs) l.calls;
}

-- one call more that is no move
pub then_other : (j : Job) (k : ℕ) (s : Stage) (c : Call) {before : List Call} → IsLed j k s before → ChangesNone c → IsLed j k s (c ∷ before)
then_other j k s c l idle = then_by j k (Strays s c) l idle tt

-- and after which it begins anew
pub then_anew : (j : Job) (k : ℕ) (s : Stage) (c : Call) {before : List Call} → IsLed j k s before → ChangesNone c → IsLed j k Begins (c ∷ before)
then_anew j k s c l idle = then_by j k (Forgets s c) l idle tt

pub entered_led : (j : Job) (k n : ℕ) {before : List Call} → IsLed j k Begins before → IsLed j k (Sweeps n) (entered j.new n before)
entered_led j k n l = then_by j k (FindsLeft n) (then_by j k (LocksLeft n) (then_other j k Begins (Opens j.new (Some n)) l (λ d m. refl)) tt tt) tt tt

-- a file with the new name is there
pub found_led : (j : Job) (k : ℕ) {before : List Call} → IsLed j k Begins before → IsLed j k Begins (Finds j.new true ∷ before)
found_led j k l = then_other j k Begins (Finds j.new true) l (λ d m. refl)

-- and could not be made anew
pub made_led : (j : Job) (k : ℕ) {before : List Call} → IsLed j k Begins before → IsLed j k Begins (Makes j.new None ∷ before)
made_led j k l = then_other j k Begins (Makes j.new None) l (λ d m. refl)

pub begun_led : (j : Job) (k : ℕ) (left : Option ℕ) {before : List Call} → IsLed j k Begins before → IsLed j k Begins (begun j.new left before)
begun_led j k None l = l
begun_led j k (Some n) l = then_by j k (SweepsLeft n) (entered_led j k n (found_led j k (made_led j k l))) tt tt

pub owned_led : (j : Job) (k i : ℕ) (left : Option ℕ) {before : List Call} → IsLed j k Begins before → IsLed j k (Owns i) (reserved j.new left i before)
owned_led j k i left l = then_by j k (FindsOwn i) (then_by j k (LocksOwn i) (then_by j k (MakesNew i) (begun_led j k left l) tt tt) tt tt) tt tt

pub reserved_led : (j : Job) (k i : ℕ) (left : Option ℕ) → IsLed j k (Owns i) (reserved j.new left i [])
reserved_led j k i left = owned_led j k i left (nothing j k)

pub written_led : (j : Job) (k i : ℕ) (left : Option ℕ) (x : Content) → IsLed j k (Fills x i IsWhole) (Writes i (j.change k x) ∷ reserved j.new left i [])
written_led j k i left x = then_by j k (WritesAll x i) (reserved_led j k i left) tt tt

pub synced_led : (j : Job) (k i : ℕ) (left : Option ℕ) (x : Content) → IsLed j k (Fills x i IsSynced) (Syncs i ∷ Writes i (j.change k x) ∷ reserved j.new left i [])
synced_led j k i left x = then_by j k (SyncsNew x i) (written_led j k i left x) tt tt

-- how far the new file has come before it is put in place
abbrev pub checked : Option (List ℕ) → Progress
checked None = IsSynced
checked (Some read) = FoundSame

pub compared_led : (j : Job) (k i : ℕ) (left : Option ℕ) (read : Option (List ℕ))
    → IsLed j k (Fills read i (checked read)) (compared j.out read (Syncs i ∷ Writes i (j.change k read) ∷ reserved j.new left i []))
compared_led j k i left None = synced_led j k i left None
compared_led j k i left (Some read) = then_by j k (FindsSame (Some read) i) (synced_led j k i left (Some read)) tt tt

pub ready_led : (j : Job) (k i : ℕ) (left : Option ℕ) (read : Option (List ℕ))
    → IsLed j k (Fills read i (checked read)) (ready j.out j.new i read (j.change k read) (reserved j.new left i []))
ready_led j k i left read = then_other j k (Fills read i (checked read)) (Looks j.new i true) (compared_led j k i left read) (λ d m. refl)

-- the same of one that has put its file in the place of OUT, which it had read, or not
pub record IsPut (j : Job) (k : ℕ) (read : Option (List ℕ)) (now : List Call) : Type 0 where
  pub moves : List Move
  pub path : IsPath moves
  pub idle : AreIdle moves
  pub seen : HasReadIf read moves
  pub ends : end moves ≡ finished read
  pub calls : now ≡ calls_of j k moves

pub put_led : (j : Job) (k i : ℕ) (left : Option ℕ) (read : Option (List ℕ))
    → IsPut j k read (Renames j.new j.out ∷ ready j.out j.new i read (j.change k read) (reserved j.new left i []))
put_led j k i left None =
    let l = ready_led j k i left None in
    record {
      moves = PutsUnread i ∷ l.moves;
      path = (l.path, l.ends);
      idle = (l.idle, tt);
      seen = tt;
      ends = refl;
      calls = ap (λ cs. Renames j.new j.out ∷ cs) l.calls;
    }
put_led j k i left (Some read) =
    let l = then_by j k (Puts (Some read) i) (ready_led j k i left (Some read)) tt tt in
    record { moves = l.moves; path = l.path; idle = l.idle; seen = l.seen; ends = l.ends; calls = l.calls }

-- and one call more
pub put_then : (j : Job) (k : ℕ) (read : Option (List ℕ)) (c : Call) {before : List Call} → IsPut j k read before → ChangesNone c → IsPut j k read (c ∷ before)
put_then j k None c p idle = record {
  moves = Strays ReplacedUnread c ∷ p.moves;
  path = (p.path, p.ends);
  idle = (p.idle, idle);
  seen = tt;
  ends = refl;
  calls = ap (λ cs. c ∷ cs) p.calls;
}
put_then j k (Some read) c p idle = record {
  moves = Strays (Replaced (Some read)) c ∷ p.moves;
  path = (p.path, p.ends);
  idle = (p.idle, idle);
  seen = (p.seen, tt);
  ends = refl;
  calls = ap (λ cs. c ∷ cs) p.calls;
}
