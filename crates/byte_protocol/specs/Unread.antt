-- Processes that put a file in the place of OUT without having read OUT, and those that have read it.
use Rattle.std.specs.Prelude.{◌≡◌, ℕ, List, [], ◌∷◌, ◌++◌, Option, Some, None}
use Rattle.byte_system.specs.Disk.{Content, content, Disk, after}
use Rattle.byte_protocol.specs.Protocol.{Job, Move, PutsUnread, Deed, events, IsRead}

-- the file of a process that puts it in the place of OUT unread has this
abbrev pub HasIfUnread : Job → (Content → Type 0) → ℕ → Move → Type 0
HasIfUnread j P k (PutsUnread i) = P (Some (j.change k None))
HasIfUnread j P k m = Unit {0}

-- each file that was put there unread has it
abbrev pub UnreadHave : Job → (Content → Type 0) → List Deed → Type 0
UnreadHave j P [] = Unit {0}
UnreadHave j P (e ∷ es) = UnreadHave j P es × HasIfUnread j P e.by e.move

-- at one moment process k put its file in the place of OUT unread
pub record WasPutUnread (j : Job) (first : Disk) (k : ℕ) (es : List Deed) : Type 0 where
  pub later : List Deed
  pub earlier : List Deed
  pub file : ℕ
  pub split : es ≡ later ++ (record { by = k; move = PutsUnread file } ∷ earlier)
  pub made : content (after first (events j (record { by = k; move = PutsUnread file } ∷ earlier))) j.out ≡ Some (j.change k None)

-- in these moves of one process it puts no file in the place of OUT unread
abbrev pub HasRead : List Move → Type 0
HasRead [] = Unit {0}
HasRead (m ∷ ms) = HasRead ms × IsRead m

-- nor does one that has read these bytes
abbrev pub HasReadIf : Option (List ℕ) → List Move → Type 0
HasReadIf None ms = Unit {0}
HasReadIf (Some read) ms = HasRead ms
