-- The effect of a call on a system, while other processes make calls.
use Rattle.std.specs.Prelude.{◌≡◌, ◌==◌, ℕ, Bool, true, false, List, [], ◌∷◌, ◌++◌, Option, Some, None, Ok, Err, take, if◌then◌else◌}
use Rattle.std.specs.declared.result.Result.{Result}
use Rattle.byte_system.specs.Disk.{Disk, Event, Call, Makes, Opens, Finds, Writes, Fails, Honest}
use Rattle.byte_system.specs.declared.system.NewFileFault.{NewFileFault}
use Rattle.byte_system.specs.declared.system.NewFileFault.TheVariants as make
use Rattle.byte_system.specs.declared.system.There.{There}
use Rattle.byte_system.specs.declared.system.There.TheVariants as there

-- this process, all events so far, of all processes, and the files before them, if the system reports them
pub record SystemState : Type 0 where
  pub me : ℕ
  pub first : Option Disk
  pub trace : List Event

-- the calls of one process
abbrev pub own : ℕ → List Event → List Call
own k [] = []
own k (e ∷ es) = if e.by == k then e.call ∷ own k es else own k es

abbrev pub calls : SystemState → List Call
calls s = own s.me s.trace

-- each answer is the one that the files gave, if they are reported
abbrev pub IsHonest : Option Disk → List Event → Type 0
IsHonest None es = Unit {0}
IsHonest (Some first) es = Honest first es

-- the system went on: any events of other processes, and at the end this call, with an honest answer
pub record Took (call : Call) (old new : SystemState) : Type 0 where
  pub same_me : new.me ≡ old.me
  pub same_first : new.first ≡ old.first
  pub mine : calls new ≡ call ∷ calls old
  pub past : (between : List Event) × (new.trace ≡ record { by = old.me; call = call } ∷ (between ++ old.trace))
  pub honest : IsHonest new.first new.trace

-- any calls later: the same process, and honest answers
pub record GoesOn (old last : SystemState) : Type 0 where
  pub same_me : last.me ≡ old.me
  pub same_first : last.first ≡ old.first
  pub honest : IsHonest last.first last.trace

abbrev pub make_call : List ℕ → Result ℕ NewFileFault → Call
make_call p (Ok i) = Makes p (Some i)
make_call p (Err make.Exists) = Makes p None
make_call p (Err make.NotMade) = Fails

abbrev pub open_call : {E : Type 0} → List ℕ → Result ℕ E → Call
open_call p (Ok i) = Opens p (Some i)
open_call p (Err e) = Fails

-- a call that succeeds or fails
abbrev pub done_or_failed : {T E : Type 0} → Call → Result T E → Call
done_or_failed c (Ok t) = c
done_or_failed c (Err e) = Fails

-- a call that answers or fails
abbrev pub told_or_failed : {E : Type 0} → (Bool → Call) → Result Bool E → Call
told_or_failed c (Ok b) = c b
told_or_failed c (Err e) = Fails

-- whatever has the name is there
abbrev pub look_call : {E : Type 0} → List ℕ → Result There E → Call
look_call p (Ok there.Nothing) = Finds p false
look_call p (Ok there.Sole) = Finds p true
look_call p (Ok there.Shared) = Finds p true
look_call p (Ok there.Other) = Finds p true
look_call p (Err e) = Fails

-- the first n bytes were written
abbrev pub write_call : ℕ → List ℕ → ℕ → Call
write_call i bs n = Writes i (take n bs)
