-- The calls of a process that does not replace OUT are those of a path of moves.
use Rattle.std.proofs.Common.{◌≡◌, inl, inr, ℕ, Bool, true, false, List, [], ◌∷◌, Option, Some, None, refl, ◌∙◌}
use Rattle.byte_system.specs.Disk.{Content, Call, Opens, Locks, Looks, Finds, Compares, Fails}
use Rattle.byte_protocol.specs.declared.replacing.Fault.{Fault}
use Rattle.byte_protocol.specs.declared.replacing.Fault.TheVariants as fault
use Rattle.byte_protocol.specs.Replacing.{reserved, Denies, Disowns, Asks, Unentered, Unswept, Refuses, Removes, Stops, Abandons}
use Rattle.byte_protocol.specs.Protocol.{Progress, IsWhole, IsSynced, IsPart, Stage, Begins, HasMade, HasLocked, Fills, HasLeft, Sweeps, Ended, Move, MakesNew, LocksOwn, WritesPart, Withdraws, LocksLeft, Job, IsPath, calls_of, ChangesNone, AreIdle}
use Rattle.byte_protocol.specs.Unread.{HasRead, HasReadIf}
use Rattle.byte_protocol.proofs.Led.{IsLed, nothing, then_by, then_other, then_anew, entered_led, found_led, made_led, begun_led, reserved_led, written_led, synced_led, checked, compared_led, ready_led, put_led, put_then}

abbrev MakesPath : Job → ℕ → List Call → Type 0
MakesPath j k now = (ms : List Move) × IsPath ms × AreIdle ms × (now ≡ calls_of j k ms) × HasRead ms

is_path : (j : Job) (k : ℕ) (s : Stage) {known now : List Call} → now ≡ known → IsLed j k s known → MakesPath j k now
is_path j k s e l = (l.moves, l.path, l.idle, e ∙ l.calls, l.seen)

-- the same of one that had read these bytes, or none
abbrev EndsPath : Job → ℕ → Option (List ℕ) → List Call → Type 0
EndsPath j k read now = (ms : List Move) × IsPath ms × AreIdle ms × (now ≡ calls_of j k ms) × HasReadIf read ms

whether_read : (j : Job) (k : ℕ) (read : Option (List ℕ)) {now : List Call} → MakesPath j k now → EndsPath j k read now
whether_read j k None p = (p.0, p.1, p.2, p.3, tt)
whether_read j k (Some read) p = p

-- a call that failed at the end
fails_path : (j : Job) (k : ℕ) (s : Stage) {before now : List Call} → now ≡ Fails ∷ before → IsLed j k s before → MakesPath j k now
fails_path j k s e l = is_path j k s e (then_other j k s Fails l (λ d m. refl))

-- the same calls, after which it begins anew
led_as : (j : Job) (k : ℕ) (s : Stage) {known now : List Call} → now ≡ known → IsLed j k s known → IsLed j k s now
led_as j k s e l = record { moves = l.moves; path = l.path; idle = l.idle; seen = l.seen; ends = l.ends; calls = e ∙ l.calls }

fails_anew : (j : Job) (k : ℕ) (s : Stage) {before now : List Call} → now ≡ Fails ∷ before → IsLed j k s before → IsLed j k Begins now
fails_anew j k s e l = led_as j k Begins e (then_anew j k s Fails l (λ d m. refl))

-- a call at the end whose answer was no, or that failed
denied_anew : (j : Job) (k : ℕ) (s : Stage) (call : Bool → Call) {before now : List Call} → ChangesNone (call false) → IsLed j k s before → Denies call before now → IsLed j k Begins now
denied_anew j k s call idle l r = elim r [
  | inl denied ↦ led_as j k Begins denied (then_anew j k s (call false) l idle)
  | inr failed ↦ fails_anew j k s failed l
]

-- the new file that was made is not the process's own
lost_anew : (j : Job) (k i : ℕ) {before now : List Call} → IsLed j k (HasMade i) before → Disowns j.new i before now → IsLed j k Begins now
lost_anew j k i l r = elim r [
  | inl unlocked ↦ denied_anew j k (HasMade i) (Locks i) (λ d m. refl) l unlocked
  | inr unfound ↦ denied_anew j k (HasLocked i) (Looks j.new i) (λ d m. refl) (then_by j k (LocksOwn i) l tt tt) unfound
]

-- nor is the one that was left
held_anew : (j : Job) (k n : ℕ) {before now : List Call} → IsLed j k Begins before → Disowns j.new n before now → IsLed j k Begins now
held_anew j k n l r = elim r [
  | inl unlocked ↦ denied_anew j k Begins (Locks n) (λ d m. refl) l unlocked
  | inr unfound ↦ denied_anew j k (HasLeft n) (Looks j.new n) (λ d m. refl) (then_by j k (LocksLeft n) l tt tt) unfound
]

unentered_anew : (j : Job) (k : ℕ) {before now : List Call} → IsLed j k Begins before → Unentered j.new before now → IsLed j k Begins now
unentered_anew j k l r = elim r [
  | inl failed ↦ fails_anew j k Begins failed l
  | inr held ↦ held_anew j k held.0 (then_other j k Begins (Opens j.new (Some held.0)) l (λ d m. refl)) held.1
]

asked_anew : (j : Job) (k : ℕ) {before now : List Call} → IsLed j k Begins before → Asks j.new before now → IsLed j k Begins now
asked_anew j k l r = elim r [
  | inl other ↦ led_as j k Begins other (then_anew j k Begins (Finds j.new true) l (λ d m. refl))
  | inr denied ↦ denied_anew j k Begins (Finds j.new) (λ d m. refl) l denied
]

unswept_anew : (j : Job) (k : ℕ) {before now : List Call} → IsLed j k Begins before → Unswept j.new before now → IsLed j k Begins now
unswept_anew j k l r = elim r [
  | inl other ↦ asked_anew j k l other
  | inr found ↦ elim found [
    | inl unentered ↦ unentered_anew j k (found_led j k l) unentered
    | inr failed ↦ fails_anew j k (Sweeps failed.0) failed.1 (entered_led j k failed.0 (found_led j k l))
  ]
]

-- one that did not get the new file may begin anew
pub refused_anew : (j : Job) (k : ℕ) (e : Fault) {before now : List Call} → IsLed j k Begins before → Refuses e j.new before now → IsLed j k Begins now
refused_anew j k fault.NotMade l r = fails_anew j k Begins r.1 (begun_led j k r.0 l)
refused_anew j k fault.NewExists l r = elim r [
  | inl unswept ↦ unswept_anew j k (made_led j k l) unswept
  | inr other ↦ elim other [
    | inl again ↦ led_as j k Begins again.1 (made_led j k (begun_led j k (Some again.0) l))
    | inr lost ↦ lost_anew j k lost.1 (then_by j k (MakesNew lost.1) (begun_led j k lost.0 l) tt tt) lost.2
  ]
]
refused_anew j k (fault.NotWritten n) l r = absurd r
refused_anew j k fault.NotSure l r = absurd r
refused_anew j k fault.NotRead l r = absurd r
refused_anew j k fault.Changed l r = absurd r
refused_anew j k fault.NotLooked l r = absurd r
refused_anew j k fault.Lost l r = absurd r
refused_anew j k fault.NotPut l r = absurd r
refused_anew j k fault.NotSynced l r = absurd r

pub refused_path : (j : Job) (k : ℕ) (e : Fault) (now : List Call) → Refuses e j.new [] now → MakesPath j k now
refused_path j k e now r = is_path j k Begins refl (refused_anew j k e (nothing j k) r)

removed_path : (j : Job) (k : ℕ) (x : Content) (i : ℕ) (p : Progress) {before now : List Call} → IsLed j k (Fills x i p) before → Removes j.new before now → MakesPath j k now
removed_path j k x i p l r = elim r [
  | inl removed ↦ is_path j k Ended removed (then_by j k (Withdraws x i p) l tt tt)
  | inr failed ↦ fails_path j k (Fills x i p) failed l
]

-- one that has the new file removes it after a call that failed
failed_path : (j : Job) (k : ℕ) (x : Content) (i : ℕ) (p : Progress) {before now : List Call} → IsLed j k (Fills x i p) before → Removes j.new (Fails ∷ before) now → MakesPath j k now
failed_path j k x i p l r = removed_path j k x i p (then_other j k (Fills x i p) Fails l (λ d m. refl)) r

halted_path : (j : Job) (k i : ℕ) (left : Option ℕ) (read : Option (List ℕ)) (e : Fault) (now : List Call)
    → Stops e j.out j.new i read (j.change k read) (reserved j.new left i []) now → EndsPath j k read now
halted_path j k i left read fault.NotMade now s = absurd s
halted_path j k i left read fault.NewExists now s = absurd s
halted_path j k i left read (fault.NotWritten n) now s =
    whether_read j k read (removed_path j k read i (IsPart n) (then_by j k (WritesPart read i n) (reserved_led j k i left) tt tt) s)
halted_path j k i left read fault.NotSure now s = whether_read j k read (failed_path j k read i IsWhole (written_led j k i left read) s)
halted_path j k i left read fault.NotRead now s = whether_read j k read (failed_path j k read i IsSynced (synced_led j k i left read) s)
halted_path j k i left None fault.Changed now s = whether_read j k None (removed_path j k None i IsSynced (synced_led j k i left None) s)
halted_path j k i left (Some read) fault.Changed now s =
    removed_path j k (Some read) i IsSynced
    (then_other j k (Fills (Some read) i IsSynced) (Compares j.out read false) (synced_led j k i left (Some read)) (λ d m. refl)) s
halted_path j k i left read fault.NotLooked now s = whether_read j k read (fails_path j k (Fills read i (checked read)) s (compared_led j k i left read))
halted_path j k i left read fault.Lost now s =
    whether_read j k read
    (is_path j k (Fills read i (checked read)) s (then_other j k (Fills read i (checked read)) (Looks j.new i false) (compared_led j k i left read) (λ d m. refl)))
halted_path j k i left read fault.NotPut now s = whether_read j k read (failed_path j k read i (checked read) (ready_led j k i left read) s)
halted_path j k i left read fault.NotSynced now s =
    let p = put_then j k read Fails (put_led j k i left read) (λ d m. refl) in
    (p.moves, p.path, p.idle, s ∙ p.calls, p.seen)

pub fault_path : (j : Job) (k : ℕ) (read : Option (List ℕ)) (e : Fault) (now : List Call) → Abandons e j.out j.new read (j.change k read) [] now
    → (ms : List Move) × IsPath ms × AreIdle ms × (now ≡ calls_of j k ms) × HasReadIf read ms
fault_path j k read e now a = elim a [
  | inl refused ↦ whether_read j k read (refused_path j k e now refused)
  | inr stopped ↦ halted_path j k stopped.1 stopped.0 read e now stopped.2
]
