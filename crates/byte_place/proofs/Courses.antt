-- The calls of a place lead along the protocol.
use Rattle.std.proofs.Common.{◌≡◌, inl, inr, ℕ, Bool, true, false, List, [], ◌∷◌, ◌++◌, Option, Some, None, take, drop, length, ◌+◌, refl, sym, ◌∙◌, ap, subst}
use Rattle.std.proofs.Math.Seq.{take-append_seam, drop-append_seam}
use Rattle.std.proofs.lemmas.List.{append_assoc, append-nil, length-append}
use Rattle.byte_system.specs.Disk.{Content, Call, Opens, Looks, Finds, Writes, Syncs, Compares, Renames, Unlinks, Fails}
use Rattle.byte_protocol.specs.declared.replacing.Fault.{Fault}
use Rattle.byte_protocol.specs.declared.replacing.Fault.TheVariants as fault
use Rattle.byte_protocol.specs.Replacing.{reserved, Refuses, Asks}
use Rattle.byte_protocol.specs.Protocol.{Stage, Begins, Owns, Fills, ReplacedUnread, IsWhole, IsPart, IsSynced, FoundSame, finished, Move, GivesUp, WritesPart, WritesMore, WritesRest, SyncsNew, FindsSame, Puts, PutsUnread, Withdraws, Strays, Job, from, to, call_of, IsPath, AreIdle, IsIdle, IsRead, ChangesNone, calls_of, end}
use Rattle.byte_protocol.specs.Unread.{HasRead}
use Rattle.byte_protocol.proofs.Led.{IsLed, owned_led}
use Rattle.byte_protocol.proofs.Faults.{refused_anew}
use Rattle.byte_place.specs.declared.progress.At.{At}
use Rattle.byte_place.specs.declared.progress.At.TheVariants as at
use Rattle.byte_place.specs.Course.{HasReadUnless, LeadsTo, IsJobAt, IsJobOf, read_of, checked, IsRemovable, Comes}
use Rattle.byte_place.specs.declared.steps.Unput.{Unput}
use Rattle.byte_place.specs.declared.steps.Unput.TheVariants as unput
use Rattle.byte_place.specs.Steps.{renamed, Unrenamed, Clears, Lands, Visits}

unless : (u : Bool) (ms : List Move) → HasRead ms → HasReadUnless u ms
unless true ms r = tt
unless false ms r = r

unless_more : (u : Bool) (m : Move) (ms : List Move) → HasReadUnless u ms → IsRead m → HasReadUnless u (m ∷ ms)
unless_more true m ms s r = tt
unless_more false m ms s r = (s, r)

led : (u : Bool) (j : Job) (k : ℕ) (s : Stage) {known now : List Call} → now ≡ known → IsLed j k s known → LeadsTo u j k s now
led u j k s e l = record { moves = l.moves; path = l.path; idle = l.idle; seen = unless u l.moves l.seen; ends = l.ends; calls = e ∙ l.calls }

-- one move after others
by_move : (u : Bool) (j : Job) (k : ℕ) (m : Move) {before now : List Call} → now ≡ call_of j k m ∷ before → LeadsTo u j k (from m) before → IsIdle m → IsRead m
    → LeadsTo u j k (to m) now
by_move u j k m e l idle seen = record {
  moves = m ∷ l.moves;
  path = (l.path, l.ends);
  idle = (l.idle, idle);
  seen = unless_more u m l.moves l.seen seen;
  ends = refl;
  calls = e ∙ ap (λ cs. call_of j k m ∷ cs) l.calls;
}

-- one call that is no move
by_other : (u : Bool) (j : Job) (k : ℕ) (s : Stage) (c : Call) {before now : List Call} → now ≡ c ∷ before → LeadsTo u j k s before → ChangesNone c → LeadsTo u j k s now
by_other u j k s c e l idle = by_move u j k (Strays s c) e l idle tt

-- what is known of a place that has come as far as is known
pub as_at : (out new bytes found : List ℕ) (u : Bool) (a b : At) (cs : List Call) → a ≡ b → ∥ Comes out new bytes found u a cs ∥₁ → ∥ Comes out new bytes found u b cs ∥₁
as_at out new bytes found u a b cs e t = subst (λ x. ∥ Comes out new bytes found u x cs ∥₁) e t

-- the names of a job that makes these bytes
names_of : (j : Job) (k : ℕ) (x : Content) (out new bytes : List ℕ) → IsJobOf j k x out new bytes → IsJobAt j out new
names_of j k x out new bytes job = record { at_out = job.at_out; at_new = job.at_new }

to_led : (j : Job) (k : ℕ) (s : Stage) (cs : List Call) → LeadsTo false j k s cs → IsLed j k s cs
to_led j k s cs l = record { moves = l.moves; path = l.path; idle = l.idle; seen = l.seen; ends = l.ends; calls = l.calls }

loosen : (u : Bool) (j : Job) (k : ℕ) (s : Stage) (cs : List Call) → LeadsTo false j k s cs → LeadsTo u j k s cs
loosen u j k s cs l = record { moves = l.moves; path = l.path; idle = l.idle; seen = unless u l.moves l.seen; ends = l.ends; calls = l.calls }

-- the new file is the place's own
owns : (out new bytes found : List ℕ) (u : Bool) (i : ℕ) (cs : List Call) → Comes out new bytes found u (at.Reserved i) cs → (j : Job) (k : ℕ) (x : Content) (all : List ℕ)
    → IsJobOf j k x out new all → LeadsTo u j k (Owns i) cs
owns out new bytes found u i cs c j k x all job = loosen u j k (Owns i) cs (c.1.1 j k (names_of j k x out new all job))

-- no call was made
pub begins : (out new bytes found : List ℕ) (u : Bool) (cs : List Call) → bytes ≡ [] → u ≡ false → cs ≡ [] → Comes out new bytes found u at.Start cs
begins out new bytes found u cs b n e = (b, (n, λ j k names. record { moves = []; path = tt; idle = tt; seen = tt; ends = refl; calls = e }))

asks : (u : Bool) (j : Job) (k : ℕ) (s : Stage) (p : List ℕ) {before now : List Call} → Asks p before now → LeadsTo u j k s before → LeadsTo u j k s now
asks u j k s p r l = elim r [
  | inl other ↦ by_other u j k s (Finds p true) other l (λ d m. refl)
  | inr denied ↦ elim denied [
    | inl none ↦ by_other u j k s (Finds p false) none l (λ d m. refl)
    | inr failed ↦ by_other u j k s Fails failed l (λ d m. refl)
  ]
]

visits : (j : Job) (k : ℕ) (p : List ℕ) (before now : List Call) → Visits p before now → LeadsTo false j k Begins before → LeadsTo false j k Begins now
visits j k p before now r l =
    let found : LeadsTo false j k Begins (Finds p true ∷ before) = by_other false j k Begins (Finds p true) refl l (λ d m. refl) in
    elim r [
      | inl other ↦ asks false j k Begins p other l
      | inr there ↦ elim there [
        | inl failed ↦ by_other false j k Begins Fails failed found (λ d m. refl)
        | inr opened ↦ by_other false j k Begins (Opens p (Some opened.0)) opened.1 found (λ d m. refl)
      ]
    ]

-- OUT was looked for
pub visited : (out new bytes found : List ℕ) (u : Bool) (before now : List Call) → Comes out new bytes found u at.Start before → Visits out before now → Comes out new bytes found u at.Start now
visited out new bytes found u before now c r = (c.0, (c.1.0, λ j k names. visits j k out before now r (c.1.1 j k names)))

pub reserved_own : (out new bytes found : List ℕ) (u : Bool) (left : Option ℕ) (i : ℕ) (before now : List Call) → Comes out new bytes found u at.Start before → now ≡ reserved new left i before
    → Comes out new bytes found u (at.Reserved i) now
reserved_own out new bytes found u left i before now c e =
    (c.0, (c.1.0, λ j k names. led false j k (Owns i) (e ∙ ap (λ n. reserved n left i before) (sym names.at_new)) (owned_led j k i left (to_led j k Begins before (c.1.1 j k names)))))

pub refused : (out new bytes found : List ℕ) (u : Bool) (f : Fault) (before now : List Call) → Comes out new bytes found u at.Start before → Refuses f new before now
    → Comes out new bytes found u at.Start now
refused out new bytes found u f before now c r = (
  c.0,
  (
    c.1.0,
    λ j k names. led false j k Begins refl
        (refused_anew j k f (to_led j k Begins before (c.1.1 j k names)) (subst (λ n. Refuses f n before now) (sym names.at_new) r)),
  ),
)

-- a call of one that has the new file, and that changes no file
pub likened : (out new bytes found : List ℕ) (u : Bool) (i : ℕ) (call : Call) (before now : List Call) → ChangesNone call → Comes out new bytes found u (at.Reserved i) before
    → now ≡ call ∷ before → Comes out new bytes found u (at.Reserved i) now
likened out new bytes found u i call before now idle c e = (c.0, (c.1.0, λ j k names. by_other false j k (Owns i) call e (c.1.1 j k names) idle))

-- the new file takes bytes
pub opened : (out new bytes found : List ℕ) (u : Bool) (i : ℕ) (before now : List Call) → Comes out new bytes found u (at.Reserved i) before → now ≡ Writes i [] ∷ before
    → Comes out new bytes found u (at.Owned i) now
opened out new bytes found u i before now c e = (
  c.1.0,
  λ rest j k x job.
      subst (λ n. LeadsTo u j k (Fills x i (IsPart n)) now) (sym (ap length c.0))
      (by_move u j k (WritesPart x i 0) e (owns out new bytes found u i before c j k x (bytes ++ rest) job) tt tt),
)

pub wrote : (out new bytes part whole found : List ℕ) (u : Bool) (i : ℕ) (before now : List Call) → Comes out new bytes found u (at.Owned i) before → now ≡ Writes i part ∷ before
    → whole ≡ bytes ++ part → Comes out new whole found u (at.Owned i) now
wrote out new bytes part whole found u i before now c e w = (
  c.0,
  λ rest j k x job.
      let all : whole ++ rest ≡ bytes ++ (part ++ rest) = ap (λ b. b ++ rest) w ∙ append_assoc bytes part rest in
      let made : j.change k x ≡ bytes ++ (part ++ rest) = job.makes ∙ all in
      let is : part ≡ take (length part) (drop (length bytes) (j.change k x)) =
      sym (ap (λ b. take (length part) (drop (length bytes) b)) made ∙ ap (take (length part)) (drop-append_seam bytes (part ++ rest)) ∙ take-append_seam part rest) in
      let of_all : IsJobOf j k x out new (bytes ++ (part ++ rest)) = record { at_out = job.at_out; at_new = job.at_new; makes = made } in
      let count : length bytes + length part ≡ length whole = sym (ap length w ∙ length-append bytes part) in
      subst (λ n. LeadsTo u j k (Fills x i (IsPart n)) now) count
      (by_move u j k (WritesMore x i (length bytes) (length part)) (e ∙ ap (λ b. Writes i b ∷ before) is) (c.1 (part ++ rest) j k x of_all) tt tt),
)

-- a file that only grows has what the place took
grown : (out new bytes found : List ℕ) (u : Bool) (i : ℕ) (cs : List Call) → Comes out new bytes found u (at.Owned i) cs → (j : Job) (k : ℕ) (x : Content)
    → IsJobOf j k x out new bytes → LeadsTo u j k (Fills x i (IsPart (length bytes))) cs
grown out new bytes found u i cs c j k x job =
    c.1 [] j k x (record { at_out = job.at_out; at_new = job.at_new; makes = job.makes ∙ sym (append-nil bytes) })

pub cut : (out new bytes part whole found : List ℕ) (u : Bool) (i : ℕ) (before now : List Call) → Comes out new bytes found u (at.Owned i) before → now ≡ Writes i part ∷ before
    → whole ≡ bytes ++ part → Comes out new whole found u (at.Broken i) now
cut out new bytes part whole found u i before now c e w = λ j k job. record {
  move = Withdraws (read_of u found) i (IsPart (length whole));
  idle = tt;
  seen = tt;
  call = refl;
  leads = grown out new whole found u i now (wrote out new bytes part whole found u i before now c e w) j k (read_of u found) job;
}

-- nothing more follows
closed : (out new bytes found : List ℕ) (u : Bool) (i : ℕ) (before now : List Call) → Comes out new bytes found u (at.Owned i) before → now ≡ Writes i [] ∷ before
    → (j : Job) (k : ℕ) (x : Content) → IsJobOf j k x out new bytes → LeadsTo u j k (Fills x i IsWhole) now
closed out new bytes found u i before now c e j k x job =
    let is : [] ≡ drop (length bytes) (j.change k x) = sym (ap (drop (length bytes)) (job.makes ∙ sym (append-nil bytes)) ∙ drop-append_seam bytes []) in
    by_move u j k (WritesRest x i (length bytes)) (e ∙ ap (λ b. Writes i b ∷ before) is) (grown out new bytes found u i before c j k x job) tt tt

pub synced : (out new bytes found : List ℕ) (u : Bool) (i : ℕ) (before mid now : List Call) → Comes out new bytes found u (at.Owned i) before → mid ≡ Writes i [] ∷ before → now ≡ Syncs i ∷ mid
    → Comes out new bytes found u (at.Synced i) now
synced out new bytes found u i before mid now c e s = (c.0, λ j k x job. by_move u j k (SyncsNew x i) s (closed out new bytes found u i before mid c e j k x job) tt tt)

pub unsynced : (out new bytes found : List ℕ) (u : Bool) (i : ℕ) (before mid now : List Call) → Comes out new bytes found u (at.Owned i) before → mid ≡ Writes i [] ∷ before → now ≡ Fails ∷ mid
    → Comes out new bytes found u (at.Broken i) now
unsynced out new bytes found u i before mid now c e s = λ j k job. record {
  move = Withdraws (read_of u found) i IsWhole;
  idle = tt;
  seen = tt;
  call = refl;
  leads = by_other u j k (Fills (read_of u found) i IsWhole) Fails s (closed out new bytes found u i before mid c e j k (read_of u found) job) (λ d m. refl);
}

pub compared : (out new bytes found read kept : List ℕ) (u : Bool) (i : ℕ) (before now : List Call) → Comes out new bytes found u (at.Synced i) before
    → now ≡ Compares out read true ∷ before → kept ≡ read → Comes out new bytes kept u (at.Ready i) now
compared out new bytes found read kept u i before now c e w = λ j k job.
    let same : Some kept ≡ read_of u kept = ap (λ b. read_of b kept) (sym c.0) in
    let of_same : IsJobOf j k (Some kept) out new bytes = subst (λ x. IsJobOf j k x out new bytes) (sym same) job in
    let call : now ≡ Compares j.out kept true ∷ before = e ∙ ap (λ r. Compares out r true ∷ before) (sym w) ∙ ap (λ o. Compares o kept true ∷ before) (sym job.at_out) in
    subst (λ x. LeadsTo u j k (Fills x i (checked x)) now) same (by_move u j k (FindsSame (Some kept) i) call (c.1 j k (Some kept) of_same) tt tt)

-- a comparison that found another file, or failed
pub changed : (out new bytes found : List ℕ) (u : Bool) (i : ℕ) (call : Call) (before now : List Call) → ChangesNone call → Comes out new bytes found u (at.Synced i) before
    → now ≡ call ∷ before → Comes out new bytes found u (at.Broken i) now
changed out new bytes found u i call before now idle c e = λ j k job. record {
  move = Withdraws (read_of u found) i IsSynced;
  idle = tt;
  seen = tt;
  call = refl;
  leads = by_other u j k (Fills (read_of u found) i IsSynced) call e (c.1 j k (read_of u found) job) idle;
}

-- a file that was not read needs no comparison
pub unread : (out new bytes found : List ℕ) (u : Bool) (i : ℕ) (cs : List Call) → Comes out new bytes found u (at.Synced i) cs → Comes out new bytes found true (at.Ready i) cs
unread out new bytes found u i cs c = λ j k job.
    let l = c.1 j k None job in record { moves = l.moves; path = l.path; idle = l.idle; seen = tt; ends = l.ends; calls = l.calls }

puts_unread : (j : Job) (k i : ℕ) {before now : List Call} → now ≡ Renames j.new j.out ∷ before → LeadsTo true j k (Fills None i IsSynced) before
    → LeadsTo true j k ReplacedUnread now
puts_unread j k i e l = record {
  moves = PutsUnread i ∷ l.moves;
  path = (l.path, l.ends);
  idle = (l.idle, tt);
  seen = tt;
  ends = refl;
  calls = e ∙ ap (λ cs. Renames j.new j.out ∷ cs) l.calls;
}

renames : (u : Bool) (found : List ℕ) (j : Job) (k i : ℕ) {before now : List Call} → now ≡ renamed j.out j.new i before
    → LeadsTo u j k (Fills (read_of u found) i (checked (read_of u found))) before → LeadsTo u j k (finished (read_of u found)) now
renames true found j k i e l = puts_unread j k i e (by_other true j k (Fills None i IsSynced) (Looks j.new i true) refl l (λ d m. refl))
renames false found j k i e l =
    by_move false j k (Puts (Some found) i) e (by_other false j k (Fills (Some found) i FoundSame) (Looks j.new i true) refl l (λ d m. refl)) tt tt

pub renamed_to : (out new bytes found : List ℕ) (u : Bool) (i : ℕ) (before now : List Call) → Comes out new bytes found u (at.Ready i) before → now ≡ renamed out new i before
    → Comes out new bytes found u at.Put now
renamed_to out new bytes found u i before now c e = λ j k job.
    renames u found j k i (e ∙ ap (λ o. renamed o new i before) (sym job.at_out) ∙ ap (λ n. renamed j.out n i before) (sym job.at_new)) (c j k job)

-- the new name led to the new file, and the rename failed
unmoved : (u : Bool) (j : Job) (k i : ℕ) (s : Stage) (new : List ℕ) {before now : List Call} → now ≡ Fails ∷ Looks new i true ∷ before → LeadsTo u j k s before
    → LeadsTo u j k s now
unmoved u j k i s new {before} e l =
    let looked : LeadsTo u j k s (Looks new i true ∷ before) = by_other u j k s (Looks new i true) refl l (λ d m. refl) in
    by_other u j k s Fails e looked (λ d m. refl)

-- and then OUT was looked for
moved_none : (u : Bool) (j : Job) (k i : ℕ) (s : Stage) (out new : List ℕ) {before now : List Call} → Asks out (Fails ∷ Looks new i true ∷ before) now → LeadsTo u j k s before
    → LeadsTo u j k s now
moved_none u j k i s out new r l = asks u j k s out r (unmoved u j k i s new refl l)

unrenamed : (f : Unput) (u : Bool) (j : Job) (k i : ℕ) (s : Stage) (out new : List ℕ) {before now : List Call} → Unrenamed f out new i before now → LeadsTo u j k s before
    → LeadsTo u j k s now
unrenamed unput.Lost u j k i s out new r l = by_other u j k s (Looks new i false) r l (λ d m. refl)
unrenamed unput.Gone u j k i s out new r l = moved_none u j k i s out new r l
unrenamed unput.NotPut u j k i s out new r l = elim r [
  | inl e ↦ by_other u j k s Fails e l (λ d m. refl)
  | inr e ↦ moved_none u j k i s out new e l
]

pub lost : (out new bytes found : List ℕ) (u : Bool) (i : ℕ) (before now : List Call) → Comes out new bytes found u (at.Ready i) before → Unrenamed unput.Lost out new i before now
    → Comes out new bytes found u at.Over now
lost out new bytes found u i before now c r = λ j k job.
    (Fills (read_of u found) i (checked (read_of u found)), unrenamed unput.Lost u j k i (Fills (read_of u found) i (checked (read_of u found))) out new r (c j k job))

pub gone : (out new bytes found : List ℕ) (u : Bool) (i : ℕ) (before now : List Call) → Comes out new bytes found u (at.Ready i) before → Unrenamed unput.Gone out new i before now
    → Comes out new bytes found u at.Over now
gone out new bytes found u i before now c r = λ j k job.
    (Fills (read_of u found) i (checked (read_of u found)), unrenamed unput.Gone u j k i (Fills (read_of u found) i (checked (read_of u found))) out new r (c j k job))

-- the new file was not put, and can only be removed
removable : (f : Unput) (out new bytes found : List ℕ) (u : Bool) (i : ℕ) (before now : List Call) → Comes out new bytes found u (at.Ready i) before → Unrenamed f out new i before now
    → (j : Job) (k : ℕ) → IsJobOf j k (read_of u found) out new bytes → IsRemovable u j k now
removable f out new bytes found u i before now c r j k job = record {
  move = Withdraws (read_of u found) i (checked (read_of u found));
  idle = tt;
  seen = tt;
  call = refl;
  leads = unrenamed f u j k i (Fills (read_of u found) i (checked (read_of u found))) out new r (c j k job);
}

pub not_put : (out new bytes found : List ℕ) (u : Bool) (i : ℕ) (before now : List Call) → Comes out new bytes found u (at.Ready i) before → Unrenamed unput.NotPut out new i before now
    → Comes out new bytes found u (at.Broken i) now
not_put out new bytes found u i before now c r = removable unput.NotPut out new bytes found u i before now c r

-- the folder was synced, or could not be
pub landed : (out new bytes found : List ℕ) (u : Bool) (call : Call) (before now : List Call) → ChangesNone call → Lands out (call ∷ before) → Comes out new bytes found u at.Put before
    → now ≡ call ∷ before → Comes out new bytes found u at.Landed now
landed out new bytes found u call before now idle is c e =
    (subst (Lands out) (sym e) is, λ j k job. by_other u j k (finished (read_of u found)) call e (c j k job) idle)

pub not_landed : (out new bytes found : List ℕ) (u : Bool) (before now : List Call) → Comes out new bytes found u at.Put before → now ≡ Fails ∷ before → Comes out new bytes found u at.Over now
not_landed out new bytes found u before now c e = λ j k job. (finished (read_of u found), by_other u j k (finished (read_of u found)) Fails e (c j k job) (λ d m. refl))

pub gives_reserved : (out new bytes found : List ℕ) (u : Bool) (i : ℕ) (cs : List Call) → Comes out new bytes found u (at.Reserved i) cs → Comes out new bytes found u (at.Broken i) cs
gives_reserved out new bytes found u i cs c = λ j k job. record { move = GivesUp i; idle = tt; seen = tt; call = refl; leads = owns out new bytes found u i cs c j k (read_of u found) bytes job }

pub gives_owned : (out new bytes found : List ℕ) (u : Bool) (i : ℕ) (cs : List Call) → Comes out new bytes found u (at.Owned i) cs → Comes out new bytes found u (at.Broken i) cs
gives_owned out new bytes found u i cs c = λ j k job. record {
  move = Withdraws (read_of u found) i (IsPart (length bytes));
  idle = tt;
  seen = tt;
  call = refl;
  leads = grown out new bytes found u i cs c j k (read_of u found) job;
}

pub gives_synced : (out new bytes found : List ℕ) (u : Bool) (i : ℕ) (cs : List Call) → Comes out new bytes found u (at.Synced i) cs → Comes out new bytes found u (at.Broken i) cs
gives_synced out new bytes found u i cs c = λ j k job. record { move = Withdraws (read_of u found) i IsSynced; idle = tt; seen = tt; call = refl; leads = c.1 j k (read_of u found) job }

pub gives_ready : (out new bytes found : List ℕ) (u : Bool) (i : ℕ) (cs : List Call) → Comes out new bytes found u (at.Ready i) cs → Comes out new bytes found u (at.Broken i) cs
gives_ready out new bytes found u i cs c = λ j k job. record { move = Withdraws (read_of u found) i (checked (read_of u found)); idle = tt; seen = tt; call = refl; leads = c j k job }

clears : (u : Bool) (j : Job) (k i : ℕ) (new : List ℕ) (before now : List Call) → j.new ≡ new → IsRemovable u j k before → Clears new i before now → (s : Stage) × LeadsTo u j k s now
clears u j k i new before now is b r =
    let s = from b.move in
    let looked : LeadsTo u j k s (Looks new i true ∷ before) = by_other u j k s (Looks new i true) refl b.leads (λ d m. refl) in
    elim r [
      | inl denied ↦ elim denied [
        | inl other ↦ (s, by_other u j k s (Looks new i false) other b.leads (λ d m. refl))
        | inr failed ↦ (s, by_other u j k s Fails failed b.leads (λ d m. refl))
      ]
      | inr found ↦ elim found [
        | inl removed ↦
            (to b.move, by_move u j k b.move (removed ∙ ap (λ c. c ∷ Looks new i true ∷ before) (ap Unlinks (sym is) ∙ sym b.call)) looked b.idle b.seen)
        | inr failed ↦ (s, by_other u j k s Fails failed looked (λ d m. refl))
      ]
    ]

pub cleared : (out new bytes found : List ℕ) (u : Bool) (i : ℕ) (before now : List Call) → Comes out new bytes found u (at.Broken i) before → Clears new i before now
    → Comes out new bytes found u at.Over now
cleared out new bytes found u i before now c r = λ j k job. clears u j k i new before now job.at_new (c j k job) r

abbrev IsOnPath : Bool → Job → ℕ → List Call → Type 0
IsOnPath u j k cs = (ms : List Move) × IsPath ms × AreIdle ms × (cs ≡ calls_of j k ms) × HasReadUnless u ms

on_path : (u : Bool) (j : Job) (k : ℕ) (s : Stage) (cs : List Call) → LeadsTo u j k s cs → IsOnPath u j k cs
on_path u j k s cs l = (l.moves, l.path, l.idle, l.calls, l.seen)

pub each_on_path : (out new bytes found : List ℕ) (u : Bool) (a : At) (cs : List Call) → Comes out new bytes found u a cs → (j : Job) (k : ℕ) → IsJobOf j k (read_of u found) out new bytes
    → (ms : List Move) × IsPath ms × AreIdle ms × (cs ≡ calls_of j k ms) × HasReadUnless u ms
each_on_path out new bytes found u at.Start cs c j k job = on_path u j k Begins cs (loosen u j k Begins cs (c.1.1 j k (names_of j k (read_of u found) out new bytes job)))
each_on_path out new bytes found u (at.Reserved i) cs c j k job = on_path u j k (Owns i) cs (owns out new bytes found u i cs c j k (read_of u found) bytes job)
each_on_path out new bytes found u (at.Owned i) cs c j k job = on_path u j k (Fills (read_of u found) i (IsPart (length bytes))) cs (grown out new bytes found u i cs c j k (read_of u found) job)
each_on_path out new bytes found u (at.Synced i) cs c j k job = on_path u j k (Fills (read_of u found) i IsSynced) cs (c.1 j k (read_of u found) job)
each_on_path out new bytes found u (at.Ready i) cs c j k job = on_path u j k (Fills (read_of u found) i (checked (read_of u found))) cs (c j k job)
each_on_path out new bytes found u (at.Broken i) cs c j k job = let b = c j k job in on_path u j k (from b.move) cs b.leads
each_on_path out new bytes found u at.Put cs c j k job = on_path u j k (finished (read_of u found)) cs (c j k job)
each_on_path out new bytes found u at.Landed cs c j k job = on_path u j k (finished (read_of u found)) cs (c.1 j k job)
each_on_path out new bytes found u at.Over cs c j k job = let p = c j k job in on_path u j k p.0 cs p.1

pub put_there : (out new bytes found : List ℕ) (u : Bool) (cs : List Call) → Comes out new bytes found u at.Put cs → (j : Job) (k : ℕ) → IsJobOf j k (read_of u found) out new bytes
    → (ms : List Move) × IsPath ms × AreIdle ms × (cs ≡ calls_of j k ms) × (end ms ≡ finished (read_of u found))
put_there out new bytes found u cs c j k job = let l = c j k job in (l.moves, l.path, l.idle, l.calls, l.ends)
