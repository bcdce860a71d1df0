-- The effects of the lines so far, and the content that they make.
use Rattle.std.specs.Prelude.{◌≡◌, ◌⊎◌, ◌≤◌, ◌+◌, ◌++◌, [], ◌∷◌, ℕ, Bool, not, ◌||◌, true, false, List, Option, Some, None, Err, length, map, if◌then◌else◌}
use Rattle.std.specs.List.{list_any}
use Rattle.std.specs.BTreeSet.{BTreeSet, contains}
use Rattle.std.specs.declared.cmp.Ordering.{Ordering}
use Rattle.std.specs.Ordering.{ordering_then, nat_cmp}
use Rattle.std.specs.Borrow.{Bor}
use Rattle.std.specs.Cmp.Lexicographic.{slice_cmp}
use Rattle.reg_op.specs.Set as set
use Rattle.reg_op.specs.Ids.{Id, id_cmp, is_same}
use Rattle.reg_op.specs.Operations.{Op, Ops, op_cmp}
use Rattle.reg_op.specs.declared.operation.OpBody.{OpBody as Body}
use Rattle.reg_op.specs.declared.operation.OpBody.TheVariants.{Supersede}
use Rattle.reg_op.specs.Contents.{Content, state, merged}
use Rattle.reg_op.specs.Status.{enters, retires, is_supersession}
use Rattle.reg_office.specs.declared.fault.OfficeFault.{OfficeFault}
use Rattle.reg_office.specs.declared.fault.OfficeFault.TheVariants as fault
use Rattle.reg_office.specs.Making.{greatest, numbered, new_ops, objections, note_fault, made}
use Rattle.reg_keys.specs.Every.{StandsForEvery, StandForEach}
use Rattle.reg_supersede.specs.declared.list_options.ListOptions.{ListOptions}
use Rattle.reg_supersede.specs.declared.pair.Pair.{Pair}
use Rattle.reg_supersede.specs.declared.fault.RefusedLine.{RefusedLine}
use Rattle.reg_supersede.specs.declared.fault.LineFault.{LineFault}
use Rattle.reg_supersede.specs.declared.fault.LineFault.TheVariants as line
use Rattle.reg_supersede.specs.Lines.{words}
use Rattle.reg_supersede.specs.Lists.{Task, rows_if, is_there, is_pair, pairs_of, lacking, bodies_of, IsRefusal, DoesLine, RefusesLine, RefusesAll}

abbrev pub task_of : ListOptions → Task
task_of o = record { replica = o.replica; note = o.note.now; keys = o.keys; rows = rows_if o.keys o.register.now; keep_going = o.keep_going }

-- ---- effects on a content

-- the content after some effects of the office
abbrev pub after : Task → Content → List Body → Content
after t x bs = merged x (state (set.from_list {R = op_cmp} (new_ops x t.replica t.note bs)))

-- the number of the next effect, and the ids of the operations of the effects
abbrev pub next : Task → Content → List Body → ℕ
next t x bs = greatest t.replica x.seen + 1 + length bs

abbrev pub ids_of : Task → Content → List Body → List Id
ids_of t x bs = map (λ (o : Op). o.id) (new_ops x t.replica t.note bs)

-- each supersedes
abbrev pub AreSupersessions : List Body → Type 0
AreSupersessions [] = Unit {0}
AreSupersessions (Supersede old newer ∷ bs) = AreSupersessions bs
AreSupersessions (b ∷ bs) = ⊥

-- one of them supersedes this entry by that one
abbrev pub has_pair : List Body → Id → Id → Bool
has_pair bs old newer = list_any (is_supersession old (is_same newer)) bs

-- a pair is ordered by the old entry, then by the newer one
abbrev pub pair_cmp : Pair → Pair → Ordering
pair_cmp a b = ordering_then (id_cmp a.old b.old) (id_cmp a.newer b.newer)

-- the set has exactly the pairs of the effects
abbrev pub ArePairs : BTreeSet Pair → List Body → Type 0
ArePairs pairs bs = (old newer : Id) → contains pair_cmp pairs (record { old = old; newer = newer }) ≡ has_pair bs old newer

-- the office can make these effects: each supersedes, none is refused, and there are enough numbers
pub record CanMake (t : Task) (x : Content) (bs : List Body) : Type 0 where
  pub supersede : AreSupersessions bs
  pub none_refused : objections x (new_ops x t.replica t.note bs) ≡ None
  pub fit : greatest t.replica x.seen + length bs ≤ 4294967295

-- and it can make those of one more line
pub record CanAdd (t : Task) (x : Content) (bs cs : List Body) : Type 0 where
  pub short : note_fault t.note ≡ None
  pub none_refused : objections (after t x bs) (numbered t.replica (next t x bs) t.note cs) ≡ None
  pub fit : greatest t.replica x.seen + length bs + length cs ≤ 4294967295

-- why a pair that is not there yet is not made
abbrev pub pair_fault : Ops → Pair → Option OfficeFault
pair_fault ops p =
    if not (enters ops p.old) then Some (fault.UnknownEntry p.old)
    else (if not (enters ops p.newer) then Some (fault.UnknownEntry p.newer)
    else (if is_same p.old p.newer then Some fault.SameEntry
    else (if retires ops p.old then Some (fault.AlreadyRetired p.old)
    else (if retires ops p.newer then Some (fault.AlreadyRetired p.newer) else None))))

-- the set has exactly these pairs
abbrev pub HasPairs : BTreeSet Pair → List Pair → Type 0
HasPairs pairs ps = (p : Pair) → contains pair_cmp pairs p ≡ list_any (is_pair p) ps

-- one pair more of a line is there already, in the content or among the earlier ones
abbrev pub is_known : Ops → Pair → List Pair → Bool
is_known now p before = is_there now p || list_any (is_pair p) before

-- it is passed over; or nothing is against it, and it is added at the end
abbrev pub AddsPair : Ops → Ops → Pair → List Pair → List Pair → Type 0
AddsPair ops now p old new = ((is_known now p old ≡ true) × (new ≡ old)) ⊎ ((is_known now p old ≡ false) × (pair_fault ops p ≡ None) × (new ≡ old ++ p ∷ []))

-- this is against it
abbrev pub IsPairFault : Ops → Ops → Pair → List Pair → LineFault → Type 0
IsPairFault ops now p old f = IsRefusal f → (g : OfficeFault) × (is_known now p old ≡ false) × (pair_fault ops p ≡ Some g) × (f ≡ line.Office g)

-- why the pairs of a line are not added
abbrev pub IsAddFault : Task → Content → List Pair → LineFault → Type 0
IsAddFault t x ps f = IsRefusal f → (g : OfficeFault) × (made x t.replica t.note (bodies_of ps) ≡ Err g) × (f ≡ line.Office g)

-- the pairs that a line of these words adds, which the office can make
abbrev pub AddsFor : Task → Content → List Body → List (List ℕ) → List Pair → Type 0
AddsFor t x bs [] ps = ps ≡ []
AddsFor t x bs (w ∷ []) ps = ⊥
AddsFor t x bs (w ∷ v ∷ ws) ps = (olds : List Id) × (newer : List Id) × StandsForEvery t.rows w olds × StandForEach t.rows (v ∷ ws) newer
    × (ps ≡ lacking (after t x bs).ops [] (pairs_of olds newer)) × CanAdd t x bs (bodies_of ps)

-- ---- one line more

-- it is done: these are the effects then; or it is refused and left out
abbrev pub StepsOn : Task → Content → ℕ → List ℕ → List Body → List RefusedLine → List Body → List RefusedLine → Type 0
StepsOn t x n text old left new more =
    ((now : List Id) × DoesLine t (after t x old) text (after t x new) now × (ids_of t x new ≡ ids_of t x old ++ now) × (more ≡ left))
    ⊎ ((f : LineFault) × (t.keep_going ≡ true) × RefusesLine t (after t x old) text f × (new ≡ old) × (more ≡ left ++ record { line = n; fault = f } ∷ []))

-- ---- lines that are done

abbrev pub bytes_cmp : Bor (List ℕ) → Bor (List ℕ) → Ordering
bytes_cmp a b = slice_cmp nat_cmp a.now b.now

-- after these effects no line of the set adds a pair
abbrev pub AreDone : Task → Content → List Body → BTreeSet (Bor (List ℕ)) → Type 0
AreDone t x bs done = (q : Bor (List ℕ)) → contains bytes_cmp done q ≡ true → AddsFor t x bs (words q.now) []

-- the second set has the lines of the first, and no other but this one
abbrev pub HasMore : List ℕ → BTreeSet (Bor (List ℕ)) → BTreeSet (Bor (List ℕ)) → Type 0
HasMore text old new = (q : Bor (List ℕ)) → contains bytes_cmp new q ≡ true → (q.now ≡ text) ⊎ (contains bytes_cmp old q ≡ true)

-- ---- why a line makes nothing, unless there is no memory

abbrev pub IsLineFault : Task → Content → List ℕ → LineFault → Type 0
IsLineFault t x text f = IsRefusal f → RefusesLine t x text f

-- refused lines are not left out
abbrev pub IsNotLeft : Bool → RefusedLine → RefusedLine → Type 0
IsNotLeft keep_going f g = IsRefusal g.fault → (keep_going ≡ false) × (g ≡ f)

abbrev pub IsStepFault : Task → Content → ℕ → List ℕ → RefusedLine → Type 0
IsStepFault t x n text f = IsRefusal f.fault → (t.keep_going ≡ false) × RefusesLine t x text f.fault × (f.line ≡ n)

abbrev pub IsListFault : Task → Content → List (List ℕ) → RefusedLine → Type 0
IsListFault t x lines f = IsRefusal f.fault → RefusesAll t x lines f
