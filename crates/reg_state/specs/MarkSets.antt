-- Marks, and the least mark of each target.
use Rattle.std.specs.Prelude.{◌≡◌, Bool, true, false, ◌&&◌, List, [], ◌∷◌, Option, Some, None, if◌then◌else◌, refl}
use Rattle.std.specs.List.{list_any}
use Rattle.std.specs.List.Sorted.{IsSorted}
use Rattle.std.specs.declared.cmp.Ordering.{Ordering}
use Rattle.std.specs.Option.{option_cmp}
use Rattle.std.specs.Ordering.{ordering_then, is_eq, is_lt, eq_by_cmp}
use Rattle.std.specs.Coded.{Coded, code_by, coded×, coded_option}
use Rattle.reg_op.specs.Set as set
use Rattle.reg_op.specs.Finite.{topmost}
use Rattle.reg_op.specs.Ids.{Id, id_cmp, is_before, is_same, id_code}
use Rattle.reg_state.specs.declared.mark.Mark.{Mark}
use Rattle.reg_state.specs.declared.mark.MarkTarget.{MarkTarget}

-- marks are ordered by the entry, its retirement before its supersessions, and by the id
abbrev pub target_cmp : MarkTarget → MarkTarget → Ordering
target_cmp a b = ordering_then (id_cmp a.entry b.entry) (option_cmp id_cmp a.by b.by)

abbrev pub mark_cmp : Mark → Mark → Ordering
mark_cmp a b = ordering_then (target_cmp a.target b.target) (id_cmp a.id b.id)

abbrev pub is_at : MarkTarget → Mark → Bool
is_at t m = is_eq (target_cmp m.target t)

abbrev pub MarkSet : Type 0
MarkSet = set.Set mark_cmp

abbrev pub mark_code : Coded Mark
mark_code =
    code_by ((Id × Option Id) × Id) (coded× (coded× id_code (coded_option id_code)) id_code) (λ m. ((m.target.entry, m.target.by), m.id))
    (λ p. record { target = record { entry = p.0.0; by = p.0.1 }; id = p.1 }) (λ _. refl)

-- p makes m redundant: m retires the same entry, or supersedes it by the same one, and has a greater id; or m supersedes
-- an entry that p retires
abbrev pub lessens_by : Option Id → Option Id → Bool → Bool
lessens_by None None before = before
lessens_by None (Some n) before = true
lessens_by (Some n) None before = false
lessens_by (Some n) (Some o) before = is_same n o && before

abbrev pub lessens : Mark → Mark → Bool
lessens p m = is_same p.target.entry m.target.entry && lessens_by p.target.by m.target.by (is_before p.id m.id)

-- the marks that a mark at the target makes redundant: a greater one there and, if it retires an entry, each supersession of it
abbrev pub covers_by : Option Id → Option Id → Bool
covers_by None by = true
covers_by (Some n) None = false
covers_by (Some n) (Some o) = is_same n o

abbrev pub covers : MarkTarget → Mark → Bool
covers t m = is_same t.entry m.target.entry && covers_by t.by m.target.by

-- the least: those that no other makes redundant
abbrev pub least : MarkSet → MarkSet
least s = topmost lessens s

-- none is redundant
abbrev pub AreLeast : MarkSet → Type 0
AreLeast s = least s ≡ s

-- they ascend, and none is redundant
pub record AreMarks (ms : List Mark) : Type 0 where
  pub sorted : IsSorted mark_cmp ms
  pub are_least : AreLeast (set.from_list ms)

abbrev pub has : List Mark → Mark → Bool
has ms m = list_any (eq_by_cmp mark_cmp m) ms

-- no mark below the target passes; from the target on, a mark that is no later than one that passes passes too
pub record BeginsAt (target : MarkTarget) (t : Mark → Bool) : Type 0 where
  pub from : (m : Mark) → t m ≡ true → is_lt (target_cmp m.target target) ≡ false
  pub down : (m n : Mark) → is_lt (mark_cmp n m) ≡ false → is_lt (target_cmp m.target target) ≡ false → t n ≡ true → t m ≡ true

-- of the sorted marks after a target's first, those not covered by an earlier one
abbrev pub is_covered : Option MarkTarget → Mark → Bool
is_covered None m = false
is_covered (Some t) m = covers t m

abbrev pub firsts : Option MarkTarget → List Mark → List Mark
firsts t [] = []
firsts t (m ∷ ms) = if is_covered t m then firsts t ms else (m ∷ firsts (Some m.target) ms)
