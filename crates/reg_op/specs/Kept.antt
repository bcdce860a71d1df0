-- Kept operations, the least dropped one, and the least clash.
use Rattle.std.specs.Prelude.{◌≡◌, ℕ, true, false, List, Option, find, option_map}
use Rattle.reg_op.specs.Set as set
use Rattle.reg_op.specs.Finite.{any}
use Rattle.reg_op.specs.Ids.{Id, is_before}
use Rattle.reg_op.specs.Operations.{Op, Enter, Supersede, Retire, Ops, replaces, kept, clashes}
use Rattle.reg_op.specs.Status.{retires}

-- an effect with its id and note
abbrev pub entering : Id → List ℕ → List ℕ → Op
entering i text note = record { id = i; body = Enter text; note = note }

abbrev pub superseding : Id → Id → Id → List ℕ → Op
superseding i old newer note = record { id = i; body = Supersede old newer; note = note }

abbrev pub retiring : Id → Id → List ℕ → Op
retiring i entry note = record { id = i; body = Retire entry; note = note }

-- the retirement of an entry with the least id, whatever the notes
pub record IsLeastRetirement (s : Ops) (i entry : Id) (note : List ℕ) : Type 0 where
  pub there : set.contains s (retiring i entry note) ≡ true
  pub least : (j : Id) (other : List ℕ) → set.contains s (retiring j entry other) ≡ true → is_before j i ≡ false

-- the supersession of a pair with the least id, whatever the notes, if the old entry is not retired
pub record IsLeastSupersession (s : Ops) (i old newer : Id) (note : List ℕ) : Type 0 where
  pub there : set.contains s (superseding i old newer note) ≡ true
  pub least : (j : Id) (other : List ℕ) → set.contains s (superseding j old newer other) ≡ true → is_before j i ≡ false
  pub stands : retires s old ≡ false

-- the least id that has two bodies
pub record IsLeastClash (s : Ops) (i : Id) : Type 0 where
  pub one : Op
  pub other : Op
  pub has_one : set.contains s one ≡ true
  pub has_other : set.contains s other ≡ true
  pub at : one.id ≡ i
  pub differ : clashes other one ≡ true
  pub least : (p o : Op) → set.contains s p ≡ true → set.contains s o ≡ true → clashes p o ≡ true → is_before o.id i ≡ false

-- the least id that kept drops. A set's items ascend by id
abbrev pub first_dropped : Ops → Option Id
first_dropped s = option_map (λ o. o.id) (find (λ o. any (λ p. replaces p o) s) (set.items s))

-- the least id of an operation that is not kept
pub record IsLeastDropped (s : Ops) (i : Id) : Type 0 where
  pub one : Op
  pub there : set.contains s one ≡ true
  pub dropped : set.contains (kept s) one ≡ false
  pub at : one.id ≡ i
  pub least : (o : Op) → set.contains s o ≡ true → set.contains (kept s) o ≡ false → is_before o.id i ≡ false
