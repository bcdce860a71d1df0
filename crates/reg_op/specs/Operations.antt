-- Operations, and sets of them.
use Rattle.std.specs.Prelude.{◌≡◌, ◌≢◌, ℕ, Bool, true, false, not, ◌&&◌, List, [], ◌∷◌, map, Option, find, option_map}
use Rattle.std.specs.declared.cmp.Ordering.{Ordering}
use Rattle.std.specs.Ordering.{nat_cmp, ordering_then, is_eq}
use Rattle.std.specs.Cmp.Lexicographic.{slice_cmp}
use Rattle.wkt_crs.specs.Definition.{IsDefinition}
use Rattle.reg_op.specs.Set as set
use Rattle.reg_op.specs.Finite.{any, topmost}
use Rattle.reg_op.specs.Ids.{Id, IsId, Ids, id_cmp, is_before, is_same}
use Rattle.reg_op.specs.Notes.{IsNote}
pub use Rattle.reg_op.specs.declared.operation.OpBody.{OpBody as Body}
pub use Rattle.reg_op.specs.declared.operation.OpBody.TheVariants.{Enter, Supersede, Retire}

-- an effect with its own id and note
pub record Op : Type 0 where
  pub id : Id
  pub body : Body
  pub note : List ℕ

-- a definition is entered, an entry is superseded by another, an entry is retired
abbrev pub IsBody : Body → Type 0
IsBody (Enter text) = IsDefinition text
IsBody (Supersede old newer) = IsId old × IsId newer × (old ≢ newer)
IsBody (Retire entry) = IsId entry

pub record IsOperation (o : Op) : Type 0 where
  pub id : IsId o.id
  pub body : IsBody o.body
  pub note : IsNote o.note

-- the entry would supersede itself
abbrev pub IsOfItself : Body → Type 0
IsOfItself (Enter text) = ⊥
IsOfItself (Supersede old newer) = old ≡ newer
IsOfItself (Retire entry) = ⊥

-- a body's kind, its text, and the ids that it names
abbrev pub kind_of : Body → ℕ
kind_of (Enter text) = 0
kind_of (Supersede old newer) = 1
kind_of (Retire entry) = 2

abbrev pub text_of : Body → List ℕ
text_of (Enter text) = text
text_of (Supersede old newer) = []
text_of (Retire entry) = []

abbrev pub named_in : Body → List Id
named_in (Enter text) = []
named_in (Supersede old newer) = old ∷ newer ∷ []
named_in (Retire entry) = entry ∷ []

abbrev pub body_cmp : Body → Body → Ordering
body_cmp a b =
    ordering_then (nat_cmp (kind_of a) (kind_of b))
    (ordering_then (slice_cmp nat_cmp (text_of a) (text_of b)) (slice_cmp id_cmp (named_in a) (named_in b)))

-- operations are ordered by the id, then by the body and the note
abbrev pub op_cmp : Op → Op → Ordering
op_cmp a b = ordering_then (id_cmp a.id b.id) (ordering_then (body_cmp a.body b.body) (slice_cmp nat_cmp a.note b.note))

-- a set of operations
abbrev pub Ops : Type 0
Ops = set.Set op_cmp

-- the set of one operation
abbrev pub one : Op → Ops
one o = set.insert set.empty o

-- the ids of a set
abbrev pub ids : Ops → Ids
ids s = set.from_list (map (λ o. o.id) (set.items s))

-- no id has two bodies, nor two notes
abbrev pub OneBody : Ops → Type 0
OneBody s = (p o : Op) → set.contains s p ≡ true → set.contains s o ≡ true → p.id ≡ o.id → p ≡ o

-- p makes o redundant: p is a lesser retirement of the same entry, a lesser supersession of the same pair, or a
-- retirement of the entry that o supersedes
abbrev pub replaces_body : Bool → Body → Body → Bool
replaces_body before (Retire entry) (Retire other) = is_same entry other && before
replaces_body before (Retire entry) (Supersede old newer) = is_same entry old
replaces_body before (Supersede old newer) (Supersede other by) = is_same old other && (is_same newer by && before)
replaces_body before p o = false

abbrev pub replaces : Op → Op → Bool
replaces p o = replaces_body (is_before p.id o.id) p.body o.body

-- the operations of a set that no other makes redundant
abbrev pub kept : Ops → Ops
kept s = topmost replaces s

-- the id is the same, and the body or the note is not
abbrev pub clashes : Op → Op → Bool
clashes p o = is_same p.id o.id && not (is_eq (op_cmp p o))

abbrev pub has_other_body : Ops → Op → Bool
has_other_body s o = any (λ p. clashes p o) s

-- the least id that has two bodies. A set's items ascend by id
abbrev pub first_clash : Ops → Option Id
first_clash s = option_map (λ o. o.id) (find (has_other_body s) (set.items s))
