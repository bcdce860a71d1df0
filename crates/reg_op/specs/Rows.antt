-- The rows of a set of operations, the keys in conflict, and the awaited ids.
use Rattle.std.specs.Prelude.{◌≢◌, ℕ, not, List, [], ◌∷◌, Contains, Option, Some, if◌then◌else◌}
use Rattle.std.specs.List.{flat_map}
use Rattle.reg_op.specs.Set as set
use Rattle.reg_op.specs.Ids.{Id, Ids, is_same}
use Rattle.reg_op.specs.Operations.{Body, Enter, Supersede, Retire, named_in, Op, Ops, kept}
use Rattle.reg_op.specs.Status.{Status, Retired, enters, retires, status}

-- an entry: its id, its definition's text, its status, and the newer entries that supersede it
pub record Row : Type 0 where
  pub entry : Id
  pub definition : List ℕ
  pub status : Option Status
  pub newer : List Id

abbrev pub newer_in : Id → Body → List Id
newer_in e (Enter text) = []
newer_in e (Supersede old newer) = if is_same e old then newer ∷ [] else []
newer_in e (Retire entry) = []

-- the entries that supersede an entry that is not retired, ordered by id
abbrev pub newer_of : Ops → Id → Ids
newer_of s e = if retires s e then set.empty else set.from_list (flat_map (λ (o : Op). newer_in e o.body) (set.items s))

abbrev pub rows_at : Ops → Id → Body → List Row
rows_at s e (Enter text) = record { entry = e; definition = text; status = status s e; newer = set.items (newer_of s e) } ∷ []
rows_at s e (Supersede old newer) = []
rows_at s e (Retire entry) = []

-- a row for each entry, ordered by id
abbrev pub rows : Ops → List Row
rows s = flat_map (λ (o : Op). rows_at s o.id o.body) (set.items s)

-- two entries with the key, neither of them retired, have different texts. The key of a text is a parameter
pub record IsInConflict {Key : Type 0} (HasKey : List ℕ → Key → Type 0) (rs : List Row) (key : Key) : Type 0 where
  pub one : Row
  pub other : Row
  pub has_one : Contains rs one
  pub has_other : Contains rs other
  pub one_stands : one.status ≢ Some Retired
  pub other_stands : other.status ≢ Some Retired
  pub key_of_one : HasKey one.definition key
  pub key_of_other : HasKey other.definition key
  pub differ : one.definition ≢ other.definition

-- the ids that kept operations name, and that were not entered
abbrev pub awaited : Ops → Ids
awaited s = set.retain (set.from_list (flat_map (λ (o : Op). named_in o.body) (set.items (kept s)))) (λ i. not (enters s i))
