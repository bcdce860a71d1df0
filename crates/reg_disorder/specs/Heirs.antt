-- The search for entries from which a chain of supersessions leads to a valid one.
use Rattle.std.specs.Prelude.{◌≡◌, ◌≢◌, [], ◌∷◌, Some, ◌||◌, ◌⊎◌, ◌↔◌, ◌++◌, Bool, true, false, List, map, filter, Contains}
use Rattle.std.specs.BTreeSet.{BTreeSet, contains}
use Rattle.std.specs.declared.cmp.Ordering.{Ordering}
use Rattle.std.specs.Ordering.{ordering_then}
use Rattle.reg_op.specs.Ids.{Id, id_cmp, is_same}
use Rattle.reg_op.specs.Rows.{Row}
use Rattle.reg_op.specs.declared.status.Status.TheVariants.{Valid}
use Rattle.reg_disorder.specs.declared.link.OlderLink.{OlderLink}
use Rattle.reg_disorder.specs.Disorders.{IsValid, IsSupersededBy, LeadsToValid}

-- ---- links

abbrev pub link_cmp : OlderLink → OlderLink → Ordering
link_cmp a b = ordering_then (id_cmp a.newer b.newer) (id_cmp a.old b.old)

abbrev pub link_to : Id → Id → OlderLink
link_to old newer = record { newer = newer; old = old }

abbrev pub is_of : Id → OlderLink → Bool
is_of newer x = is_same newer x.newer

-- a link for each entry that is not retired and each that supersedes it
abbrev pub AreLinks : List Row → List OlderLink → Type 0
AreLinks rs links = (x : OlderLink) → Contains links x ↔ IsSupersededBy rs x.old x.newer

-- ---- the search

-- a row's entry is added at the end if it is valid
abbrev pub AddsValid : Row → List Id → List Id → Type 0
AddsValid r old new = ((r.status ≡ Some Valid) × (new ≡ old ++ r.entry ∷ [])) ⊎ ((r.status ≢ Some Valid) × (new ≡ old))

abbrev pub AreValid : List Row → List Id → Type 0
AreValid rs ids = (e : Id) → Contains ids e ↔ IsValid rs e

abbrev pub IdSet : Type 0
IdSet = BTreeSet Id

abbrev pub has_id : IdSet → Id → Bool
has_id s e = contains id_cmp s e

-- the id was found before; or it is found now, and the entries that it supersedes are to do
abbrev pub Visits : List OlderLink → Id → List Id → IdSet → List Id → IdSet → Type 0
Visits links id todo found later next =
    ((has_id found id ≡ true) × (later ≡ todo) × ((e : Id) → has_id next e ≡ has_id found e))
    ⊎ ((has_id found id ≡ false) × (later ≡ todo ++ map (λ (x : OlderLink). x.old) (filter (is_of id) links)) × ((e : Id) → has_id next e ≡ (is_same id e || has_id found e)))

-- the entry that a link supersedes is added at the end if the other one is among these
abbrev pub AddsFirst : List Id → OlderLink → List Id → List Id → Type 0
AddsFirst valid x old new = (Contains valid x.newer × (new ≡ old ++ x.old ∷ [])) ⊎ ((¬ (Contains valid x.newer)) × (new ≡ old))

-- these are what links supersede by one of the valid entries
abbrev pub AreFirst : List Id → List OlderLink → List Id → Type 0
AreFirst valid links ids = (e : Id) → Contains ids e ↔ ((x : OlderLink) × Contains links x × (x.old ≡ e) × Contains valid x.newer)

-- a chain of at least one supersession leads from e to a valid entry
abbrev pub HasHeir : List Row → Id → Type 0
HasHeir rs e = (n : Id) × (chain : List Id) × LeadsToValid rs e (n ∷ chain)

abbrev pub HaveHeirs : List Row → IdSet → Type 0
HaveHeirs rs found = (e : Id) → (has_id found e ≡ true) ↔ HasHeir rs e
