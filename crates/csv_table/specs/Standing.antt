-- The name that stands for an office, and what rows give an office or a name.
use Rattle.std.specs.Prelude.{◌≡◌, ◌&&◌, ℕ, List, [], ◌∷◌, Option, Some, None, option_map, if◌then◌else◌}
use Rattle.std.specs.Global.{Vec}
use Rattle.std.specs.Borrow.{Bor}
use Rattle.std.specs.BTreeMap.{BTreeMap, get_by}
use Rattle.std.specs.Cmp.Lexicographic.{slice_cmp}
use Rattle.std.specs.List.{find}
use Rattle.std.specs.Ordering.{nat_cmp}
use Rattle.std.specs.Str.{bytes_eq}
use Rattle.csv_table.specs.declared.offices.names.Name.{Name}
use Rattle.csv_table.specs.Names.{stands}

-- the name of the first row of this office that stands
abbrev pub standing : List Name → List ℕ → Option (List ℕ)
standing names office = option_map (λ (n : Name). n.name.items) (find (λ n. bytes_eq n.office.items office && stands names n) names)

-- ---- what rows give

abbrev pub by_office : Name → List ℕ × List ℕ
by_office n = (n.office.items, n.name.items)

abbrev pub by_name : Name → List ℕ × List ℕ
by_name n = (n.name.items, n.office.items)

-- one more value of a key: the value, or nothing if another was given
abbrev pub joined : List ℕ → Option (Option (List ℕ)) → Option (List ℕ)
joined v None = Some v
joined v (Some None) = None
joined v (Some (Some w)) = if bytes_eq w v then Some v else None

-- what some pairs give a key, if it is among them: a value, or nothing if they differ
abbrev pub partner : List (List ℕ × List ℕ) → List ℕ → Option (Option (List ℕ))
partner [] k = None
partner (p ∷ ps) k = if bytes_eq p.0 k then Some (joined p.1 (partner ps k)) else partner ps k

abbrev pub only : Option (Option (List ℕ)) → Option (List ℕ)
only None = None
only (Some v) = v

abbrev pub given_in : Option (Bor (List ℕ)) → Option (List ℕ)
given_in v = option_map (λ (b : Bor (List ℕ)). b.now) v

-- a map has what these pairs give
abbrev pub Has : BTreeMap (Vec ℕ) (Option (Bor (List ℕ))) → List (List ℕ × List ℕ) → Type 0
Has m ps = (k : List ℕ) → option_map given_in (get_by (λ (own : Vec ℕ). slice_cmp nat_cmp k own.items) m) ≡ partner ps k
