-- Names of others.
use Rattle.std.specs.Prelude.{◌≡◌, ℕ, Bool, List, Option, Some, None, if◌then◌else◌}
use Rattle.std.specs.Borrow.{Bor}
use Rattle.std.specs.BTreeSet.{BTreeSet, contains_by}
use Rattle.std.specs.List.{list_any}
use Rattle.std.specs.Str.{bytes_eq}
use Rattle.crs_said.specs.Claims.{Said}
use Rattle.reg_sense.specs.Claimants.{Voice, first_told}
use Rattle.reg_sense.specs.Tallies.{bytes_cmp}

abbrev pub is_among : List (List ℕ) → List ℕ → Bool
is_among names word = list_any (λ name. bytes_eq name word) names

-- what a claim says, if its word is one of these names
abbrev pub name_told : List (List ℕ) → Said → Option (List ℕ)
name_told names x = if is_among names x.word then Some x.said else None

-- the first such claim of one
abbrev pub told_names : List (List ℕ) → Voice → Option (List ℕ)
told_names names v = first_told (name_told names) v.claims

-- the set has these names
abbrev pub HasNames : BTreeSet (Bor (List ℕ)) → List (List ℕ) → Type 0
HasNames set names = (q : Bor (List ℕ)) → contains_by (bytes_cmp q) set ≡ is_among names q.now
