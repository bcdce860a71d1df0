-- The pairs of the page: each entry of a key in conflict beside the next one.
use Rattle.std.specs.Prelude.{◌≡◌, ◌⊎◌, ℕ, List, [], ◌∷◌, map, Contains}
use Rattle.html_page.specs.Shown as shown
use Rattle.reg_op.specs.Ids.{Id}
use Rattle.reg_op.specs.Text.{printed}
use Rattle.reg_report.specs.Conflicts.{KeyBytes, Contested}

-- a key, and some pairs of ids
abbrev pub Paired : Type 0
Paired = (List ℕ × List ℕ) × List (List ℕ × List ℕ)

abbrev pub neighbours_from : List ℕ → List (List ℕ) → List (List ℕ × List ℕ)
neighbours_from i [] = []
neighbours_from i (j ∷ js) = (i, j) ∷ neighbours_from j js

-- each of some ids beside the next one
abbrev pub neighbours : List (List ℕ) → List (List ℕ × List ℕ)
neighbours [] = []
neighbours (i ∷ is) = neighbours_from i is

abbrev pub sides : shown.Pair → List ℕ × List ℕ
sides p = (p.first.id, p.second.id)

-- a key on the page, with the ids of the two sides of each pair
abbrev pub paired : shown.Conflict → Paired
paired c = ((c.authority, c.code), map sides c.pairs)

-- a key in conflict, with each of its entries beside the next one
abbrev pub contested : Contested → Paired
contested k = ((k.key.authority, k.key.code), neighbours (map printed k.entries))

-- the page has a pair with the entry below the key
pub record IsPaired (s : shown.Shown) (k : KeyBytes) (entry : Id) : Type 0 where
  pub conflict : shown.Conflict
  pub there : Contains s.conflicts conflict
  pub authority : conflict.authority ≡ k.authority
  pub code : conflict.code ≡ k.code
  pub pair : shown.Pair
  pub below : Contains conflict.pairs pair
  pub is : (pair.first.id ≡ printed entry) ⊎ (pair.second.id ≡ printed entry)
