-- The rows of superseded entries.
use Rattle.std.specs.Prelude.{◌≡◌, List, [], ◌∷◌}
use Rattle.reg_op.specs.Rows.{Row}
use Rattle.reg_report.specs.Rows.{HasRow}
use Rattle.reg_disorder.specs.declared.linking.link.Link.{Link}

-- the row of the old entry of each link, in their order
abbrev pub HaveRows : List Row → List Link → List Row → Type 0
HaveRows rs [] made = made ≡ []
HaveRows rs (l ∷ ls) made = (r : Row) × (rest : List Row) × HasRow rs l.old r × HaveRows rs ls rest × (made ≡ r ∷ rest)
