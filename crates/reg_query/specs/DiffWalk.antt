-- One step of the walk along two lists of rows.
use Rattle.std.specs.Prelude.{◌≡◌, ◌≢◌, ◌⊎◌, ◌++◌, List, [], ◌∷◌}
use Rattle.reg_op.specs.Rows.{Row}
use Rattle.reg_query.specs.declared.diff.change.Sign.TheVariants.{Gone, Come}
use Rattle.reg_query.specs.Changes.{Change, signed}

-- two rows of one entry add both at the end, unless they are one row
abbrev pub AddsUnlike : Row → Row → List Change → List Change → Type 0
AddsUnlike gone come old new = ((gone ≡ come) × (new ≡ old)) ⊎ ((gone ≢ come) × (new ≡ old ++ signed Gone gone ∷ signed Come come ∷ []))
