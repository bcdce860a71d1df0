-- The place at which an entry is named again.
use Rattle.std.specs.Prelude.{◌≡◌, ℕ, ◌<◌, ◌≤◌, true, false, List, length, slice_index_or, take}
use Rattle.std.specs.List.{list_any}
use Rattle.reg_op.specs.Ids.{Id, is_same}

-- no entry before this index is a repeat; the one at it is, if there is one
pub record IsFirstRepeat (named : List Id) (at : ℕ) : Type 0 where
  pub within : at ≤ length named
  pub fresh : (k : ℕ) (d : Id) → k < at → list_any (is_same (slice_index_or named k d)) (take k named) ≡ false
  pub again : (d : Id) → at < length named → list_any (is_same (slice_index_or named at d)) (take at named) ≡ true
