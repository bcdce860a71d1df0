-- Keys that are new.
use Rattle.std.specs.Prelude.{◌≡◌, not, Bool, List, filter}
use Rattle.std.specs.List.{list_any, dedup}
use Rattle.std.specs.Ordering.{is_eq}
use Rattle.reg_report.specs.Conflicts.{KeyBytes, key_cmp}
use Rattle.reg_disorder.specs.Keys.{KeySet, has_key}

abbrev pub same_key : KeyBytes → KeyBytes → Bool
same_key a b = is_eq (key_cmp a b)

-- of the later keys, which are in order, those that are none of the earlier ones, each once
abbrev pub fresh_keys : List KeyBytes → List KeyBytes → List KeyBytes
fresh_keys earlier later = filter (λ k. not (list_any (same_key k) earlier)) (dedup same_key later)

-- ---- keys in a set

abbrev pub HasKeys : List KeyBytes → KeySet → Type 0
HasKeys ks s = (k : KeyBytes) → has_key s k ≡ list_any (same_key k) ks
