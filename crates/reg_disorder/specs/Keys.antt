-- Keys of rows, gathered in sets.
use Rattle.std.specs.Prelude.{◌≡◌, ◌||◌, ◌⊎◌, ◌↔◌, Bool, true, false, List, Contains}
use Rattle.std.specs.BTreeSet.{BTreeSet, contains_by}
use Rattle.std.specs.Ordering.{is_eq}
use Rattle.reg_op.specs.Rows.{Row}
use Rattle.reg_report.specs.Conflicts.{KeyBytes, key_cmp, HasKey}
use Rattle.reg_report.specs.Exports.{is_retired}
use Rattle.reg_report.specs.declared.key.KeyText.{KeyText}
use Rattle.reg_report.specs.Keys.{key_bytes}

abbrev pub KeySet : Type 0
KeySet = BTreeSet KeyText

abbrev pub has_key : KeySet → KeyBytes → Bool
has_key s k = contains_by (λ (q : KeyText). key_cmp k (key_bytes q)) s

abbrev pub PutsKey : KeyBytes → KeySet → KeySet → Type 0
PutsKey key old new = (k : KeyBytes) → has_key new k ≡ (is_eq (key_cmp key k) || has_key old k)

abbrev pub PutsRowKey : Row → KeySet → KeySet → Type 0
PutsRowKey r old new = ((is_retired r.status ≡ true) × ((k : KeyBytes) → has_key new k ≡ has_key old k))
    ⊎ ((is_retired r.status ≡ false) × ((key : KeyBytes) × HasKey r.definition key × PutsKey key old new))

-- an entry of the key is not retired
pub record IsLive (rs : List Row) (k : KeyBytes) : Type 0 where
  pub row : Row
  pub there : Contains rs row
  pub stands : is_retired row.status ≡ false
  pub key : HasKey row.definition k

abbrev pub HasLiveKeys : List Row → KeySet → Type 0
HasLiveKeys rs s = (k : KeyBytes) → (has_key s k ≡ true) ↔ IsLive rs k
