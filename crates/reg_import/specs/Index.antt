-- Indexes by key.
use Rattle.std.specs.Prelude.{◌≡◌, false, [], ◌∷◌, ◌++◌, Option, Some, None}
use Rattle.std.specs.declared.cmp.Ordering.{Ordering}
use Rattle.std.specs.BTreeMap.{BTreeMap, get}
use Rattle.reg_report.specs.Conflicts.{KeyBytes, bytes_of, key_cmp}
use Rattle.reg_import.specs.declared.standing_entry.StandingEntry.{StandingEntry}
use Rattle.reg_import.specs.declared.indexed_key.IndexedKey.{IndexedKey}
use Rattle.reg_import.specs.declared.entries_of_key.EntriesOfKey.{EntriesOfKey}
use Rattle.reg_import.specs.Known.{OfKey, At, key_of, with_key}

abbrev pub key_bytes : IndexedKey → KeyBytes
key_bytes k = bytes_of k.key

abbrev pub text_cmp : IndexedKey → IndexedKey → Ordering
text_cmp a b = key_cmp (key_bytes a) (key_bytes b)

abbrev pub entries_seen : EntriesOfKey → OfKey
entries_seen b = record { known = b.known.items; ours = b.ours }

abbrev pub nothing_there : OfKey
nothing_there = record { known = []; ours = false }

abbrev pub seen_in : Option EntriesOfKey → OfKey
seen_in None = nothing_there
seen_in (Some b) = entries_seen b

-- it has the entries of each key
abbrev pub Indexes : BTreeMap IndexedKey EntriesOfKey → At → Type 0
Indexes m at = (q : IndexedKey) → seen_in (get text_cmp m q) ≡ at (key_bytes q)

-- one more entry of its key
abbrev pub and_entry : StandingEntry → OfKey → OfKey
and_entry e there = record { known = there.known ++ e ∷ []; ours = there.ours }

abbrev pub with_entry : StandingEntry → At → At
with_entry e at = with_key (key_of e) (and_entry e (at (key_of e))) at
