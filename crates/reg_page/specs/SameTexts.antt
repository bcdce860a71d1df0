-- Entries with the same text under the same key.
use Rattle.std.specs.Prelude.{Bool, List, [], ◌∷◌, filter, Option, Some, None}
use Rattle.std.specs.Borrow.{Bor}
use Rattle.std.specs.List.Sorted.{IsSortedByKey}
use Rattle.std.specs.declared.cmp.Ordering.{Ordering}
use Rattle.std.specs.Ordering.{nat_cmp, ordering_then, is_eq}
use Rattle.std.specs.Cmp.Lexicographic.{slice_cmp}
use Rattle.reg_op.specs.Ids.{Id}
use Rattle.reg_report.specs.Conflicts.{bytes_of, key_cmp}
use Rattle.reg_page.specs.declared.described.Described.{Described}

-- by the bytes of the text, and then of the key
abbrev pub text_cmp : Described → Described → Ordering
text_cmp a b = ordering_then (slice_cmp nat_cmp a.system.text.items b.system.text.items) (key_cmp (bytes_of a.key) (bytes_of b.key))

abbrev pub has_same_text : Described → Described → Bool
has_same_text a b = is_eq (text_cmp a b)

abbrev pub first_id : List Described → Option Id
first_id [] = None
first_id (t ∷ ts) = Some t.id

-- the first of these that has the text and the key of an entry
abbrev pub same_text_in : List Described → Described → Option Id
same_text_in ts t = first_id (filter (has_same_text t) ts)

abbrev pub AscendByText : List (Bor Described) → Type 0
AscendByText ts = IsSortedByKey (λ (t : Bor Described). t.now) text_cmp ts
