-- Marks, put into sets one after another.
use Rattle.std.proofs.Common.{◌≡◌, ◌||◌, Bool, true, false, ℕ, List, [], ◌∷◌, refl, sym, ap, ◌∙◌}
use Rattle.std.specs.Global.{Vec}
use Rattle.std.specs.List.{list_any}
use Rattle.std.specs.BTreeSet.{insert_key}
use Rattle.std.specs.declared.cmp.Ordering.{Ordering}
use Rattle.std.specs.declared.cmp.Ordering.TheVariants.{Less, Equal, Greater}
use Rattle.std.specs.Ordering.{nat_cmp, match_ordering}
use Rattle.std.specs.Cmp.Lexicographic.{slice_cmp}
use Rattle.reg_lint.specs.Known.{is_same}
use Rattle.reg_report.proofs.SortLemmas.{or_again}
use Rattle.reg_sense.proofs.OrderLemmas.{one_text}

swap : (a b c : Bool) → (a || (b || c)) ≡ (b || (a || c))
swap true true c = refl
swap true false c = refl
swap false true c = refl
swap false false c = refl

abbrev pub bytes_cmp : Vec ℕ → Vec ℕ → Ordering
bytes_cmp a b = slice_cmp nat_cmp a.items b.items

abbrev pub among_keys : List ℕ → List (Vec ℕ) → Bool
among_keys m keys = list_any (λ (k : Vec ℕ). is_same m k.items) keys

-- the keys after one more, by its place among them
abbrev placed : List ℕ → Vec ℕ → Vec ℕ → List (Vec ℕ) → Ordering → Bool
placed m k x xs o = among_keys m (match_ordering o (k ∷ x ∷ xs) (x ∷ xs) (x ∷ insert_key bytes_cmp xs k))

-- one more key, or the same ones
pub any_after : (m : List ℕ) (k : Vec ℕ) (keys : List (Vec ℕ)) → among_keys m (insert_key bytes_cmp keys k) ≡ (is_same m k.items || among_keys m keys)
any_after m k [] = refl
any_after m k (x ∷ xs) = by (bytes_cmp k x) refl (any_after m k xs)
  where
    by : (o : Ordering) → bytes_cmp k x ≡ o → among_keys m (insert_key bytes_cmp xs k) ≡ (is_same m k.items || among_keys m xs)
        → among_keys m (insert_key bytes_cmp (x ∷ xs) k) ≡ (is_same m k.items || among_keys m (x ∷ xs))
    by Less e later = ap (placed m k x xs) e
    by Equal e later =
        ap (placed m k x xs) e
        ∙ or_again (is_same m x.items) (among_keys m xs)
        ∙ ap (λ t. is_same m t || (is_same m x.items || among_keys m xs)) (sym (one_text k.items x.items e))
    by Greater e later =
        ap (placed m k x xs) e
        ∙ ap (λ b. is_same m x.items || b) later
        ∙ swap (is_same m x.items) (is_same m k.items) (among_keys m xs)
