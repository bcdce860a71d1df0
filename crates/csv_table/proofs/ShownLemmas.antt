-- Texts with names, byte by byte.
use Rattle.std.proofs.Common.{◌≡◌, ◌<◌, ◌-◌, ◌++◌, ◌∷◌, [], ℕ, zero, suc, Bool, true, false, List, refl, ap, arith, length, append_assoc}
use Rattle.std.proofs.lemmas.List.{append-nil}
use Rattle.csv_table.specs.declared.offices.names.Name.{Name}
use Rattle.csv_table.specs.Shown.{is_gap, found, put, left_out, shown_from}

-- a byte that is left out
pub skipped : (rest bs : List ℕ) (b skip : ℕ) (starts keeps : Bool) (names : List Name) → rest ≡ b ∷ bs → 0 < skip
    → shown_from bs (skip - 1) (is_gap b) keeps names ≡ shown_from rest skip starts keeps names
unfolding shown_from
skipped rest bs b zero starts keeps names e p = absurd (omega (arith, p))
skipped rest bs b (suc skip) starts keeps names e p = let less : suc skip - 1 ≡ skip = omega arith in rw (less, e) refl

-- a byte that is not
pub taken : (rest bs out new : List ℕ) (b skip next : ℕ) (starts keeps : Bool) (names : List Name) → rest ≡ b ∷ bs → skip ≡ 0
    → next ≡ left_out (found names rest starts) → new ≡ out ++ put keeps (found names rest starts) b
    → new ++ shown_from bs next (is_gap b) keeps names ≡ out ++ shown_from rest skip starts keeps names
unfolding shown_from
taken rest bs out new b skip next starts keeps names e z l n = rw (n, l, z, e) (append_assoc out (put keeps (found names (b ∷ bs) starts) b) _)

-- nothing is left
pub ended : (rest out : List ℕ) (skip : ℕ) (starts keeps : Bool) (names : List Name) → length rest ≡ 0 → out ++ shown_from rest skip starts keeps names ≡ out
unfolding shown_from
ended [] out skip starts keeps names e = append-nil out
ended (b ∷ bs) out skip starts keeps names e = absurd (omega (arith, e))

-- without names, nothing stands in the place of a byte
pub unnamed : (text : List ℕ) (starts keeps : Bool) → shown_from text 0 starts keeps [] ≡ text
unfolding shown_from
unnamed [] starts keeps = refl
unnamed (b ∷ bs) true keeps = ap (λ l. b ∷ l) (unnamed bs (is_gap b) keeps)
unnamed (b ∷ bs) false keeps = ap (λ l. b ∷ l) (unnamed bs (is_gap b) keeps)
