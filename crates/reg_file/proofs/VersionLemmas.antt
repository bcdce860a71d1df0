-- Files of different versions differ in the byte of the version.
use Rattle.std.proofs.Common.{◌≡◌, ℕ, Bool, true, false, cond, List, ◌++◌, refl, sym, ap, subst, arith}
use Rattle.reg_file.specs.Layout.{head}
use Rattle.reg_file.specs.Reading.{says_first, version_in}

pub second_in : (kind : ℕ) (bytes rest : List ℕ) → bytes ≡ head 2 kind ++ rest → version_in bytes ≡ 2
second_in kind bytes rest e = ap version_in e

pub first_in : (kind : ℕ) (bytes rest : List ℕ) → bytes ≡ head 1 kind ++ rest → version_in bytes ≡ 1
first_in kind bytes rest e = ap version_in e

pub not_both : (n : ℕ) → n ≡ 1 → n ≡ 2 → ⊥
not_both n p q = omega arith

-- bytes are read as version 1 or as version 2
pub by_version : (P : ℕ → Type 0) (bytes : List ℕ) → (version_in bytes ≡ 1 → P 1) → (version_in bytes ≡ 2 → P 2) → P (version_in bytes)
by_version P bytes first second = from (says_first bytes) refl
  where
    from : (b : Bool) → says_first bytes ≡ b → P (version_in bytes)
    from true e = let v : version_in bytes ≡ 1 = ap (λ c. cond c 1 2) e in subst P (sym v) (first v)
    from false e = let v : version_in bytes ≡ 2 = ap (λ c. cond c 1 2) e in subst P (sym v) (second v)
