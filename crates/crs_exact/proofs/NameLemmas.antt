-- A name that is shorter than a part does not begin with it.
use Rattle.std.proofs.Common.{◌≡◌, ℕ, ◌<◌, false, List, [], ◌∷◌, length, drop, ap, drop-cons, arith}
use Rattle.crs_exact.specs.Names.{begins}

pub too_short : (part rest : List ℕ) (i : ℕ) → i < length part → length rest ≡ 0 → begins (drop i part) rest ≡ false
too_short part [] i h e = ap (λ ps. begins ps []) (drop-cons part i 0 h)
too_short part (c ∷ rest) i h e = absurd (omega (arith, e))
