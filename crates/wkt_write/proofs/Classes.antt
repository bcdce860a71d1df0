-- The table of the classes of bytes.
use Rattle.std.proofs.Common.{◌≡◌, ℕ, ◌<◌, get_or, map, refl, ap, ◌∙◌, arith}
use Rattle.std.specs.List.{range_with_len}
use Rattle.std.proofs.lemmas.List.FromFn.{get_or-map-range_with_len}
use Rattle.wkt_write.specs.declared.condensing.bytes.TheConstants.{CLASSES}
use Rattle.wkt_write.specs.Pieces.{class_of}

whole : CLASSES ≡ map class_of (range_with_len 0 256)
whole = refl

pub class_told : (b : ℕ) → b < 256 → get_or CLASSES b 0 ≡ class_of b
class_told b h = ap (λ l. get_or l b 0) whole ∙ get_or-map-range_with_len class_of 0 256 b b 0 h (omega arith)
