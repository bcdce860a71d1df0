-- A shelf has at most one content.
use Rattle.std.proofs.Common.{◌≡◌, ℕ, ◌%◌, ◌<◌, ◌^◌, List, length, take, drop, sym, ap, ◌∙◌, arith}
use Rattle.byte_shelf.specs.Shelf.{place, framed, IsShelf}
use Rattle.byte_shelf.proofs.Steps.{slot_of, long_frame}
use Rattle.byte_shelf.proofs.Slots.{same_length, length_stands}

pub one_bytes : (image bytes others : List ℕ) → IsShelf image bytes → IsShelf image others → bytes ≡ others
one_bytes image bytes others x y =
    let at = place x.size (x.gate % 2) in
    let slot = slot_of image others x.gate x.size x.head y in
    let fits : length bytes < 2 ^ 32 = omega (arith, x.within, x.head.size_fits) in
    let fit : length others < 2 ^ 32 = omega (arith, slot.0, x.head.size_fits) in
    let long : length bytes ≡ length others = same_length image others at (length bytes) fits fit (length_stands image bytes at x.slot) slot.1 in
    let frames : length (framed bytes) ≡ length (framed others) = omega (arith, long, long_frame bytes, long_frame others) in
    let same : framed bytes ≡ framed others = sym x.slot ∙ ap (λ (k : ℕ). take k (drop at image)) frames ∙ slot.1 in
    ap (λ (t : List ℕ). drop 4 t) same
