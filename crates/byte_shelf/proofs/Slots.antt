-- The bytes that are read from a slot, and new shelves.
use Rattle.std.proofs.Common.{◌≡◌, ℕ, ◌+◌, ◌-◌, ◌%◌, ◌≤◌, ◌<◌, ◌^◌, ◌++◌, List, length, take, drop, refl, sym, ap, subst, ◌∙◌, arith, take-add, take-take}
use Rattle.std.specs.Int.{w32, to_be_bytes, from_be_bytes}
use Rattle.std.proofs.lemmas.Nat.{from_be_bytes-to_be_bytes_4}
use Rattle.std.proofs.lemmas.List.{take_at, take-append-drop, drop-drop}
use Rattle.byte_disk.specs.Disk.{ReadsAt, IsWritten}
use Rattle.byte_shelf.specs.Shelf.{StandAt, place, framed, fresh, HasHead, IsSize, IsShelf, IsShelfOf, IsNoShelf}
use Rattle.byte_shelf.proofs.Windows.{within_length}
use Rattle.byte_shelf.proofs.Steps.{long_frame, slot_of}

-- the bytes of a new shelf, with any bytes after them, are a shelf
pub at_front : (size : ℕ) (bytes rest : List ℕ) → size < 2 ^ 32 → IsSize size → length bytes ≤ size → IsShelfOf (fresh size bytes ++ rest) size bytes
at_front size bytes rest fits range within =
    let slot : StandAt (fresh size bytes ++ rest) 5 (framed bytes) = ap (λ (t : List ℕ). to_be_bytes w32 (length bytes) ++ t) (take_at bytes rest (length bytes) refl) in
    let head : HasHead (fresh size bytes ++ rest) 0 size = record { gate_stands = refl; size_stands = refl; size_fits = fits } in
    let shelf : IsShelf (fresh size bytes ++ rest) bytes = record { gate = 0; size = size; in_range = range; head = head; within = within; slot = slot } in
    (shelf, refl)

pub fresh_shelf : (old new bytes image : List ℕ) (size : ℕ) → size < 2 ^ 32 → IsSize size → length bytes ≤ size → image ≡ fresh size bytes → IsWritten old 0 image new → IsShelfOf new size bytes
fresh_shelf old new bytes image size fits range within is written =
    let whole : fresh size bytes ++ drop (length image) new ≡ new = ap (λ (t : List ℕ). t ++ drop (length image) new) (sym (written.here ∙ is)) ∙ take-append-drop (length image) new in
    subst (λ (t : List ℕ). IsShelfOf t size bytes) whole (at_front size bytes (drop (length image) new) fits range within)

pub length_read : (s buf : List ℕ) (at n len : ℕ) → n ≡ 4 → ReadsAt s at n buf → take 4 buf ≡ to_be_bytes w32 len → StandAt s at (to_be_bytes w32 len)
length_read s buf at n len four reads is =
    sym (subst (λ (k : ℕ). take k buf ≡ take k (drop at s)) four reads.bytes) ∙ is

-- a slot ends within the image
pub slot_long : (s bytes : List ℕ) (at : ℕ) → StandAt s at (framed bytes) → at + (4 + length bytes) ≤ length s
slot_long s bytes at stands = omega (arith, within_length s (framed bytes) at (omega (arith, long_frame bytes)) stands, long_frame bytes)

pub slot_stands : (s v : List ℕ) (at len : ℕ) → StandAt s at (to_be_bytes w32 len) → length v ≡ len → v ≡ take len (drop (at + 4) s) → StandAt s at (framed v)
slot_stands s v at len stands long is =
    let rest : take (length v) (drop 4 (drop at s)) ≡ v = ap (λ (t : List ℕ). take (length v) t) (drop-drop 4 at s) ∙ ap (λ (k : ℕ). take k (drop (at + 4) s)) long ∙ sym is in
    let first : take 4 (drop at s) ≡ to_be_bytes w32 (length v) = subst (λ (k : ℕ). take 4 (drop at s) ≡ to_be_bytes w32 k) (sym long) stands in
    let parts : take (4 + length v) (drop at s) ≡ framed v = take-add 4 (length v) (drop at s) ∙ ap (λ (t : List ℕ). t ++ take (length v) (drop 4 (drop at s))) first ∙ ap (λ (t : List ℕ). to_be_bytes w32 (length v) ++ t) rest in
    subst (λ (k : ℕ). take k (drop at s) ≡ framed v) (sym (long_frame v)) parts

-- a slot begins with the length of its bytes
pub length_stands : (s bytes : List ℕ) (at : ℕ) → StandAt s at (framed bytes) → StandAt s at (to_be_bytes w32 (length bytes))
length_stands s bytes at slot = sym (take-take 4 (length (framed bytes)) (drop at s) (omega (arith, long_frame bytes))) ∙ ap (λ (t : List ℕ). take 4 t) slot

pub same_length : (s bytes : List ℕ) (at len : ℕ) → len < 2 ^ 32 → length bytes < 2 ^ 32 → StandAt s at (to_be_bytes w32 len) → StandAt s at (framed bytes) → len ≡ length bytes
same_length s bytes at len p q stands slot =
    let there : take 4 (drop at s) ≡ to_be_bytes w32 (length bytes) = length_stands s bytes at slot in
    sym (from_be_bytes-to_be_bytes_4 len p) ∙ ap (λ (t : List ℕ). from_be_bytes w32 t) (sym stands ∙ there) ∙ from_be_bytes-to_be_bytes_4 (length bytes) q

pub no_room : (s bytes : List ℕ) (at : ℕ) → length s - at < 4 → StandAt s at (framed bytes) → ⊥
no_room s bytes at short stands = omega (arith, short, slot_long s bytes at stands)

pub no_rest : (s bytes : List ℕ) (at len : ℕ) → len < 2 ^ 32 → length bytes < 2 ^ 32 → StandAt s at (to_be_bytes w32 len) → length s - (at + 4) < len → StandAt s at (framed bytes) → ⊥
no_rest s bytes at len p q stands short slot = omega (arith, short, slot_long s bytes at slot, same_length s bytes at len p q stands slot)

pub shelf_of : (s v : List ℕ) (gate size : ℕ) → HasHead s gate size → IsSize size → length v ≤ size → StandAt s (place size (gate % 2)) (framed v) → IsShelf s v
shelf_of s v gate size head range within slot = record { gate = gate; size = size; in_range = range; head = head; within = within; slot = slot }

pub none_of : (s : List ℕ) (gate size : ℕ) → HasHead s gate size → ((bytes : List ℕ) → length bytes ≤ size → StandAt s (place size (gate % 2)) (framed bytes) → ⊥) → IsNoShelf s
none_of s gate size head none bytes shelf = let slot = slot_of s bytes gate size head shelf in none bytes slot.0 slot.1
