-- What a stop leaves of a shelf while the slot that is not in use, and then the gate, are written.
use Rattle.std.proofs.Common.{◌≡◌, ◌⊎◌, inl, inr, ℕ, zero, suc, ◌+◌, ◌-◌, ◌%◌, ◌≤◌, ◌<◌, ◌^◌, List, [], ◌∷◌, length, get_or, take, drop, max, refl, sym, ap, subst, ◌∙◌, arith, length-append, length-take}
use Rattle.std.specs.Int.{w32, to_be_bytes, from_be_bytes}
use Rattle.std.proofs.lemmas.Nat.{from_be_bytes-to_be_bytes_4}
use Rattle.std.proofs.lemmas.List.{drop_more, take-take, drop-take}
use Rattle.std.proofs.lemmas.Bool.Decides.{nat_tests}
use Rattle.byte_disk.specs.Disk.{ReadsAt, Torn, InTwo, AreBothWritten}
use Rattle.byte_shelf.specs.Shelf.{StandAt, place, framed, HasHead, IsSize, IsShelf, IsShelfOf, EndsWithin}
use Rattle.byte_shelf.proofs.Windows.{stays_before, stays_after}

-- an image has at most one gate
pub one_gate : (s : List ℕ) (a b : ℕ) → StandAt s 0 (a ∷ []) → StandAt s 0 (b ∷ []) → a ≡ b
one_gate s a b x y = cc

pub one_size : (s : List ℕ) (a b : ℕ) → a < 2 ^ 32 → b < 2 ^ 32 → StandAt s 1 (to_be_bytes w32 a) → StandAt s 1 (to_be_bytes w32 b) → a ≡ b
one_size s a b p q x y = sym (from_be_bytes-to_be_bytes_4 a p) ∙ ap (λ (t : List ℕ). from_be_bytes w32 t) (sym x ∙ y) ∙ from_be_bytes-to_be_bytes_4 b q

-- these bytes are in the slot that a known head selects
abbrev pub HasSlot : List ℕ → ℕ → ℕ → List ℕ → Type 0
HasSlot s gate size bytes = (length bytes ≤ size) × StandAt s (place size (gate % 2)) (framed bytes)

pub slot_of : (s was : List ℕ) (gate size : ℕ) → HasHead s gate size → IsShelf s was → HasSlot s gate size was
slot_of s was gate size head shelf =
    let g : shelf.gate ≡ gate = one_gate s shelf.gate gate shelf.head.gate_stands head.gate_stands in
    let z : shelf.size ≡ size = one_size s shelf.size size shelf.head.size_fits head.size_fits shelf.head.size_stands head.size_stands in (
      subst (λ (n : ℕ). length was ≤ n) z shelf.within,
      subst (λ (n : ℕ). StandAt s (place n (gate % 2)) (framed was)) z (subst (λ (k : ℕ). StandAt s (place shelf.size (k % 2)) (framed was)) g shelf.slot),
    )

-- the size in the head of a shelf is one that a shelf may have
pub range_of : (s was : List ℕ) (gate size : ℕ) → HasHead s gate size → IsShelf s was → IsSize size
range_of s was gate size head shelf =
    subst (λ (n : ℕ). IsSize n) (one_size s shelf.size size shelf.head.size_fits head.size_fits shelf.head.size_stands head.size_stands) shelf.in_range

pub long_frame : (bytes : List ℕ) → length (framed bytes) ≡ 4 + length bytes
long_frame bytes = length-append (to_be_bytes w32 (length bytes)) bytes

-- the two slots do not overlap
apart : (size k m n : ℕ) → k < 2 → m ≤ size → n ≤ size → (place size k + (4 + m) ≤ place size (1 - k)) ⊎ (place size (1 - k) + (4 + n) ≤ place size k)
apart size zero m n lt p q = inl (omega arith)
apart size (suc zero) m n lt p q = inr (omega arith)
apart size (suc (suc k)) m n lt p q = absurd (omega arith)

behind : (size k : ℕ) → 5 ≤ place size k
behind size k = grind (arith, nat_tests)

-- two bits are equal or opposite
two_ways : (a b : ℕ) → a < 2 → b < 2 → (a ≡ b) ⊎ (a ≡ 1 - b)
two_ways zero zero p q = inl refl
two_ways zero (suc zero) p q = inr (omega arith)
two_ways (suc zero) zero p q = inr (omega arith)
two_ways (suc zero) (suc zero) p q = inl refl
two_ways (suc (suc a)) b p q = absurd (omega arith)
two_ways a (suc (suc b)) p q = absurd (omega arith)

-- a write to the spare slot, even if it is cut short, keeps the head and the slot in use
pub first_write : (s c was bytes : List ℕ) (gate size : ℕ) → HasHead s gate size → HasSlot s gate size was → length bytes ≤ size
    → Torn (place size (1 - gate % 2)) (length (framed bytes)) s c → HasHead c gate size × HasSlot c gate size was
first_write s c was bytes gate size head slot fits torn =
    let at = place size (1 - gate % 2) in
    let n = length (framed bytes) in
    let far = behind size (1 - gate % 2) in
    let kept : StandAt c (place size (gate % 2)) (framed was) = elim (apart size (gate % 2) (length was) (length bytes) (omega arith) slot.0 fits) [
      | inl low ↦ stays_before s c (framed was) (place size (gate % 2)) at n (omega (arith, long_frame was)) torn slot.1 (omega (arith, low, long_frame was))
      | inr high ↦ stays_after s c (framed was) (place size (gate % 2)) at n torn slot.1 (omega (arith, high, long_frame bytes))
    ] in (
      record {
        gate_stands = stays_before s c (gate ∷ []) 0 at n (omega arith) torn head.gate_stands (omega (arith, far));
        size_stands = stays_before s c (to_be_bytes w32 size) 1 at n (omega arith) torn head.size_stands (omega (arith, far));
        size_fits = head.size_fits;
      },
      (slot.0, kept),
    )

-- after a write of the gate, even if it is cut short, the image is a shelf of the same size with the old bytes or with the new ones
pub second_write : (d c was bytes : List ℕ) (gate size : ℕ) → HasHead d gate size → HasSlot d gate size was → IsSize size → length bytes ≤ size
    → StandAt d (place size (1 - gate % 2)) (framed bytes) → Torn 0 1 d c → IsShelfOf c size was ⊎ IsShelfOf c size bytes
second_write d c was bytes gate size head slot range fits there torn =
    let g = get_or c 0 0 in
    let long : 1 ≤ length c = omega (arith, torn.no_shorter, ap length head.gate_stands, length-take 1 d) in
    let front : StandAt c 0 (g ∷ []) = ap (λ (t : List ℕ). take 1 t) (drop_more c 0 0 (omega (arith, long))) in
    let new_head : HasHead c g size = record { gate_stands = front; size_stands = stays_after d c (to_be_bytes w32 size) 1 0 1 torn head.size_stands (omega arith); size_fits = head.size_fits } in
    let old_slot = stays_after d c (framed was) (place size (gate % 2)) 0 1 torn slot.1 (omega (arith, behind size (gate % 2))) in
    let new_slot = stays_after d c (framed bytes) (place size (1 - gate % 2)) 0 1 torn there (omega (arith, behind size (1 - gate % 2))) in
    let which : (g % 2 ≡ gate % 2) ⊎ (g % 2 ≡ 1 - gate % 2) = two_ways (g % 2) (gate % 2) (omega arith) (omega arith) in
    elim which [
      | inl same ↦ inl (record { gate = g; size = size; in_range = range; head = new_head; within = slot.0; slot = subst (λ (k : ℕ). StandAt c (place size k) (framed was)) (sym same) old_slot }, refl)
      | inr other ↦ inr (record { gate = g; size = size; in_range = range; head = new_head; within = fits; slot = subst (λ (k : ℕ). StandAt c (place size k) (framed bytes)) (sym other) new_slot }, refl)
    ]

pub each_stop : (s was bytes : List ℕ) (gate size : ℕ) → HasHead s gate size → IsShelf s was → length bytes ≤ size → (c : List ℕ)
    → InTwo (place size (1 - gate % 2)) (framed bytes) 0 1 s c → IsShelfOf c size was ⊎ IsShelfOf c size bytes
each_stop s was bytes gate size head shelf fits c (inl torn) =
    let left = first_write s c was bytes gate size head (slot_of s was gate size head shelf) fits torn in
    inl (record { gate = gate; size = size; in_range = range_of s was gate size head shelf; head = left.0; within = left.1.0; slot = left.1.1 }, refl)
each_stop s was bytes gate size head shelf fits c (inr (d, holds, torn)) =
    let left = first_write s d was bytes gate size head (slot_of s was gate size head shelf) fits holds.torn in
    second_write d c was bytes gate size left.0 left.1 (range_of s was gate size head shelf) fits holds.here torn

pub whole : (s was bytes new : List ℕ) (gate size : ℕ) → HasHead s gate size → IsShelf s was → length bytes ≤ size
    → AreBothWritten (place size (1 - gate % 2)) (framed bytes) 0 ((1 - gate % 2) ∷ []) s new → IsShelfOf new size bytes
whole s was bytes new gate size head shelf fits (d, holds, turned) =
    let left = first_write s d was bytes gate size head (slot_of s was gate size head shelf) fits holds.torn in
    let torn = turned.torn in
    let low : (1 - gate % 2) % 2 ≡ 1 - gate % 2 = omega arith in (
      record {
        gate = 1 - gate % 2;
        size = size;
        in_range = range_of s was gate size head shelf;
        head = record { gate_stands = turned.here; size_stands = stays_after d new (to_be_bytes w32 size) 1 0 1 torn left.0.size_stands (omega arith); size_fits = left.0.size_fits };
        within = fits;
        slot = subst (λ (k : ℕ). StandAt new (place size k) (framed bytes)) (sym low) (stays_after d new (framed bytes) (place size (1 - gate % 2)) 0 1 torn holds.here (omega (arith, behind size (1 - gate % 2))));
      },
      refl,
    )

-- writes to a slot and to the gate extend an image at most to the end of the second slot, at 13 and twice the size
within_slots : (s d new at n size : ℕ) → at ≤ 9 + size → n ≤ 4 + size → d ≤ max s (at + n) → new ≤ max d 1 → (new ≤ s) ⊎ (new ≤ 13 + (size + size))
within_slots s d new at n size p q h k = grind (arith, nat_tests)

place_low : (size k : ℕ) → place size k ≤ 9 + size
place_low size k = grind (arith, nat_tests)

pub ends_within : (s bytes new : List ℕ) (gate size : ℕ) → length bytes ≤ size
    → AreBothWritten (place size (1 - gate % 2)) (framed bytes) 0 ((1 - gate % 2) ∷ []) s new → EndsWithin size s new
ends_within s bytes new gate size fits (d, holds, turned) =
    within_slots (length s) (length d) (length new) (place size (1 - gate % 2)) (length (framed bytes)) size (place_low size (1 - gate % 2)) (omega (arith, long_frame bytes)) holds.torn.no_longer turned.torn.no_longer

-- a head that was read is the head of the image
pub head_read : (s buf : List ℕ) (gate size : ℕ) → length buf ≡ 5 → ReadsAt s 0 5 buf → HasHead buf gate size → HasHead s gate size
head_read s buf gate size long reads head =
    let same : take 5 buf ≡ take 5 s = reads.bytes in
    record {
      gate_stands = sym (take-take 1 5 s (omega arith)) ∙ ap (λ (t : List ℕ). take 1 t) (sym same) ∙ take-take 1 5 buf (omega arith) ∙ head.gate_stands;
      size_stands = sym (drop-take 1 4 s) ∙ ap (λ (t : List ℕ). drop 1 t) (sym same) ∙ drop-take 1 4 buf ∙ head.size_stands;
      size_fits = head.size_fits;
    }
