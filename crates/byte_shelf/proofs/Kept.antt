-- A whole run that puts a frame on a shelf.
use Rattle.std.proofs.Common.{◌≡◌, ◌⊎◌, inl, inr, ⊎_elim, ℕ, ◌-◌, ◌%◌, List, [], ◌∷◌, refl, subst, ◌∙◌}
use Rattle.byte_disk.specs.Disk.{LeavesOnly, InTwo, AreBothWritten}
use Rattle.byte_disk.proofs.Moments.{weaker, joined}
use Rattle.byte_shelf.specs.Shelf.{IsShelf, IsShelfOf, EndsWithin, place, framed}
use Rattle.byte_shelf.specs.Keep.{AddsNothing}
use Rattle.byte_shelf.specs.Ready.{IsReady}
use Rattle.byte_shelf.specs.declared.keeping.Frame.{Frame}
use Rattle.byte_shelf.proofs.Steps.{each_stop, whole, ends_within, one_size}

-- a stop leaves a shelf with the old bytes or with the new ones, whose slots have the size that they had
pub sized_moments_of : {D : Type 0} (moment : D → ℕ) (since : D → ℕ → List ℕ → Type 0) (old new : D) (s was bytes sent : List ℕ) (frame : Frame) (want : ℕ)
    → LeavesOnly moment since old new (InTwo frame.at sent 0 1 s) → sent ≡ frame.bytes.items → IsShelfOf s want was → IsReady s bytes frame
    → LeavesOnly moment since old new (λ c. IsShelfOf c want was ⊎ IsShelfOf c want bytes)
sized_moments_of moment since old new s was bytes sent frame want leaves is (shelf, size-is) r =
    let in_place = subst (λ (a : ℕ). LeavesOnly moment since old new (InTwo a sent 0 1 s)) r.spare leaves in
    let of_frame = subst (λ (f : List ℕ). LeavesOnly moment since old new (InTwo (place r.size (1 - r.gate % 2)) f 0 1 s)) (is ∙ r.whole) in_place in
    let same_size : r.size ≡ want = one_size s r.size shelf.size r.head.size_fits shelf.head.size_fits r.head.size_stands shelf.head.size_stands ∙ size-is in
    subst (λ (n : ℕ). LeavesOnly moment since old new (λ c. IsShelfOf c n was ⊎ IsShelfOf c n bytes)) same_size
    (weaker moment since old new (InTwo (place r.size (1 - r.gate % 2)) (framed bytes) 0 1 s) (λ c. IsShelfOf c r.size was ⊎ IsShelfOf c r.size bytes) of_frame
    (each_stop s was bytes r.gate r.size r.head shelf r.fits))

pub moments_of : {D : Type 0} (moment : D → ℕ) (since : D → ℕ → List ℕ → Type 0) (old new : D) (s was bytes sent : List ℕ) (frame : Frame)
    → LeavesOnly moment since old new (InTwo frame.at sent 0 1 s) → sent ≡ frame.bytes.items → IsShelf s was → IsReady s bytes frame
    → LeavesOnly moment since old new (λ c. IsShelf c was ⊎ IsShelf c bytes)
moments_of moment since old new s was bytes sent frame leaves is shelf r =
    weaker moment since old new (λ c. IsShelfOf c shelf.size was ⊎ IsShelfOf c shelf.size bytes) (λ c. IsShelf c was ⊎ IsShelf c bytes)
    (sized_moments_of moment since old new s was bytes sent frame shelf.size leaves is (shelf, refl) r)
    (λ c left. ⊎_elim (λ old_one. inl old_one.0) (λ new_one. inr new_one.0) left)

-- the two writes are that of the bytes into the spare slot, and that of the number of this slot
written_of : (s new bytes sent : List ℕ) (frame : Frame) → AreBothWritten frame.at sent 0 (frame.gate ∷ []) s new → sent ≡ frame.bytes.items
    → (r : IsReady s bytes frame) → AreBothWritten (place r.size (1 - r.gate % 2)) (framed bytes) 0 ((1 - r.gate % 2) ∷ []) s new
written_of s new bytes sent frame both is r =
    subst (λ (g : ℕ). AreBothWritten (place r.size (1 - r.gate % 2)) (framed bytes) 0 (g ∷ []) s new) r.turned
    (subst (λ (f : List ℕ). AreBothWritten (place r.size (1 - r.gate % 2)) f 0 (frame.gate ∷ []) s new) (is ∙ r.whole)
    (subst (λ (a : ℕ). AreBothWritten a sent 0 (frame.gate ∷ []) s new) r.spare both))

pub kept_of : (s new was bytes sent : List ℕ) (frame : Frame) → AreBothWritten frame.at sent 0 (frame.gate ∷ []) s new → sent ≡ frame.bytes.items
    → IsShelf s was → IsReady s bytes frame → IsShelf new bytes
kept_of s new was bytes sent frame both is shelf r = (whole s was bytes new r.gate r.size r.head shelf r.fits (written_of s new bytes sent frame both is r)).0

-- the new image is a shelf of the same size, and has grown at most to the end of its second slot
pub sized_of : (s new was bytes sent : List ℕ) (frame : Frame) (want : ℕ) → AreBothWritten frame.at sent 0 (frame.gate ∷ []) s new → sent ≡ frame.bytes.items
    → IsShelfOf s want was → IsReady s bytes frame → IsShelfOf new want bytes × EndsWithin want s new
sized_of s new was bytes sent frame want both is (shelf, size-is) r =
    let writes = written_of s new bytes sent frame both is r in
    let same_size : r.size ≡ want = one_size s r.size shelf.size r.head.size_fits shelf.head.size_fits r.head.size_stands shelf.head.size_stands ∙ size-is in
    subst (λ (n : ℕ). IsShelfOf new n bytes × EndsWithin n s new) same_size (whole s was bytes new r.gate r.size r.head shelf r.fits writes, ends_within s bytes new r.gate r.size r.fits writes)

-- a stop while a frame is made ready and put leaves an old image, or what a stop while it is put leaves
pub moments_then : {D : Type 0} (seen : D → List ℕ) (images : D → List ℕ → Type 0) (moment : D → ℕ) (since : D → ℕ → List ℕ → Type 0) (old mid new : D) (Left : List ℕ → Type 0)
    → AddsNothing seen images moment since old mid → LeavesOnly moment since mid new Left → LeavesOnly moment since old new (λ c. images old c ⊎ Left c)
moments_then seen images moment since old mid new Left nothing leaves =
    let P : List ℕ → Type 0 = λ c. images old c ⊎ Left c in
    joined moment since old mid new P (weaker moment since old mid (images old) P nothing.any_moment (λ c may. inl may))
    (weaker moment since mid new Left P leaves (λ c left. inr left))
