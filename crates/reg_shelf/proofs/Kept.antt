-- What a stop leaves while a register is kept on a shelf, and what the shelf has afterwards.
use Rattle.std.proofs.Common.{◌≡◌, ◌⊎◌, inl, ⊎_elim, ℕ, List, sym, subst}
use Rattle.byte_disk.specs.Disk.{LeavesOnly}
use Rattle.byte_disk.proofs.Moments.{weaker}
use Rattle.byte_shelf.specs.Shelf as slots
use Rattle.reg_file.specs.Contents.{Content}
use Rattle.reg_file.specs.Files.{Holds, ReadsAs}
use Rattle.reg_shelf.specs.Shelf.{IsShelf, IsShelfOf}
use Rattle.reg_shelf.proofs.Contents.{either_of, either_sized, shelf_of}

-- if the bytes that were sent are the file of the content, they hold the content
sent_holds : (sent file : List ℕ) (x : Content) → sent ≡ file → Holds file x → Holds sent x
sent_holds sent file x is held = subst (λ (b : List ℕ). Holds b x) (sym is) held

pub moments_of : {D : Type 0} (moment : D → ℕ) (since : D → ℕ → List ℕ → Type 0) (images : List ℕ → Type 0) (old new : D) (before sent file : List ℕ) (was x : Content)
    → LeavesOnly moment since old new (λ c. images c ⊎ (slots.IsShelf c before ⊎ slots.IsShelf c sent)) → ((c : List ℕ) → images c → IsShelf c was)
    → sent ≡ file → ReadsAs before was → Holds file x → LeavesOnly moment since old new (λ c. IsShelf c was ⊎ IsShelf c x)
moments_of moment since images old new before sent file was x leaves all is held holds =
    weaker moment since old new (λ c. images c ⊎ (slots.IsShelf c before ⊎ slots.IsShelf c sent)) (λ c. IsShelf c was ⊎ IsShelf c x) leaves
    (λ c left. ⊎_elim (λ may. inl (all c may)) (either_of was x before sent held (inl (sent_holds sent file x is holds)) c) left)

-- and its slots have the size that they had
pub sized_moments_of : {D : Type 0} (moment : D → ℕ) (since : D → ℕ → List ℕ → Type 0) (images : List ℕ → Type 0) (old new : D) (before sent file : List ℕ) (size : ℕ) (was x : Content)
    → LeavesOnly moment since old new (λ c. images c ⊎ (slots.IsShelfOf c size before ⊎ slots.IsShelfOf c size sent)) → ((c : List ℕ) → images c → IsShelfOf c size was)
    → sent ≡ file → ReadsAs before was → Holds file x → LeavesOnly moment since old new (λ c. IsShelfOf c size was ⊎ IsShelfOf c size x)
sized_moments_of moment since images old new before sent file size was x leaves all is held holds =
    weaker moment since old new (λ c. images c ⊎ (slots.IsShelfOf c size before ⊎ slots.IsShelfOf c size sent)) (λ c. IsShelfOf c size was ⊎ IsShelfOf c size x) leaves
    (λ c left. ⊎_elim (λ may. inl (all c may)) (either_sized was x before sent size held (inl (sent_holds sent file x is holds)) c) left)

pub kept_of : (image sent file : List ℕ) (x : Content) → slots.IsShelf image sent → sent ≡ file → Holds file x → IsShelf image x
kept_of image sent file x shelf is holds = shelf_of image sent x shelf (inl (sent_holds sent file x is holds))

pub sized_of : (image sent file : List ℕ) (size : ℕ) (x : Content) → slots.IsShelfOf image size sent → sent ≡ file → Holds file x → IsShelfOf image size x
sized_of image sent file size x (shelf, is-size) is holds = (record { bytes = sent; shelf = shelf; held = inl (sent_holds sent file x is holds) }, is-size)

-- a stop while a frame is put on a shelf leaves a shelf of the old content or of the new one
pub put_moments : {D : Type 0} (moment : D → ℕ) (since : D → ℕ → List ℕ → Type 0) (old new : D) (before after : List ℕ) (was x : Content)
    → LeavesOnly moment since old new (λ c. slots.IsShelf c before ⊎ slots.IsShelf c after) → ReadsAs before was → Holds after x
    → LeavesOnly moment since old new (λ c. IsShelf c was ⊎ IsShelf c x)
put_moments moment since old new before after was x leaves held holds =
    weaker moment since old new (λ c. slots.IsShelf c before ⊎ slots.IsShelf c after) (λ c. IsShelf c was ⊎ IsShelf c x) leaves
    (either_of was x before after held (inl holds))

-- and its slots have the size that they had
pub put_sized_moments : {D : Type 0} (moment : D → ℕ) (since : D → ℕ → List ℕ → Type 0) (old new : D) (before after : List ℕ) (size : ℕ) (was x : Content)
    → LeavesOnly moment since old new (λ c. slots.IsShelfOf c size before ⊎ slots.IsShelfOf c size after) → ReadsAs before was → Holds after x
    → LeavesOnly moment since old new (λ c. IsShelfOf c size was ⊎ IsShelfOf c size x)
put_sized_moments moment since old new before after size was x leaves held holds =
    weaker moment since old new (λ c. slots.IsShelfOf c size before ⊎ slots.IsShelfOf c size after) (λ c. IsShelfOf c size was ⊎ IsShelfOf c size x) leaves
    (either_sized was x before after size held (inl holds))
