-- The content of a shelf is that of the bytes in its slot in use.
use Rattle.std.proofs.Common.{◌≡◌, ◌⊎◌, inl, inr, ℕ, ◌≤◌, ◌<◌, List, [], ◌++◌, length, refl, sym, ap, subst, ◌∙◌, arith}
use Rattle.std.specs.Int.{w32, from_be_bytes}
use Rattle.std.proofs.lemmas.Nat.{from_be_bytes-to_be_bytes_4}
use Rattle.byte_shelf.specs.Shelf as slots
use Rattle.byte_shelf.proofs.OneShelf.{one_bytes}
use Rattle.byte_shelf.proofs.Slots.{at_front}
use Rattle.reg_file.specs.Set as set
use Rattle.reg_file.specs.Operations.{Op}
use Rattle.reg_file.specs.Contents.{Content, nothing}
use Rattle.reg_file.proofs.OpLemmas.{op_total}
use Rattle.reg_file.specs.Files.{Holds, ReadsAs, IsFileOf, IsTooLarge}
use Rattle.reg_file.specs.Layout.{register_file}
use Rattle.reg_file.proofs.HoldLemmas as files
use Rattle.reg_shelf.specs.Shelf.{IsShelf, IsShelfOf, IsNoShelf}

pub one_content : (image : List ℕ) (x y : Content) → IsShelf image x → IsShelf image y → x ≡ y
one_content image x y p q = files.one_reading p.bytes x y p.held (subst (λ (b : List ℕ). ReadsAs b y) (sym (one_bytes image p.bytes q.bytes p.shelf q.shelf)) q.held)

one_size : (image a b : List ℕ) (x : slots.IsShelf image a) (y : slots.IsShelf image b) → x.size ≡ y.size
one_size image a b x y = sym (from_be_bytes-to_be_bytes_4 x.size x.head.size_fits) ∙ ap (λ (t : List ℕ). from_be_bytes w32 t) (sym x.head.size_stands ∙ y.head.size_stands) ∙ from_be_bytes-to_be_bytes_4 y.size y.head.size_fits

pub one_size_of : (image : List ℕ) (m n : ℕ) (x y : Content) → IsShelfOf image m x → IsShelfOf image n y → m ≡ n
one_size_of image m n x y (p, is-m) (q, is-n) = sym is-m ∙ one_size image p.bytes q.bytes p.shelf q.shelf ∙ is-n

pub shelf_of : (image bytes : List ℕ) (x : Content) → slots.IsShelf image bytes → ReadsAs bytes x → IsShelf image x
shelf_of image bytes x shelf held = record { bytes = bytes; shelf = shelf; held = held }

-- a content whose file fits in a slot of the size has a shelf
pub shelf_for : (x : Content) (bytes : List ℕ) (size : ℕ) → Holds bytes x → slots.IsSize size → length bytes ≤ size → (image : List ℕ) × IsShelfOf image size x
shelf_for x bytes size holds range within =
    let slot = at_front size bytes [] (omega (arith, range.1)) range within in
    (slots.fresh size bytes ++ [], (record { bytes = bytes; shelf = slot.0; held = inl holds }, slot.1))

pub either_of : (was x : Content) (old new : List ℕ) → ReadsAs old was → ReadsAs new x → (c : List ℕ) → slots.IsShelf c old ⊎ slots.IsShelf c new → IsShelf c was ⊎ IsShelf c x
either_of was x old new before after c (inl shelf) = inl (shelf_of c old was shelf before)
either_of was x old new before after c (inr shelf) = inr (shelf_of c new x shelf after)

-- and the same of shelves whose slots have a size
sized_of : (was : Content) (old : List ℕ) (size : ℕ) → ReadsAs old was → (c : List ℕ) → slots.IsShelfOf c size old → IsShelfOf c size was
sized_of was old size before c (shelf, is-size) = (record { bytes = old; shelf = shelf; held = before }, is-size)

pub either_sized : (was x : Content) (old new : List ℕ) (size : ℕ) → ReadsAs old was → ReadsAs new x → (c : List ℕ) → slots.IsShelfOf c size old ⊎ slots.IsShelfOf c size new
    → IsShelfOf c size was ⊎ IsShelfOf c size x
either_sized was x old new size before after c (inl shelf) = inl (sized_of was old size before c shelf)
either_sized was x old new size before after c (inr shelf) = inr (sized_of x new size after c shelf)

-- an image that is a shelf of no bytes, or of bytes that are no content's file, is a shelf of no content
pub none_by_slots : (image : List ℕ) → slots.IsNoShelf image → IsNoShelf image
none_by_slots image none x s = none s.bytes s.shelf

pub none_by_bytes : (image bytes : List ℕ) → slots.IsShelf image bytes → ((x : Content) → ReadsAs bytes x → ⊥) → IsNoShelf image
none_by_bytes image bytes shelf none x s = none x (subst (λ (b : List ℕ). ReadsAs b x) (one_bytes image s.bytes bytes s.shelf shelf) s.held)

-- the file of the empty register has 14 bytes
empty_file : IsFileOf nothing (register_file 2 [] [])
empty_file = record { runs = []; are_runs = tt; all = refl; whole = ap (λ (ops : List Op). register_file 2 ops []) (sym (set.items-from_list op_total [] tt)) }

pub empty_length : (bytes : List ℕ) → IsFileOf nothing bytes → length bytes ≡ 14
empty_length bytes f = ap length (files.one_file nothing bytes (register_file 2 [] []) f empty_file)

pub empty_fits : IsTooLarge nothing → ⊥
empty_fits (bytes, f, long) = absurd (omega (arith, long, empty_length bytes f))

-- a slot of 14 bytes or more has room for the file of the empty register
pub fresh_fits : {P Q : Type 0} (size : ℕ) (sent file : List ℕ) → 14 ≤ size → sent ≡ file → Holds file nothing → (P → size < length sent) → (Q → ⊥) → P ⊎ Q → ⊥
fresh_fits size sent file some is held large none (inl p) = absurd (omega (arith, some, large p, ap length is, empty_length file held.bytes_are))
fresh_fits size sent file some is held large none (inr q) = none q
