-- Inspecting the next of some files or shelves, after those before it are inspected.
use Rattle.std.proofs.Common.{◌≡◌, ◌⊎◌, inl, inr, ◌∷◌, ◌++◌, [], List, ℕ, ◌+◌, ◌<◌, zero, suc, length, take, drop, get_or, slice_set, refl, sym, ap, subst, ◌∙◌, arith}
use Rattle.std.proofs.Math.Numerals.{suc-eq-add-one}
use Rattle.std.specs.Prelude.{IsTrue, Err, IsErrOf}
use Rattle.std.specs.declared.result.Result.{Result}
use Rattle.byte_io.specs.Device.{SourceState}
use Rattle.reg_op.specs.Contents.{Content}
use Rattle.reg_file.specs.Files.{ReadsAs, ReadsBytes}
use Rattle.reg_engine.specs.declared.fault.InputFault.{InputFault}
use Rattle.reg_engine.specs.declared.fault.ShelfProblem.{ShelfProblem}
use Rattle.reg_engine.specs.declared.fault.ShelfProblem.TheVariants as problem
use Rattle.reg_engine.specs.declared.fault.CliFault.TheVariants as cli
use Rattle.reg_engine.specs.Inputs.{NeverFails}
use Rattle.reg_engine.specs.Shelf.{Disks, AddsNothingTo, StaysOn, IsUnrestored}
use Rattle.byte_shelf.specs.Shelf as slots
use Rattle.byte_shelf.specs.Keep.{CountsFault}
use Rattle.byte_shelf.specs.declared.fault.ShelfFault.{ShelfFault}
use Rattle.byte_shelf.specs.declared.fault.ShelfFault.TheVariants as shelf
use Rattle.reg_shelf.proofs.Contents.{none_by_slots, none_by_bytes}
use Rattle.reg_desk.specs.declared.look.Look.{Look}
use Rattle.reg_desk.specs.declared.look.Look.TheVariants as look
use Rattle.reg_desk.specs.Look.{IsLookOf, HasLook, IsLook, IsShelfLook, IsRegisterLook, AreLooks, AreLeft}

abbrev head_of : {A : Type 0} → A → List A → A
head_of d [] = d
head_of d (x ∷ xs) = x

abbrev tail_of : {A : Type 0} → List A → List A
tail_of [] = []
tail_of (x ∷ xs) = xs

module _ {T : Type 0} (At : T → T → Look → Type 0) (Stays : T → T → Type 0) where
  behind_suc : (was now : List T) (i : ℕ) (s : T) → length now ≡ length was → drop i now ≡ drop i was → drop (suc i) (slice_set now i s) ≡ drop (suc i) was
  behind_suc [] [] i s size back = refl
  behind_suc [] (n ∷ ns) i s size back = absurd (omega arith)
  behind_suc (w ∷ ws) [] i s size back = absurd (omega arith)
  behind_suc (w ∷ ws) (n ∷ ns) zero s size back = ap tail_of back
  behind_suc (w ∷ ws) (n ∷ ns) (suc i) s size back = behind_suc ws ns i s (omega arith) back

  pub behind : (was now : List T) (i : ℕ) (s : T) → length now ≡ length was → drop i now ≡ drop i was → drop (i + 1) (slice_set now i s) ≡ drop (i + 1) was
  behind was now i s size back = subst (λ j. drop j (slice_set now i s) ≡ drop j was) (suc-eq-add-one i) (behind_suc was now i s size back)

  looks_suc : (was now : List T) (i : ℕ) (o s : T) (ls : List Look) (l : Look) → i < length was → length now ≡ length was
      → AreLooks At (take i was) (take i now) ls → drop i now ≡ drop i was → At (get_or now i o) s l → AreLooks At (take (suc i) was) (take (suc i) (slice_set now i s)) (ls ++ l ∷ [])
  looks_suc was [] i o s ls l within size front back is = absurd (omega arith)
  looks_suc [] (n ∷ ns) i o s ls l within size front back is = absurd (omega arith)
  looks_suc (w ∷ ws) (n ∷ ns) zero o s [] l within size front back is = (subst (λ k. At k s l) (ap (head_of n) back) is, tt)
  looks_suc (w ∷ ws) (n ∷ ns) zero o s (k ∷ ks) l within size front back is = absurd front
  looks_suc (w ∷ ws) (n ∷ ns) (suc i) o s [] l within size front back is = absurd front
  looks_suc (w ∷ ws) (n ∷ ns) (suc i) o s (k ∷ ks) l within size front back is = (front.0, looks_suc ws ns i o s ks l (omega arith) (omega arith) front.1 back is)

  pub looks_next : (was now : List T) (i : ℕ) (o s : T) (ls ms : List Look) (l : Look) → i < length was → length now ≡ length was
      → AreLooks At (take i was) (take i now) ls → drop i now ≡ drop i was → At (get_or now i o) s l → ms ≡ ls ++ l ∷ [] → AreLooks At (take (i + 1) was) (take (i + 1) (slice_set now i s)) ms
  looks_next was now i o s ls ms l within size front back is pushed =
      subst (λ j. AreLooks At (take j was) (take j (slice_set now i s)) ms) (suc-eq-add-one i)
      (subst (λ ks. AreLooks At (take (suc i) was) (take (suc i) (slice_set now i s)) ks) (sym pushed) (looks_suc was now i o s ls l within size front back is))

  untouched : (os : List T) → AreLeft At Stays os os
  untouched [] = refl
  untouched (o ∷ os) = inr (inl refl, refl)

  pub all_left : (was now : List T) (ls : List Look) → AreLooks At was now ls → AreLeft At Stays was now
  all_left [] [] ls h = refl
  all_left [] (n ∷ ns) ls h = absurd h
  all_left (o ∷ os) [] ls h = absurd h
  all_left (o ∷ os) (n ∷ ns) [] h = absurd h
  all_left (o ∷ os) (n ∷ ns) (l ∷ ls) h = inl ((l, h.0), all_left os ns ls h.1)

  -- if the next one is inspected or unchanged, those before it are inspected, and those after it untouched
  pub left_at : (was now : List T) (i : ℕ) (o s : T) (ls : List Look) → i < length was → length now ≡ length was
      → AreLooks At (take i was) (take i now) ls → drop i now ≡ drop i was → ((l : Look) × At (get_or now i o) s l) ⊎ Stays (get_or now i o) s → AreLeft At Stays was (slice_set now i s)
  left_at was [] i o s ls within size front back is = absurd (omega arith)
  left_at [] (n ∷ ns) i o s ls within size front back is = absurd (omega arith)
  left_at (w ∷ ws) (n ∷ ns) zero o s ls within size front back (inl is) =
      inl ((is.0, subst (λ k. At k s is.0) (ap (head_of n) back) is.1), subst (λ k. AreLeft At Stays ws k) (sym (ap tail_of back)) (untouched ws))
  left_at (w ∷ ws) (n ∷ ns) zero o s ls within size front back (inr is) = inr (inr (subst (λ k. Stays k s) (ap (head_of n) back) is), ap tail_of back)
  left_at (w ∷ ws) (n ∷ ns) (suc i) o s [] within size front back is = absurd front
  left_at (w ∷ ws) (n ∷ ns) (suc i) o s (k ∷ ks) within size front back is = inl ((k, front.0), left_at ws ns i o s ks (omega arith) (omega arith) front.1 back is)

-- ---- one file

pub look_has : (bytes : List ℕ) (x : Content) (n : ℕ) (l : Look) → n ≡ length bytes → ReadsAs bytes x → IsLookOf x n l → HasLook bytes l
look_has bytes x n (look.Figures m f) e r h = (h.0 ∙ e, (x, r, h.1))
look_has bytes x n (look.NoRegister m f) e r h = absurd h
look_has bytes x n (look.Unread f) e r h = absurd h
look_has bytes x n (look.NoShelf p) e r h = absurd h

pub looked : (old new : SourceState) (bytes : List ℕ) (l : Look) → ReadsBytes old new bytes → HasLook bytes l → IsLook old new l
looked old new bytes (look.Figures n f) r h = (bytes, r, h)
looked old new bytes (look.NoRegister n f) r h = (bytes, r, h)
looked old new bytes (look.NoShelf p) r h = absurd h
looked old new bytes (look.Unread f) r h = subst (λ (g : InputFault). IsLook old new (look.Unread g)) (sym h.0) (bytes, r, h.1)

pub gave : (old new : SourceState) (bytes : List ℕ) → ReadsBytes old new bytes → NeverFails old new
gave old new bytes r = (bytes, r.given, r.front, r.bounded, r.quiet)

-- ---- one shelf

pub register_looked : (bytes : List ℕ) (x : Content) (n : ℕ) (l : Look) → n ≡ length bytes → ReadsAs bytes x → IsLookOf x n l → IsRegisterLook bytes l
register_looked bytes x n (look.Figures m f) e r h = (h.0 ∙ e, (x, r, h.1))
register_looked bytes x n (look.NoRegister m f) e r h = absurd h
register_looked bytes x n (look.Unread f) e r h = absurd h
register_looked bytes x n (look.NoShelf p) e r h = absurd h

pub shelf_looked : {D : Type 0} (d : Disks D) (old new : D) (bytes : List ℕ) (l : Look) → (IsTrue (d.tells old) → slots.IsShelf (d.seen old) bytes) → StaysOn d old new → IsRegisterLook bytes l → IsShelfLook d old new l
shelf_looked d old new bytes (look.Figures n f) found stays h = (h.1.0, λ told. (record { bytes = bytes; shelf = found told; held = h.1.1 }, h.0), h.1.2, stays)
shelf_looked d old new bytes (look.NoRegister n f) found stays h = absurd h
shelf_looked d old new bytes (look.Unread f) found stays h = absurd h
shelf_looked d old new bytes (look.NoShelf p) found stays h =
    subst (λ (k : ShelfProblem). IsUnrestored d old new (cli.Shelf k)) (sym h.0) (λ told. none_by_bytes (d.seen old) bytes (found told) h.1, stays)

abbrev again : {T E : Type 0} → E → Result T E
again e = Err e

pub not_shelf_looked : {D T : Type 0} (d : Disks D) (old new : D) (f : ShelfFault) → f ≡ shelf.NotShelf → CountsFault {T = T} (Err f) (d.failures old) (d.failures new)
    → (IsTrue (d.tells old) → IsErrOf {T = T} (Err f) shelf.NotShelf → slots.IsNoShelf (d.seen old)) → AddsNothingTo d old new → IsUnrestored d old new (cli.Shelf problem.NotShelf)
not_shelf_looked {T = T} d old new f e counts none nothing =
    let quiet : d.failures new ≡ d.failures old = subst (λ (k : ShelfFault). CountsFault {T = T} (Err k) (d.failures old) (d.failures new)) e counts in
    (λ told. none_by_slots (d.seen old) (none told (ap (λ (k : ShelfFault). again {T = T} k) e)), record { quiet = quiet; nothing = nothing })
