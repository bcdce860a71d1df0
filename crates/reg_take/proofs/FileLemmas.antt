-- Reading the next of some files, after those before it are read.
use Rattle.std.proofs.Common.{◌≡◌, ◌∷◌, ◌++◌, [], Bool, true, false, List, ℕ, ◌+◌, ◌<◌, zero, suc, length, map, take, drop, get_or, slice_set, refl, ap, sym, subst, ◌∙◌, append_assoc, append-nil, arith, inl, inr}
use Rattle.std.proofs.lemmas.Bool.{both_ways}
use Rattle.std.proofs.Math.Numerals.{suc-eq-add-one}
use Rattle.byte_io.specs.Device.{SourceState}
use Rattle.reg_op.specs.Ids.{Id}
use Rattle.reg_file.specs.Parts.{FindsPart, IsPartReadFromFault}
use Rattle.reg_file.specs.declared.fault.ReadFileFault.{ReadFileFault}
use Rattle.reg_file.specs.declared.fault.ReadFileFault.TheVariants as reading
use Rattle.reg_file.specs.declared.parts.Part.{Part}
use Rattle.reg_engine.specs.declared.fault.CliFault.{CliFault}
use Rattle.reg_engine.specs.declared.fault.CliFault.TheVariants as cli
use Rattle.reg_take.specs.declared.options.TakeOptions.{TakeOptions}
use Rattle.reg_take.specs.declared.files.Arrival.{Arrival}
use Rattle.reg_take.specs.declared.files.Arrival.TheVariants as arrival
use Rattle.reg_take.specs.Files.{FileState, file_state, fault_in, brought, judged, IsScreened, IsUnread, HasFault, IsArrival, IsLast, AreArrivals, IsRetiredIn, AreRetired, StopsAt, IsStopped}

abbrev head_of : {A : Type 0} → A → List A → A
head_of d [] = d
head_of d (x ∷ xs) = x

abbrev tail_of : {A : Type 0} → List A → List A
tail_of [] = []
tail_of (x ∷ xs) = xs

-- if the command does not keep going, each file that arrived gave a part
part_given : (how : TakeOptions) (k : ℕ) (o n : FileState) (a : Arrival) → how.keep_going ≡ false → IsArrival how k o n a → (p : Part) × FindsPart o.source n.source p
part_given how k o n (arrival.Register x) dry h = (h.0, h.1)
part_given how k o n (arrival.Piece p) dry h = (h.0, h.1)
part_given how k o n (arrival.Unread m f) dry h = absurd (both_ways how.keep_going dry h.0)
part_given how k o n (arrival.Forged id) dry h = (h.0, h.1)

-- the fault of reading a file is a fault of the file
pub fault_is : (number : ℕ) (was shut : Bool) (o n : SourceState) (f : ReadFileFault) → IsPartReadFromFault o n f
    → IsUnread number (file_state o was) (file_state n shut) (fault_in number shut f)
fault_is number was true o n (reading.ReadFailed m) h = inr (refl, (refl, (m, h)))
fault_is number was false o n (reading.ReadFailed m) h = inr (refl, (refl, h))
fault_is number was true o n (reading.File f place) h = inr (refl, h)
fault_is number was false o n (reading.File f place) h = inr (refl, h)
fault_is number was true o n reading.TooLarge h = inr (refl, h)
fault_is number was false o n reading.TooLarge h = inr (refl, h)
fault_is number was true o n reading.Memory h = inl refl
fault_is number was false o n reading.Memory h = inl refl

pub late_fault : (number : ℕ) (was : Bool) (o n m : SourceState) (shut told : Bool) (f : ReadFileFault) (g : CliFault) → m ≡ n → told ≡ shut → g ≡ fault_in number told f → IsPartReadFromFault o n f
    → IsUnread number (file_state o was) (file_state m shut) g
late_fault number was o n m shut told f g gave same is h =
    subst (λ k. IsUnread number (file_state o was) (file_state m shut) k) (sym is)
    (subst (λ b. IsUnread number (file_state o was) (file_state m shut) (fault_in number b f)) (sym same) (fault_is number was shut o m f (subst (λ k. IsPartReadFromFault o k f) (sym gave) h)))

-- a fault other than lack of memory is a fault of the file
pub of_file : (number : ℕ) (o n : FileState) (f : CliFault) → (f ≡ cli.Memory → ⊥) → IsUnread number o n f → HasFault number o n f
of_file number o n f other (inl memory) = absurd (other memory)
of_file number o n f other (inr fault) = fault

module _ {S : Type 0} (st : S → FileState) (how : TakeOptions) where
  first : (w n : S) (ws ns : List S) → map st (n ∷ ns) ≡ map st (w ∷ ws) → st n ≡ st w
  first w n ws ns e = ap (head_of (st n)) e

  others : (w n : S) (ws ns : List S) → map st (n ∷ ns) ≡ map st (w ∷ ws) → map st ns ≡ map st ws
  others w n ws ns e = ap tail_of e

  behind_suc : (was now : List S) (i : ℕ) (s : S) → length now ≡ length was → drop i (map st now) ≡ drop i (map st was)
      → drop (suc i) (map st (slice_set now i s)) ≡ drop (suc i) (map st was)
  behind_suc [] [] i s size back = refl
  behind_suc [] (n ∷ ns) i s size back = absurd (omega arith)
  behind_suc (w ∷ ws) [] i s size back = absurd (omega arith)
  behind_suc (w ∷ ws) (n ∷ ns) zero s size back = others w n ws ns back
  behind_suc (w ∷ ws) (n ∷ ns) (suc i) s size back = behind_suc ws ns i s (omega arith) back

  pub behind : (was now : List S) (i : ℕ) (s : S) → length now ≡ length was → drop i (map st now) ≡ drop i (map st was)
      → drop (i + 1) (map st (slice_set now i s)) ≡ drop (i + 1) (map st was)
  behind was now i s size back = subst (λ j. drop j (map st (slice_set now i s)) ≡ drop j (map st was)) (suc-eq-add-one i) (behind_suc was now i s size back)

  arrived_suc : (was now : List S) (number i k : ℕ) (o s : S) (gave : List Arrival) (a : Arrival) → i < length was → length now ≡ length was
      → AreArrivals how number (take i (map st was)) (take i (map st now)) gave → drop i (map st now) ≡ drop i (map st was) → k ≡ number + i → IsArrival how k (st (get_or now i o)) (st s) a
      → AreArrivals how number (take (suc i) (map st was)) (take (suc i) (map st (slice_set now i s))) (gave ++ a ∷ [])
  arrived_suc was [] number i k o s gave a within size front back at is = absurd (omega arith)
  arrived_suc [] (n ∷ ns) number i k o s gave a within size front back at is = absurd (omega arith)
  arrived_suc (w ∷ ws) (n ∷ ns) number zero k o s [] a within size front back at is =
      let same : k ≡ number = omega (arith, at) in
      (subst (λ j. IsArrival how j (st w) (st s) a) same (subst (λ j. IsArrival how k j (st s) a) (first w n ws ns back) is), tt)
  arrived_suc (w ∷ ws) (n ∷ ns) number zero k o s (b ∷ bs) a within size front back at is = absurd front
  arrived_suc (w ∷ ws) (n ∷ ns) number (suc i) k o s [] a within size front back at is = absurd front
  arrived_suc (w ∷ ws) (n ∷ ns) number (suc i) k o s (b ∷ bs) a within size front back at is =
      (front.0, arrived_suc ws ns (number + 1) i k o s bs a (omega arith) (omega arith) front.1 back (omega (arith, at)) is)

  pub arrived_next : (was now : List S) (number i k : ℕ) (o s : S) (gave bs : List Arrival) (a : Arrival) → i < length was → length now ≡ length was
      → AreArrivals how number (take i (map st was)) (take i (map st now)) gave → drop i (map st now) ≡ drop i (map st was) → k ≡ number + i → IsArrival how k (st (get_or now i o)) (st s) a
      → bs ≡ gave ++ a ∷ [] → AreArrivals how number (take (i + 1) (map st was)) (take (i + 1) (map st (slice_set now i s))) bs
  arrived_next was now number i k o s gave bs a within size front back at is pushed =
      subst (λ j. AreArrivals how number (take j (map st was)) (take j (map st (slice_set now i s))) bs) (suc-eq-add-one i)
      (subst (λ ks. AreArrivals how number (take (suc i) (map st was)) (take (suc i) (map st (slice_set now i s))) ks) (sym pushed) (arrived_suc was now number i k o s gave a within size front back at is))

  retired_suc : (was now : List S) (number i k : ℕ) (o s : S) (ids more : List Id) → i < length was → length now ≡ length was
      → AreRetired how number (take i (map st was)) (take i (map st now)) ids → drop i (map st now) ≡ drop i (map st was) → k ≡ number + i → IsRetiredIn how k (st (get_or now i o)) (st s) more
      → AreRetired how number (take (suc i) (map st was)) (take (suc i) (map st (slice_set now i s))) (ids ++ more)
  retired_suc was [] number i k o s ids more within size front back at is = absurd (omega arith)
  retired_suc [] (n ∷ ns) number i k o s ids more within size front back at is = absurd (omega arith)
  retired_suc (w ∷ ws) (n ∷ ns) number zero k o s ids more within size front back at is =
      let same : k ≡ number = omega (arith, at) in
      (more, [], subst (λ j. IsRetiredIn how j (st w) (st s) more) same (subst (λ j. IsRetiredIn how k j (st s) more) (first w n ws ns back) is), refl, ap (λ (l : List Id). l ++ more) front ∙ sym (append-nil more))
  retired_suc (w ∷ ws) (n ∷ ns) number (suc i) k o s ids more within size (these, rest, one, others, all) back at is =
      (these, rest ++ more, one, retired_suc ws ns (number + 1) i k o s rest more (omega arith) (omega arith) others back (omega (arith, at)) is, ap (λ (l : List Id). l ++ more) all ∙ append_assoc these rest more)

  -- the entries that are retired in one file more
  pub retired_next : (was now : List S) (number i k : ℕ) (o s : S) (ids all more : List Id) → i < length was → length now ≡ length was
      → AreRetired how number (take i (map st was)) (take i (map st now)) ids → drop i (map st now) ≡ drop i (map st was) → k ≡ number + i → IsRetiredIn how k (st (get_or now i o)) (st s) more
      → all ≡ ids ++ more → AreRetired how number (take (i + 1) (map st was)) (take (i + 1) (map st (slice_set now i s))) all
  retired_next was now number i k o s ids all more within size front back at is pushed =
      subst (λ j. AreRetired how number (take j (map st was)) (take j (map st (slice_set now i s))) all) (suc-eq-add-one i)
      (subst (λ ks. AreRetired how number (take (suc i) (map st was)) (take (suc i) (map st (slice_set now i s))) ks) (sym pushed) (retired_suc was now number i k o s ids more within size front back at is))

  stops_at : (was now : List S) (number i k : ℕ) (o s : S) (gave : List Arrival) (f : CliFault) → how.keep_going ≡ false → i < length was → length now ≡ length was
      → AreArrivals how number (take i (map st was)) (take i (map st now)) gave → drop i (map st now) ≡ drop i (map st was) → k ≡ number + i → HasFault k (st (get_or now i o)) (st s) f
      → StopsAt number f (map st was) (map st (slice_set now i s))
  stops_at was [] number i k o s gave f dry within size front back at fault = absurd (omega arith)
  stops_at [] (n ∷ ns) number i k o s gave f dry within size front back at fault = absurd (omega arith)
  stops_at (w ∷ ws) (n ∷ ns) number zero k o s gave f dry within size front back at fault =
      let same : k ≡ number = omega (arith, at) in
      inl (subst (λ j. HasFault j (st w) (st s) f) same (subst (λ j. HasFault k j (st s) f) (first w n ws ns back) fault), others w n ws ns back)
  stops_at (w ∷ ws) (n ∷ ns) number (suc i) k o s [] f dry within size front back at fault = absurd front
  stops_at (w ∷ ws) (n ∷ ns) number (suc i) k o s (b ∷ bs) f dry within size front back at fault =
      inr (part_given how number (st w) (st n) b dry front.0, stops_at ws ns (number + 1) i k o s bs f dry (omega arith) (omega arith) front.1 back (omega (arith, at)) fault)

  -- a fault that ends the reading of the next file ends that of all
  pub last_stops : (was now : List S) (number i k : ℕ) (o s : S) (gave : List Arrival) (f : CliFault) → i < length was → length now ≡ length was
      → AreArrivals how number (take i (map st was)) (take i (map st now)) gave → drop i (map st now) ≡ drop i (map st was) → k ≡ number + i → IsLast how k (st (get_or now i o)) (st s) f
      → IsStopped how number (map st was) (map st (slice_set now i s)) f
  last_stops was now number i k o s gave f within size front back at (inl memory) = inl memory
  last_stops was now number i k o s gave f within size front back at (inr (dry, fault)) = inr (dry, stops_at was now number i k o s gave f dry within size front back at fault)

-- what arrives of a part is what its file gave
pub screened_arrival : (how : TakeOptions) (k : ℕ) (o n : FileState) (p : Part) (a : Arrival) → FindsPart o.source n.source p → IsScreened (judged how) (brought how.offices.items p) a → IsArrival how k o n a
screened_arrival how k o n p (arrival.Register x) finds is = (p, finds, is)
screened_arrival how k o n p (arrival.Piece q) finds is = (p, finds, is)
screened_arrival how k o n p (arrival.Unread m f) finds is = absurd is
screened_arrival how k o n p (arrival.Forged id) finds is = (p, finds, is)
