-- One more source is read, after those before it.
use Rattle.std.proofs.Common.{◌≡◌, ◌∷◌, ◌++◌, [], List, ℕ, ◌+◌, ◌<◌, ◌≤◌, zero, suc, length, map, take, drop, get_or, slice_set, refl, ap, sym, subst, append-nil, append_assoc, arith, Some, None, ◌∙◌}
use Rattle.std.proofs.lemmas.List.{take_all, length-map}
use Rattle.std.proofs.Math.Numerals.{suc-eq-add-one}
use Rattle.std.specs.declared.option.Option.{Option}
use Rattle.std.specs.Io.KnownBytes.{Consumes}
use Rattle.byte_io.specs.Device.{SourceState}
use Rattle.reg_file.specs.Parts.{FindsPart}
use Rattle.reg_file.specs.declared.parts.Part.{Part}
use Rattle.reg_file.specs.declared.parts.Part.TheVariants as part
use Rattle.reg_op.specs.Contents.{Content}
use Rattle.reg_op.specs.Pieces.{Piece}
use Rattle.reg_engine.specs.declared.fault.InputFault.{InputFault}
use Rattle.reg_engine.specs.declared.fault.CliFault.{CliFault}
use Rattle.reg_engine.specs.declared.fault.CliFault.TheVariants as cli
use Rattle.reg_engine.specs.Inputs.{IsPartFault, NeverFails, IsPartUnread, HoldAll, StopsAt, StopsFrom, NoneFails, AreUnread, registers, pieces, GivePartsAfter}

abbrev head_of : {A : Type 0} → A → List A → A
head_of d [] = d
head_of d (x ∷ xs) = x

abbrev tail_of : {A : Type 0} → List A → List A
tail_of [] = []
tail_of (x ∷ xs) = xs

pub part_gives : (o n : SourceState) (p : Part) → FindsPart o n p → NeverFails o n
part_gives o n p (bytes, read, held) = (bytes, read.given, read.front, read.bounded, read.quiet)

pub Consumes-none : (left : Option (List ℕ)) → Consumes left left []
Consumes-none None = tt
Consumes-none (Some xs) = refl

gives_nothing : (o : SourceState) → NeverFails o o
gives_nothing o = ([], sym (append-nil o.given), Consumes-none o.left, omega (arith), refl)

pub none_given : (os : List SourceState) → NoneFails os os
none_given [] = tt
none_given (o ∷ os) = (gives_nothing o, none_given os)

pub none_failed : (os ns : List SourceState) (xs : List Part) → HoldAll os ns xs → NoneFails os ns
none_failed [] [] [] h = tt
none_failed [] [] (x ∷ xs) h = absurd h
none_failed [] (n ∷ ns) xs h = absurd h
none_failed (o ∷ os) [] xs h = absurd h
none_failed (o ∷ os) (n ∷ ns) [] h = absurd h
none_failed (o ∷ os) (n ∷ ns) (x ∷ xs) h = (part_gives o n x h.0, none_failed os ns xs h.1)

-- if the first file has number 1, the number of a file is its position in the list, from 1
pub stops_first : (k : ℕ) (f : InputFault) (old new : List SourceState) → StopsFrom 1 k f old new → StopsAt k f old new
stops_first k f old new (n, number, stops) = subst (λ j. StopsAt j f old new) (omega (arith, number)) stops

registers_next : (ps : List Part) (p : Part) → registers (ps ++ p ∷ []) ≡ registers ps ++ registers (p ∷ [])
registers_next [] p = refl
registers_next (part.Register x ∷ ps) p = ap (λ xs. x ∷ xs) (registers_next ps p)
registers_next (part.Piece q ∷ ps) p = registers_next ps p

pieces_next : (ps : List Part) (p : Part) → pieces (ps ++ p ∷ []) ≡ pieces ps ++ pieces (p ∷ [])
pieces_next [] p = refl
pieces_next (part.Register x ∷ ps) p = pieces_next ps p
pieces_next (part.Piece q ∷ ps) p = ap (λ qs. q ∷ qs) (pieces_next ps p)

module _ {S : Type 0} (st : S → SourceState) where
  first : (w n : S) (ws ns : List S) → map st (n ∷ ns) ≡ map st (w ∷ ws) → st n ≡ st w
  first w n ws ns e = ap (head_of (st n)) e

  others : (w n : S) (ws ns : List S) → map st (n ∷ ns) ≡ map st (w ∷ ws) → map st ns ≡ map st ws
  others w n ws ns e = ap tail_of e

  behind_suc : (was now : List S) (i : ℕ) (s : S) → length now ≡ length was → drop i (map st now) ≡ drop i (map st was)
      → drop (suc i) (map st (slice_set now i s)) ≡ drop (suc i) (map st was)
  behind_suc [] [] i s size back = refl
  behind_suc [] (n ∷ ns) i s size back = absurd (omega arith)
  behind_suc (w ∷ ws) [] i s size back = absurd (omega arith)
  behind_suc (w ∷ ws) (n ∷ ns) zero s size back = others w n ws ns back
  behind_suc (w ∷ ws) (n ∷ ns) (suc i) s size back = behind_suc ws ns i s (omega arith) back

  held_suc : (was now : List S) (i : ℕ) (o s : S) (xs : List Part) (x : Part) → i < length was → length now ≡ length was
      → HoldAll (take i (map st was)) (take i (map st now)) xs → drop i (map st now) ≡ drop i (map st was) → FindsPart (st (get_or now i o)) (st s) x
      → HoldAll (take (suc i) (map st was)) (take (suc i) (map st (slice_set now i s))) (xs ++ x ∷ [])
  held_suc was [] i o s xs x within size front back found = absurd (omega arith)
  held_suc [] (n ∷ ns) i o s xs x within size front back found = absurd (omega arith)
  held_suc (w ∷ ws) (n ∷ ns) zero o s [] x within size front back found = (subst (λ k. FindsPart k (st s) x) (first w n ws ns back) found, tt)
  held_suc (w ∷ ws) (n ∷ ns) zero o s (y ∷ ys) x within size front back found = absurd front
  held_suc (w ∷ ws) (n ∷ ns) (suc i) o s [] x within size front back found = absurd front
  held_suc (w ∷ ws) (n ∷ ns) (suc i) o s (y ∷ ys) x within size front back found = (front.0, held_suc ws ns i o s ys x (omega arith) (omega arith) front.1 back found)

  stops_suc : (was now : List S) (i : ℕ) (o s : S) (xs : List Part) (f : InputFault) → i < length was → length now ≡ length was
      → HoldAll (take i (map st was)) (take i (map st now)) xs → drop i (map st now) ≡ drop i (map st was) → IsPartFault f (st (get_or now i o)) (st s)
      → StopsAt (suc i) f (map st was) (map st (slice_set now i s))
  stops_suc was [] i o s xs f within size front back fault = absurd (omega arith)
  stops_suc [] (n ∷ ns) i o s xs f within size front back fault = absurd (omega arith)
  stops_suc (w ∷ ws) (n ∷ ns) zero o s xs f within size front back fault = (subst (λ k. IsPartFault f k (st s)) (first w n ws ns back) fault, others w n ws ns back)
  stops_suc (w ∷ ws) (n ∷ ns) (suc i) o s [] f within size front back fault = absurd front
  stops_suc (w ∷ ws) (n ∷ ns) (suc i) o s (y ∷ ys) f within size front back fault = ((y, front.0), stops_suc ws ns i o s ys f (omega arith) (omega arith) front.1 back fault)

  pub none_fails_next : (was now : List S) (i : ℕ) (o s : S) (xs : List Part) → i < length was → length now ≡ length was
      → HoldAll (take i (map st was)) (take i (map st now)) xs → drop i (map st now) ≡ drop i (map st was) → NeverFails (st (get_or now i o)) (st s)
      → NoneFails (map st was) (map st (slice_set now i s))
  none_fails_next was [] i o s xs within size front back gives = absurd (omega arith)
  none_fails_next [] (n ∷ ns) i o s xs within size front back gives = absurd (omega arith)
  none_fails_next (w ∷ ws) (n ∷ ns) zero o s xs within size front back gives =
      (subst (λ k. NeverFails k (st s)) (first w n ws ns back) gives, subst (λ k. NoneFails (map st ws) k) (sym (others w n ws ns back)) (none_given (map st ws)))
  none_fails_next (w ∷ ws) (n ∷ ns) (suc i) o s [] within size front back gives = absurd front
  none_fails_next (w ∷ ws) (n ∷ ns) (suc i) o s (y ∷ ys) within size front back gives = (part_gives _ _ y front.0, none_fails_next ws ns i o s ys (omega arith) (omega arith) front.1 back gives)

  pub behind : (was now : List S) (i : ℕ) (s : S) → length now ≡ length was → drop i (map st now) ≡ drop i (map st was)
      → drop (i + 1) (map st (slice_set now i s)) ≡ drop (i + 1) (map st was)
  behind was now i s size back = subst (λ j. drop j (map st (slice_set now i s)) ≡ drop j (map st was)) (suc-eq-add-one i) (behind_suc was now i s size back)

  pub held_next : (was now : List S) (i : ℕ) (o s : S) (xs : List Part) (x : Part) → i < length was → length now ≡ length was
      → HoldAll (take i (map st was)) (take i (map st now)) xs → drop i (map st now) ≡ drop i (map st was) → FindsPart (st (get_or now i o)) (st s) x
      → HoldAll (take (i + 1) (map st was)) (take (i + 1) (map st (slice_set now i s))) (xs ++ x ∷ [])
  held_next was now i o s xs x within size front back found =
      subst (λ j. HoldAll (take j (map st was)) (take j (map st (slice_set now i s))) (xs ++ x ∷ [])) (suc-eq-add-one i) (held_suc was now i o s xs x within size front back found)

  pub stops_next : (was now : List S) (i : ℕ) (o s : S) (xs : List Part) (f : InputFault) → i < length was → length now ≡ length was
      → HoldAll (take i (map st was)) (take i (map st now)) xs → drop i (map st now) ≡ drop i (map st was) → IsPartFault f (st (get_or now i o)) (st s)
      → StopsAt (i + 1) f (map st was) (map st (slice_set now i s))
  stops_next was now i o s xs f within size front back fault =
      subst (λ j. StopsAt j f (map st was) (map st (slice_set now i s))) (suc-eq-add-one i) (stops_suc was now i o s xs f within size front back fault)

  -- a fault of reading the source at index i is a fault of reading the list
  pub unread_next : (was now : List S) (next i number : ℕ) (o s : S) (xs : List Part) → i < length was → length now ≡ length was
      → HoldAll (take i (map st was)) (take i (map st now)) xs → drop i (map st now) ≡ drop i (map st was) → number ≡ next + i
      → (f : CliFault) → IsPartUnread number (st (get_or now i o)) (st s) f → AreUnread next (map st was) (map st (slice_set now i s)) f
  unread_next was now next i number o s xs within size front back at (cli.Refused r) h = absurd h
  unread_next was now next i number o s xs within size front back at (cli.File k f) (is, fault) = (i + 1, omega (arith, at, is), stops_next was now i o s xs f within size front back fault)
  unread_next was now next i number o s xs within size front back at (cli.Out f) h = absurd h
  unread_next was now next i number o s xs within size front back at cli.Memory h = none_fails_next was now i o s xs within size front back h
  unread_next was now next i number o s xs within size front back at (cli.Shelf p) h = absurd h
  unread_next was now next i number o s xs within size front back at (cli.Office t) h = absurd h

  -- if the sources before index i gave files, and no other was read, none has failed
  pub none_fails_yet : (was now : List S) (i : ℕ) (xs : List Part) → i < length was → length now ≡ length was
      → HoldAll (take i (map st was)) (take i (map st now)) xs → drop i (map st now) ≡ drop i (map st was) → NoneFails (map st was) (map st now)
  none_fails_yet was [] i xs within size front back = absurd (omega arith)
  none_fails_yet [] (n ∷ ns) i xs within size front back = absurd (omega arith)
  none_fails_yet (w ∷ ws) (n ∷ ns) zero xs within size front back = subst (λ k. NoneFails (map st (w ∷ ws)) k) (sym back) (none_given (map st (w ∷ ws)))
  none_fails_yet (w ∷ ws) (n ∷ ns) (suc i) [] within size front back = absurd front
  none_fails_yet (w ∷ ws) (n ∷ ns) (suc i) (y ∷ ys) within size front back = (part_gives _ _ y front.0, none_fails_yet ws ns i ys (omega arith) (omega arith) front.1 back)

  pub gives_next : (some : List Content) (few : List Piece) (was now : List S) (i : ℕ) (o s : S) (xs xs' : List Content) (qs qs' : List Piece) (p : Part) → i < length was → length now ≡ length was
      → GivePartsAfter some few (take i (map st was)) (take i (map st now)) xs qs → drop i (map st now) ≡ drop i (map st was) → FindsPart (st (get_or now i o)) (st s) p
      → xs' ≡ xs ++ registers (p ∷ []) → qs' ≡ qs ++ pieces (p ∷ []) → GivePartsAfter some few (take (i + 1) (map st was)) (take (i + 1) (map st (slice_set now i s))) xs' qs'
  gives_next some few was now i o s xs xs' qs qs' p within size (ps, front, xs-are, qs-are) back found pushed pushed' = (
    ps ++ p ∷ [],
    held_next was now i o s ps p within size front back found,
    pushed ∙ ap (λ ys. ys ++ registers (p ∷ [])) xs-are ∙ append_assoc some (registers ps) (registers (p ∷ [])) ∙ ap (λ ys. some ++ ys) (sym (registers_next ps p)),
    pushed' ∙ ap (λ ys. ys ++ pieces (p ∷ [])) qs-are ∙ append_assoc few (pieces ps) (pieces (p ∷ [])) ∙ ap (λ ys. few ++ ys) (sym (pieces_next ps p)),
  )

  -- after the last source, all sources have given the files of parts
  pub gives_all : (some : List Content) (few : List Piece) (was now : List S) (i : ℕ) (xs : List Content) (qs : List Piece) → length was ≤ i → length now ≡ length was
      → GivePartsAfter some few (take i (map st was)) (take i (map st now)) xs qs → GivePartsAfter some few (map st was) (map st now) xs qs
  gives_all some few was now i xs qs past size h =
      subst (λ os. GivePartsAfter some few os (map st now) xs qs) (take_all i (map st was) (omega (arith, length-map was st, past)))
      (subst (λ ns. GivePartsAfter some few (take i (map st was)) ns xs qs) (take_all i (map st now) (omega (arith, length-map now st, size, past))) h)

-- before the first source, nothing is given
pub none_given_yet : (some : List Content) (few : List Piece) → GivePartsAfter some few [] [] some few
none_given_yet some few = ([], tt, sym (append-nil some), sym (append-nil few))
