-- Reading the next of some files, after those before it gave their bytes.
use Rattle.std.proofs.Common.{◌≡◌, ◌∷◌, ◌++◌, [], List, ℕ, ◌+◌, ◌<◌, zero, suc, length, map, take, drop, get_or, slice_set, refl, ap, sym, subst, arith, inl, inr, ◌∙◌}
use Rattle.std.proofs.Math.Numerals.{suc-eq-add-one}
use Rattle.byte_io.specs.Device.{SourceState}
use Rattle.byte_io.specs.Whole.{StopsEarly}
use Rattle.reg_file.specs.Files.{most}
use Rattle.reg_engine.specs.declared.fault.InputFault.{InputFault}
use Rattle.reg_engine.specs.declared.fault.CliFault.{CliFault}
use Rattle.reg_engine.specs.declared.fault.CliFault.TheVariants as cli
use Rattle.reg_engine.specs.Inputs.{NeverFails, NoneFails}
use Rattle.reg_engine.proofs.InputLemmas.{none_given}
use Rattle.reg_engine.specs.WholeFile.{Gives, IsFileFault}
use Rattle.reg_desk.specs.ImportFiles.{GiveAll, StopsAt, IsUnreadFile, RunsOutIn, AreUnread}

abbrev head_of : {A : Type 0} → A → List A → A
head_of d [] = d
head_of d (x ∷ xs) = x

abbrev tail_of : {A : Type 0} → List A → List A
tail_of [] = []
tail_of (x ∷ xs) = xs

pub gave_some : (o n : SourceState) (b : List ℕ) → Gives o n b → NeverFails o n
gave_some o n b (read, short) = (b, read.given, read.front, read.bounded, read.quiet)

-- a source that is not read
stops_at_once : (o : SourceState) → StopsEarly (most + 1) o o
stops_at_once o = let g = (none_given (o ∷ [])).0 in (g.0, g.1, g.2, g.3, g.4, refl)

module _ {F : Type 0} (st : F → SourceState) where
  first : (w n : F) (ws ns : List F) → map st (n ∷ ns) ≡ map st (w ∷ ws) → st n ≡ st w
  first w n ws ns e = ap (head_of (st n)) e

  others : (w n : F) (ws ns : List F) → map st (n ∷ ns) ≡ map st (w ∷ ws) → map st ns ≡ map st ws
  others w n ws ns e = ap tail_of e

  behind_suc : (was now : List F) (i : ℕ) (s : F) → length now ≡ length was → drop i (map st now) ≡ drop i (map st was)
      → drop (suc i) (map st (slice_set now i s)) ≡ drop (suc i) (map st was)
  behind_suc [] [] i s size back = refl
  behind_suc [] (n ∷ ns) i s size back = absurd (omega arith)
  behind_suc (w ∷ ws) [] i s size back = absurd (omega arith)
  behind_suc (w ∷ ws) (n ∷ ns) zero s size back = others w n ws ns back
  behind_suc (w ∷ ws) (n ∷ ns) (suc i) s size back = behind_suc ws ns i s (omega arith) back

  pub behind : (was now : List F) (i : ℕ) (s : F) → length now ≡ length was → drop i (map st now) ≡ drop i (map st was)
      → drop (i + 1) (map st (slice_set now i s)) ≡ drop (i + 1) (map st was)
  behind was now i s size back = subst (λ j. drop j (map st (slice_set now i s)) ≡ drop j (map st was)) (suc-eq-add-one i) (behind_suc was now i s size back)

  gave_suc : (was now : List F) (i : ℕ) (o s : F) (bs : List (List ℕ)) (b : List ℕ) → i < length was → length now ≡ length was
      → GiveAll (take i (map st was)) (take i (map st now)) bs → drop i (map st now) ≡ drop i (map st was) → Gives (st (get_or now i o)) (st s) b
      → GiveAll (take (suc i) (map st was)) (take (suc i) (map st (slice_set now i s))) (bs ++ b ∷ [])
  gave_suc was [] i o s bs b within size front back gives = absurd (omega arith)
  gave_suc [] (n ∷ ns) i o s bs b within size front back gives = absurd (omega arith)
  gave_suc (w ∷ ws) (n ∷ ns) zero o s [] b within size front back gives = (subst (λ k. Gives k (st s) b) (first w n ws ns back) gives, tt)
  gave_suc (w ∷ ws) (n ∷ ns) zero o s (c ∷ cs) b within size front back gives = absurd front
  gave_suc (w ∷ ws) (n ∷ ns) (suc i) o s [] b within size front back gives = absurd front
  gave_suc (w ∷ ws) (n ∷ ns) (suc i) o s (c ∷ cs) b within size front back gives = (front.0, gave_suc ws ns i o s cs b (omega arith) (omega arith) front.1 back gives)

  pub gave_next : (was now : List F) (i : ℕ) (o s : F) (bs cs : List (List ℕ)) (b : List ℕ) → i < length was → length now ≡ length was
      → GiveAll (take i (map st was)) (take i (map st now)) bs → drop i (map st now) ≡ drop i (map st was) → Gives (st (get_or now i o)) (st s) b → cs ≡ bs ++ b ∷ []
      → GiveAll (take (i + 1) (map st was)) (take (i + 1) (map st (slice_set now i s))) cs
  gave_next was now i o s bs cs b within size front back gives pushed =
      subst (λ j. GiveAll (take j (map st was)) (take j (map st (slice_set now i s))) cs) (suc-eq-add-one i)
      (subst (λ ds. GiveAll (take (suc i) (map st was)) (take (suc i) (map st (slice_set now i s))) ds) (sym pushed) (gave_suc was now i o s bs b within size front back gives))

  stops_at : (was now : List F) (number i k : ℕ) (o s : F) (bs : List (List ℕ)) (f : InputFault) → i < length was → length now ≡ length was
      → GiveAll (take i (map st was)) (take i (map st now)) bs → drop i (map st now) ≡ drop i (map st was) → k ≡ number + i → IsFileFault f (st (get_or now i o)) (st s)
      → StopsAt number k f (map st was) (map st (slice_set now i s))
  stops_at was [] number i k o s bs f within size front back at fault = absurd (omega arith)
  stops_at [] (n ∷ ns) number i k o s bs f within size front back at fault = absurd (omega arith)
  stops_at (w ∷ ws) (n ∷ ns) number zero k o s bs f within size front back at fault =
      inl (omega (arith, at), subst (λ j. IsFileFault f j (st s)) (first w n ws ns back) fault, others w n ws ns back)
  stops_at (w ∷ ws) (n ∷ ns) number (suc i) k o s [] f within size front back at fault = absurd front
  stops_at (w ∷ ws) (n ∷ ns) number (suc i) k o s (c ∷ cs) f within size front back at fault =
      inr ((c, front.0), stops_at ws ns (number + 1) i k o s cs f (omega arith) (omega arith) front.1 back (omega (arith, at)) fault)

  -- if memory runs out in the next file, it does in the files
  pub runs_out_next : (was now : List F) (i : ℕ) (o s : F) (bs : List (List ℕ)) → i < length was → length now ≡ length was
      → GiveAll (take i (map st was)) (take i (map st now)) bs → drop i (map st now) ≡ drop i (map st was) → StopsEarly (most + 1) (st (get_or now i o)) (st s)
      → RunsOutIn (map st was) (map st (slice_set now i s))
  runs_out_next was [] i o s bs within size front back stops = absurd (omega arith)
  runs_out_next [] (n ∷ ns) i o s bs within size front back stops = absurd (omega arith)
  runs_out_next (w ∷ ws) (n ∷ ns) zero o s bs within size front back stops = inl (subst (λ k. StopsEarly (most + 1) k (st s)) (first w n ws ns back) stops, others w n ws ns back)
  runs_out_next (w ∷ ws) (n ∷ ns) (suc i) o s [] within size front back stops = absurd front
  runs_out_next (w ∷ ws) (n ∷ ns) (suc i) o s (c ∷ cs) within size front back stops = inr ((c, front.0), runs_out_next ws ns i o s cs (omega arith) (omega arith) front.1 back stops)

  -- or before it is read
  pub runs_out_yet : (was now : List F) (i : ℕ) (bs : List (List ℕ)) → i < length was → length now ≡ length was
      → GiveAll (take i (map st was)) (take i (map st now)) bs → drop i (map st now) ≡ drop i (map st was) → RunsOutIn (map st was) (map st now)
  runs_out_yet was [] i bs within size front back = absurd (omega arith)
  runs_out_yet [] (n ∷ ns) i bs within size front back = absurd (omega arith)
  runs_out_yet (w ∷ ws) (n ∷ ns) zero bs within size front back = inl (subst (λ k. StopsEarly (most + 1) (st w) k) (sym (first w n ws ns back)) (stops_at_once (st w)), others w n ws ns back)
  runs_out_yet (w ∷ ws) (n ∷ ns) (suc i) [] within size front back = absurd front
  runs_out_yet (w ∷ ws) (n ∷ ns) (suc i) (c ∷ cs) within size front back = inr ((c, front.0), runs_out_yet ws ns i cs (omega arith) (omega arith) front.1 back)

  -- if the first i files gave their bytes and the others are unread, none has failed
  pub none_fails_yet : (was now : List F) (i : ℕ) (bs : List (List ℕ)) → length now ≡ length was
      → GiveAll (take i (map st was)) (take i (map st now)) bs → drop i (map st now) ≡ drop i (map st was) → NoneFails (map st was) (map st now)
  none_fails_yet was now zero bs size front back = subst (λ k. NoneFails (map st was) k) (sym back) (none_given (map st was))
  none_fails_yet [] [] (suc i) bs size front back = tt
  none_fails_yet [] (n ∷ ns) (suc i) bs size front back = absurd (omega arith)
  none_fails_yet (w ∷ ws) [] (suc i) bs size front back = absurd (omega arith)
  none_fails_yet (w ∷ ws) (n ∷ ns) (suc i) [] size front back = absurd front
  none_fails_yet (w ∷ ws) (n ∷ ns) (suc i) (c ∷ cs) size front back = (gave_some _ _ c front.0, none_fails_yet ws ns i cs (omega arith) front.1 back)

  -- the fault of the next file is the fault of all files
  pub unread_next : (was now : List F) (number i k : ℕ) (o s : F) (bs : List (List ℕ)) → i < length was → length now ≡ length was
      → GiveAll (take i (map st was)) (take i (map st now)) bs → drop i (map st now) ≡ drop i (map st was) → k ≡ number + i
      → (f : CliFault) → IsUnreadFile k (st (get_or now i o)) (st s) f → AreUnread number (map st was) (map st (slice_set now i s)) f
  unread_next was now number i k o s bs within size front back at (cli.Refused r) h = absurd h
  unread_next was now number i k o s bs within size front back at (cli.File j f) (same, fault) = stops_at was now number i j o s bs f within size front back (same ∙ at) fault
  unread_next was now number i k o s bs within size front back at (cli.Out f) h = absurd h
  unread_next was now number i k o s bs within size front back at cli.Memory h = inl (runs_out_next was now i o s bs within size front back h)
  unread_next was now number i k o s bs within size front back at (cli.Shelf p) h = absurd h
  unread_next was now number i k o s bs within size front back at (cli.Office t) h = absurd h
