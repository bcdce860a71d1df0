-- Reading a field takes the bytes that are written for its value, and these bytes are read as the value.
use Rattle.std.proofs.Common.{◌≡◌, ℕ, suc, ◌+◌, ◌^◌, ◌<◌, ◌≤◌, ◌||◌, Bool, true, false, cond, eqb, ltb, List, [], ◌∷◌, ◌++◌, length, get_or, take, drop, Option, Result, Ok, Err, refl, sym, ap, subst, ◌∙◌, append_assoc, arith, inl, inr}
use Rattle.std.specs.Prelude.{All}
use Rattle.std.specs.Int.{Width, w32, byte_len, from_be_bytes, to_be_bytes}
use Rattle.std.proofs.lemmas.Bool.{cases_lt, ltb-false, le-ltb, eqb-true, or_parts, eq-eqb}
use Rattle.std.proofs.lemmas.List.{take_at, drop_at, take-append-drop, length-append, length-take, get_or-drop, get_or-take, get_or_past}
use Rattle.std.proofs.lemmas.Grind.{get_or_default_zero}
use Rattle.std.proofs.lemmas.Nat.{be_bytes_4, from_be_bytes-to_be_bytes_4}
use Rattle.reg_op.specs.Set as set
use Rattle.reg_op.specs.Ids.{Id, Ids, IsId, is_same}
use Rattle.reg_state.specs.Runs.{meets}
use Rattle.reg_op.specs.DefinitionFault.TheVariants as definition
use Rattle.reg_file.specs.declared.span.Span.{Span}
use Rattle.reg_file.specs.declared.fault.Refused.{Refused}
use Rattle.reg_file.specs.declared.fault.FileFault.{FileFault}
use Rattle.reg_file.specs.declared.fault.FileFault.TheVariants.{Magic, Version, Kind, Truncated, Ranges, ReplicaOrder, OpOrder, OpIdBad, NotSeen, SameEntry, Definition}
use Rattle.reg_file.specs.Layout.{four, id_bytes, span_bytes, run_at, head}
use Rattle.reg_file.specs.Fields.{◌>>=◌, refused, cut_at, number_at, kind_at, version_at, head_at, is_unfit, span_at, is_above, replica_at, count_at, group_at, id_at, is_after, own_at, text_at, pair_at}

abbrev pub IsBytes : List ℕ → Type 0
IsBytes bytes = (i : ℕ) → get_or bytes i 0 < 256

IsBytes-drop : (n : ℕ) (bytes : List ℕ) → IsBytes bytes → IsBytes (drop n bytes)
IsBytes-drop n bytes h i = rw get_or-drop (h (n + i))

IsBytes-take : (n : ℕ) (bytes : List ℕ) → IsBytes bytes → IsBytes (take n bytes)
IsBytes-take n bytes h i =
    elim (cases_lt i n) [
      | inl lt ↦ rw (get_or-take n bytes i 0 lt) (h i)
      | inr le ↦ rw (get_or_past (take n bytes) i 0 (omega (arith, length-take n bytes))) (omega arith)
    ]

pub IsBytes-rest : (b : ℕ) (bytes : List ℕ) → IsBytes (b ∷ bytes) → IsBytes bytes
IsBytes-rest b bytes h i = h (suc i)

pub all_bytes : (bytes : List ℕ) → IsBytes bytes → All (λ b. b < 256) bytes
all_bytes bytes h = λ k d lt. subst (λ n. n < 256) (sym (get_or_default_zero bytes k d lt)) (h k)

-- if two steps in sequence succeed, the first gives a value on which the second succeeds
pub bind_ok : {A B : Type 0} (r : Result A Refused) (f : A → Result B Refused) (y : B) → (r >>= f) ≡ Ok y → (x : A) × (r ≡ Ok x) × (f x ≡ Ok y)
bind_ok (Ok x) f y e = (x, refl, e)
bind_ok (Err d) f y e = absurd cc

-- if a guarded step succeeds, its test did not refuse, and the step is the result
pub guard_ok : {A : Type 0} (b : Bool) (d : Refused) (x : Result A Refused) (y : A) → cond b (Err d) x ≡ Ok y → (b ≡ false) × (x ≡ Ok y)
guard_ok true d x y e = absurd cc
guard_ok false d x y e = (refl, e)

pub guard_ended : {A : Type 0} (b : Bool) (d : Refused) (x : Result A Refused) (y : A) → cond b x (Err d) ≡ Ok y → (b ≡ true) × (x ≡ Ok y)
guard_ended true d x y e = (refl, e)
guard_ended false d x y e = absurd cc

abbrev done : {A : Type 0} → A → Result A Refused
done x = Ok x

pub ok_is : {A : Type 0} (x y : A) → done x ≡ done y → x ≡ y
ok_is x y e = cc

-- the bytes are the text and the rest after it
pub record Takes (bytes text rest : List ℕ) : Type 0 where
  pub parts : bytes ≡ text ++ rest
  pub rest_fits : IsBytes rest

pub Takes-then : (a x b y c : List ℕ) → Takes a x b → Takes b y c → Takes a (x ++ y) c
Takes-then a x b y c p q = record { parts = p.parts ∙ ap (λ (t : List ℕ). x ++ t) q.parts ∙ sym (append_assoc x y c); rest_fits = q.rest_fits }

-- ---- numbers, and fields of a given length

abbrev cut_short : Refused
cut_short = record { fault = Truncated; left = 0 }

abbrev pub at : FileFault → ℕ → Refused
at fault left = record { fault = fault; left = left }

pub record IsWide (w : Width) (limit : ℕ) : Type 0 where
  pub len : (n : ℕ) → length (to_be_bytes w n) ≡ byte_len w
  pub back : (bytes : List ℕ) → length bytes ≡ byte_len w → IsBytes bytes → to_be_bytes w (from_be_bytes w bytes) ≡ bytes
  pub again : (n : ℕ) → n < limit → from_be_bytes w (to_be_bytes w n) ≡ n
  pub below : (bytes : List ℕ) → IsBytes bytes → from_be_bytes w bytes < limit

pub wide32 : IsWide w32 (2 ^ 32)
wide32 = record {
  len = λ n. refl;
  back = λ bytes len fits. be_bytes_4 bytes _ len fits refl;
  again = λ n lt. from_be_bytes-to_be_bytes_4 n lt;
  below = λ bytes fits. omega (arith, fits 0, fits 1, fits 2, fits 3);
}

number_takes_by : (w : Width) (limit : ℕ) (wide : IsWide w limit) (bytes : List ℕ) (n : ℕ) (rest : List ℕ) → IsBytes bytes → number_at w bytes ≡ Ok (n, rest) → Takes bytes (to_be_bytes w n) rest × (n < limit)
number_takes_by w limit wide bytes n rest fits e =
    let g = guard_ok (ltb (length bytes) (byte_len w)) cut_short (Ok (from_be_bytes w (take (byte_len w) bytes), drop (byte_len w) bytes)) (n, rest) e in
    let long : byte_len w ≤ length bytes = ltb-false _ _ g.0 in
    let is = ok_is _ _ g.1 in
    let n-is : from_be_bytes w (take (byte_len w) bytes) ≡ n = ap (λ (p : ℕ × List ℕ). p.0) is in
    let rest-is : drop (byte_len w) bytes ≡ rest = ap (λ (p : ℕ × List ℕ). p.1) is in
    let front : to_be_bytes w n ≡ take (byte_len w) bytes = rw (← n-is) (wide.back (take (byte_len w) bytes) (omega (arith, length-take (byte_len w) bytes)) (IsBytes-take (byte_len w) bytes fits)) in
    (record { parts = rw (front, ← rest-is) (sym (take-append-drop (byte_len w) bytes)); rest_fits = rw (← rest-is) (IsBytes-drop (byte_len w) bytes fits) }, rw (← n-is) (wide.below (take (byte_len w) bytes) (IsBytes-take (byte_len w) bytes fits)))

number_again_by : (w : Width) (limit : ℕ) (wide : IsWide w limit) (n : ℕ) (rest : List ℕ) → n < limit → number_at w (to_be_bytes w n ++ rest) ≡ Ok (n, rest)
number_again_by w limit wide n rest lt =
    let len = wide.len n in
    let long : ltb (length (to_be_bytes w n ++ rest)) (byte_len w) ≡ false = le-ltb _ _ (omega (arith, length-append (to_be_bytes w n) rest)) in
    rw (long, take_at (to_be_bytes w n) rest (byte_len w) len, drop_at (to_be_bytes w n) rest (byte_len w) len, wide.again n lt) refl

pub number_takes : (bytes : List ℕ) (n : ℕ) (rest : List ℕ) → IsBytes bytes → number_at w32 bytes ≡ Ok (n, rest) → Takes bytes (four n) rest × (n < 2 ^ 32)
number_takes = number_takes_by w32 (2 ^ 32) wide32

pub number_again : (n : ℕ) (rest : List ℕ) → n < 2 ^ 32 → number_at w32 (four n ++ rest) ≡ Ok (n, rest)
number_again = number_again_by w32 (2 ^ 32) wide32

pub record Cuts (n : ℕ) (bytes x rest : List ℕ) : Type 0 where
  pub takes : Takes bytes x rest
  pub long : length x ≡ n
  pub fits : IsBytes x

pub cut_takes : (n : ℕ) (bytes x rest : List ℕ) → IsBytes bytes → cut_at n bytes ≡ Ok (x, rest) → Cuts n bytes x rest
cut_takes n bytes x rest fits e =
    let g = guard_ok (ltb (length bytes) n) cut_short (Ok (take n bytes, drop n bytes)) (x, rest) e in
    let long : n ≤ length bytes = ltb-false _ _ g.0 in
    let is = ok_is _ _ g.1 in
    let x-is : take n bytes ≡ x = ap (λ (p : List ℕ × List ℕ). p.0) is in
    let rest-is : drop n bytes ≡ rest = ap (λ (p : List ℕ × List ℕ). p.1) is in
    record {
      takes = record { parts = sym (take-append-drop n bytes) ∙ (λ k. x-is k ++ rest-is k); rest_fits = subst IsBytes rest-is (IsBytes-drop n bytes fits) };
      long = sym (ap length x-is) ∙ (let l = length-take n bytes in omega arith);
      fits = subst IsBytes x-is (IsBytes-take n bytes fits);
    }

pub cut_again : (n : ℕ) (x rest : List ℕ) → length x ≡ n → cut_at n (x ++ rest) ≡ Ok (x, rest)
cut_again n x rest len =
    let long : ltb (length (x ++ rest)) n ≡ false = le-ltb _ _ (omega (arith, length-append x rest)) in
    rw (long, take_at x rest n len, drop_at x rest n len) refl

-- ---- the head

kind_takes : (kind : ℕ) (bytes : List ℕ) (x : Unit {0} × List ℕ) → IsBytes bytes → kind_at kind bytes ≡ Ok x → Takes bytes (kind ∷ []) x.1
kind_takes kind [] x fits e = absurd cc
kind_takes kind (k ∷ bytes) x fits e =
    let g = guard_ended (eqb k kind) (at Kind (length (k ∷ bytes))) (Ok (tt, bytes)) x e in
    let is : bytes ≡ x.1 = ap (λ (p : Unit {0} × List ℕ). p.1) (ok_is _ _ g.1) in
    record { parts = λ j. eqb-true _ _ g.0 j ∷ is j; rest_fits = subst IsBytes is (IsBytes-rest k bytes fits) }

version_takes : (version kind : ℕ) (bytes : List ℕ) (x : Unit {0} × List ℕ) → IsBytes bytes → version_at version kind bytes ≡ Ok x → Takes bytes (version ∷ kind ∷ []) x.1
version_takes version kind [] x fits e = absurd cc
version_takes version kind (v ∷ bytes) x fits e =
    let g = guard_ended (eqb v version) (at Version (length (v ∷ bytes))) (kind_at kind bytes) x e in
    Takes-then (v ∷ bytes) (version ∷ []) bytes (kind ∷ []) x.1 (record { parts = λ j. eqb-true _ _ g.0 j ∷ bytes; rest_fits = IsBytes-rest v bytes fits }) (kind_takes kind bytes x (IsBytes-rest v bytes fits) g.1)

pub head_takes : (version kind : ℕ) (bytes : List ℕ) (x : Unit {0} × List ℕ) → IsBytes bytes → head_at version kind bytes ≡ Ok x → Takes bytes (head version kind) x.1
unfolding head_at
head_takes version kind bytes x fits e =
    let a = bind_ok (number_at w32 bytes) (λ m. cond (eqb m.0 0x43525352) (version_at version kind m.1) (refused Magic (length bytes))) x e in
    let g = guard_ended (eqb a.0.0 0x43525352) (at Magic (length bytes)) (version_at version kind a.0.1) x a.2 in
    let first = number_takes bytes a.0.0 a.0.1 fits a.1 in
    let magic : Takes bytes (four 0x43525352) a.0.1 = subst (λ (m : ℕ). Takes bytes (four m) a.0.1) (eqb-true _ _ g.0) first.0 in
    Takes-then bytes (four 0x43525352) a.0.1 (version ∷ kind ∷ []) x.1 magic (version_takes version kind a.0.1 x magic.rest_fits g.1)

pub head_again : (version kind : ℕ) (rest : List ℕ) → head_at version kind (head version kind ++ rest) ≡ Ok (tt, rest)
unfolding head_at
head_again version kind rest = rw (number_again 0x43525352 (version ∷ kind ∷ rest) (omega arith), eq-eqb version version refl, eq-eqb kind kind refl) refl

-- ---- ranges

-- a range that begins at the floor or above it, ends below 2^32, and has no id of the basis
pub record IsSpan (basis : Ids) (replica : List ℕ) (floor : ℕ) (s : Span) : Type 0 where
  pub above : floor ≤ s.low
  pub ordered : s.low ≤ s.high
  pub fits : s.high < 2 ^ 32
  pub apart : meets basis (run_at replica s) ≡ false

abbrev pub span_from : ℕ → ℕ → Span
span_from low high = record { low = low; high = high }

-- the fields of a range that was read, and the checks that it passed
pub record IsTested (basis : Ids) (replica : List ℕ) (floor : ℕ) (bytes : List ℕ) (s : Span) (rest : List ℕ) : Type 0 where
  pub mid : List ℕ
  pub low : number_at w32 bytes ≡ Ok (s.low, mid)
  pub high : number_at w32 mid ≡ Ok (s.high, rest)
  pub above : floor ≤ s.low
  pub ordered : s.low ≤ s.high
  pub apart : meets basis (run_at replica s) ≡ false

pub span_tested : (basis : Ids) (replica : List ℕ) (floor : ℕ) (bytes : List ℕ) (s : Span) (rest : List ℕ) → span_at basis replica floor bytes ≡ Ok (s, rest) → IsTested basis replica floor bytes s rest
unfolding span_at
span_tested basis replica floor bytes s rest e =
    let a = bind_ok (number_at w32 bytes) (λ low. number_at w32 low.1 >>= λ high. cond (is_unfit basis replica floor (span_from low.0 high.0)) (refused Ranges (length bytes)) (Ok (span_from low.0 high.0, high.1))) (s, rest) e in
    let b = bind_ok (number_at w32 a.0.1) (λ high. cond (is_unfit basis replica floor (span_from a.0.0 high.0)) (refused Ranges (length bytes)) (Ok (span_from a.0.0 high.0, high.1))) (s, rest) a.2 in
    let made : Span × List ℕ = (span_from a.0.0 b.0.0, b.0.1) in
    let g = guard_ok (is_unfit basis replica floor made.0) (at Ranges (length bytes)) (Ok made) (s, rest) b.2 in
    let t = or_parts (ltb a.0.0 floor) (ltb b.0.0 a.0.0 || meets basis (run_at replica made.0)) g.0 in
    let u = or_parts (ltb b.0.0 a.0.0) (meets basis (run_at replica made.0)) t.1 in
    subst (λ (y : Span × List ℕ). IsTested basis replica floor bytes y.0 y.1) (ok_is made (s, rest) g.1)
    (record { mid = a.0.1; low = a.1; high = b.1; above = ltb-false _ _ t.0; ordered = ltb-false _ _ u.0; apart = u.1 })

pub span_takes : (basis : Ids) (replica : List ℕ) (floor : ℕ) (bytes : List ℕ) (s : Span) (rest : List ℕ) → IsBytes bytes → span_at basis replica floor bytes ≡ Ok (s, rest)
    → Takes bytes (span_bytes s) rest × IsSpan basis replica floor s
span_takes basis replica floor bytes s rest fits e =
    let t = span_tested basis replica floor bytes s rest e in
    let first = number_takes bytes s.low t.mid fits t.low in
    let second = number_takes t.mid s.high rest first.0.rest_fits t.high in
    (Takes-then bytes (four s.low) t.mid (four s.high) rest first.0 second.0, record { above = t.above; ordered = t.ordered; fits = second.1; apart = t.apart })

pub span_again : (basis : Ids) (replica : List ℕ) (floor : ℕ) (s : Span) (rest : List ℕ) → IsSpan basis replica floor s → span_at basis replica floor (span_bytes s ++ rest) ≡ Ok (s, rest)
unfolding span_at
span_again basis replica floor s rest is =
    let regrouped : span_bytes s ++ rest ≡ four s.low ++ (four s.high ++ rest) = append_assoc (four s.low) (four s.high) rest in
    let above : ltb s.low floor ≡ false = le-ltb _ _ is.above in
    let below : ltb s.high s.low ≡ false = le-ltb _ _ is.ordered in
    let fits : s.high < 2 ^ 32 = is.fits in
    let ordered : s.low ≤ s.high = is.ordered in
    ap (span_at basis replica floor) regrouped ∙ rw (number_again s.low (four s.high ++ rest) (omega arith), number_again s.high rest fits, above, below, is.apart) refl

-- a replica that may follow the last one, and the number of its ranges
pub record IsHeading (last : Option (List ℕ)) (replica : List ℕ) (count : ℕ) : Type 0 where
  pub long : length replica ≡ 16
  pub bytes : All (λ b. b < 256) replica
  pub above : is_above last replica ≡ true
  pub positive : 0 < count
  pub fits : count < 2 ^ 32

positive : (n : ℕ) → eqb n 0 ≡ false → 0 < n
positive n e = grind arith

pub not_zero : (n : ℕ) → 0 < n → eqb n 0 ≡ false
not_zero n e = grind arith

pub group_takes : (last : Option (List ℕ)) (bytes replica : List ℕ) (count : ℕ) (rest : List ℕ) → IsBytes bytes → group_at last bytes ≡ Ok ((replica, count), rest)
    → Takes bytes (replica ++ four count) rest × IsHeading last replica count
unfolding group_at
group_takes last bytes replica count rest fits e =
    let a = bind_ok (replica_at last bytes) (λ r. count_at r.1 >>= λ n. Ok ((r.0, n.0), n.1)) ((replica, count), rest) e in
    let b = bind_ok (count_at a.0.1) (λ n. Ok ((a.0.0, n.0), n.1)) ((replica, count), rest) a.2 in
    let c = bind_ok (cut_at 16 bytes) (λ r. cond (is_above last r.0) (Ok r) (refused ReplicaOrder (length bytes))) a.0 a.1 in
    let g = guard_ended (is_above last c.0.0) (at ReplicaOrder (length bytes)) (Ok c.0) a.0 c.2 in
    let d = bind_ok (number_at w32 a.0.1) (λ n. cond (eqb n.0 0) (refused Ranges (length a.0.1)) (Ok n)) b.0 b.1 in
    let h = guard_ok (eqb d.0.0 0) (at Ranges (length a.0.1)) (Ok d.0) b.0 d.2 in
    let cut : Cuts 16 bytes a.0.0 a.0.1 = subst (λ (y : List ℕ × List ℕ). Cuts 16 bytes y.0 y.1) (ok_is c.0 a.0 g.1) (cut_takes 16 bytes c.0.0 c.0.1 fits c.1) in
    let above : is_above last a.0.0 ≡ true = subst (λ (y : List ℕ × List ℕ). is_above last y.0 ≡ true) (ok_is c.0 a.0 g.1) g.0 in
    let second : Takes a.0.1 (four b.0.0) b.0.1 × (b.0.0 < 2 ^ 32) = subst (λ (y : ℕ × List ℕ). Takes a.0.1 (four y.0) y.1 × (y.0 < 2 ^ 32)) (ok_is d.0 b.0 h.1) (number_takes a.0.1 d.0.0 d.0.1 cut.takes.rest_fits d.1) in
    let some : 0 < b.0.0 = subst (λ (y : ℕ × List ℕ). 0 < y.0) (ok_is d.0 b.0 h.1) (positive d.0.0 h.0) in
    let both = Takes-then bytes a.0.0 a.0.1 (four b.0.0) b.0.1 cut.takes second.0 in
    subst (λ (y : (List ℕ × ℕ) × List ℕ). Takes bytes (y.0.0 ++ four y.0.1) y.1 × IsHeading last y.0.0 y.0.1) (ok_is ((a.0.0, b.0.0), b.0.1) ((replica, count), rest) b.2)
    (both, record { long = cut.long; bytes = all_bytes a.0.0 cut.fits; above = above; positive = some; fits = second.1 })

pub group_again : (last : Option (List ℕ)) (replica : List ℕ) (count : ℕ) (rest : List ℕ) → IsHeading last replica count → group_at last (replica ++ (four count ++ rest)) ≡ Ok ((replica, count), rest)
unfolding group_at
group_again last replica count rest is =
    let some : eqb count 0 ≡ false = not_zero count is.positive in
    rw (cut_again 16 replica (four count ++ rest) is.long, is.above, number_again count rest is.fits, some) refl

-- ---- ids

pub id_takes : (bytes : List ℕ) (i : Id) (rest : List ℕ) → IsBytes bytes → id_at bytes ≡ Ok (i, rest) → Takes bytes (id_bytes i) rest × IsId i
unfolding id_at
id_takes bytes i rest fits e =
    let a = bind_ok (cut_at 16 bytes) (λ r. number_at w32 r.1 >>= λ n. cond (eqb n.0 0) (refused OpIdBad (length bytes)) (Ok (record { replica = r.0; count = n.0 }, n.1))) (i, rest) e in
    let b = bind_ok (number_at w32 a.0.1) (λ n. cond (eqb n.0 0) (refused OpIdBad (length bytes)) (Ok (record { replica = a.0.0; count = n.0 }, n.1))) (i, rest) a.2 in
    let made : Id × List ℕ = (record { replica = a.0.0; count = b.0.0 }, b.0.1) in
    let g = guard_ok (eqb b.0.0 0) (at OpIdBad (length bytes)) (Ok made) (i, rest) b.2 in
    let cut = cut_takes 16 bytes a.0.0 a.0.1 fits a.1 in
    let second = number_takes a.0.1 b.0.0 b.0.1 cut.takes.rest_fits b.1 in
    let some : 0 < b.0.0 = positive b.0.0 g.0 in
    let both = Takes-then bytes a.0.0 a.0.1 (four b.0.0) b.0.1 cut.takes second.0 in
    subst (λ (y : Id × List ℕ). Takes bytes (id_bytes y.0) y.1 × IsId y.0) (ok_is made (i, rest) g.1)
    (both, record { long = cut.long; bytes = all_bytes a.0.0 cut.fits; positive = omega arith; fits = second.1 })

pub id_again : (i : Id) (rest : List ℕ) → IsId i → id_at (id_bytes i ++ rest) ≡ Ok (i, rest)
unfolding id_at
id_again i rest is =
    let some : eqb i.count 0 ≡ false = not_zero i.count (let p : 1 ≤ i.count = is.positive in omega arith) in
    ap id_at (append_assoc i.replica (four i.count) rest) ∙ rw (cut_again 16 i.replica (four i.count ++ rest) is.long, number_again i.count rest is.fits, some) refl

-- a seen id that may follow the last one
pub record IsOwn (last : Option Id) (seen : Ids) (i : Id) : Type 0 where
  pub id : IsId i
  pub after : is_after last i ≡ true
  pub known : set.contains seen i ≡ true

pub own_takes : (last : Option Id) (seen : Ids) (bytes : List ℕ) (i : Id) (rest : List ℕ) → IsBytes bytes → own_at last seen bytes ≡ Ok (i, rest) → Takes bytes (id_bytes i) rest × IsOwn last seen i
unfolding own_at
own_takes last seen bytes i rest fits e =
    let a = bind_ok (id_at bytes) (λ x. cond (is_after last x.0) (cond (set.contains seen x.0) (Ok x) (refused NotSeen (length bytes))) (refused OpOrder (length bytes))) (i, rest) e in
    let g = guard_ended (is_after last a.0.0) (at OpOrder (length bytes)) (cond (set.contains seen a.0.0) (Ok a.0) (refused NotSeen (length bytes))) (i, rest) a.2 in
    let h = guard_ended (set.contains seen a.0.0) (at NotSeen (length bytes)) (Ok a.0) (i, rest) g.1 in
    let t = id_takes bytes a.0.0 a.0.1 fits a.1 in
    subst (λ (y : Id × List ℕ). Takes bytes (id_bytes y.0) y.1 × IsOwn last seen y.0) (ok_is a.0 (i, rest) h.1)
    (t.0, record { id = t.1; after = g.0; known = h.0 })

pub own_again : (last : Option Id) (seen : Ids) (i : Id) (rest : List ℕ) → IsOwn last seen i → own_at last seen (id_bytes i ++ rest) ≡ Ok (i, rest)
unfolding own_at
own_again last seen i rest is = rw (id_again i rest is.id, is.after, is.known) refl

-- ---- bodies

pub text_takes : (bytes text rest : List ℕ) → IsBytes bytes → text_at bytes ≡ Ok (text, rest) → Takes bytes (four (length text) ++ text) rest × (length text ≤ 65536)
unfolding text_at
text_takes bytes text rest fits e =
    let a = bind_ok (number_at w32 bytes) (λ n. cond (ltb 65536 n.0) (refused (Definition definition.CanonicalTooLong) (length bytes)) (cut_at n.0 n.1)) (text, rest) e in
    let g = guard_ok (ltb 65536 a.0.0) (at (Definition definition.CanonicalTooLong) (length bytes)) (cut_at a.0.0 a.0.1) (text, rest) a.2 in
    let first = number_takes bytes a.0.0 a.0.1 fits a.1 in
    let cut = cut_takes a.0.0 a.0.1 text rest first.0.rest_fits g.1 in
    let len : Takes bytes (four (length text)) a.0.1 = subst (λ n. Takes bytes (four n) a.0.1) (sym cut.long) first.0 in
    let short : a.0.0 ≤ 65536 = ltb-false _ _ g.0 in
    let long : length text ≡ a.0.0 = cut.long in
    (Takes-then bytes (four (length text)) a.0.1 text rest len cut.takes, omega arith)

pub text_again : (text rest : List ℕ) → length text ≤ 65536 → text_at ((four (length text) ++ text) ++ rest) ≡ Ok (text, rest)
unfolding text_at
text_again text rest short =
    let below : ltb 65536 (length text) ≡ false = le-ltb _ _ short in
    ap text_at (append_assoc (four (length text)) text rest) ∙ rw (number_again (length text) (text ++ rest) (omega arith), below, cut_again (length text) text rest refl) refl

pub pair_takes : (bytes : List ℕ) (x : Id × Id) (rest : List ℕ) → IsBytes bytes → pair_at bytes ≡ Ok (x, rest) → Takes bytes (id_bytes x.0 ++ id_bytes x.1) rest × IsId x.0 × IsId x.1 × (is_same x.0 x.1 ≡ false)
unfolding pair_at
pair_takes bytes x rest fits e =
    let a = bind_ok (id_at bytes) (λ old. id_at old.1 >>= λ newer. cond (is_same old.0 newer.0) (refused SameEntry (length bytes)) (Ok ((old.0, newer.0), newer.1))) (x, rest) e in
    let b = bind_ok (id_at a.0.1) (λ newer. cond (is_same a.0.0 newer.0) (refused SameEntry (length bytes)) (Ok ((a.0.0, newer.0), newer.1))) (x, rest) a.2 in
    let g = guard_ok (is_same a.0.0 b.0.0) (at SameEntry (length bytes)) (Ok ((a.0.0, b.0.0), b.0.1)) (x, rest) b.2 in
    let first = id_takes bytes a.0.0 a.0.1 fits a.1 in
    let second = id_takes a.0.1 b.0.0 b.0.1 first.0.rest_fits b.1 in
    subst (λ (y : (Id × Id) × List ℕ). Takes bytes (id_bytes y.0.0 ++ id_bytes y.0.1) y.1 × IsId y.0.0 × IsId y.0.1 × (is_same y.0.0 y.0.1 ≡ false)) (ok_is ((a.0.0, b.0.0), b.0.1) (x, rest) g.1)
    (Takes-then bytes (id_bytes a.0.0) a.0.1 (id_bytes b.0.0) b.0.1 first.0 second.0, first.1, second.1, g.0)

pub pair_again : (old newer : Id) (rest : List ℕ) → IsId old → IsId newer → is_same old newer ≡ false → pair_at ((id_bytes old ++ id_bytes newer) ++ rest) ≡ Ok ((old, newer), rest)
unfolding pair_at
pair_again old newer rest p q differ =
    ap pair_at (append_assoc (id_bytes old) (id_bytes newer) rest) ∙ rw (id_again old (id_bytes newer ++ rest) p, id_again newer rest q, differ) refl
