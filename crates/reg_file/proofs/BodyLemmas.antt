-- An operation that is read has the bytes that are written for it, and where reading an operation stops.
use Rattle.std.proofs.Common.{◌≡◌, ℕ, ◌≤◌, ◌||◌, Bool, true, false, cond, eqb, ltb, List, [], ◌∷◌, ◌++◌, length, Option, Result, Ok, refl, sym, ap, subst, ◌∙◌, append_assoc, arith}
use Rattle.std.proofs.lemmas.Bool.{ltb-false, eqb-true, true≢false, or_parts}
use Rattle.std.proofs.lemmas.Bool.Decides.{nat_tests}
use Rattle.std.specs.Ordering.{is_eq}
use Rattle.std.specs.Cmp.{tied_itself}
use Rattle.reg_op.specs.Ids.{Id, Ids, IsId, is_same}
use Rattle.reg_op.specs.Notes.{IsNote}
use Rattle.reg_op.specs.Operations.{Op, IsBody, IsOfItself}
use Rattle.reg_op.specs.declared.operation.OpBody.{OpBody as Body}
use Rattle.reg_op.specs.declared.operation.OpBody.TheVariants.{Enter, Supersede, Retire}
use Rattle.reg_op.proofs.OpLemmas.{id_total, is_same_exact}
use Rattle.reg_file.specs.declared.fault.Refused.{Refused}
use Rattle.reg_file.specs.declared.fault.Stop.{Stop}
use Rattle.reg_file.specs.declared.fault.Stop.TheVariants as stop
use Rattle.reg_file.specs.declared.fault.FileFault.TheVariants.{OpKind}
use Rattle.reg_file.specs.Layout.{id_bytes, kind_byte, body_bytes, note_bytes, op_bytes}
use Rattle.reg_file.specs.Fields.{◌>>=◌, Fails, id_at, own_at, text_at, pair_at, body_at, op_kind_at, note_at, heading_at}
use Rattle.reg_file.specs.Readers.{field, StopsIn}
use Rattle.reg_file.specs.Reading.{FailsAs, body, headed_body, operation}
use Rattle.reg_file.specs.Steps.{StopsInText, StopsAs}
use Rattle.reg_file.proofs.FieldLemmas.{IsBytes, IsBytes-rest, bind_ok, guard_ok, ok_is, Takes, Takes-then, IsOwn, id_takes, id_again, own_takes, own_again, text_takes, text_again, pair_takes, pair_again}
use Rattle.reg_file.proofs.NoteLemmas.{IsTold, IsFit, note_takes, note_again}
use Rattle.reg_file.proofs.Sequences.{stops_field, stops_front, stops_back}

-- what is known of a body whose fields were read
abbrev pub IsReadBody : Body → Type 0
IsReadBody (Enter text) = length text ≤ 65536
IsReadBody (Supersede old newer) = IsId old × IsId newer × (is_same old newer ≡ false)
IsReadBody (Retire entry) = IsId entry

pub record TakesBody (kind : ℕ) (bytes : List ℕ) (x : Body × List ℕ) : Type 0 where
  pub takes : Takes bytes (body_bytes x.0) x.1
  pub kind_is : kind ≡ kind_byte x.0
  pub is : IsReadBody x.0

enter_takes : (bytes : List ℕ) (x : Body × List ℕ) → IsBytes bytes → (text_at bytes >>= λ y. Ok (Enter y.0, y.1)) ≡ Ok x → TakesBody 1 bytes x
enter_takes bytes x fits e =
    let a = bind_ok (text_at bytes) (λ y. Ok (Enter y.0, y.1)) x e in
    let t = text_takes bytes a.0.0 a.0.1 fits a.1 in
    subst (TakesBody 1 bytes) (ok_is (Enter a.0.0, a.0.1) x a.2) (record { takes = t.0; kind_is = refl; is = t.1 })

supersede_takes : (bytes : List ℕ) (x : Body × List ℕ) → IsBytes bytes → (pair_at bytes >>= λ y. Ok (Supersede y.0.0 y.0.1, y.1)) ≡ Ok x → TakesBody 2 bytes x
supersede_takes bytes x fits e =
    let a = bind_ok (pair_at bytes) (λ y. Ok (Supersede y.0.0 y.0.1, y.1)) x e in
    let t = pair_takes bytes a.0.0 a.0.1 fits a.1 in
    subst (TakesBody 2 bytes) (ok_is (Supersede a.0.0.0 a.0.0.1, a.0.1) x a.2) (record { takes = t.0; kind_is = refl; is = (t.1, t.2, t.3) })

retire_takes : (bytes : List ℕ) (x : Body × List ℕ) → IsBytes bytes → (id_at bytes >>= λ y. Ok (Retire y.0, y.1)) ≡ Ok x → TakesBody 3 bytes x
retire_takes bytes x fits e =
    let a = bind_ok (id_at bytes) (λ y. Ok (Retire y.0, y.1)) x e in
    let t = id_takes bytes a.0.0 a.0.1 fits a.1 in
    subst (TakesBody 3 bytes) (ok_is (Retire a.0.0, a.0.1) x a.2) (record { takes = t.0; kind_is = refl; is = t.1 })

only_three : (kind : ℕ) → eqb kind 1 ≡ false → eqb kind 2 ≡ false → 1 ≤ kind → kind ≤ 3 → kind ≡ 3
only_three kind a b p q = grind (arith, nat_tests)

pub body_takes : (kind : ℕ) (bytes : List ℕ) (x : Body × List ℕ) → 1 ≤ kind → kind ≤ 3 → IsBytes bytes → body_at kind bytes ≡ Ok x → TakesBody kind bytes x
unfolding body_at
body_takes kind bytes x low high fits e = first (eqb kind 1) refl e
  where
    second : (c : Bool) → eqb kind 2 ≡ c → eqb kind 1 ≡ false → cond c (pair_at bytes >>= λ y. Ok (Supersede y.0.0 y.0.1, y.1)) (id_at bytes >>= λ y. Ok (Retire y.0, y.1)) ≡ Ok x → TakesBody kind bytes x
    second true h g e = subst (λ k. TakesBody k bytes x) (sym (eqb-true kind 2 h)) (supersede_takes bytes x fits e)
    second false h g e = subst (λ k. TakesBody k bytes x) (sym (only_three kind g h low high)) (retire_takes bytes x fits e)

    first : (b : Bool) → eqb kind 1 ≡ b
        → cond b (text_at bytes >>= λ y. Ok (Enter y.0, y.1)) (cond (eqb kind 2) (pair_at bytes >>= λ y. Ok (Supersede y.0.0 y.0.1, y.1)) (id_at bytes >>= λ y. Ok (Retire y.0, y.1))) ≡ Ok x
        → TakesBody kind bytes x
    first true g e = subst (λ k. TakesBody k bytes x) (sym (eqb-true kind 1 g)) (enter_takes bytes x fits e)
    first false g e = second (eqb kind 2) refl g e

pub body_again : (b : Body) (rest : List ℕ) → IsReadBody b → body_at (kind_byte b) (body_bytes b ++ rest) ≡ Ok (b, rest)
unfolding body_at
body_again (Enter text) rest is = rw (text_again text rest is) refl
body_again (Supersede old newer) rest is = rw (pair_again old newer rest is.0 is.1 is.2) refl
body_again (Retire entry) rest is = rw (id_again entry rest is) refl

-- ---- the kind

pub op_kind_takes : (bytes : List ℕ) (k : ℕ) (rest : List ℕ) → op_kind_at bytes ≡ Ok (k, rest) → (bytes ≡ k ∷ rest) × (1 ≤ k) × (k ≤ 3)
unfolding op_kind_at
op_kind_takes [] k rest e = absurd cc
op_kind_takes (b ∷ bytes) k rest e =
    let g = guard_ok (eqb b 0 || ltb 3 b) (record { fault = OpKind; left = length (b ∷ bytes) }) (Ok (b, bytes)) (k, rest) e in
    let t = or_parts (eqb b 0) (ltb 3 b) g.0 in
    let is = ok_is (b, bytes) (k, rest) g.1 in
    let b_is : b ≡ k = ap (λ (p : ℕ × List ℕ). p.0) is in
    let low : 1 ≤ b = above b t.0 in
    let high : b ≤ 3 = ltb-false _ _ t.1 in
    ((λ j. b_is j ∷ ap (λ (p : ℕ × List ℕ). p.1) is j), omega arith, omega arith)
  where
    above : (b : ℕ) → eqb b 0 ≡ false → 1 ≤ b
    above b e = grind (arith, nat_tests)

pub op_kind_again : (b : Body) (rest : List ℕ) → op_kind_at (kind_byte b ∷ rest) ≡ Ok (kind_byte b, rest)
unfolding op_kind_at
op_kind_again (Enter text) rest = refl
op_kind_again (Supersede old newer) rest = refl
op_kind_again (Retire entry) rest = refl

-- ---- a whole operation

pub record TakesHeading (version : ℕ) (last : Option Id) (seen : Ids) (bytes : List ℕ) (i : Id) (kind : ℕ) (note rest : List ℕ) : Type 0 where
  pub takes : Takes bytes (id_bytes i ++ kind ∷ note_bytes version note) rest
  pub own : IsOwn last seen i
  pub low : 1 ≤ kind
  pub high : kind ≤ 3
  pub noted : IsNote note
  pub told : IsTold version note

pub heading_takes : (version : ℕ) (last : Option Id) (seen : Ids) (bytes : List ℕ) (i : Id) (kind : ℕ) (note rest : List ℕ) → IsBytes bytes → heading_at version last seen bytes ≡ Ok (((i, kind), note), rest)
    → TakesHeading version last seen bytes i kind note rest
unfolding heading_at
heading_takes version last seen bytes i kind note rest fits e =
    let a = bind_ok (own_at last seen bytes) (λ id. op_kind_at id.1 >>= λ k. note_at version k.1 >>= λ n. Ok (((id.0, k.0), n.0), n.1)) (((i, kind), note), rest) e in
    let b = bind_ok (op_kind_at a.0.1) (λ k. note_at version k.1 >>= λ n. Ok (((a.0.0, k.0), n.0), n.1)) (((i, kind), note), rest) a.2 in
    let d = bind_ok (note_at version b.0.1) (λ n. Ok (((a.0.0, b.0.0), n.0), n.1)) (((i, kind), note), rest) b.2 in
    let own = own_takes last seen bytes a.0.0 a.0.1 fits a.1 in
    let named = op_kind_takes a.0.1 b.0.0 b.0.1 b.1 in
    let second : Takes a.0.1 (b.0.0 ∷ []) b.0.1 = record { parts = named.0; rest_fits = IsBytes-rest b.0.0 b.0.1 (subst IsBytes named.0 own.0.rest_fits) } in
    let third = note_takes version b.0.1 d.0.0 d.0.1 second.rest_fits d.1 in
    let both : Takes a.0.1 (b.0.0 ∷ note_bytes version d.0.0) d.0.1 = Takes-then a.0.1 (b.0.0 ∷ []) b.0.1 (note_bytes version d.0.0) d.0.1 second third.takes in
    subst (λ (y : ((Id × ℕ) × List ℕ) × List ℕ). TakesHeading version last seen bytes y.0.0.0 y.0.0.1 y.0.1 y.1) (ok_is (((a.0.0, b.0.0), d.0.0), d.0.1) (((i, kind), note), rest) d.2)
    (record {
      takes = Takes-then bytes (id_bytes a.0.0) a.0.1 (b.0.0 ∷ note_bytes version d.0.0) d.0.1 own.0 both;
      own = own.1;
      low = named.1;
      high = named.2;
      noted = third.noted;
      told = third.told;
    })

heading_again : (version : ℕ) (last : Option Id) (seen : Ids) (i : Id) (b : Body) (note rest : List ℕ) → IsOwn last seen i → IsNote note → IsTold version note
    → heading_at version last seen (id_bytes i ++ (kind_byte b ∷ (note_bytes version note ++ rest))) ≡ Ok (((i, kind_byte b), note), rest)
unfolding heading_at
heading_again version last seen i b note rest own noted told =
    rw (own_again last seen i (kind_byte b ∷ (note_bytes version note ++ rest)) own, op_kind_again b (note_bytes version note ++ rest), note_again version note rest noted told) refl

pub record TakesOp (version : ℕ) (last : Option Id) (seen : Ids) (bytes : List ℕ) (o : Op) (rest : List ℕ) : Type 0 where
  pub takes : Takes bytes (op_bytes version o) rest
  pub own : IsOwn last seen o.id
  pub fit : IsFit version o

pub op_takes : (version : ℕ) (last : Option Id) (seen : Ids) (bytes : List ℕ) (o : Op) (rest : List ℕ) → IsBytes bytes → (operation version seen last).Reads bytes o rest → TakesOp version last seen bytes o rest
op_takes version last seen bytes o rest fits e =
    let first = heading_takes version last seen bytes o.id (kind_byte o.body) o.note e.0 fits e.1 in
    let second = body_takes (kind_byte o.body) e.0 (o.body, rest) first.low first.high first.takes.rest_fits e.2.0 in
    let front : List ℕ = kind_byte o.body ∷ note_bytes version o.note in
    let both = Takes-then bytes (id_bytes o.id ++ front) e.0 (body_bytes o.body) rest first.takes second.takes in
    record {
      takes = subst (λ (t : List ℕ). Takes bytes t rest) (append_assoc (id_bytes o.id) front (body_bytes o.body)) both;
      own = first.own;
      fit = record { body = e.2.1; note = first.noted; told = first.told };
    }

pub same_itself : (i : Id) → is_same i i ≡ true
same_itself i = ap is_eq (tied_itself id_total i)

pub read_body : (b : Body) → IsBody b → IsReadBody b
read_body (Enter text) is = is.short
read_body (Supersede old newer) is = (is.0, is.1, differ (is_same old newer) refl)
  where
    differ : (b : Bool) → is_same old newer ≡ b → b ≡ false
    differ true e = absurd (is.2 (is_same_exact old newer e))
    differ false e = refl
read_body (Retire entry) is = is

apart : (version : ℕ) (o : Op) (rest : List ℕ) → op_bytes version o ++ rest ≡ id_bytes o.id ++ (kind_byte o.body ∷ (note_bytes version o.note ++ (body_bytes o.body ++ rest)))
apart version o rest =
    append_assoc (id_bytes o.id) (kind_byte o.body ∷ (note_bytes version o.note ++ body_bytes o.body)) rest
    ∙ ap (λ (t : List ℕ). id_bytes o.id ++ (kind_byte o.body ∷ t)) (append_assoc (note_bytes version o.note) (body_bytes o.body) rest)

pub op_again : (version : ℕ) (last : Option Id) (seen : Ids) (o : Op) (rest : List ℕ) → IsOwn last seen o.id → IsFit version o → (operation version seen last).Reads (op_bytes version o ++ rest) o rest
op_again version last seen o rest own is = (
  body_bytes o.body ++ rest,
  ap (heading_at version last seen) (apart version o rest) ∙ heading_again version last seen o.id o.body o.note (body_bytes o.body ++ rest) own is.note is.told,
  (body_again o.body rest (read_body o.body is.body), is.body),
)

-- ---- where reading stops

-- reading stops in the first of two steps
pub stops_first : {A : Type 0} (left : ℕ) (r : Result A Refused) (f : A → Result (Body × List ℕ) Refused) (s : Stop) → Fails s r → StopsAs left (r >>= f) s
stops_first left r f stop.Memory h = tt
stops_first left r f (stop.Refused e) h = subst (λ (y : Result (Body × List ℕ) Refused). FailsAs left y e) (ap (λ x. x >>= f) (sym h)) refl

-- reading stops in the second step, after the first one gives a value
pub stops_then : {A : Type 0} (left : ℕ) (r : Result A Refused) (f : A → Result (Body × List ℕ) Refused) (s : Stop) (x : A) → r ≡ Ok x → StopsAs left (f x) s → StopsAs left (r >>= f) s
stops_then left r f s x h k = subst (λ (y : Result (Body × List ℕ) Refused). StopsAs left y s) (ap (λ z. z >>= f) (sym h)) k

-- reading stops at a text that is not a definition
pub stops_text : (text : List ℕ) (left : ℕ) (rest : List ℕ) (s : Stop) → StopsInText text left s → StopsAs left (Ok (Enter text, rest)) s
stops_text text left rest stop.Memory h = tt
stops_text text left rest (stop.Refused r) h = h

-- ---- an operation's steps

in_body : (kind : ℕ) (bytes : List ℕ) (s : Stop) → StopsAs (length bytes) (body_at kind bytes) s → StopsIn (body kind) bytes s
in_body kind bytes stop.Memory h = tt
in_body kind bytes (stop.Refused r) h = h

in_operation : (version : ℕ) (last : Option Id) (seen : Ids) (bytes : List ℕ) (s : Stop) → StopsIn (headed_body version seen last) bytes s → StopsIn (operation version seen last) bytes s
in_operation version last seen bytes stop.Memory h = tt
in_operation version last seen bytes (stop.Refused r) h = h

module _ (version : ℕ) (last : Option Id) (seen : Ids) (bytes : List ℕ) where
  pub op_stops_heading : (s : Stop) → Fails s (heading_at version last seen bytes) → StopsIn (operation version seen last) bytes s
  op_stops_heading s h =
      in_operation version last seen bytes s (stops_front (field (heading_at version last seen)) (λ x. body x.0.1) bytes s (stops_field (heading_at version last seen) bytes s h))

  module _ (i : Id) (kind : ℕ) (note r : List ℕ) (heading : heading_at version last seen bytes ≡ Ok (((i, kind), note), r)) where
    pub op_stops_body : (s : Stop) → StopsAs (length r) (body_at kind r) s → StopsIn (operation version seen last) bytes s
    op_stops_body s h =
        in_operation version last seen bytes s (stops_back (field (heading_at version last seen)) (λ x. body x.0.1) bytes ((i, kind), note) r s heading (in_body kind r s h))

    pub op_done : (b : Body) (rest : List ℕ) (o : Op) → IsBytes bytes → body_at kind r ≡ Ok (b, rest) → o ≡ record { id = i; body = b; note = note } → IsBody o.body → (operation version seen last).Reads bytes o rest
    op_done b rest o fits read e is =
        let first = heading_takes version last seen bytes i kind note r fits heading in
        let second = body_takes kind r (b, rest) first.low first.high first.takes.rest_fits read in
        let kind_is : kind ≡ kind_byte o.body = second.kind_is ∙ ap (λ (p : Op). kind_byte p.body) (sym e) in (
          r,
          heading ∙ (λ j. Ok ((((sym e j).id, kind_is j), (sym e j).note), r)),
          (sym (ap (λ n. body_at n r) kind_is) ∙ read ∙ ap (λ (p : Op). Ok (p.body, rest)) (sym e), is),
        )

-- no supersession that is read has the same entry twice
pub not_of_itself : (kind : ℕ) (bytes : List ℕ) (b : Body) (rest : List ℕ) → 1 ≤ kind → kind ≤ 3 → IsBytes bytes → body_at kind bytes ≡ Ok (b, rest) → IsOfItself b → ⊥
not_of_itself kind bytes b rest low high fits e same = from b (body_takes kind bytes (b, rest) low high fits e).is same
  where
    from : (b : Body) → IsReadBody b → IsOfItself b → ⊥
    from (Enter text) is same = same
    from (Supersede old newer) is same = true≢false (sym (same_itself old) ∙ ap (is_same old) same ∙ is.2)
    from (Retire entry) is same = same
