-- Reading gives at most one value, at most one fault, and not both.
use Rattle.std.proofs.Common.{◌≡◌, ℕ, ◌<◌, List, [], ◌∷◌, length, Option, None, Result, Ok, Err, refl, sym, ap, subst, ◌∙◌, arith, ◌⊎◌, inl, inr}
use Rattle.reg_op.specs.Ids.{Id, Ids}
use Rattle.reg_op.specs.Operations.{Op, op_cmp, IsBody}
use Rattle.reg_op.specs.Set as set
use Rattle.reg_state.specs.Runs.{seen_of}
use Rattle.reg_op.specs.Kept.{first_dropped}
use Rattle.std.specs.Int.{w32}
use Rattle.std.proofs.lemmas.Option.{same_Some, none-some}
use Rattle.reg_op.specs.declared.operation.OpBody.{OpBody as Body}
use Rattle.reg_op.specs.declared.operation.OpBody.TheVariants.{Enter, Supersede, Retire}
use Rattle.reg_file.specs.declared.fault.Refused.{Refused}
use Rattle.reg_file.specs.declared.fault.FileFault.TheVariants as fault
use Rattle.reg_file.specs.Layout.{kind_byte, runs_of}
use Rattle.reg_file.specs.Fields.{heading_at, body_at, head_at, number_at, group_at, span_at}
use Rattle.reg_file.specs.Readers.{Portion, field, ◌behind◌, ReadsBoth, FailsInOne, ReadsEach, state_after, repeated}
use Rattle.reg_file.specs.Reading.{span, floor_after, spans, group, replica_after, groups, ranges, IsUnfit, FailsAs, body, operation, id_after, operations, counted_operations, places_of, left_in, IsDropped, IsTrailing, ending, ended, seen_and_ops, seen_and_kept, register, summary, based, piece}
use Rattle.reg_file.proofs.DefinitionLemmas.{no_text_fault, one_text_fault}

pub record IsExact {A : Type 0} (p : Portion A) : Type 0 where
  pub one_value : (bytes : List ℕ) (x y : A) (rest left : List ℕ) → p.Reads bytes x rest → p.Reads bytes y left → (x ≡ y) × (rest ≡ left)
  pub no_fault : (bytes : List ℕ) (x : A) (rest : List ℕ) (r : Refused) → p.Reads bytes x rest → p.Fails bytes r → ⊥
  pub one_fault : (bytes : List ℕ) (q r : Refused) → p.Fails bytes q → p.Fails bytes r → q ≡ r

abbrev done : {A : Type 0} → A × List ℕ → Result (A × List ℕ) Refused
done x = Ok x

abbrev failed : {A : Type 0} → Refused → Result (A × List ℕ) Refused
failed r = Err r

pub same_done : {A : Type 0} (x y : A) (rest left : List ℕ) → done (x, rest) ≡ done (y, left) → (x ≡ y) × (rest ≡ left)
same_done {A = A} x y rest left e = (ap (λ (p : A × List ℕ). p.0) (pair e), ap (λ (p : A × List ℕ). p.1) (pair e))
  where
    pair : done (x, rest) ≡ done (y, left) → ◌≡◌ {A = A × List ℕ} (x, rest) (y, left)
    pair e = cc

not_both : {A : Type 0} (x : A × List ℕ) (r : Refused) → done x ≡ failed {A = A} r → ⊥
not_both x r e = cc

same_failed : {A : Type 0} (q r : Refused) → failed {A = A} q ≡ failed {A = A} r → q ≡ r
same_failed q r e = cc

pub field_exact : {A : Type 0} (read : List ℕ → Result (A × List ℕ) Refused) → IsExact (field read)
field_exact read = record {
  one_value = λ bytes x y rest left h k. same_done x y rest left (sym h ∙ k);
  no_fault = λ bytes x rest r h k. not_both (x, rest) r (sym h ∙ k);
  one_fault = λ bytes q r h k. same_failed q r (sym h ∙ k);
}

module _ {A B : Type 0} (p : Portion A) (q : A → Portion B) (first : IsExact p) (second : (x : A) → IsExact (q x)) where
  both_one : (bytes : List ℕ) (x y : A × B) (rest left : List ℕ) → ReadsBoth p q bytes x rest → ReadsBoth p q bytes y left → (x ≡ y) × (rest ≡ left)
  both_one bytes x y rest left h k =
      let a = first.one_value bytes x.0 y.0 h.0 k.0 h.1 k.1 in
      let k' : (q x.0).Reads h.0 y.1 left = subst (λ (z : A × List ℕ). (q z.0).Reads z.1 y.1 left) (λ j. (sym a.0 j, sym a.1 j)) k.2 in
      let b = (second x.0).one_value h.0 x.1 y.1 rest left h.2 k' in
      ((λ j. (a.0 j, b.0 j)), b.1)

  both_none : (bytes : List ℕ) (x : A × B) (rest : List ℕ) (r : Refused) → ReadsBoth p q bytes x rest → FailsInOne p q bytes r → ⊥
  both_none bytes x rest r h (inl f) = first.no_fault bytes x.0 h.0 r h.1 f
  both_none bytes x rest r h (inr f) =
      let a = first.one_value bytes f.0 x.0 f.1 h.0 f.2 h.1 in
      (second x.0).no_fault h.0 x.1 rest r h.2 (subst (λ (z : A × List ℕ). (q z.0).Fails z.1 r) (λ j. (a.0 j, a.1 j)) f.3)

  both_fault : (bytes : List ℕ) (r s : Refused) → FailsInOne p q bytes r → FailsInOne p q bytes s → r ≡ s
  both_fault bytes r s (inl f) (inl g) = first.one_fault bytes r s f g
  both_fault bytes r s (inl f) (inr g) = absurd (first.no_fault bytes g.0 g.1 r g.2 f)
  both_fault bytes r s (inr f) (inl g) = absurd (first.no_fault bytes f.0 f.1 s f.2 g)
  both_fault bytes r s (inr f) (inr g) =
      let a = first.one_value bytes f.0 g.0 f.1 g.1 f.2 g.2 in
      (second g.0).one_fault g.1 r s (subst (λ (z : A × List ℕ). (q z.0).Fails z.1 r) (λ j. (a.0 j, a.1 j)) f.3) g.3

  pub behind_exact : IsExact (p behind q)
  behind_exact = record { one_value = both_one; no_fault = both_none; one_fault = both_fault }

module _ {A S : Type 0} (item : S → Portion A) (next : S → A → S) (each : (s : S) → IsExact (item s)) where
  -- after equal items, the same items are read from the same bytes
  moved : (s : S) (bytes : List ℕ) (x y : A) (mid mid' : List ℕ) (ys : List A) (left : List ℕ) → x ≡ y → mid ≡ mid' → ReadsEach item next (next s y) mid' ys left → ReadsEach item next (next s x) mid ys left
  moved s bytes x y mid mid' ys left e f h = subst (λ (z : A × List ℕ). ReadsEach item next (next s z.0) z.1 ys left) (λ j. (sym e j, sym f j)) h

  each_one : (s : S) (bytes : List ℕ) (xs ys : List A) (rest left : List ℕ) → length xs ≡ length ys → ReadsEach item next s bytes xs rest → ReadsEach item next s bytes ys left → (xs ≡ ys) × (rest ≡ left)
  each_one s bytes [] [] rest left e h k = (refl, sym h ∙ k)
  each_one s bytes [] (y ∷ ys) rest left e h k = absurd (omega arith)
  each_one s bytes (x ∷ xs) [] rest left e h k = absurd (omega arith)
  each_one s bytes (x ∷ xs) (y ∷ ys) rest left e h k =
      let a = (each s).one_value bytes x y h.0 k.0 h.1 k.1 in
      let b = each_one (next s x) h.0 xs ys rest left (omega arith) h.2 (moved s bytes x y h.0 k.0 ys left a.0 a.1 k.2) in
      ((λ j. a.0 j ∷ b.0 j), b.1)

  each_none : (s : S) (bytes : List ℕ) (xs before : List A) (rest left : List ℕ) (r : Refused) → length before < length xs → ReadsEach item next s bytes xs rest → ReadsEach item next s bytes before left
      → (item (state_after next s before)).Fails left r → ⊥
  each_none s bytes [] before rest left r e h k f = omega arith
  each_none s bytes (x ∷ xs) [] rest left r e h k f = (each s).no_fault bytes x h.0 r h.1 (subst (λ b. (item s).Fails b r) (sym k) f)
  each_none s bytes (x ∷ xs) (y ∷ before) rest left r e h k f =
      let a = (each s).one_value bytes y x k.0 h.0 k.1 h.1 in
      each_none (next s y) k.0 xs before rest left r (omega arith) (moved s bytes y x k.0 h.0 xs rest a.0 a.1 h.2) k.2 f

  each_fault : (s : S) (bytes : List ℕ) (xs ys : List A) (rest left : List ℕ) (q r : Refused) → ReadsEach item next s bytes xs rest → ReadsEach item next s bytes ys left
      → (item (state_after next s xs)).Fails rest q → (item (state_after next s ys)).Fails left r → q ≡ r
  each_fault s bytes [] [] rest left q r h k f g = (each s).one_fault bytes q r (subst (λ b. (item s).Fails b q) (sym h) f) (subst (λ b. (item s).Fails b r) (sym k) g)
  each_fault s bytes [] (y ∷ ys) rest left q r h k f g = absurd ((each s).no_fault bytes y k.0 q k.1 (subst (λ b. (item s).Fails b q) (sym h) f))
  each_fault s bytes (x ∷ xs) [] rest left q r h k f g = absurd ((each s).no_fault bytes x h.0 r h.1 (subst (λ b. (item s).Fails b r) (sym k) g))
  each_fault s bytes (x ∷ xs) (y ∷ ys) rest left q r h k f g =
      let a = (each s).one_value bytes y x k.0 h.0 k.1 h.1 in
      each_fault (next s y) k.0 xs ys rest left q r (moved s bytes y x k.0 h.0 xs rest a.0 a.1 h.2) k.2 (subst (λ (z : A). (item (state_after next (next s z) xs)).Fails rest q) (sym a.0) f) g

  pub repeated_exact : (s : S) (count : ℕ) → IsExact (repeated item next s count)
  repeated_exact s count = record {
    one_value = λ bytes x y rest left h k. each_one s bytes x y rest left (h.1 ∙ sym k.1) h.0 k.0;
    no_fault = λ bytes x rest r h k. each_none s bytes x k.before rest k.rest r (let e : length k.before < count = k.fewer in omega (arith, h.1)) h.0 k.reads k.fails;
    one_fault = λ bytes q r h k. each_fault s bytes h.before k.before h.rest k.rest q r h.reads k.reads h.fails k.fails;
  }

-- ---- the parts of a file

group_exact : (basis : Ids) (last : Option (List ℕ)) → IsExact (group basis last)
group_exact basis last =
    let is = behind_exact (field (group_at last)) (λ x. spans basis x.0 x.1) (field_exact (group_at last)) (λ x. repeated_exact (span basis x.0) floor_after (λ floor. field_exact (span_at basis x.0 floor)) 1 x.1) in
    record {
      one_value = λ bytes g h rest left p q.
          let e = is.one_value bytes ((g.replica, length g.spans), g.spans) ((h.replica, length h.spans), h.spans) rest left p q in
          ((λ j. record { replica = (e.0 j).0.0; spans = (e.0 j).1 }), e.1);
      no_fault = λ bytes g rest r p q. is.no_fault bytes ((g.replica, length g.spans), g.spans) rest r p q;
      one_fault = is.one_fault;
    }

pub ranges_exact : (basis : Ids) → IsExact (ranges basis)
ranges_exact basis = behind_exact (field (number_at w32)) (groups basis) (field_exact (number_at w32)) (λ n. repeated_exact (group basis) replica_after (group_exact basis) None n)

no_unfit : (b : Body) (left : ℕ) (r : Refused) → IsBody b → IsUnfit b left r → ⊥
no_unfit (Enter text) left r is e = no_text_fault text r.fault is e.1
no_unfit (Supersede old newer) left r is e = e
no_unfit (Retire entry) left r is e = e

one_unfit : (b : Body) (left : ℕ) (q r : Refused) → IsUnfit b left q → IsUnfit b left r → q ≡ r
one_unfit (Enter text) left q r e h = λ j. record { fault = one_text_fault text q.fault r.fault e.1 h.1 j; left = (e.0 ∙ sym h.0) j }
one_unfit (Supersede old newer) left q r e h = absurd e
one_unfit (Retire entry) left q r e h = absurd e

fails_none : (left : ℕ) (read : Result (Body × List ℕ) Refused) (b : Body) (rest : List ℕ) (r : Refused) → read ≡ Ok (b, rest) → IsBody b → FailsAs left read r → ⊥
fails_none left (Err e) b rest r h is f = not_both (b, rest) e (sym h)
fails_none left (Ok x) b rest r h is f =
    let e = same_done x.0 b x.1 rest h in
    no_unfit b left r is (subst (λ (y : Body). IsUnfit y left r) e.0 f)

fails_one : (left : ℕ) (read : Result (Body × List ℕ) Refused) (q r : Refused) → FailsAs left read q → FailsAs left read r → q ≡ r
fails_one left (Err e) q r f g = sym f ∙ g
fails_one left (Ok x) q r f g = one_unfit x.0 left q r f g

body_exact : (kind : ℕ) → IsExact (body kind)
body_exact kind = record {
  one_value = λ bytes b d rest left h k. same_done b d rest left (sym h.0 ∙ k.0);
  no_fault = λ bytes b rest r h k. fails_none (length bytes) (body_at kind bytes) b rest r h.0 h.1 k;
  one_fault = λ bytes q r h k. fails_one (length bytes) (body_at kind bytes) q r h k;
}

operation_exact : (version : ℕ) (seen : Ids) (last : Option Id) → IsExact (operation version seen last)
operation_exact version seen last =
    let is = behind_exact (field (heading_at version last seen)) (λ x. body x.0.1) (field_exact (heading_at version last seen)) (λ x. body_exact x.0.1) in
    record {
      one_value = λ bytes o p rest left h k.
          let e = is.one_value bytes (((o.id, kind_byte o.body), o.note), o.body) (((p.id, kind_byte p.body), p.note), p.body) rest left h k in
          ((λ j. record { id = (e.0 j).0.0.0; body = (e.0 j).1; note = (e.0 j).0.1 }), e.1);
      no_fault = λ bytes o rest r h k. is.no_fault bytes (((o.id, kind_byte o.body), o.note), o.body) rest r h k;
      one_fault = is.one_fault;
    }

ending_fault : (version : ℕ) (os : List Op) (bytes : List ℕ) (q r : Refused) → IsDropped os (places_of version os bytes) q ⊎ IsTrailing os bytes q → IsDropped os (places_of version os bytes) r ⊎ IsTrailing os bytes r → q ≡ r
ending_fault version os bytes q r (inl f) (inl g) = f.2 ∙ ap (λ i. record { fault = fault.NotKept; left = left_in (places_of version os bytes) i }) (same_Some f.0 g.0 (sym f.1 ∙ g.1)) ∙ sym g.2
ending_fault version os bytes q r (inl f) (inr g) = absurd (none-some f.0 (sym g.0 ∙ f.1))
ending_fault version os bytes q r (inr f) (inl g) = absurd (none-some g.0 (sym f.0 ∙ g.1))
ending_fault version os bytes q r (inr f) (inr g) = f.2 ∙ sym g.2

ending_none : (version : ℕ) (os : List Op) (bytes : List ℕ) (r : Refused) → first_dropped (set.from_list {R = op_cmp} os) ≡ None → bytes ≡ [] → IsDropped os (places_of version os bytes) r ⊎ IsTrailing os bytes r → ⊥
ending_none version os bytes r h e (inl f) = none-some f.0 (sym h ∙ f.1)
ending_none version os bytes r h e (inr f) = let l = ap length e in omega (arith, f.1, l)

pub ending_exact : (version : ℕ) (os : List Op) → IsExact (ending version os)
ending_exact version os = record {
  one_value = λ bytes x y rest left h k. (refl, h.2 ∙ sym k.2);
  no_fault = λ bytes x rest r h k. ending_none version os bytes r h.0 h.1 k;
  one_fault = ending_fault version os;
}

ended_exact : IsExact ended
ended_exact = record {
  one_value = λ bytes x y rest left h k. (refl, h.1 ∙ sym k.1);
  no_fault = λ bytes x rest r h k. let l = ap length h.0 in omega (arith, k.0, l);
  one_fault = λ bytes q r h k. h.1 ∙ sym k.1;
}

-- ---- whole files

seen_and_ops_exact : (version : ℕ) (basis : Ids) → IsExact (seen_and_ops version basis)
seen_and_ops_exact version basis =
    behind_exact (ranges basis) (λ gs. counted_operations version (seen_of (runs_of gs.1))) (ranges_exact basis)
    (λ gs. behind_exact (field (number_at w32)) (operations version (seen_of (runs_of gs.1))) (field_exact (number_at w32))
    (λ n. repeated_exact (operation version (seen_of (runs_of gs.1))) id_after (operation_exact version (seen_of (runs_of gs.1))) None n))

pub seen_and_kept_exact : (version : ℕ) (basis : Ids) → IsExact (seen_and_kept version basis)
seen_and_kept_exact version basis = behind_exact (seen_and_ops version basis) (λ x. ending version x.1.1) (seen_and_ops_exact version basis) (λ x. ending_exact version x.1.1)

pub register_exact : (version : ℕ) → IsExact (register version)
register_exact version = behind_exact (field (head_at version 1)) (λ x. seen_and_kept version set.empty) (field_exact (head_at version 1)) (λ x. seen_and_kept_exact version set.empty)

pub summary_exact : (version : ℕ) → IsExact (summary version)
summary_exact version =
    behind_exact (field (head_at version 2)) (λ x. ranges set.empty behind (λ gs. ended)) (field_exact (head_at version 2))
    (λ x. behind_exact (ranges set.empty) (λ gs. ended) (ranges_exact set.empty) (λ gs. ended_exact))

pub piece_exact : (version : ℕ) → IsExact (piece version)
piece_exact version =
    behind_exact (field (head_at version 3)) (λ x. based version) (field_exact (head_at version 3))
    (λ x. behind_exact (ranges set.empty) (λ gs. seen_and_kept version (seen_of (runs_of gs.1))) (ranges_exact set.empty) (λ gs. seen_and_kept_exact version (seen_of (runs_of gs.1))))
