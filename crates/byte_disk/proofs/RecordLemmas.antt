-- The effect of one more write on the record.
use Rattle.std.proofs.Common.{◌≡◌, ◌⊎◌, inl, inr, ℕ, ◌++◌, ◌∷◌, [], Bool, true, false, List, length, refl, sym, ap, ◌∙◌, subst}
use Rattle.std.specs.Prelude.{if◌then◌else◌, Ok, Err, OnOk, OnErr, is_err}
use Rattle.std.proofs.lemmas.Bool.{false≢true}
use Rattle.std.specs.declared.result.Result.{Result}
use Rattle.byte_disk.specs.Disk.{Torn, Follows}
use Rattle.byte_disk.specs.Record.{overlaid, applied, Reaches, SpanLeaves, IsNoted, IsSameSpan, IsWhole, Grows}
use Rattle.byte_disk.specs.RecordLaws.{torn_none}
use Rattle.byte_disk.specs.declared.span.Write.{Write}
use Rattle.byte_disk.specs.declared.span.SinceSync.{SinceSync}

-- what holds at `Ok` holds, or what holds at `Err` does
pub either_way : {T E : Type 0} {P Q : Type 0} (r : Result T E) → OnOk r P → OnErr r Q → P ⊎ Q
either_way (Ok x) p q = inl p
either_way (Err e) p q = inr q

-- if the result is not an error, what holds at `Ok` holds
pub at_ok : {T E : Type 0} {P : Type 0} (r : Result T E) → is_err r ≡ false → OnOk r P → P
at_ok (Ok x) is p = p
at_ok (Err e) is p = absurd (false≢true (sym is))

-- if the result is an error, what holds at `Err` holds
pub at_err : {T E : Type 0} {P : Type 0} (r : Result T E) → is_err r ≡ true → OnErr r P → P
at_err (Ok x) is p = absurd (false≢true is)
at_err (Err e) is p = p

abbrev step : Bool → ℕ → List ℕ → List ℕ → List ℕ
step done at bytes content = if done then overlaid content at bytes else content

applied_push : (base : List ℕ) (writes : List Write) (w : Write) → applied base (writes ++ w ∷ []) ≡ step w.done w.at w.bytes.items (applied base writes)
applied_push base [] w = refl
applied_push base (v ∷ writes) w = applied_push (step v.done v.at v.bytes.items base) writes w

pub whole_noted : (content next : List ℕ) (at : ℕ) (bytes : List ℕ) (done : Bool) (old new : SinceSync) → IsNoted at bytes done old new
    → next ≡ (if done then overlaid content at bytes else content) → IsWhole content old → IsWhole next new
whole_noted content next at bytes done old new noted is whole =
    is ∙ ap (λ (s : List ℕ). step done at bytes s) whole
    ∙ ap (λ (b : Bool). step b at bytes (applied old.base.items old.writes.items)) (sym noted.same_done)
    ∙ ap (λ (a : ℕ). step noted.write.done a bytes (applied old.base.items old.writes.items)) (sym noted.place)
    ∙ ap (λ (bs : List ℕ). step noted.write.done noted.write.at bs (applied old.base.items old.writes.items)) (sym noted.same_bytes)
    ∙ sym (applied_push old.base.items old.writes.items noted.write)
    ∙ ap (λ (ws : List Write). applied old.base.items ws) (sym noted.added)
    ∙ ap (λ (base : List ℕ). applied base new.writes.items) (sym noted.same_base)

pub whole_same : (content : List ℕ) (old new : SinceSync) → IsSameSpan old new → IsWhole content old → IsWhole content new
whole_same content old new same whole =
    whole ∙ ap (λ (ws : List Write). applied old.base.items ws) (sym same.same_writes) ∙ ap (λ (base : List ℕ). applied base new.writes.items) (sym same.same_base)

pub grows_noted : (at : ℕ) (bytes : List ℕ) (done : Bool) (old new : SinceSync) → IsNoted at bytes done old new → Grows at (length bytes) old new
grows_noted at bytes done old new noted = record {
  same_base = noted.same_base;
  writes = inr (noted.write, noted.place, ap (λ (bs : List ℕ). length bs) noted.same_bytes, noted.added);
}

pub grows_same : (at n : ℕ) (old new : SinceSync) → IsSameSpan old new → Grows at n old new
grows_same at n old new same = record { same_base = same.same_base; writes = inl same.same_writes }

reach_before : (base : List ℕ) (writes : List Write) (w : Write) (c : List ℕ) → Reaches base (writes ++ w ∷ []) c → (d : List ℕ) × Reaches base writes d × Torn w.at (length w.bytes.items) d c
reach_before base [] w c (d, torn, is) = (base, refl, subst (λ (s : List ℕ). Torn w.at (length w.bytes.items) base s) (sym is) torn)
reach_before base (v ∷ writes) w c (d, torn, rest) =
    let from = reach_before d writes w c rest in
    (from.0, (d, torn, from.1), from.2)

reach_after : (base : List ℕ) (writes : List Write) (w : Write) (c d : List ℕ) → Reaches base writes d → Torn w.at (length w.bytes.items) d c → Reaches base (writes ++ w ∷ []) c
reach_after base [] w c d is torn = (c, subst (λ (s : List ℕ). Torn w.at (length w.bytes.items) s c) is torn, refl)
reach_after base (v ∷ writes) w c d (e, first, rest) torn = (e, first, reach_after e writes w c d rest torn)

-- the bytes that a stop in a span may leave, by the base and the writes of the span
leaves_by : (old new : SinceSync) (writes : List Write) (c : List ℕ) → new.base.items ≡ old.base.items → new.writes.items ≡ writes → Reaches old.base.items writes c → SpanLeaves new c
leaves_by old new writes c base is reached =
    subst (λ (b : List ℕ). Reaches b new.writes.items c) (sym base) (subst (λ (ws : List Write). Reaches old.base.items ws c) (sym is) reached)

left_by : (old new : SinceSync) (writes : List Write) (c : List ℕ) → new.base.items ≡ old.base.items → new.writes.items ≡ writes → SpanLeaves new c → Reaches old.base.items writes c
left_by old new writes c base is left =
    subst (λ (ws : List Write). Reaches old.base.items ws c) is (subst (λ (b : List ℕ). Reaches b new.writes.items c) base left)

pub grown_follows : (at n : ℕ) (old new : SinceSync) → Grows at n old new → Follows (Torn at n) (λ c. SpanLeaves old c) (λ c. SpanLeaves new c)
grown_follows at n old new grows c left = elim grows.writes [
  | inl same ↦ (c, left_by old new old.writes.items c grows.same_base same left, torn_none at n c)
  | inr more ↦
      let from = reach_before old.base.items old.writes.items more.0 c (left_by old new (old.writes.items ++ more.0 ∷ []) c grows.same_base more.3 left) in
      (from.0, from.1, subst (λ (m : ℕ). Torn at m from.0 c) more.2 (subst (λ (a : ℕ). Torn a (length more.0.bytes.items) from.0 c) more.1 from.2))
]

pub grown_stays : (at n : ℕ) (old new : SinceSync) → Grows at n old new → (c : List ℕ) → SpanLeaves old c → SpanLeaves new c
grown_stays at n old new grows c left = elim grows.writes [
  | inl same ↦ leaves_by old new old.writes.items c grows.same_base same left
  | inr more ↦ leaves_by old new (old.writes.items ++ more.0 ∷ []) c grows.same_base more.3
      (reach_after old.base.items old.writes.items more.0 c c left (torn_none more.0.at (length more.0.bytes.items) c))
]
