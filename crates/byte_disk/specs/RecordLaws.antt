-- Laws of the record of a disk in memory.
use Rattle.std.proofs.Common.{◌≡◌, ◌⊎◌, inl, inr, ℕ, ◌+◌, ◌-◌, ◌++◌, ◌∷◌, [], Bool, true, false, IsTrue, min, List, length, take, drop, replicate, refl, sym, ap, ◌∙◌, subst, arith, append_assoc, length-append, length-take, length-drop, take-take}
use Rattle.std.proofs.lemmas.List.{take_at, drop_at, drop-drop, length-replicate, take-append-le}
use Rattle.std.proofs.lemmas.Bool.{and_parts, ltb-true}
use Rattle.std.specs.Prelude.{if◌then◌else◌, nat_lt}
use Rattle.byte_disk.specs.Disk.{Torn, IsWritten}
use Rattle.byte_disk.specs.Record.{overlaid, applied, Reaches, SpanLeaves, WasLeft, are_before}
use Rattle.byte_disk.specs.declared.span.Write.{Write}
use Rattle.byte_disk.specs.declared.span.SinceSync.{SinceSync}
use Rattle.byte_disk.specs.declared.span.Past.{Past}

-- a write that changed nothing
pub torn_none : (at n : ℕ) (s : List ℕ) → Torn at n s s
torn_none at n s = record { before = refl; after = refl; no_shorter = omega arith; no_longer = omega arith }

module _ (old : List ℕ) (at : ℕ) (bytes : List ℕ) where
  abbrev front : List ℕ
  front = take at old ++ replicate (at - length old) 0

  abbrev back : List ℕ
  back = drop (at + length bytes) old

  long_front : length front ≡ at
  long_front = omega (arith, length-append (take at old) (replicate (at - length old) 0), length-take at old, length-replicate {A = ℕ} (at - length old) 0)

  parts : overlaid old at bytes ≡ front ++ (bytes ++ back)
  parts = append_assoc front bytes back

  behind : drop at (front ++ (bytes ++ back)) ≡ bytes ++ back
  behind = drop_at front (bytes ++ back) at long_front

  long : length (front ++ (bytes ++ back)) ≡ at + length bytes + (length old - (at + length bytes))
  long = omega (arith, length-append front (bytes ++ back), long_front, length-append bytes back, length-drop (at + length bytes) old)

  here : take (length bytes) (drop at (front ++ (bytes ++ back))) ≡ bytes
  here = ap (λ (t : List ℕ). take (length bytes) t) behind ∙ take_at bytes back (length bytes) refl

  before : take (min at (length old)) (front ++ (bytes ++ back)) ≡ take (min at (length old)) old
  before =
      take-append-le (min at (length old)) front (bytes ++ back) (omega (arith, long_front))
      ∙ take-append-le (min at (length old)) (take at old) (replicate (at - length old) 0) (omega (arith, length-take at old))
      ∙ take-take (min at (length old)) at old (omega arith)

  after : drop (at + length bytes) (front ++ (bytes ++ back)) ≡ drop (at + length bytes) old
  after = sym (drop-drop (length bytes) at (front ++ (bytes ++ back))) ∙ ap (λ (t : List ℕ). drop (length bytes) t) behind ∙ drop_at bytes back (length bytes) refl

  pub written_overlaid : IsWritten old at bytes (overlaid old at bytes)
  written_overlaid = subst (λ (t : List ℕ). IsWritten old at bytes t) (sym parts) (record {
    here = here;
    torn = record { before = before; after = after; no_shorter = omega (arith, long); no_longer = omega (arith, long) };
  })

torn_if : (done : Bool) (old : List ℕ) (at : ℕ) (bytes : List ℕ) → Torn at (length bytes) old (if done then overlaid old at bytes else old)
torn_if true old at bytes = (written_overlaid old at bytes).torn
torn_if false old at bytes = torn_none at (length bytes) old

-- the bytes after the writes, each done or not, are among those that a stop may leave
pub reaches_applied : (base : List ℕ) (writes : List Write) → Reaches base writes (applied base writes)
reaches_applied base [] = refl
reaches_applied base (w ∷ writes) =
    let next : List ℕ = if w.done then overlaid base w.at w.bytes.items else base in
    (next, torn_if w.done base w.at w.bytes.items, reaches_applied next writes)

-- if all spans ended before this moment, none of them left bytes at this moment or later
none_later : (past : List Past) (now : ℕ) (c : List ℕ) → IsTrue (are_before past now) → WasLeft past now c → ⊥
none_later [] now c ordered left = left
none_later (p ∷ past) now c ordered (inl (late, left)) = omega (arith, late, ltb-true p.last.count now (and_parts (nat_lt p.last.count now) (are_before past now) ordered).0)
none_later (p ∷ past) now c ordered (inr left) = none_later past now c (and_parts (nat_lt p.last.count now) (are_before past now) ordered).1 left

pub only_present : (span : SinceSync) (past : List Past) (now : ℕ) (c : List ℕ) → IsTrue (are_before past now) → SpanLeaves span c ⊎ WasLeft past now c → SpanLeaves span c
only_present span past now c ordered (inl present) = present
only_present span past now c ordered (inr left) = absurd (none_later past now c ordered left)
