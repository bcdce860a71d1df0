-- One more read or write, after those before it.
use Rattle.std.proofs.Common.{◌≡◌, ◌≤◌, ◌<◌, ◌+◌, ◌++◌, ◌-◌, ℕ, List, length, take, drop, None, Some, append_assoc, ap, sym, ◌∙◌, take-add, length-drop, length-append, arith, Err}
use Rattle.std.specs.declared.option.Option.{Option}
use Rattle.std.specs.Io.KnownBytes.{Appends, Consumes, Keeps}
use Rattle.std.proofs.lemmas.List.{take_all}
use Rattle.byte_io.specs.Device.{SourceState}
use Rattle.byte_io.specs.Whole.{IsInFault, IsChunk}
use Rattle.byte_io.specs.declared.fault.InFault.{InFault}
use Rattle.byte_io.specs.declared.fault.InFault.TheVariants as fault

-- the first n bytes of the slice from m on are the n bytes after the first m
pub taken_from : (bytes : List ℕ) (m n : ℕ) → take n (take (length bytes - m) (drop m bytes)) ≡ take n (drop m bytes)
taken_from bytes m n = ap (λ xs. take n xs) (take_all (length bytes - m) (drop m bytes) (omega (arith, length-drop m bytes)))

pub Appends-further : (old mid new : Option (List ℕ)) (bytes : List ℕ) (m n : ℕ) → Appends old mid (take m bytes)
    → Appends mid new (take n (take (length bytes - m) (drop m bytes))) → Appends old new (take (m + n) bytes)
Appends-further None mid new bytes m n p q = tt
Appends-further (Some xs) None new bytes m n p q = absurd p
Appends-further (Some xs) (Some ys) None bytes m n p q = absurd q
Appends-further (Some xs) (Some ys) (Some zs) bytes m n p q =
    q ∙ ap (λ ws. ws ++ take n (take (length bytes - m) (drop m bytes))) p ∙ append_assoc xs (take m bytes) _
    ∙ ap (λ ws. xs ++ (take m bytes ++ ws)) (taken_from bytes m n) ∙ ap (λ zs. xs ++ zs) (sym (take-add m n bytes))

-- n bytes of the slice from m on end within the bytes
pub room_after : (bytes : List ℕ) (m n : ℕ) → m ≤ length bytes → n ≤ length (take (length bytes - m) (drop m bytes)) → m + n ≤ length bytes
room_after bytes m n p q = omega (arith, length-drop m bytes, ap length (take_all (length bytes - m) (drop m bytes) (omega (arith, length-drop m bytes))))

-- bytes that are consumed in two steps are consumed as a whole
pub Consumes-further : (old mid new : Option (List ℕ)) (xs ys : List ℕ) → Consumes old mid xs → Consumes mid new ys → Consumes old new (xs ++ ys)
Consumes-further None mid new xs ys p q = tt
Consumes-further (Some ws) None new xs ys p q = absurd p
Consumes-further (Some ws) (Some us) None xs ys p q = absurd q
Consumes-further (Some ws) (Some us) (Some vs) xs ys p q = p ∙ ap (λ zs. xs ++ zs) q ∙ sym (append_assoc xs ys vs)

-- a call that keeps the rest of a source does not change which bytes were consumed
pub Consumes-kept : (old mid new : Option (List ℕ)) (xs : List ℕ) → Consumes old mid xs → Keeps mid new → Consumes old new xs
Consumes-kept None mid new xs p q = tt
Consumes-kept (Some ws) None new xs p q = absurd p
Consumes-kept (Some ws) (Some us) None xs p q = absurd q
Consumes-kept (Some ws) (Some us) (Some vs) xs p q = p ∙ ap (λ zs. xs ++ zs) (sym q)

-- a fault of one read is a fault of the whole, after reads that gave the bytes before it
pub fault_further : (most room : ℕ) (old mid new : SourceState) (before after : List ℕ) → mid.given ≡ old.given ++ before
    → Consumes old.left mid.left before
    → length before < most → mid.failures ≡ old.failures → mid.ends ≡ old.ends → (f : InFault)
    → room ≡ most - length before
    → IsChunk room before after mid new (Err f) → IsInFault most old new f
fault_further most room old mid new before after given front within quiet going (fault.ReadFailed n) r (e, same, kept, failed, goes) =
    (before, same ∙ given, Consumes-kept old.left mid.left new.left before front kept, sym e, omega arith, failed ∙ ap (λ k. k + 1) quiet, goes ∙ going)
fault_further most room old mid new before after given front within quiet going fault.Memory r (more, gave, taken, fits, still, goes) =
    (before ++ more, gave ∙ ap (λ zs. zs ++ more) given ∙ append_assoc old.given before more, Consumes-further old.left mid.left new.left before more front taken, omega (arith, length-append before more), still ∙ quiet, goes ∙ going)
