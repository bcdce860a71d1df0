-- The bytes that a stop leaves, by its effect on unsynced bytes, are among those that it may leave.
use Rattle.std.proofs.Common.{◌≡◌, ℕ, ◌≤◌, List, [], ◌∷◌, length, replicate, drop, refl, sym, ap, ◌∙◌, subst}
use Rattle.std.proofs.lemmas.List.{length-replicate, drop_all}
use Rattle.byte_disk.specs.Disk.{Torn}
use Rattle.byte_disk.specs.Record.{overlaid, Reaches}
use Rattle.byte_disk.specs.RecordLaws.{torn_none, written_overlaid}
use Rattle.byte_disk.specs.Pending.{cut_by, left_by}
use Rattle.byte_disk.specs.declared.span.Write.{Write}
use Rattle.byte_disk.specs.declared.pending.Pending.{Pending}
use Rattle.byte_disk.specs.declared.pending.Pending.TheVariants as bytes

torn_cut : (pending : Pending) (base : List ℕ) (w : Write) → Torn w.at (length w.bytes.items) base (cut_by pending base w)
torn_cut bytes.Old base w = torn_none w.at (length w.bytes.items) base
torn_cut bytes.New base w = (written_overlaid base w.at w.bytes.items).torn
torn_cut (bytes.Each b) base w =
    let filled : List ℕ = replicate (length w.bytes.items) b in
    subst (λ (n : ℕ). Torn w.at n base (overlaid base w.at filled)) (length-replicate {A = ℕ} (length w.bytes.items) b) (written_overlaid base w.at filled).torn

pub reaches_left : (pending : Pending) (base : List ℕ) (writes : List Write) → Reaches base writes (left_by pending base writes)
reaches_left pending base [] = refl
reaches_left pending base (w ∷ writes) = (cut_by pending base w, torn_cut pending base w, reaches_left pending (cut_by pending base w) writes)

-- the bytes after all writes are among those that a stop may leave
pub reaches_all : (pending : Pending) (content base : List ℕ) (writes : List Write) (i : ℕ) → length writes ≤ i → left_by pending content (drop i writes) ≡ left_by pending base writes → Reaches base writes content
reaches_all pending content base writes i le is =
    let all : content ≡ left_by pending base writes = sym (ap (λ (ws : List Write). left_by pending content ws) (drop_all i writes le)) ∙ is in
    subst (λ (bytes : List ℕ). Reaches base writes bytes) (sym all) (reaches_left pending base writes)
