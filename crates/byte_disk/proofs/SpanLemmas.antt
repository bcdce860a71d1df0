-- How time advances for a disk in memory.
use Rattle.std.proofs.Common.{◌≡◌, ◌⊎◌, inl, inr, ⊎_elim, ℕ, ◌≤◌, ◌<◌, ◌++◌, ◌∷◌, [], true, IsTrue, List, refl, sym, ap, ◌∙◌, subst, arith}
use Rattle.std.specs.Prelude.{nat_lt}
use Rattle.std.proofs.lemmas.Bool.{and_parts, and_from, lt-ltb, ltb-true}
use Rattle.byte_disk.specs.Disk.{Elapses}
use Rattle.byte_disk.specs.Record.{applied, Reaches, SpanLeaves, WasLeft, are_before, IsWhole, HasBegun}
use Rattle.byte_disk.specs.RecordLaws.{reaches_applied}
use Rattle.byte_disk.specs.declared.span.Write.{Write}
use Rattle.byte_disk.specs.declared.span.SinceSync.{SinceSync}
use Rattle.byte_disk.specs.declared.span.Past.{Past}

-- the bytes that a stop at the moment t or later might have left
abbrev pub Since : SinceSync → List Past → ℕ → List ℕ → Type 0
Since span past t c = SpanLeaves span c ⊎ WasLeft past t c

pub elapses_grown : (old new : SinceSync) (past : List Past) (before now : ℕ) → before < now → ((c : List ℕ) → SpanLeaves old c → SpanLeaves new c)
    → Elapses before now (Since old past) (Since new past) (λ c. SpanLeaves new c)
elapses_grown old new past before now later stays = record {
  later = later;
  nothing_else = λ t c le left. ⊎_elim (λ here. inr here) (λ was. inl (inr was)) left;
  keeps = λ t c le left. ⊎_elim (λ here. inl (stays c here)) (λ was. inr was) left;
}

was_before : (past : List Past) (p : Past) (t : ℕ) (c : List ℕ) → WasLeft (past ++ p ∷ []) t c → WasLeft past t c ⊎ ((t ≤ p.last.count) × SpanLeaves p.span c)
was_before [] p t c (inl last) = inr last
was_before [] p t c (inr none) = absurd none
was_before (q ∷ past) p t c (inl here) = inl (inl here)
was_before (q ∷ past) p t c (inr there) = ⊎_elim (λ was. inl (inr was)) (λ last. inr last) (was_before past p t c there)

stays_was : (past : List Past) (p : Past) (t : ℕ) (c : List ℕ) → WasLeft past t c → WasLeft (past ++ p ∷ []) t c
stays_was [] p t c none = absurd none
stays_was (q ∷ past) p t c (inl here) = inl here
stays_was (q ∷ past) p t c (inr there) = inr (stays_was past p t c there)

last_was : (past : List Past) (p : Past) (t : ℕ) (c : List ℕ) → t ≤ p.last.count → SpanLeaves p.span c → WasLeft (past ++ p ∷ []) t c
last_was [] p t c le left = inl (le, left)
last_was (q ∷ past) p t c le left = inr (last_was past p t c le left)

module _ (base : List ℕ) (last now : ℕ) (old new : SinceSync) (past past' : List Past) (begun : HasBegun base last old new past past') where
  pub begun_whole : IsWhole base new
  begun_whole = sym (ap (λ (ws : List Write). applied new.base.items ws) begun.new_writes ∙ begun.new_base)

  only_base : (c : List ℕ) → SpanLeaves new c → c ≡ base
  only_base c left = subst (λ (ws : List Write). Reaches new.base.items ws c) begun.new_writes left ∙ begun.new_base

  pub begun_only : IsWhole base old → (c : List ℕ) → SpanLeaves new c → SpanLeaves old c
  begun_only whole c left = subst (λ (s : List ℕ). SpanLeaves old s) (sym (only_base c left ∙ whole)) (reaches_applied old.base.items old.writes.items)

  pub elapses_begun : last < now → Elapses last now (Since old past) (Since new past') (λ c. SpanLeaves new c)
  elapses_begun later = record {
    later = later;
    nothing_else = λ t c le left. ⊎_elim (λ here. inr here)
        (λ was. inl (⊎_elim (λ had. inr had) (λ there. inl (subst (λ (s : SinceSync). SpanLeaves s c) begun.span there.1)) (was_before past begun.ended t c (subst (λ (ps : List Past). WasLeft ps t c) begun.added was)))) left;
    keeps = λ t c le left. inr (subst (λ (ps : List Past). WasLeft ps t c) (sym begun.added) (⊎_elim
        (λ here. last_was past begun.ended t c (omega (arith, le, begun.when)) (subst (λ (s : SinceSync). SpanLeaves s c) (sym begun.span) here))
        (stays_was past begun.ended t c) left));
  }

pub ordered_later : (past : List Past) (before now : ℕ) → before ≤ now → IsTrue (are_before past before) → IsTrue (are_before past now)
ordered_later [] before now le ordered = refl
ordered_later (p ∷ past) before now le ordered =
    let both = and_parts (nat_lt p.last.count before) (are_before past before) ordered in
    and_from (nat_lt p.last.count now) (are_before past now) (lt-ltb p.last.count now (omega (arith, le, ltb-true p.last.count before both.0))) (ordered_later past before now le both.1)

ordered_push : (past : List Past) (p : Past) (now : ℕ) → p.last.count < now → IsTrue (are_before past now) → IsTrue (are_before (past ++ p ∷ []) now)
ordered_push [] p now le ordered = and_from (nat_lt p.last.count now) true (lt-ltb p.last.count now le) refl
ordered_push (q ∷ past) p now le ordered =
    let both = and_parts (nat_lt q.last.count now) (are_before past now) ordered in
    and_from (nat_lt q.last.count now) (are_before (past ++ p ∷ []) now) both.0 (ordered_push past p now le both.1)

pub ordered_begun : (base : List ℕ) (last now : ℕ) (old new : SinceSync) (past past' : List Past) → HasBegun base last old new past past' → last < now → IsTrue (are_before past last) → IsTrue (are_before past' now)
ordered_begun base last now old new past past' begun later ordered =
    subst (λ (ps : List Past). IsTrue (are_before ps now)) (sym begun.added) (ordered_push past begun.ended now (omega (arith, begun.when, later)) (ordered_later past last now (omega (arith, later)) ordered))
