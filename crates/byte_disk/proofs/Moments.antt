-- What a stop may leave during a run of calls.
use Rattle.std.proofs.Common.{inl, inr, ⊎_elim, ℕ, List, sym, subst, arith}
use Rattle.byte_disk.specs.Disk.{Elapses, LeavesOnly, Torn, Follows, Only}
use Rattle.byte_disk.specs.RecordLaws.{torn_none}

module _ {D : Type 0} (moment : D → ℕ) (since : D → ℕ → List ℕ → Type 0) where
  -- a run without calls leaves only what has P, if a stop now leaves only that
  pub started : (old : D) (P : List ℕ → Type 0) → ((c : List ℕ) → since old (moment old) c → P c) → LeavesOnly moment since old old P
  started old P here = record { later = omega arith; each = here; before = λ t c le left. inl left }

  -- a run with one more call leaves only what has P, if a stop after the call leaves only that
  pub goes_on : (old mid new : D) (P images : List ℕ → Type 0) → LeavesOnly moment since old mid P → Elapses (moment mid) (moment new) (since mid) (since new) images
      → ((c : List ℕ) → images c → P c) → LeavesOnly moment since old new P
  goes_on old mid new P images so_far time here = record {
    later = omega (arith, so_far.later, time.later);
    each = λ c left. ⊎_elim (so_far.each c) (here c) (time.nothing_else (moment old) c so_far.later left);
    before = λ t c le left. ⊎_elim (so_far.before t c le) (λ now. inr (here c now)) (time.nothing_else t c (omega (arith, le, so_far.later)) left);
  }

  -- if all that has P has Q, a stop leaves only what has Q
  pub weaker : (old new : D) (P Q : List ℕ → Type 0) → LeavesOnly moment since old new P → ((c : List ℕ) → P c → Q c) → LeavesOnly moment since old new Q
  weaker old new P Q leaves so = record {
    later = leaves.later;
    each = λ c left. so c (leaves.each c left);
    before = λ t c le left. ⊎_elim inl (λ p. inr (so c p)) (leaves.before t c le left);
  }

  -- two runs, one after the other, leave only what has P if each of them does
  pub joined : (old mid new : D) (P : List ℕ → Type 0) → LeavesOnly moment since old mid P → LeavesOnly moment since mid new P → LeavesOnly moment since old new P
  joined old mid new P first second = record {
    later = omega (arith, first.later, second.later);
    each = λ c left. ⊎_elim (first.each c) (λ p. p) (second.before (moment old) c first.later left);
    before = λ t c le left. ⊎_elim (first.before t c le) inr (second.before t c (omega (arith, le, first.later)) left);
  }

  -- a write, and a call after it that adds no image, leave only the bytes with the written range torn
  pub write_and_more : (old mid new : D) (at n : ℕ) (seen : List ℕ) (was wrote images : List ℕ → Type 0)
      → Only seen was → ((c : List ℕ) → since old (moment old) c → was c) → Follows (Torn at n) was wrote → ((c : List ℕ) → images c → wrote c)
      → Elapses (moment old) (moment mid) (since old) (since mid) wrote → Elapses (moment mid) (moment new) (since mid) (since new) images
      → LeavesOnly moment since old new (Torn at n seen)
  write_and_more old mid new at n seen was wrote images only now follows fewer first second =
      let torn_of : (c : List ℕ) → wrote c → Torn at n seen c = λ c may.
      let from = follows c may in
      subst (λ (d : List ℕ). Torn at n d c) (only from.0 from.1) from.2 in
      goes_on old mid new (Torn at n seen) images
      (goes_on old old mid (Torn at n seen) wrote (started old (Torn at n seen) (λ c left. subst (λ (d : List ℕ). Torn at n seen d) (sym (only c (now c left))) (torn_none at n seen))) first torn_of)
      second (λ c may. torn_of c (fewer c may))
