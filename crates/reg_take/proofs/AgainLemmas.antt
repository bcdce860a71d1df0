-- Pieces that are tried again: what stays, and when none of them can be joined.
use Rattle.std.proofs.Common.{◌≡◌, ◌⊎◌, ◌∷◌, ◌++◌, [], List, ℕ, ◌+◌, ◌<◌, ◌≤◌, zero, suc, length, slice_get, Option, None, Some, Result, Ok, Err, refl, sym, ap, subst, ◌∙◌, inl, inr, arith}
use Rattle.std.proofs.lemmas.List.{length-append}
use Rattle.std.proofs.lemmas.List.Elements.{All-nil, All-cons, All-append}
use Rattle.reg_op.specs.Ids.{Id}
use Rattle.reg_op.specs.Contents.{Content, joined}
use Rattle.reg_op.specs.Pieces.{Piece, PieceRefusal, Basis, Clash, first_missing, joined_where, joined_piece, part_of}
use Rattle.reg_take.specs.declared.files.Arrival.{Arrival}
use Rattle.reg_take.specs.declared.files.Arrival.TheVariants as arrival
use Rattle.reg_take.specs.declared.taking.LeftOut.{LeftOut}
use Rattle.reg_take.specs.declared.taking.LeftOut.TheVariants as left
use Rattle.reg_take.specs.declared.taking.Taking.{Taking}
use Rattle.reg_take.specs.Taken.{Progress, Shows, leaving, after_piece, with_none_left, tried_piece, tried, each_tried, tried_again, rounds, Lacks, IsWaiting, AllWait}

-- ---- a property of the content, and of what was joined, that joining a piece keeps

module _ (P : Progress → Type 0) (gave : List Arrival) (leaves : (t : Progress) (l : LeftOut) → P t → P (leaving t l)) (clears : (t : Progress) → P t → P (with_none_left t))
    (joins : (t : Progress) (i : ℕ) (p : Piece) → P t → P (after_piece t i p (joined_piece t.content p))) where
  piece_kept : (t : Progress) (i : ℕ) (id : Id) (a : Option Arrival) → P t → P (tried_piece t (left.Basis i id) a)
  piece_kept t i id None h = leaves t (left.Basis i id) h
  piece_kept t i id (Some (arrival.Register z)) h = leaves t (left.Basis i id) h
  piece_kept t i id (Some (arrival.Piece p)) h = joins t i p h
  piece_kept t i id (Some (arrival.Unread k f)) h = leaves t (left.Basis i id) h
  piece_kept t i id (Some (arrival.Forged j)) h = leaves t (left.Basis i id) h

  one_kept : (t : Progress) (l : LeftOut) → P t → P (tried gave t l)
  one_kept t (left.Unread i k f) h = leaves t (left.Unread i k f) h
  one_kept t (left.Clash i id) h = leaves t (left.Clash i id) h
  one_kept t (left.Basis i id) h = piece_kept t i id (slice_get gave i) h
  one_kept t (left.Forged i id) h = leaves t (left.Forged i id) h

  each_kept : (t : Progress) (ls : List LeftOut) → P t → P (each_tried gave t ls)
  each_kept t [] h = h
  each_kept t (l ∷ ls) h = each_kept (tried gave t l) ls (one_kept t l h)

  pub rounds_keep : (n : ℕ) (t : Progress) → P t → P (rounds gave n t)
  rounds_keep zero t h = h
  rounds_keep (suc n) t h = rounds_keep n (tried_again gave t) (each_kept (with_none_left t) t.left (clears t h))

-- ---- one more round

pub round_more : (gave : List Arrival) (n : ℕ) (t : Progress) → tried_again gave (rounds gave n t) ≡ rounds gave (suc n) t
round_more gave zero t = refl
round_more gave (suc n) t = round_more gave n (tried_again gave t)

-- ---- a round that joins no piece leaves out the pieces that wait

-- trying a file again joins a piece, or leaves out the file, which waits if it is a piece
abbrev Tried : List Arrival → Progress → Progress → Type 0
Tried gave t s = (s.left ≡ t.left) ⊎ ((l : LeftOut) × (s ≡ leaving t l) × IsWaiting gave t.content l)

missing_is : (missing : Option Id) (r : Result Content Id) (id : Id) → joined_where missing r ≡ Err (Basis id) → missing ≡ Some id
missing_is None (Ok x) id e = absurd (cc)
missing_is None (Err i) id e = absurd (cc)
missing_is (Some i) r id e = cc

module _ (gave : List Arrival) where
  piece_tried : (t : Progress) (i : ℕ) (p : Piece) (r : Result Content PieceRefusal) → slice_get gave i ≡ Some (arrival.Piece p) → joined_piece t.content p ≡ r → Tried gave t (after_piece t i p r)
  piece_tried t i p (Ok y) at e = inl refl
  piece_tried t i p (Err (Clash id)) at e = inr (left.Clash i id, refl, tt)
  piece_tried t i p (Err (Basis id)) at e =
      inr (left.Basis i id, refl, subst (Lacks t.content id) (sym at) (missing_is (first_missing p.basis t.content.seen) (joined t.content (part_of p)) id e))

  file_tried : (t : Progress) (i : ℕ) (id : Id) (a : Option Arrival) → slice_get gave i ≡ a → Tried gave t (tried_piece t (left.Basis i id) a)
  file_tried t i id None at = inr (left.Basis i id, refl, subst (Lacks t.content id) (sym at) tt)
  file_tried t i id (Some (arrival.Register z)) at = inr (left.Basis i id, refl, subst (Lacks t.content id) (sym at) tt)
  file_tried t i id (Some (arrival.Piece p)) at = piece_tried t i p (joined_piece t.content p) at refl
  file_tried t i id (Some (arrival.Unread k f)) at = inr (left.Basis i id, refl, subst (Lacks t.content id) (sym at) tt)
  file_tried t i id (Some (arrival.Forged j)) at = inr (left.Basis i id, refl, subst (Lacks t.content id) (sym at) tt)

  one_tried : (t : Progress) (l : LeftOut) → Tried gave t (tried gave t l)
  one_tried t (left.Unread i k f) = inr (left.Unread i k f, refl, tt)
  one_tried t (left.Clash i id) = inr (left.Clash i id, refl, tt)
  one_tried t (left.Basis i id) = file_tried t i id (slice_get gave i) refl
  one_tried t (left.Forged i id) = inr (left.Forged i id, refl, tt)

  more_of : (t s : Progress) → Tried gave t s → length s.left ≤ length t.left + 1
  more_of t s (inl e) = let same : length s.left ≡ length t.left = ap length e in omega (arith, same)
  more_of t s (inr (l, e, waits)) =
      let same : length s.left ≡ length (t.left ++ l ∷ []) = ap (λ (u : Progress). length u.left) e in
      omega (arith, same, length-append t.left (l ∷ []))

  never_more : (t : Progress) (ls : List LeftOut) → length (each_tried gave t ls).left ≤ length t.left + length ls
  never_more t [] = omega arith
  never_more t (l ∷ ls) = let here = more_of t (tried gave t l) (one_tried t l) in omega (arith, here, never_more (tried gave t l) ls)

  -- a piece was joined, or all that are left out wait
  abbrev pub Fewer : ℕ → Progress → Type 0
  Fewer n s = (length s.left < n) ⊎ AllWait gave s

  then_tried : (t s : Progress) (ls : List LeftOut) → Tried gave t s → ((u : Progress) → AllWait gave u → Fewer (length u.left + length ls) (each_tried gave u ls)) → AllWait gave t
      → Fewer (length t.left + (length ls + 1)) (each_tried gave s ls)
  then_tried t s ls (inl e) others waiting =
      let same : length s.left ≡ length t.left = ap length e in
      inl (omega (arith, same, never_more s ls))
  then_tried t s ls (inr (l, e, waits)) others waiting =
      let long : length (leaving t l).left ≡ length t.left + 1 = length-append t.left (l ∷ []) in
      subst (λ (u : Progress). Fewer (length t.left + (length ls + 1)) (each_tried gave u ls)) (sym e)
      (subst (λ n. Fewer n (each_tried gave (leaving t l) ls)) (omega (arith, long)) (others (leaving t l) (All-append (IsWaiting gave t.content) t.left (l ∷ []) waiting (All-cons (IsWaiting gave t.content) l [] waits (All-nil (IsWaiting gave t.content))))))

  pub each_fewer : (t : Progress) (ls : List LeftOut) → AllWait gave t → Fewer (length t.left + length ls) (each_tried gave t ls)
  each_fewer t [] waiting = inr waiting
  each_fewer t (l ∷ ls) waiting =
      subst (λ n. Fewer (length t.left + n) (each_tried gave (tried gave t l) ls)) (omega arith)
      (then_tried t (tried gave t l) ls (one_tried t l) (λ u k. each_fewer u ls k) waiting)

  pub round_fewer : (t : Progress) → Fewer (length t.left) (tried_again gave t)
  round_fewer t =
      let same : 0 + length t.left ≡ length t.left = omega arith in
      subst (λ (n : ℕ). Fewer n (tried_again gave t)) same (each_fewer (with_none_left t) t.left (All-nil (IsWaiting gave t.content)))

-- after some rounds the state shows this, and the last round joined a piece, or all that are left out wait
abbrev pub Round : List Arrival → Progress → Taking → ℕ → Type 0
Round gave t taking before = (n : ℕ) × Shows taking (rounds gave n t) × Fewer gave before (rounds gave n t)

pub first_round : (gave : List Arrival) (t : Progress) (old new : Taking) (before : ℕ) → ((u : Progress) → Shows old u → Shows new (tried_again gave u)) → before ≡ length old.left.items → Shows old t
    → Round gave t new before
first_round gave t old new before tries is shows =
    (1, tries t shows, subst (λ (k : ℕ). Fewer gave k (tried_again gave t)) (sym (is ∙ ap length shows.1)) (round_fewer gave t))

pub next_round : (gave : List Arrival) (t : Progress) (old new : Taking) (was before : ℕ) → ((u : Progress) → Shows old u → Shows new (tried_again gave u)) → before ≡ length old.left.items
    → Round gave t old was → Round gave t new before
next_round gave t old new was before tries is (n, shows, fewer) = (
  suc n,
  subst (Shows new) (round_more gave n t) (tries (rounds gave n t) shows),
  subst (Fewer gave before) (round_more gave n t)
      (subst (λ (k : ℕ). Fewer gave k (tried_again gave (rounds gave n t))) (sym (is ∙ ap length shows.1)) (round_fewer gave (rounds gave n t))),
)

pub last_round : (gave : List Arrival) (t : Progress) (taking : Taking) (before : ℕ) → before ≤ length taking.left.items → Round gave t taking before
    → (n : ℕ) × Shows taking (rounds gave n t) × AllWait gave (rounds gave n t)
last_round gave t taking before no_less (n, shows, inl less) = let same : length taking.left.items ≡ length (rounds gave n t).left = ap length shows.1 in absurd (omega (arith, less, no_less, same))
last_round gave t taking before no_less (n, shows, inr wait) = (n, shows, wait)

-- after one more file was tried, the rest gives what all give from the start
pub next_tried : (gave : List Arrival) (now t : Progress) (one : LeftOut) (rest others waiting : List LeftOut) → rest ≡ one ∷ others → each_tried gave now rest ≡ each_tried gave t waiting
    → each_tried gave (tried gave now one) others ≡ each_tried gave t waiting
next_tried gave now t one rest others waiting is same = sym (ap (each_tried gave now) is) ∙ same

-- after the last one, all were tried
pub last_tried : (gave : List Arrival) (taking : Taking) (now t : Progress) (rest waiting : List LeftOut) → length rest ≡ 0 → Shows taking now → each_tried gave now rest ≡ each_tried gave t waiting
    → Shows taking (each_tried gave t waiting)
last_tried gave taking now t [] waiting none shows same = subst (Shows taking) same shows
last_tried gave taking now t (l ∷ ls) waiting none shows same = absurd (omega (arith, none))
