-- A command on the register of a file only adds to its seen ids.
use Rattle.std.proofs.Common.{◌≡◌, ℕ, ◌<◌, Bool, true, false, List, [], ◌∷◌, map, length, Some, None, Ok, Contains, zero, suc, refl, sym, ◌∙◌, subst, inl, inr, arith}
use Rattle.std.proofs.lemmas.Bool.{or_left, or_right, true≢false}
use Rattle.std.proofs.lemmas.List.Elements.{Contains-append_cases}
use Rattle.std.specs.List.{slice_index_or}
use Rattle.reg_writers.specs.Path.{Content as File, Stage, Begins, HasRead, Writes, IsSynced, HasLocked, Keeps, FoundSame, Withdraws, Replaced, HasPrinted, Ended}
use Rattle.reg_writers.proofs.Kept.{Many, OnlyAdds, Gave}
use Rattle.reg_op.specs.Set as set
use Rattle.reg_op.specs.Ids.{Id, Ids}
use Rattle.reg_op.specs.Operations.{Op, Ops}
use Rattle.reg_op.specs.Contents.{Content, state, joined}
use Rattle.reg_op.specs.Pieces.{Piece, part_of, joined_piece}
use Rattle.reg_op.specs.Lists.{has}
use Rattle.reg_op.proofs.OpLemmas.{id_total, op_total}
use Rattle.reg_op.proofs.ContentLemmas.{ids_has}
use Rattle.reg_op.proofs.JoinLemmas.{joined_ok}
use Rattle.reg_op.proofs.RefusalLemmas.{piece_joined}
use Rattle.reg_file.specs.Files.{ReadsAs}
use Rattle.reg_file.proofs.HoldLemmas.{one_reading}
use Rattle.reg_office.proofs.LawLemmas.{are_unseen}
use Rattle.reg_office.proofs.WorldSteps.{head_has, tail_has}
use Rattle.reg_writers.specs.Registers.{Step, Makes, Joins, JoinsPiece, Command, Steps, Turns, IsTurned, Changes, AreChanges, HasSeen, Gives, HasGiven}

pub union_left : (s t : Ids) (i : Id) → set.contains s i ≡ true → set.contains (set.union s t) i ≡ true
union_left s t i h = set.contains-union id_total s t i ∙ or_left _ (set.contains t i) h

pub union_right : (s t : Ids) (i : Id) → set.contains t i ≡ true → set.contains (set.union s t) i ≡ true
union_right s t i h = set.contains-union id_total s t i ∙ or_right (set.contains s i) _ h

-- the join of two contents has seen what each of them has seen
pub seen_left : (x z y : Content) (i : Id) → joined x z ≡ Ok y → set.contains x.seen i ≡ true → set.contains y.seen i ≡ true
seen_left x z y i j h = subst (λ (w : Content). set.contains w.seen i ≡ true) (joined_ok x z y j).1 (union_left x.seen z.seen i h)

pub seen_right : (x z y : Content) (i : Id) → joined x z ≡ Ok y → set.contains z.seen i ≡ true → set.contains y.seen i ≡ true
seen_right x z y i j h = subst (λ (w : Content). set.contains w.seen i ≡ true) (joined_ok x z y j).1 (union_right x.seen z.seen i h)

-- what a piece brings is joined
pub piece_left : (x y : Content) (p : Piece) (i : Id) → joined_piece x p ≡ Ok y → set.contains x.seen i ≡ true → set.contains y.seen i ≡ true
piece_left x y p i j h = seen_left x (part_of p) y i ((piece_joined x p y).0 j).1 h

pub stepped_sees : (s : Step) (x y : Content) (given : List Id) (i : Id) → Steps s x y given → set.contains x.seen i ≡ true → set.contains y.seen i ≡ true
stepped_sees (Makes replica note effects) x y given i t h = seen_left x (state (set.from_list t.ops)) y i t.are_joined h
stepped_sees (Joins other) x y given i t h = seen_left x other y i t.0 h
stepped_sees (JoinsPiece piece) x y given i t h = piece_left x y piece i t.0 h

pub turned_sees : (c : Command) (x y : Content) (given : List Id) (i : Id) → Turns c x y given → set.contains x.seen i ≡ true → set.contains y.seen i ≡ true
turned_sees [] x y given i t h = subst (λ (w : Content). set.contains w.seen i ≡ true) (sym t.0) h
turned_sees (s ∷ ss) x y given i (z, now, later, first, rest, all) h = turned_sees ss z y later i rest (stepped_sees s x z now i first h)

op_at : (os : List Op) (i : Id) (k : ℕ) → k < length (map (λ (o : Op). o.id) os) → slice_index_or (map (λ (o : Op). o.id) os) k i ≡ i → (o : Op) × (has os o ≡ true) × (o.id ≡ i)
op_at [] i k below at = absurd (omega arith)
op_at (p ∷ os) i zero below at = (p, head_has p os, at)
op_at (p ∷ os) i (suc k) below at =
    let within : k < length (map (λ (o : Op). o.id) os) = omega arith in
    let rest = op_at os i k within at in
    (rest.0, tail_has rest.0 p os rest.1, rest.2)

pub op_of : (os : List Op) (i : Id) → Contains (map (λ (o : Op). o.id) os) i → (o : Op) × (has os o ≡ true) × (o.id ≡ i)
op_of os i h = op_at os i h.0 h.1 h.2

pub none_in : (i : Id) → Contains {X = Id} [] i → ⊥
none_in i h = let below : h.0 < 0 = h.1 in absurd (omega arith)

-- an id that a step gives was not seen before, and is seen afterwards
step_is_new : (s : Step) (x y : Content) (given : List Id) (i : Id) → Steps s x y given → Contains given i → set.contains x.seen i ≡ false
step_is_new (Makes replica note effects) x y given i t h =
    let o = op_of t.ops i (subst (λ is. Contains is i) t.their_ids h) in
    subst (λ j. set.contains x.seen j ≡ false) o.2 (are_unseen x replica note effects t.ops o.0 t.are_made o.1)
step_is_new (Joins other) x y given i t h = (t.1 i h).0
step_is_new (JoinsPiece piece) x y given i t h = absurd (none_in i (subst (λ is. Contains is i) t.1 h))

step_is_seen : (s : Step) (x y : Content) (given : List Id) (i : Id) → Steps s x y given → Contains given i → set.contains y.seen i ≡ true
step_is_seen (Makes replica note effects) x y given i t h =
    let o = op_of t.ops i (subst (λ is. Contains is i) t.their_ids h) in
    let made : Ops = set.from_list t.ops in
    let there : set.contains made o.0 ≡ true = set.contains-from_list op_total t.ops o.0 ∙ o.1 in
    subst (λ j. set.contains y.seen j ≡ true) o.2 (seen_right x (state made) y o.0.id t.are_joined (ids_has made o.0 there))
step_is_seen (Joins other) x y given i t h = seen_right x other y i t.0 (t.1 i h).1
step_is_seen (JoinsPiece piece) x y given i t h = absurd (none_in i (subst (λ is. Contains is i) t.1 h))

-- an id that is not seen after a step was not seen before it
unseen_before : (s : Step) (x y : Content) (given : List Id) (i : Id) → Steps s x y given → set.contains y.seen i ≡ false → (b : Bool) → set.contains x.seen i ≡ b → b ≡ false
unseen_before s x y given i t h false e = refl
unseen_before s x y given i t h true e = absurd (true≢false (sym (stepped_sees s x y given i t e) ∙ h))

-- so is an id that a command gives
pub given_is_new : (c : Command) (x y : Content) (given : List Id) (i : Id) → Turns c x y given → Contains given i → set.contains x.seen i ≡ false
given_is_new [] x y given i t h = absurd (none_in i (subst (λ is. Contains is i) t.1 h))
given_is_new (s ∷ ss) x y given i (z, now, later, first, rest, all) h =
    elim (Contains-append_cases now later i (subst (λ is. Contains is i) all h)) [
      | inl there ↦ step_is_new s x z now i first there
      | inr there ↦ unseen_before s x z now i first (given_is_new ss z y later i rest there) (set.contains x.seen i) refl
    ]

pub given_is_seen : (c : Command) (x y : Content) (given : List Id) (i : Id) → Turns c x y given → Contains given i → set.contains y.seen i ≡ true
given_is_seen [] x y given i t h = absurd (none_in i (subst (λ is. Contains is i) t.1 h))
given_is_seen (s ∷ ss) x y given i (z, now, later, first, rest, all) h =
    elim (Contains-append_cases now later i (subst (λ is. Contains is i) all h)) [
      | inl there ↦ turned_sees ss z y later i rest (step_is_seen s x z now i first there)
      | inr there ↦ given_is_seen ss z y later i rest there
    ]

-- ---- files

-- an id that a file has seen was seen by its register
seen_in : (file : File) (bytes : List ℕ) (x : Content) (i : Id) → file ≡ Some bytes → ReadsAs bytes x → HasSeen file i → set.contains x.seen i ≡ true
seen_in None bytes x i e reads h = absurd h
seen_in (Some others) bytes x i e reads h =
    let same : others ≡ bytes = cc in
    subst (λ (y : Content). set.contains y.seen i ≡ true) (one_reading bytes h.0 x (subst (λ b. ReadsAs b h.0) same h.1) reads) h.2

module _ (file : File) (new : List ℕ) where
  turned_grows : (c : Command) (given : List Id) → IsTurned c file new given → (i : Id) → HasSeen file i → HasSeen (Some new) i
  turned_grows c given t i h = (t.is, inl t.holds, turned_sees c t.was t.is given i t.turns (seen_in file t.bytes t.was i t.file_is t.reads h))

  grows : Changes file new → (i : Id) → HasSeen file i → HasSeen (Some new) i
  grows (inl turned) i h = turned_grows turned.0 turned.1 turned.2 i h
  grows (inr (inl same)) i h = subst (λ f. HasSeen f i) same h
  grows (inr (inr none)) i h = absurd (subst (λ f. HasSeen f i) none h)

  not_before : (i : Id) → Gives file new i → HasSeen file i → ⊥
  not_before i (c, given, t, there) h =
      true≢false (sym (seen_in file t.bytes t.was i t.file_is t.reads h) ∙ given_is_new c t.was t.is given i t.turns there)

  seen_then : (i : Id) → Gives file new i → HasSeen (Some new) i
  seen_then i (c, given, t, there) = (t.is, inl t.holds, given_is_seen c t.was t.is given i t.turns there)

abbrev pub many : (ℕ → File → List ℕ) → Many Id
many change = record { change = change; Gives = λ k file i. Gives file (change k file) i; Seen = HasSeen }

pub many_add : (change : ℕ → File → List ℕ) → AreChanges change → OnlyAdds (many change)
many_add change are = record {
  grows = λ k file i h. grows file (change k file) (are k file) i h;
  not_before = λ k file i g h. not_before file (change k file) i g h;
  seen_then = λ k file i g. seen_then file (change k file) i g;
}

pub gave_many : (change : ℕ → File → List ℕ) (k : ℕ) (s : Stage) (i : Id) → HasGiven (change k) s i → Gave (many change) k s i
gave_many change k Begins i h = h
gave_many change k (HasRead x) i h = h
gave_many change k (Writes x) i h = h
gave_many change k (IsSynced x) i h = h
gave_many change k HasLocked i h = h
gave_many change k (Keeps x) i h = h
gave_many change k (FoundSame x) i h = h
gave_many change k Withdraws i h = h
gave_many change k (Replaced x) i h = h
gave_many change k (HasPrinted x) i h = h
gave_many change k Ended i h = h
