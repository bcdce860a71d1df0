-- Whatever is taken, the numbers of an office are those that it gave.
use Rattle.std.proofs.Common.{◌≡◌, ◌∷◌, [], Bool, true, false, not, List, ℕ, ◌+◌, ◌≤◌, zero, suc, nat_lt, Option, Some, None, Result, Ok, Err, slice_get, refl, sym, ap, subst, ◌∙◌, inl, inr}
use Rattle.std.proofs.lemmas.Bool.{true≢false, or_cases, or_left, or_right, and_from, cases_Bool, ltb-false}
use Rattle.reg_op.specs.Set.{contains, union, contains-union}
use Rattle.reg_op.specs.Ids.{Id}
use Rattle.reg_op.specs.Finite.{any}
use Rattle.reg_op.specs.Operations.{Op}
use Rattle.reg_op.specs.Contents.{Content, joined, merged}
use Rattle.reg_op.specs.Pieces.{Piece, PieceRefusal, part_of, joined_piece}
use Rattle.reg_op.proofs.OpLemmas.{op_total, op_exact, id_total}
use Rattle.reg_op.proofs.FiniteLemmas.{any_from_member}
use Rattle.reg_op.proofs.ContentLemmas.{contains_op-union, kept_is_within}
use Rattle.reg_journal.specs.Journal.{Journal, IsOffice, is_own}
use Rattle.reg_journal.specs.Standing.{is_known, tells_forged, IsHonest, Admits}
use Rattle.reg_journal.proofs.NumbersLemmas.{numbers_in}
use Rattle.reg_file.specs.declared.parts.Part.{Part}
use Rattle.reg_file.specs.declared.parts.Part.TheVariants as part
use Rattle.reg_file.proofs.BodyLemmas.{same_itself}
use Rattle.reg_commands.specs.Merge.{begun}
use Rattle.reg_take.specs.declared.options.TakeOptions.{TakeOptions}
use Rattle.reg_take.specs.declared.files.Arrival.{Arrival}
use Rattle.reg_take.specs.declared.files.Arrival.TheVariants as arrival
use Rattle.reg_take.specs.declared.taking.LeftOut.{LeftOut}
use Rattle.reg_take.specs.declared.taking.LeftOut.TheVariants as left
use Rattle.reg_take.specs.declared.taking.TakePhase.{TakePhase}
use Rattle.reg_take.specs.declared.taking.TakePhase.TheVariants as phase
use Rattle.reg_take.specs.Files.{FileState, brought, arrived, content_of, judged, IsHonestTo, IsArrival, AreArrivals}
use Rattle.reg_take.specs.Taken.{Progress, starting, after_register, after_piece, taken, each_taken, sorted, all_taken, with_none_left, tried_piece, tried, each_tried, tried_again, rounds, IsFar, IsTakenFrom}
use Rattle.reg_take.specs.Take.{Takes}
use Rattle.reg_take.specs.Own.{HasOnlyGiven}
use Rattle.reg_take.proofs.TakenLemmas.{joined_is, piece_is}

module _ (f : Journal) where
  abbrev Has : Content → Type 0
  Has x = HasOnlyGiven f x

  -- ---- contents

  number_given : (x : Content) (i : Id) → IsHonest f x → is_own f.replica i ≡ true → contains x.seen i ≡ true → i.count ≤ f.last
  number_given x i is own there = elim (cases_Bool (nat_lt f.last i.count)) [
    | inl a ↦ absurd (true≢false (sym (and_from _ _ own (or_left _ _ (and_from _ _ a there))) ∙ is i))
    | inr b ↦ ltb-false f.last i.count b
  ]

  operation_known : (x : Content) (o : Op) → IsHonest f x → is_own f.replica o.id ≡ true → contains x.ops o ≡ true → is_known f.made.ops o ≡ true
  operation_known x o is own there = elim (cases_Bool (is_known f.made.ops o)) [
    | inl a ↦ a
    | inr b ↦
        let tells : tells_forged f o.id o ≡ true = or_right _ _ (and_from _ _ (same_itself o.id) (ap not b)) in
        let some : any (tells_forged f o.id) x.ops ≡ true = any_from_member op_total op_exact (tells_forged f o.id) x.ops o there tells in
        absurd (true≢false (sym (and_from _ _ own (or_right _ _ some)) ∙ is o.id))
  ]

  pub honest_has : (x : Content) → IsHonest f x → Has x
  honest_has x is = record { numbers = λ i own there. number_given x i is own there; operations = λ o own there. operation_known x o is own there }

  pub made_has : IsOffice f → Has f.made
  made_has is = record {
    numbers = λ i own there. (numbers_in f.replica f.last i (subst (λ s. contains s i ≡ true) is.seen there)).high;
    operations = λ o own there. or_left _ _ there;
  }

  pub merged_has : (x z : Content) → Has x → Has z → Has (merged x z)
  merged_has x z one other = record {
    numbers = λ i own there. elim (or_cases (contains x.seen i) (contains z.seen i) (sym (contains-union id_total x.seen z.seen i) ∙ there)) [
      | inl a ↦ one.numbers i own a
      | inr b ↦ other.numbers i own b
    ];
    operations = λ o own there.
        elim (or_cases (contains x.ops o) (contains z.ops o) (sym (contains_op-union x.ops z.ops o) ∙ kept_is_within (union x.ops z.ops) o there)) [
          | inl a ↦ one.operations o own a
          | inr b ↦ other.operations o own b
        ];
  }

  joined_has : (x z y : Content) → joined x z ≡ Ok y → Has x → Has z → Has y
  joined_has x z y e one other = subst Has (joined_is x z y e) (merged_has x z one other)

  -- an office works on a register that has only what it gave
  pub admitted_has : (x z : Content) → IsOffice f → Admits f x z → Has z
  admitted_has x z is admits = joined_has x f.made z admits.joins (honest_has x admits.honest) (made_has is)

  -- ---- one file

  abbrev Fine : Arrival → Type 0
  Fine (arrival.Register z) = Has z
  Fine (arrival.Piece p) = Has (part_of p)
  Fine (arrival.Unread k g) = Unit {0}
  Fine (arrival.Forged id) = Unit {0}

  register_has : (t : Progress) (i : ℕ) (z : Content) (r : Result Content Id) → joined t.content z ≡ r → Has z → Has t.content → Has (after_register t i z (begun r)).content
  register_has t i z (Ok y) e fine h = joined_has t.content z y e h fine
  register_has t i z (Err id) e fine h = h

  piece_has : (t : Progress) (i : ℕ) (p : Piece) (r : Result Content PieceRefusal) → joined_piece t.content p ≡ r → Has (part_of p) → Has t.content → Has (after_piece t i p r).content
  piece_has t i p (Ok y) e fine h = subst Has (piece_is t.content p y e) (merged_has t.content (part_of p) h fine)
  piece_has t i p (Err r) e fine h = h

  step_has : (w : TakePhase) (t : Progress) (i : ℕ) (a : Arrival) → Fine a → Has t.content → Has (taken w t i a).content
  step_has phase.Unread t i (arrival.Unread k g) fine h = h
  step_has phase.Unread t i (arrival.Forged id) fine h = h
  step_has phase.Unread t i (arrival.Register z) fine h = h
  step_has phase.Unread t i (arrival.Piece p) fine h = h
  step_has phase.Forged t i (arrival.Unread k g) fine h = h
  step_has phase.Forged t i (arrival.Forged id) fine h = h
  step_has phase.Forged t i (arrival.Register z) fine h = h
  step_has phase.Forged t i (arrival.Piece p) fine h = h
  step_has phase.Registers t i (arrival.Unread k g) fine h = h
  step_has phase.Registers t i (arrival.Forged id) fine h = h
  step_has phase.Registers t i (arrival.Register z) fine h = register_has t i z (joined t.content z) refl fine h
  step_has phase.Registers t i (arrival.Piece p) fine h = h
  step_has phase.Pieces t i (arrival.Unread k g) fine h = h
  step_has phase.Pieces t i (arrival.Forged id) fine h = h
  step_has phase.Pieces t i (arrival.Register z) fine h = h
  step_has phase.Pieces t i (arrival.Piece p) fine h = piece_has t i p (joined_piece t.content p) refl fine h

  -- ---- all files

  abbrev AllFine : List Arrival → Type 0
  AllFine [] = Unit {0}
  AllFine (a ∷ gave) = Fine a × AllFine gave

  walk_has : (w : TakePhase) (t : Progress) (i : ℕ) (gave : List Arrival) → AllFine gave → Has t.content → Has (each_taken w t i gave).content
  walk_has w t i [] fine h = h
  walk_has w t i (a ∷ gave) fine h = walk_has w (taken w t i a) (i + 1) gave fine.1 (step_has w t i a fine.0 h)

  all_have : (x : Content) (gave : List Arrival) → AllFine gave → Has x → Has (all_taken x gave).content
  all_have x gave fine h =
      let unread = each_taken phase.Unread (starting x) 0 gave in
      let registers = each_taken phase.Registers (sorted x gave) 0 gave in
      walk_has phase.Pieces registers 0 gave fine
      (walk_has phase.Registers (sorted x gave) 0 gave fine (walk_has phase.Forged unread 0 gave fine (walk_has phase.Unread (starting x) 0 gave fine h)))

  -- ---- pieces that are tried again

  abbrev FineAt : Option Arrival → Type 0
  FineAt None = Unit {0}
  FineAt (Some a) = Fine a

  get_fine : (gave : List Arrival) (i : ℕ) → AllFine gave → FineAt (slice_get gave i)
  get_fine [] i fine = tt
  get_fine (a ∷ gave) zero fine = fine.0
  get_fine (a ∷ gave) (suc i) fine = get_fine gave i fine.1

  again_has : (t : Progress) (i : ℕ) (id : Id) (a : Option Arrival) → FineAt a → Has t.content → Has (tried_piece t (left.Basis i id) a).content
  again_has t i id None fine h = h
  again_has t i id (Some (arrival.Register z)) fine h = h
  again_has t i id (Some (arrival.Piece p)) fine h = piece_has t i p (joined_piece t.content p) refl fine h
  again_has t i id (Some (arrival.Unread k g)) fine h = h
  again_has t i id (Some (arrival.Forged j)) fine h = h

  module _ (gave : List Arrival) (fine : AllFine gave) where
    one_has : (t : Progress) (l : LeftOut) → Has t.content → Has (tried gave t l).content
    one_has t (left.Unread i k g) h = h
    one_has t (left.Clash i id) h = h
    one_has t (left.Basis i id) h = again_has t i id (slice_get gave i) (get_fine gave i fine) h
    one_has t (left.Forged i id) h = h

    each_has : (t : Progress) (ls : List LeftOut) → Has t.content → Has (each_tried gave t ls).content
    each_has t [] h = h
    each_has t (l ∷ ls) h = each_has (tried gave t l) ls (one_has t l h)

    rounds_have : (n : ℕ) (t : Progress) → Has t.content → Has (rounds gave n t).content
    rounds_have zero t h = h
    rounds_have (suc n) t h = rounds_have n (tried_again gave t) (each_has (with_none_left t) t.left h)

    far_has : (going : Bool) (walked t : Progress) → IsFar going gave walked t → Has walked.content → Has t.content
    far_has false walked t e h = subst (λ (u : Progress). Has u.content) (sym e) h
    far_has true walked t ((n, e), wait) h = subst (λ (u : Progress). Has u.content) (sym e) (rounds_have n walked h)

    taken_has : (going : Bool) (x y : Content) (l : List LeftOut) → IsTakenFrom going x gave y l → Has x → Has y
    taken_has going x y l t h = subst Has (sym t.content) (far_has going (all_taken x gave) t.end t.far (all_have x gave fine h))

  -- ---- what the files gave

  honest_part : (office : Option Journal) (x : Content) → office ≡ Some f → IsHonestTo office x → Has x
  honest_part office x e is = honest_has x (subst (λ (o : Option Journal). IsHonestTo o x) e is)

  register_is : (z : Content) (q : Part) → arrival.Register z ≡ arrived q → z ≡ content_of q
  register_is z (part.Register x) e = cc
  register_is z (part.Piece p) e = absurd (cc)

  piece_of_is : (p : Piece) (q : Part) → arrival.Piece p ≡ arrived q → part_of p ≡ content_of q
  piece_of_is p (part.Register x) e = absurd (cc)
  piece_of_is p (part.Piece r) e = ap part_of (same p r e)
    where
      same : (a b : Piece) → arrival.Piece a ≡ arrival.Piece b → a ≡ b
      same a b h = cc

  fine_of : (how : TakeOptions) (k : ℕ) (o n : FileState) (a : Arrival) → judged how ≡ Some f → IsArrival how k o n a → Fine a
  fine_of how k o n (arrival.Register z) e (p, finds, is) =
      let q = brought how.offices.items p in
      subst Has (sym (register_is z q is.0)) (honest_part (judged how) (content_of q) e is.1)
  fine_of how k o n (arrival.Piece r) e (p, finds, is) =
      let q = brought how.offices.items p in
      subst Has (sym (piece_of_is r q is.0)) (honest_part (judged how) (content_of q) e is.1)
  fine_of how k o n (arrival.Unread m g) e is = tt
  fine_of how k o n (arrival.Forged id) e is = tt

  arrivals_fine : (how : TakeOptions) (number : ℕ) (old new : List FileState) (gave : List Arrival) → judged how ≡ Some f → AreArrivals how number old new gave → AllFine gave
  arrivals_fine how number [] [] [] e are = tt
  arrivals_fine how number [] [] (a ∷ gave) e are = absurd are
  arrivals_fine how number [] (n ∷ ns) gave e are = absurd are
  arrivals_fine how number (o ∷ os) [] gave e are = absurd are
  arrivals_fine how number (o ∷ os) (n ∷ ns) [] e are = absurd are
  arrivals_fine how number (o ∷ os) (n ∷ ns) (a ∷ gave) e are = (fine_of how number o n a e are.0, arrivals_fine how (number + 1) os ns gave e are.1)

  pub takes_has : (how : TakeOptions) (next : ℕ) (old new : List FileState) (x y : Content) (l : List LeftOut) → judged how ≡ Some f → Takes how next old new x y l → Has x → Has y
  takes_has how next old new x y l e (gave, arrive, from, may) h = taken_has gave (arrivals_fine how next old new gave e arrive) how.keep_going x y l from h
