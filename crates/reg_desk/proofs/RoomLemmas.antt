-- The room on a shelf that was restored, by the size in its head.
use Rattle.std.proofs.Common.{◌≡◌, ◌⊎◌, ◌+◌, ◌<◌, ◌≤◌, inl, inr, Bool, ℕ, List, length, refl, sym, ap, subst, ◌∙◌, arith}
use Rattle.std.specs.Prelude.{IsTrue, Err, IsErrOf}
use Rattle.std.specs.declared.result.Result.{Result}
use Rattle.byte_disk.proofs.Moments.{weaker, joined}
use Rattle.byte_shelf.specs.Shelf.{HasHead}
use Rattle.byte_shelf.specs.Keep.{CountsFault}
use Rattle.byte_shelf.specs.declared.fault.ShelfFault.{ShelfFault}
use Rattle.byte_shelf.specs.declared.fault.ShelfFault.TheVariants as shelf
use Rattle.reg_op.specs.Contents.{Content}
use Rattle.reg_file.specs.Files.{Holds, IsTooLarge}
use Rattle.reg_shelf.specs.Shelf.{IsShelf}
use Rattle.reg_engine.specs.declared.fault.ShelfProblem.TheVariants as problem
use Rattle.reg_engine.specs.declared.fault.CliFault.TheVariants as cli
use Rattle.reg_engine.specs.Fault.{shelf_fault}
use Rattle.reg_engine.specs.Shelf.{Disks, IsSure, AddsNothingTo}
use Rattle.reg_engine.specs.Store.{on_shelf}
use Rattle.reg_engine.proofs.ShelfLemmas.{then_stays, long_head}
use Rattle.reg_desk.specs.ImportRoom.{IsFull, room_on_shelf}

is_long : (s : List ℕ) (x : Content) → IsShelf s x → length s < 5 → ⊥
is_long s x p short = omega (arith, short, long_head s p.shelf.size p.shelf.head.size_stands)

-- the faults that reading the head may have
abbrev IsAsked : ShelfFault → Type 0
IsAsked shelf.NotShelf = Unit {0}
IsAsked shelf.DiskFailed = Unit {0}
IsAsked shelf.TooLarge = Unit {0}
IsAsked shelf.BadSize = ⊥
IsAsked shelf.Memory = ⊥

is_asked : (f : ShelfFault) → (f ≡ shelf.NotShelf) ⊎ ((f ≡ shelf.DiskFailed) ⊎ (f ≡ shelf.TooLarge)) → IsAsked f
is_asked f (inl e) = subst IsAsked (sym e) tt
is_asked f (inr (inl e)) = subst IsAsked (sym e) tt
is_asked f (inr (inr e)) = subst IsAsked (sym e) tt

abbrev err_of : {T E : Type 0} → E → Result T E
err_of e = Err e

-- the slots of the disk have room for this many bytes, or do not
abbrev pub Takes : {D : Type 0} → Disks D → D → ℕ → Type 0
Takes d old len = (gate : ℕ) × (size : ℕ) × HasHead (d.seen old) gate size × (len ≤ size)

abbrev pub TakesNot : {D : Type 0} → Disks D → D → ℕ → Type 0
TakesNot d old len = (gate : ℕ) × (size : ℕ) × HasHead (d.seen old) gate size × (size < len)

module _ {D : Type 0} (d : Disks D) (old mid : D) (tells : d.tells mid ≡ d.tells old) (x y : Content) (came : (on_shelf d old mid).came x) where
  then_told : IsTrue (d.tells old) → IsTrue (d.tells mid)
  then_told told = subst (λ (b : Bool). IsTrue b) (sym tells) told

  -- what holds for the bytes of the disk after the restoration held for them before it
  same_seen : (P : List ℕ → Type 0) → IsTrue (d.tells old) → P (d.seen mid) → P (d.seen old)
  same_seen P told h = subst P (came.1.nothing told).same h

  pub no_memory : (room_on_shelf d old mid).full x y cli.Memory
  no_memory = (came.0, came.1)

  pub too_large : IsTooLarge y → (room_on_shelf d old mid).full x y (cli.Shelf problem.TooLarge)
  too_large large = (came.0, (λ told. (large.0, large.1, inl large.2), came.1))

  module _ (new : D) (again : d.tells new ≡ d.tells mid) (bytes : List ℕ) (len : ℕ) (long : len ≡ length bytes) (held : Holds bytes y) (nothing : AddsNothingTo d mid new) where
    still_sure : IsSure d new
    still_sure told c may =
        let before : IsTrue (d.tells mid) = subst (λ (b : Bool). IsTrue b) again told in
        came.2 before c ((nothing before).fewer c may) ∙ sym (nothing before).same

    pub room : d.failures new ≡ d.failures mid → (IsTrue (d.tells mid) → Takes d mid len) → (room_on_shelf d old new).fits x y
    room quiet fits = (
      (came.0, then_stays d old mid new tells came.1 (record { quiet = quiet; nothing = nothing }), still_sure),
      (bytes, held, λ told. same_seen (λ s. (gate : ℕ) × (size : ℕ) × HasHead s gate size × (length bytes ≤ size)) told (subst (Takes d mid) long (fits (then_told told)))),
    )

    then_nothing : AddsNothingTo d old new
    then_nothing told =
        let first = came.1.nothing told in
        let second = nothing (then_told told) in record {
          same = second.same ∙ first.same;
          fewer = λ c may. first.fewer c (second.fewer c may);
          any_moment = joined d.moment d.since old mid new (d.images old) first.any_moment
              (weaker d.moment d.since mid new (d.images mid) (d.images old) second.any_moment first.fewer);
        }

    full_by : (T : Type 0) (f : ShelfFault) → (f ≡ shelf.NotShelf) ⊎ ((f ≡ shelf.DiskFailed) ⊎ (f ≡ shelf.TooLarge)) → CountsFault {T = T} (Err f) (d.failures mid) (d.failures new)
        → (IsTrue (d.tells mid) → f ≡ shelf.NotShelf → length (d.seen mid) < 5) → (IsTrue (d.tells mid) → f ≡ shelf.TooLarge → TakesNot d mid len) → IsFull d old new y (shelf_fault f)
    full_by T shelf.NotShelf is counts short large = (
      λ told. is_long (d.seen old) x (came.0 told) (same_seen (λ s. length s < 5) told (short (then_told told) refl)),
      then_stays d old mid new tells came.1 (record { quiet = counts; nothing = nothing }),
    )
    full_by T shelf.TooLarge is counts short large = (
      λ told. (bytes, held.bytes_are, inr (same_seen (λ s. (gate : ℕ) × (size : ℕ) × HasHead s gate size × (size < length bytes)) told (subst (TakesNot d mid) long (large (then_told told) refl)))),
      then_stays d old mid new tells came.1 (record { quiet = counts; nothing = nothing }),
    )
    full_by T shelf.DiskFailed is counts short large = (counts ∙ ap (λ (n : ℕ). n + 1) came.1.quiet, then_nothing)
    full_by T shelf.BadSize is counts short large = absurd (is_asked shelf.BadSize is)
    full_by T shelf.Memory is counts short large = absurd (is_asked shelf.Memory is)

    pub full : {T : Type 0} (f : ShelfFault) → (f ≡ shelf.NotShelf) ⊎ ((f ≡ shelf.DiskFailed) ⊎ (f ≡ shelf.TooLarge)) → CountsFault {T = T} (Err f) (d.failures mid) (d.failures new)
        → (IsTrue (d.tells mid) → IsErrOf {T = T} (Err f) shelf.NotShelf → length (d.seen mid) < 5)
        → (IsTrue (d.tells mid) → IsErrOf {T = T} (Err f) shelf.TooLarge → TakesNot d mid len) → (room_on_shelf d old new).full x y (shelf_fault f)
    full {T = T} f is counts short large = (
      came.0,
      full_by T f is counts (λ told e. short told (ap (λ (k : ShelfFault). err_of {T = T} k) e)) (λ told e. large told (ap (λ (k : ShelfFault). err_of {T = T} k) e)),
    )
