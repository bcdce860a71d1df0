-- An invariant of worlds, and the outcomes that keep it.
use Rattle.std.proofs.Common.{◌≡◌, ℕ, true, List, [], ◌∷◌, Some, sym, subst, ◌⊎◌, zero, suc}
use Rattle.std.specs.List.{slice_get}
use Rattle.reg_op.specs.Set.{contains}
use Rattle.reg_op.specs.Operations.{Op, Ops, OneBody}
use Rattle.reg_op.specs.Contents.{Content, state, AreOperations, IsContent}
use Rattle.reg_op.proofs.ContentLemmas.{state_is_content, OneBody-within}
use Rattle.reg_file.specs.Files.{Holds}
use Rattle.reg_office.specs.Pooled.{Pooled, ReadsAsAny, TellsOf}
use Rattle.reg_office.specs.World.{Sent, World, Outcome, Unchanged, Clashes, Sends, Writes, Gains}
use Rattle.reg_office.proofs.PooledLemmas.{IsSound}

abbrev pub IsWithin : Ops → Ops → Type 0
IsWithin s t = (o : Op) → contains s o ≡ true → contains t o ≡ true

-- a sent file has the state, the ids or a piece of what its sender had reached, all of which was made
pub record IsSent (all : Ops) (s : Sent) : Type 0 where
  pub what : Pooled
  pub holds : ReadsAsAny s.bytes what
  pub tells : TellsOf s.reached what
  pub within : IsWithin s.reached all

abbrev pub AreSent : Ops → List Sent → Type 0
AreSent all [] = Unit {0}
AreSent all (s ∷ ss) = IsSent all s × AreSent all ss

-- all: every operation that was made
pub record Invariant (w : World) : Type 0 where
  pub all : Ops
  pub operations : AreOperations all
  pub one_body : OneBody all
  pub content : (i : List ℕ) → (w.offices i).content ≡ state (w.offices i).reached
  pub last : (i : List ℕ) → Holds (w.offices i).last (state (w.offices i).reached)
  pub within : (i : List ℕ) → IsWithin (w.offices i).reached all
  pub own : (o : Op) → contains all o ≡ true → contains (w.offices o.id.replica).reached o ≡ true
  pub pool : AreSent all w.pool

-- each office has reached at least what it had reached
abbrev pub Grows : World → World → Type 0
Grows w v = (i : List ℕ) → IsWithin (w.offices i).reached (v.offices i).reached

pub sent_at : (all : Ops) (ss : List Sent) (k : ℕ) (s : Sent) → AreSent all ss → slice_get ss k ≡ Some s → IsSent all s
sent_at all [] k s are h = cc
sent_at all (t ∷ ss) zero s are h = let is : t ≡ s = cc in subst (IsSent all) is are.0
sent_at all (t ∷ ss) (suc k) s are h = sent_at all ss k s are.1 h

pub sent_within : (all more : Ops) (ss : List Sent) → IsWithin all more → AreSent all ss → AreSent more ss
sent_within all more [] within are = tt
sent_within all more (s ∷ ss) within are = (record { what = are.0.what; holds = are.0.holds; tells = are.0.tells; within = λ o h. within o (are.0.within o h) }, sent_within all more ss within are.1)

-- the content of an office is valid
pub office_content : (w : World) (inv : Invariant w) (i : List ℕ) → IsContent (w.offices i).content
office_content w inv i =
    subst IsContent (sym (inv.content i)) (state_is_content (w.offices i).reached (λ o h. inv.operations o (inv.within i o h)) (OneBody-within _ _ (inv.within i) inv.one_body))

-- ---- the outcome of an event, in a world with the invariant

-- the content is the state of what is reached: what the office had, what others made, and new operations of its own
pub record IsGain (w : World) (inv : Invariant w) (i : List ℕ) (x : Content) (reached : Ops) : Type 0 where
  pub all : Ops
  pub operations : AreOperations all
  pub one_body : OneBody all
  pub is_state : x ≡ state reached
  pub grows : IsWithin inv.all all
  pub more : IsWithin (w.offices i).reached reached
  pub within : IsWithin reached all
  pub news : (o : Op) → contains all o ≡ true → (contains inv.all o ≡ true) ⊎ ((o.id.replica ≡ i) × (contains reached o ≡ true))

-- the content that an office gains is valid
pub gain_content : (w : World) (inv : Invariant w) (i : List ℕ) (x : Content) (reached : Ops) → IsGain w inv i x reached → IsContent x
gain_content w inv i x reached good = subst IsContent (sym good.is_state) (state_is_content reached (λ o h. good.operations o (good.within o h)) (OneBody-within _ _ good.within good.one_body))

-- it is the state, the ids or a piece of operations that were made, and a file can hold it
pub record IsWritten (all : Ops) (what : Pooled) (reached : Ops) : Type 0 where
  pub tells : TellsOf reached what
  pub within : IsWithin reached all
  pub sound : IsSound what

abbrev pub IsGood : (w : World) → Invariant w → Outcome → Type 0
IsGood w inv Unchanged = Unit {0}
IsGood w inv (Clashes id) = ⊥
IsGood w inv (Sends sent) = IsSent inv.all sent
IsGood w inv (Writes what reached) = IsWritten inv.all what reached
IsGood w inv (Gains i x reached) = IsGain w inv i x reached
