-- What a content says of keys, and what a join undoes. Which keys a text has is a parameter.
use Rattle.std.specs.Prelude.{◌≡◌, ℕ, Bool, true, false, not, ◌&&◌, List}
use Rattle.std.specs.List.{list_any}
use Rattle.reg_op.specs.Set as set
use Rattle.reg_op.specs.Finite.{any}
use Rattle.reg_op.specs.Ids.{Id, is_same}
use Rattle.reg_op.specs.declared.operation.OpBody.{OpBody as Body}
use Rattle.reg_op.specs.declared.operation.OpBody.TheVariants.{Enter, Supersede, Retire}
use Rattle.reg_op.specs.Operations.{Ops}
use Rattle.reg_op.specs.Contents.{Content}
use Rattle.reg_op.specs.Status.{retires}
use Rattle.reg_op.specs.Kept.{entering}

-- the text has the key
abbrev pub Keys : Type 0 → Type 0
Keys K = List ℕ → K → Bool

-- one key is superseded by another; all entries of a key are retired
pub data Saying (K : Type 0) : Type 0 where
  By : (old newer : K) → Saying K
  Withdrawn : (key : K) → Saying K

-- the effect enters a text that has the key
abbrev pub enters_key : {K : Type 0} → Keys K → K → Body → Bool
enters_key has key (Enter text) = has text key
enters_key has key (Supersede old newer) = false
enters_key has key (Retire entry) = false

-- the operations enter e as an entry of the key
abbrev pub is_entry : {K : Type 0} → Keys K → Ops → K → Id → Bool
is_entry has s key e = any (λ o. is_same e o.id && enters_key has key o.body) s

-- some entry of the key is not retired
abbrev pub is_in_use : {K : Type 0} → Keys K → Ops → K → Bool
is_in_use has s key = any (λ o. enters_key has key o.body && not (retires s o.id)) s

-- an entry of the key, not retired
abbrev pub stands : {K : Type 0} → Keys K → Ops → K → Id → Bool
stands has s key e = is_entry has s key e && not (retires s e)

-- among these operations the effect says it: a supersession of an entry of one key by an entry of another, neither retired;
-- the retirement of an entry of a key of which none is in use
abbrev pub tells : {K : Type 0} → Keys K → Ops → Saying K → Body → Bool
tells has s (By old newer) (Enter text) = false
tells has s (By old newer) (Supersede e n) = not (is_entry has s old n) && (stands has s old e && stands has s newer n)
tells has s (By old newer) (Retire e) = false
tells has s (Withdrawn key) (Enter text) = false
tells has s (Withdrawn key) (Supersede e n) = false
tells has s (Withdrawn key) (Retire e) = is_entry has s key e && not (is_in_use has s key)

-- some operation of the content says it
abbrev pub says : {K : Type 0} → Keys K → Content → Saying K → Bool
says has x saying = any (λ o. tells has x.ops saying o.body) x.ops

-- the content has seen the operation, and does not say it
abbrev pub unsays : {K : Type 0} → Keys K → Saying K → Id → Content → Bool
unsays has saying i x = set.contains x.seen i && not (says has x saying)

-- the content says it by an operation that no input has seen without saying the same
abbrev pub is_owed : {K : Type 0} → Keys K → List Content → Saying K → Content → Bool
is_owed has inputs saying x = any (λ o. tells has x.ops saying o.body && not (list_any (unsays has saying o.id) inputs)) x.ops

-- the join does not say it, and an input says it by an operation that no input has seen without saying the same
abbrev pub undone : {K : Type 0} → Keys K → List Content → Content → Saying K → Bool
undone has inputs join saying = not (says has join saying) && list_any (is_owed has inputs saying) inputs

-- the effect is a supersession
abbrev pub is_link : Body → Bool
is_link (Enter text) = false
is_link (Supersede old newer) = true
is_link (Retire entry) = false

-- some operation enters a text of the key as e, and none retires e
pub record IsLive {K : Type 0} (has : Keys K) (s : Ops) (key : K) (e : Id) : Type 0 where
  pub text : List ℕ
  pub note : List ℕ
  pub entered : set.contains s (entering e text note) ≡ true
  pub keyed : has text key ≡ true
  pub stays : retires s e ≡ false

-- the supersession of an entry of one key by an entry of another, both entered, neither retired
pub record IsSaidBy {K : Type 0} (has : Keys K) (s : Ops) (old newer : K) (b : Body) : Type 0 where
  pub e : Id
  pub n : Id
  pub is : b ≡ Supersede e n
  pub old_lives : IsLive has s old e
  pub newer_lives : IsLive has s newer n
  pub other : (text note : List ℕ) → set.contains s (entering n text note) ≡ true → has text old ≡ false

-- the retirement of an entry of the key, if each entry of it is retired
pub record IsWithdrawnBy {K : Type 0} (has : Keys K) (s : Ops) (key : K) (b : Body) : Type 0 where
  pub e : Id
  pub is : b ≡ Retire e
  pub text : List ℕ
  pub note : List ℕ
  pub entered : set.contains s (entering e text note) ≡ true
  pub keyed : has text key ≡ true
  pub all : (i : Id) (t n : List ℕ) → set.contains s (entering i t n) ≡ true → has t key ≡ true → retires s i ≡ true
