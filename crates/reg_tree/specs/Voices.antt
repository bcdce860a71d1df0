-- Sayings as the program holds them, and the keys that texts have.
use Rattle.std.specs.Prelude.{◌≡◌, ◌↔◌, ℕ, Bool, true, false, not, ◌&&◌, ◌||◌, List, Option, Some, None, Contains}
use Rattle.std.specs.BTreeSet.{BTreeSet, contains_by}
use Rattle.std.specs.List.{list_any}
use Rattle.std.specs.List.Sorted.{IsStrictlySortedBy}
use Rattle.std.specs.Ordering.{ordering_then, is_eq}
use Rattle.std.specs.declared.cmp.Ordering.{Ordering}
use Rattle.std.specs.declared.cmp.Ordering.TheVariants.{Less, Equal, Greater}
use Rattle.reg_op.specs.Set as set
use Rattle.reg_op.specs.Ids.{Id}
use Rattle.reg_op.specs.Operations.{Op, Ops}
use Rattle.reg_op.specs.Contents.{Content}
use Rattle.reg_op.specs.Kept.{entering}
use Rattle.reg_op.specs.Finite.{any}
use Rattle.reg_op.specs.Status.{retires}
use Rattle.reg_op.specs.declared.operation.OpBody.{OpBody as Body}
use Rattle.reg_op.specs.declared.operation.OpBody.TheVariants.{Enter, Supersede, Retire}
use Rattle.reg_report.specs.Conflicts.{KeyBytes, key_cmp, HasKey}
use Rattle.reg_report.specs.Keys.{key_bytes}
use Rattle.reg_report.specs.declared.key.KeyText.{KeyText}
use Rattle.reg_tree.specs.Sayings.{Keys, Saying, By, Withdrawn, is_in_use, tells, says, unsays, undone}
use Rattle.reg_tree.specs.declared.undone.saying.SayingText.{SayingText}
use Rattle.reg_tree.specs.declared.undone.voice.Voice.{Voice}

-- the test says which keys the text has
abbrev pub IsRight : Keys KeyBytes → List ℕ → Type 0
IsRight has text = (k : KeyBytes) → (has text k ≡ true) ↔ HasKey text k

-- so of each text that these operations enter
abbrev pub AreRight : Keys KeyBytes → Ops → Type 0
AreRight has s = (e : Id) (text note : List ℕ) → set.contains s (entering e text note) ≡ true → IsRight has text

-- sayings are ordered by the key, and then by the one that supersedes it; of one key, that it is withdrawn comes first
abbrev pub saying_cmp : Saying KeyBytes → Saying KeyBytes → Ordering
saying_cmp (By a b) (By c d) = ordering_then (key_cmp a c) (key_cmp b d)
saying_cmp (By a b) (Withdrawn c) = ordering_then (key_cmp a c) Greater
saying_cmp (Withdrawn a) (By c d) = ordering_then (key_cmp a c) Less
saying_cmp (Withdrawn a) (Withdrawn c) = ordering_then (key_cmp a c) Equal

-- what the join of the inputs undoes, in order, each once
pub record AreUndone (inputs : List Content) (join : Content) (ss : List (Saying KeyBytes)) : Type 0 where
  pub has : Keys KeyBytes
  pub in_join : AreRight has join.ops
  pub in_inputs : (x : Content) → Contains inputs x → AreRight has x.ops
  pub ascend : IsStrictlySortedBy saying_cmp ss
  pub each : (s : Saying KeyBytes) → Contains ss s ↔ (undone has inputs join s ≡ true)

-- ---- keys and sayings in the program

abbrev pub is_key : KeyBytes → KeyBytes → Bool
is_key k q = is_eq (key_cmp k q)

abbrev pub said_of : KeyBytes → Option KeyText → Saying KeyBytes
said_of key None = Withdrawn key
said_of key (Some by) = By key (key_bytes by)

abbrev pub saying_seen : SayingText → Saying KeyBytes
saying_seen s = said_of (key_bytes s.key) s.by

abbrev pub saying_is : Option SayingText → Saying KeyBytes → Bool
saying_is None q = false
saying_is (Some s) q = is_eq (saying_cmp (saying_seen s) q)

-- the set has the key; the saying
abbrev pub has_key : BTreeSet KeyText → KeyBytes → Bool
has_key s k = contains_by (λ (q : KeyText). key_cmp k (key_bytes q)) s

abbrev pub has_saying : BTreeSet SayingText → Saying KeyBytes → Bool
has_saying s q = contains_by (λ (t : SayingText). saying_cmp q (saying_seen t)) s

-- the keys of the entries that are not retired
abbrev pub AreInUse : Ops → BTreeSet KeyText → Type 0
AreInUse s live = (has : Keys KeyBytes) → AreRight has s → (q : KeyBytes) → has_key live q ≡ is_in_use has s q

-- each text that the operations enter has a key
abbrev pub AreKeyed : Ops → Type 0
AreKeyed s = (e : Id) (text note : List ℕ) → set.contains s (entering e text note) ≡ true → (k : KeyBytes) × HasKey text k

-- what a register says
pub record IsVoice (v : Voice) : Type 0 where
  pub keyed : AreKeyed v.register.now.ops
  pub live : AreInUse v.register.now.ops v.live
  pub said : (has : Keys KeyBytes) → AreRight has v.register.now.ops → (q : Saying KeyBytes) → has_saying v.said q ≡ says has v.register.now q

abbrev pub AreVoices : List Voice → Type 0
AreVoices vs = (v : Voice) → Contains vs v → IsVoice v

abbrev pub content_of : Voice → Content
content_of v = v.register.now

-- the register has seen the operation, and does not say it
abbrev pub is_unsaid : Saying KeyBytes → Id → Voice → Bool
is_unsaid q i v = set.contains (content_of v).seen i && not (has_saying v.said q)

-- so for each of these voices
abbrev pub AreAllRight : Keys KeyBytes → List Voice → Type 0
AreAllRight has vs = (v : Voice) → Contains vs v → AreRight has (content_of v).ops

-- the operation of x says it, the join does not, and no input has seen the operation without saying the same
abbrev pub lost_at : Keys KeyBytes → List Content → Content → Content → Saying KeyBytes → Op → Bool
lost_at has inputs join x q o = not (says has join q) && (tells has x.ops q o.body && not (list_any (unsays has q o.id) inputs))

abbrev pub lost_in : Keys KeyBytes → List Content → Content → Saying KeyBytes → Content → Bool
lost_in has inputs join q x = any (lost_at has inputs join x q) x.ops

-- the key of the entry that is entered is in the set afterwards, unless it is retired
abbrev pub PutsLive : Ops → Id → Body → BTreeSet KeyText → BTreeSet KeyText → Type 0
PutsLive s i (Enter text) old new = (key : KeyBytes) × HasKey text key × ((q : KeyBytes) → has_key new q ≡ ((is_eq (key_cmp key q) && not (retires s i)) || has_key old q))
PutsLive s i (Supersede a b) old new = (q : KeyBytes) → has_key new q ≡ has_key old q
PutsLive s i (Retire e) old new = (q : KeyBytes) → has_key new q ≡ has_key old q
