-- Lines that were done add no pair afterwards.
use Rattle.std.proofs.Common.{◌≡◌, ℕ, ◌+◌, ◌≤◌, Bool, true, false, cond, List, [], ◌∷◌, ◌++◌, map, append-nil, length, None, refl, sym, ap, ◌∙◌, subst, inl, inr, ◌⊎◌, arith}
use Rattle.std.proofs.lemmas.Bool.{true≢false}
use Rattle.std.proofs.lemmas.Cmp.{nat_list_cmp_total}
use Rattle.std.specs.Borrow.{Bor}
use Rattle.std.specs.BTreeSet.{BTreeSet, contains}
use Rattle.std.specs.Cmp.{Equal-is}
use Rattle.std.specs.Cmp.Lexicographic.{slice_cmp}
use Rattle.std.specs.List.{list_any}
use Rattle.std.specs.Ordering.{is_eq, nat_cmp}
use Rattle.reg_op.specs.Ids.{Id}
use Rattle.reg_op.specs.Operations.{Op, Ops}
use Rattle.reg_op.specs.declared.operation.OpBody.{OpBody as Body}
use Rattle.reg_op.specs.Contents.{Content, IsContent}
use Rattle.reg_op.proofs.OpLemmas.{bytes_exact}
use Rattle.reg_supersede.specs.declared.pair.Pair.{Pair}
use Rattle.reg_supersede.specs.declared.fault.RefusedLine.{RefusedLine}
use Rattle.reg_supersede.specs.Lines.{words}
use Rattle.reg_supersede.specs.Lists.{Task, is_pair, pairs_of, lacking, bodies_of}
use Rattle.reg_supersede.specs.Effects.{after, CanMake, CanAdd, AddsFor, StepsOn, AreDone, HasMore, bytes_cmp}
use Rattle.reg_office.specs.Commands.{Does}
use Rattle.reg_supersede.proofs.AfterLemmas.{more_of}
use Rattle.reg_supersede.proofs.LineLemmas.{steps_on, does_line}
use Rattle.reg_supersede.proofs.MadeLemmas.{Keeps, AllThere, none_lacks, lacked_there, there_by, later_by}

-- ---- one line

no_more : (t : Task) (x : Content) (bs cs new : List Body) → CanAdd t x bs cs → CanMake t x new → CanAdd t x new []
no_more t x bs cs new can make = record { short = can.short; none_refused = refl; fit = let fits = make.fit in omega arith }

-- pairs that do not lack are there
all_there : (ops now : Ops) → Keeps ops now → (ps : List Pair) → [] ≡ lacking ops [] ps → AllThere now ps
all_there ops now k ps none = lacked_there ops now k [] ps (λ q h. absurd (true≢false (sym (subst (λ (l : List Pair). list_any (is_pair q) l ≡ true) (sym none) h))))

-- a line that adds none adds none after more effects
pub still_none : (t : Task) (x : Content) (bs new : List Body) (ws : List (List ℕ)) → Keeps (after t x bs).ops (after t x new).ops → CanMake t x new → AddsFor t x bs ws [] → AddsFor t x new ws []
still_none t x bs new [] k make h = refl
still_none t x bs new (w ∷ []) k make h = absurd h
still_none t x bs new (w ∷ v ∷ ws) k make (olds, newer, s, u, none, can) =
    (olds, newer, s, u, sym (none_lacks (after t x new).ops [] (pairs_of olds newer) (all_there (after t x bs).ops (after t x new).ops k (pairs_of olds newer) none)), no_more t x bs [] new can make)

module _ (t : Task) (x : Content) (bs new : List Body) (ps : List Pair) (is : IsContent x) (e : new ≡ bs ++ bodies_of ps) where
  -- the operations of a line's pairs
  does_pairs : (olds newer : List Id) → ps ≡ lacking (after t x bs).ops [] (pairs_of olds newer) → CanAdd t x bs (bodies_of ps)
      → Does (after t x bs) t.replica t.note (bodies_of (lacking (after t x bs).ops [] (pairs_of olds newer))) (after t x new) (map (λ (o : Op). o.id) (more_of x t.replica t.note bs (bodies_of ps)))
  does_pairs olds newer lacks can =
      let ids : List Id = map (λ (o : Op). o.id) (more_of x t.replica t.note bs (bodies_of ps)) in
      subst (λ (l : List Pair). Does (after t x bs) t.replica t.note (bodies_of l) (after t x new) ids) lacks
      (subst (λ (l : List Body). Does (after t x bs) t.replica t.note (bodies_of ps) (after t x l) ids) (sym e) (does_line t x bs is (bodies_of ps) can))

  unchanged : ps ≡ [] → bs ≡ new
  unchanged none = sym (e ∙ ap (λ (l : List Pair). bs ++ bodies_of l) none ∙ append-nil bs)

  -- what was there before a line is there after it
  pub keeps_on : (ws : List (List ℕ)) → AddsFor t x bs ws ps → Keeps (after t x bs).ops (after t x new).ops
  keeps_on [] none = subst (λ (l : List Body). Keeps (after t x bs).ops (after t x l).ops) (unchanged none) (λ p h. h)
  keeps_on (w ∷ []) h = absurd h
  keeps_on (w ∷ v ∷ ws) (olds, newer, s, u, lacks, can) = (later_by t (after t x bs) (after t x new) (pairs_of olds newer) _ (does_pairs olds newer lacks can)).keeps

  -- a line adds none once its pairs are made
  pub now_none : (ws : List (List ℕ)) → CanMake t x new → AddsFor t x bs ws ps → AddsFor t x new ws []
  now_none [] make h = refl
  now_none (w ∷ []) make h = absurd h
  now_none (w ∷ v ∷ ws) make (olds, newer, s, u, lacks, can) =
      let there = there_by t (after t x bs) (after t x new) (pairs_of olds newer) _ (does_pairs olds newer lacks can) in
      (olds, newer, s, u, sym (none_lacks (after t x new).ops [] (pairs_of olds newer) there), no_more t x bs (bodies_of ps) new can make)

-- ---- the lines that are done

pub none_are_done : (t : Task) (x : Content) (bs : List Body) (done : BTreeSet (Bor (List ℕ))) → done.keys ≡ [] → AreDone t x bs done
none_are_done t x bs done none q h = absurd (true≢false (sym h ∙ (λ j. contains bytes_cmp (record { keys = none j }) q)))

-- the set has one line more
pub has_more : (text : Bor (List ℕ)) (old new : BTreeSet (Bor (List ℕ))) → ((q : Bor (List ℕ)) → contains bytes_cmp new q ≡ cond (is_eq (bytes_cmp text q)) true (contains bytes_cmp old q)) → HasMore text.now old new
has_more text old new put q h = by (is_eq (bytes_cmp text q)) refl
  where
    by : (b : Bool) → is_eq (bytes_cmp text q) ≡ b → (q.now ≡ text.now) ⊎ (contains bytes_cmp old q ≡ true)
    by true same = inl (sym (bytes_exact text.now q.now ((Equal-is (slice_cmp nat_cmp text.now q.now)).0 same)))
    by false other = inr (sym (put q ∙ (λ j. cond (other j) true (contains bytes_cmp old q))) ∙ h)

pub more_are_done : (t : Task) (x : Content) (bs new : List Body) (ps : List Pair) (text : List ℕ) (old more : BTreeSet (Bor (List ℕ))) → IsContent x → CanMake t x new → new ≡ bs ++ bodies_of ps
    → AddsFor t x bs (words text) ps → HasMore text old more → AreDone t x bs old → AreDone t x new more
more_are_done t x bs new ps text old more is make e adds has are q h = elim (has q h) [
  | inl same ↦ subst (λ (l : List ℕ). AddsFor t x new (words l) []) (sym same) (now_none t x bs new ps is e (words text) make adds)
  | inr there ↦ still_none t x bs new (words q.now) (keeps_on t x bs new ps is e (words text) adds) make (are q there)
]

-- a line that is done is passed over
pub passed_over : (t : Task) (x : Content) (n : ℕ) (text : List ℕ) (bs : List Body) (left : List RefusedLine) → IsContent x → AddsFor t x bs (words text) [] → StepsOn t x n text bs left bs left
passed_over t x n text bs left is adds = steps_on t x n text bs bs left [] is (words text) refl adds (sym (append-nil bs))
