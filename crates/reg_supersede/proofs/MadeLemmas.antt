-- The pairs of a list that was made are there at the end.
use Rattle.std.proofs.Common.{◌≡◌, ℕ, ◌+◌, Bool, true, false, ◌||◌, List, [], ◌∷◌, ◌++◌, append_assoc, length, None, refl, sym, ◌∙◌, subst, inl, inr}
use Rattle.std.specs.Prelude.{if◌then◌else◌}
use Rattle.std.specs.List.{list_any}
use Rattle.std.proofs.lemmas.Bool.{or_left, or_right, and_from}
use Rattle.std.proofs.lemmas.List.Folds.{list_any-append}
use Rattle.reg_op.specs.Ids.{Id, is_same}
use Rattle.reg_op.specs.Operations.{Op, Ops}
use Rattle.reg_op.specs.declared.operation.OpBody.{OpBody as Body}
use Rattle.reg_op.specs.Contents.{Content}
use Rattle.reg_op.specs.Rows.{Row, rows}
use Rattle.reg_office.specs.Making.{greatest, new_ops, objections, else_next, note_fault, is_spent}
use Rattle.reg_office.specs.Commands.{Does}
use Rattle.reg_office.proofs.EffectLemmas.{nothing_against}
use Rattle.reg_office.proofs.BodyLemmas.{same_itself as same_id}
use Rattle.reg_office.proofs.NewLemmas.{not_refused}
use Rattle.reg_keys.specs.Every.{StandsForEvery, StandForEach}
use Rattle.reg_supersede.specs.declared.pair.Pair.{Pair}
use Rattle.reg_supersede.specs.declared.fault.RefusedLine.{RefusedLine}
use Rattle.reg_supersede.specs.Lines.{words}
use Rattle.reg_supersede.specs.Lists.{Task, rows_if, is_there, is_pair, pairs_of, lacking, bodies_of, DoesFor, DoesAll}
use Rattle.reg_supersede.specs.Effects.{after, AreSupersessions}
use Rattle.reg_supersede.proofs.AfterLemmas.{ops_of}
use Rattle.reg_supersede.proofs.PairLemmas.{still_there, made_there}
use Rattle.reg_supersede.proofs.LineLemmas.{all_supersede, made_is}
use Rattle.reg_supersede.proofs.LackingLemmas.{has_is, known_is, new_is}
use Rattle.reg_supersede.proofs.SameRows.{AreSame, same_itself, same_chain, every_too, each_too}
use Rattle.reg_supersede.proofs.StillRows.{rows_after}

-- ---- pairs

abbrev pub AllThere : Ops → List Pair → Type 0
AllThere ops [] = Unit {0}
AllThere ops (p ∷ ps) = (is_there ops p ≡ true) × AllThere ops ps

-- what is there in the first operations is there in the second
abbrev pub Keeps : Ops → Ops → Type 0
Keeps ops now = (p : Pair) → is_there ops p ≡ true → is_there now p ≡ true

pub all_still : (ops now : Ops) → Keeps ops now → (ps : List Pair) → AllThere ops ps → AllThere now ps
all_still ops now k [] h = tt
all_still ops now k (p ∷ ps) (h, t) = (k p h, all_still ops now k ps t)

pub none_lacks : (ops : Ops) (before ps : List Pair) → AllThere ops ps → lacking ops before ps ≡ []
none_lacks ops before [] h = refl
none_lacks ops before (p ∷ ps) (h, t) =
    (λ k. if h k || list_any (is_pair p) before then lacking ops before ps else p ∷ lacking ops (before ++ p ∷ []) ps) ∙ none_lacks ops before ps t

same_is : (p : Pair) → is_pair p p ≡ true
same_is p = and_from (is_same p.old p.old) (is_same p.newer p.newer) (same_id p.old) (same_id p.newer)

-- if the pairs that lacked are there now, all are
module _ (ops now : Ops) (keeps : Keeps ops now) where
  abbrev AreNow : List Pair → Type 0
  AreNow ps = (q : Pair) → list_any (is_pair q) ps ≡ true → is_there now q ≡ true

  passed : (p : Pair) (before ps : List Pair) → (is_there ops p || list_any (is_pair p) before) ≡ true → AreNow (before ++ lacking ops before (p ∷ ps)) → AreNow (before ++ lacking ops before ps)
  passed p before ps k are = subst (λ (l : List Pair). AreNow (before ++ l)) (known_is ops p before ps k) are

  added : (p : Pair) (before ps : List Pair) → (is_there ops p || list_any (is_pair p) before) ≡ false → AreNow (before ++ lacking ops before (p ∷ ps)) → AreNow (before ++ p ∷ lacking ops (before ++ p ∷ []) ps)
  added p before ps k are = subst (λ (l : List Pair). AreNow (before ++ l)) (new_is ops p before ps k) are

  among : (p : Pair) (before later : List Pair) → AreNow (before ++ later) → list_any (is_pair p) before ≡ true → is_there now p ≡ true
  among p before later are h = are p (list_any-append (is_pair p) before later ∙ or_left (list_any (is_pair p) before) (list_any (is_pair p) later) h)

  is_added : (p : Pair) (before later : List Pair) → AreNow (before ++ p ∷ later) → is_there now p ≡ true
  is_added p before later are =
      are p (list_any-append (is_pair p) before (p ∷ later) ∙ or_right (list_any (is_pair p) before) (is_pair p p || list_any (is_pair p) later) (or_left (is_pair p p) (list_any (is_pair p) later) (same_is p)))

  pub lacked_there : (before ps : List Pair) → AreNow (before ++ lacking ops before ps) → AllThere now ps
  lacked_there before [] are = tt
  lacked_there before (p ∷ ps) are = elim (is_there ops p) as (λ a. is_there ops p ≡ a → AllThere now (p ∷ ps)) [
    | true ↦ λ e. (keeps p e, lacked_there before ps (passed p before ps (or_left (is_there ops p) (list_any (is_pair p) before) e) are))
    | false ↦ λ e. elim (list_any (is_pair p) before) as (λ b. list_any (is_pair p) before ≡ b → AllThere now (p ∷ ps)) [
      | true ↦ λ f. (among p before (lacking ops before (p ∷ ps)) are f, lacked_there before ps (passed p before ps (or_right (is_there ops p) (list_any (is_pair p) before) f) are))
      | false ↦ λ f.
          let later : List Pair = lacking ops (before ++ p ∷ []) ps in
          let all : AreNow (before ++ p ∷ later) = added p before ps (λ k. e k || f k) are in
          (is_added p before later all, lacked_there (before ++ p ∷ []) ps (subst AreNow (sym (append_assoc before (p ∷ []) later)) all))
    ] refl
  ] refl

-- ---- from one content to another: the same entries, of which the same are retired, and all pairs that were there

pub record IsLater (x y : Content) : Type 0 where
  pub same : AreSame (rows x.ops) (rows y.ops)
  pub keeps : Keeps x.ops y.ops

pub later_itself : (x : Content) → IsLater x x
later_itself x = record { same = same_itself (rows x.ops); keeps = λ p h. h }

pub later_chain : (x y z : Content) → IsLater x y → IsLater y z → IsLater x z
later_chain x y z a b = record { same = same_chain (rows x.ops) (rows y.ops) (rows z.ops) a.same b.same; keeps = λ p h. b.keeps p (a.keeps p h) }

-- the pairs that were not there were made
module _ (t : Task) (x y : Content) (ps : List Pair) (ids : List Id) (does : Does x t.replica t.note (bodies_of (lacking x.ops [] ps)) y ids) where
  abbrev bs : List Body
  bs = bodies_of (lacking x.ops [] ps)

  pub are : AreSupersessions bs
  are = all_supersede (lacking x.ops [] ps)

  pub at_end : y ≡ after t x bs
  at_end = (made_is t x y bs ids does).0

  pub none_refused : objections x (ops_of x t.replica t.note bs) ≡ None
  none_refused =
      let os : List Op = new_ops x t.replica t.note bs in
      (nothing_against (note_fault t.note) (objections x os) (not_refused (else_next (note_fault t.note) (objections x os)) (is_spent (greatest t.replica x.seen) (length bs)) os does.ops does.are_made)).1

  pub still : Keeps x.ops (after t x bs).ops
  still = still_there x t.replica t.note bs are

  pub later_by : IsLater x y
  later_by = subst (IsLater x) (sym at_end) (record { same = rows_after x t.replica t.note bs are; keeps = still })

  pub there_by : AllThere y.ops ps
  there_by =
      subst (λ (c : Content). AllThere c.ops ps) (sym at_end)
      (lacked_there x.ops (after t x bs).ops still [] ps (λ q h. made_there x t.replica t.note bs are none_refused q (sym (has_is q (lacking x.ops [] ps)) ∙ h)))

-- ---- lines

pub line_later : (t : Task) (x y : Content) (ws : List (List ℕ)) (ids : List Id) → DoesFor t x ws y ids → IsLater x y
line_later t x y [] ids (e, f) = subst (IsLater x) (sym e) (later_itself x)
line_later t x y (w ∷ []) ids d = absurd d
line_later t x y (w ∷ v ∷ ws) ids (olds, newer, s, u, does) = later_by t x y (pairs_of olds newer) ids does

pub list_later : (t : Task) (n : ℕ) (x y : Content) (lines : List (List ℕ)) (ids : List Id) (left : List RefusedLine) → DoesAll t n x lines y ids left → IsLater x y
list_later t n x y [] ids left (e, f, g) = subst (IsLater x) (sym e) (later_itself x)
list_later t n x y (text ∷ lines) ids left (inl (z, now, later, does, ran, is)) = later_chain x z y (line_later t x z (words text) now does) (list_later t (n + 1) z y lines later left ran)
list_later t n x y (text ∷ lines) ids left (inr (f, more, keep, refuses, ran, told)) = list_later t (n + 1) x y lines ids more ran

-- the words stand for entries all of whose pairs are there
abbrev pub AreMade : List Row → Ops → List (List ℕ) → Type 0
AreMade rs ops [] = Unit {0}
AreMade rs ops (w ∷ []) = ⊥
AreMade rs ops (w ∷ v ∷ ws) = (olds : List Id) × (newer : List Id) × StandsForEvery rs w olds × StandForEach rs (v ∷ ws) newer × AllThere ops (pairs_of olds newer)

abbrev pub AllMade : List Row → Ops → List (List ℕ) → Type 0
AllMade rs ops [] = Unit {0}
AllMade rs ops (text ∷ lines) = AreMade rs ops (words text) × AllMade rs ops lines

pub line_made : (t : Task) (x y : Content) (ws : List (List ℕ)) (ids : List Id) → DoesFor t x ws y ids → (now : Ops) → Keeps y.ops now → AreMade t.rows now ws
line_made t x y [] ids d now k = tt
line_made t x y (w ∷ []) ids d now k = absurd d
line_made t x y (w ∷ v ∷ ws) ids (olds, newer, s, u, does) now k = (olds, newer, s, u, all_still y.ops now k (pairs_of olds newer) (there_by t x y (pairs_of olds newer) ids does))

some_left : (f : RefusedLine) (more : List RefusedLine) → ◌≡◌ {A = List RefusedLine} [] (f ∷ more) → ⊥
some_left f more e = cc

-- if no line was left out, the pairs of all are there at the end
pub list_made : (t : Task) (n : ℕ) (x y : Content) (lines : List (List ℕ)) (ids : List Id) (left : List RefusedLine) → left ≡ [] → DoesAll t n x lines y ids left → AllMade t.rows y.ops lines
list_made t n x y [] ids left none d = tt
list_made t n x y (text ∷ lines) ids left none (inl (z, now, later, does, ran, is)) =
    (line_made t x z (words text) now does y.ops (list_later t (n + 1) z y lines later left ran).keeps, list_made t (n + 1) z y lines later left none ran)
list_made t n x y (text ∷ lines) ids left none (inr (f, more, keep, refuses, ran, told)) = absurd (some_left (record { line = n; fault = f }) more (sym none ∙ told))

pub made_too : (rs qs : List Row) → AreSame rs qs → (ops : Ops) (ws : List (List ℕ)) → AreMade rs ops ws → AreMade qs ops ws
made_too rs qs same ops [] h = tt
made_too rs qs same ops (w ∷ []) h = absurd h
made_too rs qs same ops (w ∷ v ∷ ws) (olds, newer, s, u, all) = (olds, newer, every_too w rs qs same olds s, each_too rs qs same (v ∷ ws) newer u, all)

pub all_too : (rs qs : List Row) → AreSame rs qs → (ops : Ops) (lines : List (List ℕ)) → AllMade rs ops lines → AllMade qs ops lines
all_too rs qs same ops [] h = tt
all_too rs qs same ops (text ∷ lines) (h, hs) = (made_too rs qs same ops (words text) h, all_too rs qs same ops lines hs)

pub same_if : (keys : Bool) (x y : Content) → IsLater x y → AreSame (rows_if keys x) (rows_if keys y)
same_if true x y l = l.same
same_if false x y l = same_itself []
