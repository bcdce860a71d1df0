-- The first slot that is missing, where the walk ends.
use Rattle.std.proofs.Common.{◌≡◌, Bool, true, false, cond, List, [], ◌∷◌, ◌++◌, length, drop, Option, Some, None, refl, sym, ap, ◌∙◌, subst}
use Rattle.std.specs.Prelude.{◌&&◌, ◌||◌, not, option_and_then}
use Rattle.std.specs.List.{list_all}
use Rattle.std.proofs.lemmas.Bool.{not-true, and_parts, and_from}
use Rattle.std.proofs.lemmas.List.Elements.{All-nil, All-cons, All-head, All-tail}
use Rattle.wkt_grammar.specs.declared.table.Edition.{Edition}
use Rattle.wkt_grammar.specs.declared.table.Slot.{Slot}
use Rattle.wkt_grammar.specs.declared.table.SlotName.{SlotName}
use Rattle.wkt_grammar.specs.declared.table.Argument.{Argument}
use Rattle.wkt_grammar.specs.declared.table.Node.{Node}
use Rattle.wkt_grammar.specs.Rows.{row_of, takes, Fits, is_required, FirstMissing}
use Rattle.wkt_grammar.specs.declared.walk.RowPosition.{RowPosition}
use Rattle.std.specs.Prelude.{IfSome}
use Rattle.wkt_grammar.specs.Walk.{IsAt, is_many, next, walk, missing, may_begin, all_arguments, is_clear}
use Rattle.wkt_grammar.proofs.Walks.{Left, Passes, Stands, Taken, begins, clash_free, clear_next, each_argument, fits_left, left_fits, may_leave, may_left, may_take, once_full, one_less, one_more}

-- ---- the first slot that is missing

-- the row up to a required slot n, which is empty: the arguments fit the slots before it
pub record Lacks (row : List Slot) (filled : Bool) (args : List Argument) (n : SlotName) : Type 0 where
  pub before : List Slot
  pub slot : Slot
  pub after : List Slot
  pub parts : row ≡ before ++ slot ∷ after
  pub fit : Left before filled args
  pub required : is_required slot.often ≡ true
  pub is : slot.name ≡ n
  pub head : before ≡ [] → filled ≡ false

lacks_none : (left : List Slot) (filled : Bool) (n : SlotName) → missing left filled ≡ Some n → Lacks left filled [] n
lacks_none [] filled n e = absurd cc
lacks_none (s ∷ left) filled n e =
    elim (is_required s.often && not filled) as (λ b. (is_required s.often && not filled) ≡ b → cond b (Some s.name) (missing left false) ≡ Some n → Lacks (s ∷ left) filled [] n) [
      | true ↦ λ p g. let q = and_parts (is_required s.often) (not filled) p in
          record { before = []; slot = s; after = left; parts = refl; fit = refl; required = q.0; is = cc; head = λ z. not-true filled q.1 }
      | false ↦ λ p g. let r = lacks_none left false n g in
          record {
            before = s ∷ r.before;
            slot = r.slot;
            after = r.after;
            parts = ap (λ (l : List Slot). s ∷ l) r.parts;
            fit = ([], [], refl, All-nil (Passes s.takes), may_leave s.often filled p, left_fits r.before [] r.fit);
            required = r.required;
            is = r.is;
            head = λ z. absurd cc;
          }
    ] refl e

lacks_step : (row : List Slot) (filled : Bool) (a : Argument) (left : List Slot) (args : List Argument) (n : SlotName) → next row filled a ≡ Some left → Lacks left true args n → Lacks row filled (a ∷ args) n
lacks_step [] filled a left args n e h = absurd cc
lacks_step (s ∷ row) filled a left args n e h =
    by (takes s.takes a && (not filled || is_many s.often)) (is_required s.often && not filled) refl refl e (λ g. lacks_step row false a left args n g h)
  where
    taken : (before : List Slot) → s ∷ row ≡ before ++ h.slot ∷ h.after → Left before true args → (before ≡ [] → true ≡ false) → (takes s.takes a && (not filled || is_many s.often)) ≡ true → Lacks (s ∷ row) filled (a ∷ args) n
    taken [] p f z t = let w = z refl in absurd cc
    taken (x ∷ before) p f z t =
        let same : x ≡ s = cc in
        let w : Left (s ∷ before) true args = subst (λ y. Left (y ∷ before) true args) same f in
        let parts = and_parts (takes s.takes a) (not filled || is_many s.often) t in
        record {
          before = s ∷ before;
          slot = h.slot;
          after = h.after;
          parts = p ∙ ap (λ y. y ∷ (before ++ h.slot ∷ h.after)) same;
          fit = (a ∷ w.0, w.1, ap (λ (l : List Argument). a ∷ l) w.2, All-cons (Passes s.takes) a w.0 parts.0 w.3, one_more s.often filled (length w.0) parts.1 w.4, w.5);
          required = h.required;
          is = h.is;
          head = λ y. absurd cc;
        }

    by : (t m : Bool) → (takes s.takes a && (not filled || is_many s.often)) ≡ t → (is_required s.often && not filled) ≡ m → Taken s row filled a t m ≡ Some left → (next row false a ≡ Some left → Lacks row false (a ∷ args) n) → Lacks (s ∷ row) filled (a ∷ args) n
    by true m p q g ih = let same : s ∷ row ≡ left = cc in taken h.before (same ∙ h.parts) h.fit h.head p
    by false true p q g ih = absurd cc
    by false false p q g ih = let r = ih g in
        record {
          before = s ∷ r.before;
          slot = r.slot;
          after = r.after;
          parts = ap (λ (l : List Slot). s ∷ l) r.parts;
          fit = ([], a ∷ args, refl, All-nil (Passes s.takes), may_leave s.often filled q, left_fits r.before (a ∷ args) r.fit);
          required = r.required;
          is = r.is;
          head = λ z. absurd cc;
        }

lacks_walk : (args : List Argument) (row : List Slot) (filled : Bool) (at : Stands) (n : SlotName) → walk row filled args ≡ Some at → missing at.0 at.1 ≡ Some n → Lacks row filled args n
lacks_walk [] row filled at n e m =
    let same : ◌≡◌ {A = Stands} (row, filled) at = cc in
    lacks_none row filled n (subst (λ (x : Stands). missing x.0 x.1 ≡ Some n) (sym same) m)
lacks_walk (a ∷ args) row filled at n e m =
    elim (next row filled a) as (λ o. next row filled a ≡ o → option_and_then (λ left. walk left true args) o ≡ Some at → Lacks row filled (a ∷ args) n) [
      | None ↦ λ p g. absurd cc
      | Some left ↦ λ p g. lacks_step row filled a left args n p (lacks_walk args left true at n g m)
    ] refl e

pub first_missing_is : (row : List Slot) (args : List Argument) (at : Stands) (n : SlotName) → walk row false args ≡ Some at → missing at.0 at.1 ≡ Some n → FirstMissing row args n
first_missing_is row args at n e m =
    let h = lacks_walk args row false at n e m in
    record { before = h.before; slot = h.slot; after = h.after; parts = h.parts; fit = left_fits h.before args h.fit; required = h.required; is = h.is }

-- ---- rows whose first slots the arguments fit

may_begin_front : (before tail : List Slot) (a : Argument) → may_begin before a ≡ true → may_begin (before ++ tail) a ≡ true
may_begin_front [] tail a e = absurd cc
may_begin_front (s ∷ before) tail a e = by (takes s.takes a) (is_required s.often) e (λ g. may_begin_front before tail a g)
  where
    by : (t r : Bool) → (t || (not r && may_begin before a)) ≡ true → (may_begin before a ≡ true → may_begin (before ++ tail) a ≡ true) → (t || (not r && may_begin (before ++ tail) a)) ≡ true
    by true r g h = refl
    by false true g h = absurd cc
    by false false g h = h g

-- the walk takes the argument, and the others fit what remains of the first slots
abbrev FrontStep : List Slot → List Slot → Bool → Argument → List Argument → Type 0
FrontStep before tail filled a args = (s : Slot) × (left : List Slot) × (next (before ++ tail) filled a ≡ Some (s ∷ left ++ tail)) × Left (s ∷ left) true args

front_step : (before tail : List Slot) (filled : Bool) (a : Argument) (args : List Argument) → is_clear (before ++ tail) ≡ true → Left before filled (a ∷ args) → FrontStep before tail filled a args
front_step [] tail filled a args c h = absurd cc
front_step (s ∷ before) tail filled a args c ([], rest, e, all, n, f) =
    let row = before ++ tail in
    let none : (is_required s.often && not filled) ≡ false = may_left s.often filled n in
    let g : Fits before (a ∷ args) = subst (λ l. Fits before l) (sym e) f in
    let parts = and_parts (list_all (λ x. not (not (is_required s.often && not (is_many s.often)) && (takes s.takes x && may_begin row x))) all_arguments) (is_clear row) c in
    let test = each_argument (λ x. not (not (is_required s.often && not (is_many s.often)) && (takes s.takes x && may_begin row x))) a parts.0 in
    let passed : (takes s.takes a && (not filled || is_many s.often)) ≡ false =
    clash_free (is_required s.often && not (is_many s.often)) (takes s.takes a) (may_begin row a) (not filled || is_many s.often) test (may_begin_front before tail a (begins before a args g)) (once_full s.often filled n) in
    let ih = front_step before tail false a args parts.1 (fits_left before (a ∷ args) g) in
    (ih.0, ih.1, ap (λ t. Taken s row filled a t (is_required s.often && not filled)) passed ∙ (ap (λ m. Taken s row filled a false m) none ∙ ih.2), ih.3)
front_step (s ∷ before) tail filled a args c (b ∷ run, rest, e, all, n, f) =
    let row = before ++ tail in
    let same : a ≡ b = cc in
    let others : args ≡ run ++ rest = cc in
    let t : takes s.takes a ≡ true = ap (takes s.takes) same ∙ All-head (Passes s.takes) b run all in
    let passed = and_from (takes s.takes a) (not filled || is_many s.often) t (may_take s.often filled (length run) n) in
    (s, before, ap (λ x. Taken s row filled a x (is_required s.often && not filled)) passed, (run, rest, others, All-tail (Passes s.takes) b run all, one_less s.often filled (length run) n, f))

-- if no argument remains for the first slots, and the slot after them is required, this slot is missing
front_missing : (before : List Slot) (s : Slot) (after : List Slot) (filled : Bool) → Left before filled [] → is_required s.often ≡ true → (before ≡ [] → filled ≡ false) → missing (before ++ s ∷ after) filled ≡ Some s.name
front_missing [] s after filled h r z = ap (λ b. cond b (Some s.name) (missing after false)) (and_from (is_required s.often) (not filled) r (ap not (z refl)))
front_missing (x ∷ before) s after filled ([], rest, e, all, n, f) r z =
    ap (λ b. cond b (Some x.name) (missing (before ++ s ∷ after) false)) (may_left x.often filled n)
    ∙ front_missing before s after false (fits_left before [] (subst (λ l. Fits before l) (sym e) f)) r (λ _. refl)
front_missing (x ∷ before) s after filled (b ∷ run, rest, e, all, n, f) r z = absurd cc

front_walk : (args : List Argument) (before : List Slot) (s : Slot) (after : List Slot) (filled : Bool) (at : Stands) → is_clear (before ++ s ∷ after) ≡ true → Left before filled args → is_required s.often ≡ true → (before ≡ [] → filled ≡ false)
    → walk (before ++ s ∷ after) filled args ≡ Some at → missing at.0 at.1 ≡ Some s.name
front_walk [] before s after filled at c h r z w =
    let same : ◌≡◌ {A = Stands} (before ++ s ∷ after, filled) at = cc in
    subst (λ (x : Stands). missing x.0 x.1 ≡ Some s.name) same (front_missing before s after filled h r z)
front_walk (a ∷ args) before s after filled at c h r z w =
    let g = front_step before (s ∷ after) filled a args c h in
    let on : walk (g.0 ∷ g.1 ++ s ∷ after) true args ≡ Some at = sym (ap (option_and_then (λ left. walk left true args)) g.2) ∙ w in
    front_walk args (g.0 ∷ g.1) s after true at (clear_next (before ++ s ∷ after) filled a (g.0 ∷ g.1 ++ s ∷ after) g.2 c) g.3 r (λ y. absurd cc) on

-- the first missing slot is the one that is missing where the walk ends
pub missing_is : (row : List Slot) (args : List Argument) (at : Stands) (n : SlotName) → is_clear row ≡ true → walk row false args ≡ Some at → FirstMissing row args n → missing at.0 at.1 ≡ Some n
missing_is row args at n c w m =
    front_walk args m.before m.slot m.after false at (subst (λ l. is_clear l ≡ true) m.parts c) (fits_left m.before args m.fit) m.required (λ _. refl) (subst (λ l. walk l false args ≡ Some at) m.parts w) ∙ ap Some m.is
