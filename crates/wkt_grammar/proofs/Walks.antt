-- The walk continues exactly while the arguments are admitted.
use Rattle.std.proofs.Common.{◌≡◌, ℕ, zero, suc, ◌+◌, Bool, true, false, cond, List, [], ◌∷◌, ◌++◌, length, drop, Option, Some, None, refl, sym, ap, ◌∙◌, subst, arith}
use Rattle.std.specs.Prelude.{◌&&◌, ◌||◌, not, option_and_then}
use Rattle.std.specs.List.{AllPass, list_all}
use Rattle.std.proofs.lemmas.Bool.{and_parts, and_from}
use Rattle.std.proofs.lemmas.List.{append-nil}
use Rattle.std.proofs.lemmas.List.Sums.{AllPass-from_list_all}
use Rattle.std.proofs.lemmas.List.Elements.{All-nil, All-cons, All-head, All-tail}
use Rattle.wkt_grammar.specs.declared.table.Edition.{Edition}
use Rattle.wkt_grammar.specs.declared.table.Edition.TheVariants as editions
use Rattle.wkt_grammar.specs.declared.table.Slot.{Slot}
use Rattle.wkt_grammar.specs.declared.table.SlotName.{SlotName}
use Rattle.wkt_grammar.specs.declared.table.Takes.{Takes}
use Rattle.wkt_grammar.specs.declared.table.Takes.TheVariants as kinds
use Rattle.wkt_grammar.specs.declared.table.Argument.{Argument}
use Rattle.wkt_grammar.specs.declared.table.Argument.TheVariants as arguments
use Rattle.wkt_grammar.specs.declared.table.Often.{Often}
use Rattle.wkt_grammar.specs.declared.table.Often.TheVariants.{Once, AtMostOnce, Any, AtLeastOnce}
use Rattle.wkt_grammar.specs.declared.table.Node.{Node}
use Rattle.wkt_grammar.specs.declared.table.Node.TheVariants as nodes
use Rattle.wkt_grammar.specs.declared.table.Keyword.TheVariants as keywords
use Rattle.wkt_grammar.specs.Rows.{row_of, takes, Times, Fits, Admitted, is_required}
use Rattle.std.specs.Option.{is_some}
use Rattle.wkt_grammar.proofs.Keywords.{is_same}
use Rattle.wkt_grammar.specs.Walk.{is_many, next, walk, missing, may_begin, all_arguments, is_clear}

-- ---- the arguments that may still follow

-- 1 if the first slot has an argument, otherwise 0
abbrev pub had : Bool → ℕ
had true = 1
had false = 0

-- the arguments fit the rest of the row, whose first slot has an argument already if it is filled
abbrev pub Left : List Slot → Bool → List Argument → Type 0
Left [] filled args = args ≡ []
Left (s ∷ row) filled args = (run : List Argument) × (rest : List Argument) × (args ≡ run ++ rest) × AllPass (takes s.takes) run × Times s.often (length run + had filled) × Fits row rest

abbrev pub Passes : Takes → Argument → Type 0
Passes k a = takes k a ≡ true

pub left_fits : (row : List Slot) (args : List Argument) → Left row false args → Fits row args
left_fits [] args h = h
left_fits (s ∷ row) args (run, rest, e, all, n, f) = let z : length run + 0 ≡ length run = omega arith in (run, rest, e, all, subst (λ k. Times s.often k) z n, f)

pub fits_left : (row : List Slot) (args : List Argument) → Fits row args → Left row false args
fits_left [] args h = h
fits_left (s ∷ row) args (run, rest, e, all, n, f) = let z : length run ≡ length run + 0 = omega arith in (run, rest, e, all, subst (λ k. Times s.often k) z n, f)

-- ---- counts

pub one_more : (o : Often) (filled : Bool) (n : ℕ) → (not filled || is_many o) ≡ true → Times o (n + 1) → Times o (suc n + had filled)
one_more Once false n m t = omega arith
one_more Once true n m t = absurd cc
one_more AtMostOnce false n m t = omega arith
one_more AtMostOnce true n m t = absurd cc
one_more Any filled n m t = tt
one_more AtLeastOnce false n m t = omega arith
one_more AtLeastOnce true n m t = omega arith

pub one_less : (o : Often) (filled : Bool) (n : ℕ) → Times o (suc n + had filled) → Times o (n + 1)
one_less Once false n t = omega arith
one_less Once true n t = absurd (omega arith)
one_less AtMostOnce false n t = omega arith
one_less AtMostOnce true n t = absurd (omega arith)
one_less Any filled n t = tt
one_less AtLeastOnce filled n t = omega arith

pub may_take : (o : Often) (filled : Bool) (n : ℕ) → Times o (suc n + had filled) → (not filled || is_many o) ≡ true
may_take Once false n t = refl
may_take Once true n t = absurd (omega arith)
may_take AtMostOnce false n t = refl
may_take AtMostOnce true n t = absurd (omega arith)
may_take Any false n t = refl
may_take Any true n t = refl
may_take AtLeastOnce false n t = refl
may_take AtLeastOnce true n t = refl

pub may_leave : (o : Often) (filled : Bool) → (is_required o && not filled) ≡ false → Times o (zero + had filled)
may_leave Once false e = absurd cc
may_leave Once true e = refl
may_leave AtMostOnce false e = omega arith
may_leave AtMostOnce true e = omega arith
may_leave Any filled e = tt
may_leave AtLeastOnce false e = absurd cc
may_leave AtLeastOnce true e = omega arith

pub may_left : (o : Often) (filled : Bool) → Times o (zero + had filled) → (is_required o && not filled) ≡ false
may_left Once false t = absurd (omega arith)
may_left Once true t = refl
may_left AtMostOnce filled t = refl
may_left Any filled t = refl
may_left AtLeastOnce false t = absurd (omega arith)
may_left AtLeastOnce true t = refl

-- ---- tests

abbrev pub Taken : Slot → List Slot → Bool → Argument → Bool → Bool → Option (List Slot)
Taken s row filled a t m = cond t (Some (s ∷ row)) (cond m None (next row false a))

-- ---- one step, in both directions

step_sound : (row : List Slot) (filled : Bool) (a : Argument) (left : List Slot) (args : List Argument) → next row filled a ≡ Some left → Left left true args → Left row filled (a ∷ args)
step_sound [] filled a left args e h = absurd cc
step_sound (s ∷ row) filled a left args e h =
    by (takes s.takes a && (not filled || is_many s.often)) (is_required s.often && not filled) refl refl e (λ g. step_sound row false a left args g h)
  where
    by : (t m : Bool) → (takes s.takes a && (not filled || is_many s.often)) ≡ t → (is_required s.often && not filled) ≡ m → Taken s row filled a t m ≡ Some left → (next row false a ≡ Some left → Left row false (a ∷ args)) → Left (s ∷ row) filled (a ∷ args)
    by true m p q g ih =
        let same : left ≡ s ∷ row = cc in
        let w : Left (s ∷ row) true args = subst (λ l. Left l true args) same h in
        let parts = and_parts (takes s.takes a) (not filled || is_many s.often) p in
        (a ∷ w.0, w.1, ap (λ (l : List Argument). a ∷ l) w.2, All-cons (Passes s.takes) a w.0 parts.0 w.3, one_more s.often filled (length w.0) parts.1 w.4, w.5)
    by false true p q g ih = absurd cc
    by false false p q g ih = ([], a ∷ args, refl, All-nil (Passes s.takes), may_leave s.often filled q, left_fits row (a ∷ args) (ih g))

-- a row may begin with the first of some arguments that fit it
pub begins : (row : List Slot) (a : Argument) (args : List Argument) → Fits row (a ∷ args) → may_begin row a ≡ true
begins [] a args h = absurd cc
begins (s ∷ row) a args ([], rest, e, all, n, f) =
    let none : (is_required s.often && not false) ≡ false = may_left s.often false (subst (λ k. Times s.often k) (let z : 0 ≡ 0 + 0 = omega arith in z) n) in
    let again = begins row a args (subst (λ l. Fits row l) (sym e) f) in
    or_right (takes s.takes a) (is_required s.often) (may_begin row a) none again
  where
    or_right : (t r b : Bool) → (r && not false) ≡ false → b ≡ true → (t || (not r && b)) ≡ true
    or_right true r b e g = refl
    or_right false true b e g = absurd cc
    or_right false false b e g = g
begins (s ∷ row) a args (b ∷ run, rest, e, all, n, f) =
    let same : a ≡ b = cc in
    let t : takes s.takes a ≡ true = ap (takes s.takes) same ∙ All-head (Passes s.takes) b run all in
    ap (λ x. x || (not (is_required s.often) && may_begin row a)) t

-- a test that all listed arguments pass is passed by every argument
pub each_argument : (p : Argument → Bool) (a : Argument) → list_all p all_arguments ≡ true → p a ≡ true
each_argument p arguments.Text h = AllPass-from_list_all p all_arguments h 0 arguments.Text (omega arith)
each_argument p arguments.Number h = AllPass-from_list_all p all_arguments h 1 arguments.Text (omega arith)
each_argument p arguments.Count h = AllPass-from_list_all p all_arguments h 2 arguments.Text (omega arith)
each_argument p arguments.CsKind h = AllPass-from_list_all p all_arguments h 3 arguments.Text (omega arith)
each_argument p arguments.Direction h = AllPass-from_list_all p all_arguments h 4 arguments.Text (omega arith)
each_argument p arguments.OtherWord h = AllPass-from_list_all p all_arguments h 5 arguments.Text (omega arith)
each_argument p arguments.OtherNode h = AllPass-from_list_all p all_arguments h 6 arguments.Text (omega arith)
each_argument p (arguments.Node keywords.GeodeticCrs) h = AllPass-from_list_all p all_arguments h 7 arguments.Text (omega arith)
each_argument p (arguments.Node keywords.GeographicCrs) h = AllPass-from_list_all p all_arguments h 8 arguments.Text (omega arith)
each_argument p (arguments.Node keywords.ProjectedCrs) h = AllPass-from_list_all p all_arguments h 9 arguments.Text (omega arith)
each_argument p (arguments.Node keywords.VerticalCrs) h = AllPass-from_list_all p all_arguments h 10 arguments.Text (omega arith)
each_argument p (arguments.Node keywords.CompoundCrs) h = AllPass-from_list_all p all_arguments h 11 arguments.Text (omega arith)
each_argument p (arguments.Node keywords.BaseGeodeticCrs) h = AllPass-from_list_all p all_arguments h 12 arguments.Text (omega arith)
each_argument p (arguments.Node keywords.BaseGeographicCrs) h = AllPass-from_list_all p all_arguments h 13 arguments.Text (omega arith)
each_argument p (arguments.Node keywords.Datum) h = AllPass-from_list_all p all_arguments h 14 arguments.Text (omega arith)
each_argument p (arguments.Node keywords.VerticalDatum) h = AllPass-from_list_all p all_arguments h 15 arguments.Text (omega arith)
each_argument p (arguments.Node keywords.Ensemble) h = AllPass-from_list_all p all_arguments h 16 arguments.Text (omega arith)
each_argument p (arguments.Node keywords.Member) h = AllPass-from_list_all p all_arguments h 17 arguments.Text (omega arith)
each_argument p (arguments.Node keywords.Method) h = AllPass-from_list_all p all_arguments h 18 arguments.Text (omega arith)
each_argument p (arguments.Node keywords.GeoidModel) h = AllPass-from_list_all p all_arguments h 19 arguments.Text (omega arith)
each_argument p (arguments.Node keywords.EnsembleAccuracy) h = AllPass-from_list_all p all_arguments h 20 arguments.Text (omega arith)
each_argument p (arguments.Node keywords.Ellipsoid) h = AllPass-from_list_all p all_arguments h 21 arguments.Text (omega arith)
each_argument p (arguments.Node keywords.PrimeMeridian) h = AllPass-from_list_all p all_arguments h 22 arguments.Text (omega arith)
each_argument p (arguments.Node keywords.Conversion) h = AllPass-from_list_all p all_arguments h 23 arguments.Text (omega arith)
each_argument p (arguments.Node keywords.Parameter) h = AllPass-from_list_all p all_arguments h 24 arguments.Text (omega arith)
each_argument p (arguments.Node keywords.LengthUnit) h = AllPass-from_list_all p all_arguments h 25 arguments.Text (omega arith)
each_argument p (arguments.Node keywords.AngleUnit) h = AllPass-from_list_all p all_arguments h 26 arguments.Text (omega arith)
each_argument p (arguments.Node keywords.ScaleUnit) h = AllPass-from_list_all p all_arguments h 27 arguments.Text (omega arith)
each_argument p (arguments.Node keywords.Unit) h = AllPass-from_list_all p all_arguments h 28 arguments.Text (omega arith)
each_argument p (arguments.Node keywords.CoordinateSystem) h = AllPass-from_list_all p all_arguments h 29 arguments.Text (omega arith)
each_argument p (arguments.Node keywords.Axis) h = AllPass-from_list_all p all_arguments h 30 arguments.Text (omega arith)
each_argument p (arguments.Node keywords.Meridian) h = AllPass-from_list_all p all_arguments h 31 arguments.Text (omega arith)
each_argument p (arguments.Node keywords.Order) h = AllPass-from_list_all p all_arguments h 32 arguments.Text (omega arith)
each_argument p (arguments.Node keywords.Usage) h = AllPass-from_list_all p all_arguments h 33 arguments.Text (omega arith)
each_argument p (arguments.Node keywords.BoundingBox) h = AllPass-from_list_all p all_arguments h 34 arguments.Text (omega arith)
each_argument p (arguments.Node keywords.VerticalExtent) h = AllPass-from_list_all p all_arguments h 35 arguments.Text (omega arith)
each_argument p (arguments.Node keywords.Scope) h = AllPass-from_list_all p all_arguments h 36 arguments.Text (omega arith)
each_argument p (arguments.Node keywords.Area) h = AllPass-from_list_all p all_arguments h 37 arguments.Text (omega arith)
each_argument p (arguments.Node keywords.Anchor) h = AllPass-from_list_all p all_arguments h 38 arguments.Text (omega arith)
each_argument p (arguments.Node keywords.Citation) h = AllPass-from_list_all p all_arguments h 39 arguments.Text (omega arith)
each_argument p (arguments.Node keywords.Uri) h = AllPass-from_list_all p all_arguments h 40 arguments.Text (omega arith)
each_argument p (arguments.Node keywords.Remark) h = AllPass-from_list_all p all_arguments h 41 arguments.Text (omega arith)
each_argument p (arguments.Node keywords.Identifier) h = AllPass-from_list_all p all_arguments h 42 arguments.Text (omega arith)

pub once_full : (o : Often) (filled : Bool) → Times o (zero + had filled) → (is_required o && not (is_many o)) ≡ true → (not filled || is_many o) ≡ false
once_full Once false t e = absurd (omega arith)
once_full Once true t e = refl
once_full AtMostOnce filled t e = absurd cc
once_full Any filled t e = absurd cc
once_full AtLeastOnce filled t e = absurd cc

pub clash_free : (r t b m : Bool) → not (not r && (t && b)) ≡ true → b ≡ true → (r ≡ true → m ≡ false) → (t && m) ≡ false
clash_free r false b m e g h = refl
clash_free true true b m e g h = h refl
clash_free false true true m e g h = absurd cc
clash_free false true false m e g h = absurd cc

step_complete : (row : List Slot) (filled : Bool) (a : Argument) (args : List Argument) → is_clear row ≡ true → Left row filled (a ∷ args) → (left : List Slot) × (next row filled a ≡ Some left) × Left left true args
step_complete [] filled a args c h = absurd cc
step_complete (s ∷ row) filled a args c ([], rest, e, all, n, f) =
    let none : (is_required s.often && not filled) ≡ false = may_left s.often filled n in
    let g : Fits row (a ∷ args) = subst (λ l. Fits row l) (sym e) f in
    let parts = and_parts (list_all (λ x. not (not (is_required s.often && not (is_many s.often)) && (takes s.takes x && may_begin row x))) all_arguments) (is_clear row) c in
    let test = each_argument (λ x. not (not (is_required s.often && not (is_many s.often)) && (takes s.takes x && may_begin row x))) a parts.0 in
    let passed : (takes s.takes a && (not filled || is_many s.often)) ≡ false =
    clash_free (is_required s.often && not (is_many s.often)) (takes s.takes a) (may_begin row a) (not filled || is_many s.often) test (begins row a args g) (once_full s.often filled n) in
    let ih = step_complete row false a args parts.1 (fits_left row (a ∷ args) g) in
    (ih.0, ap (λ t. Taken s row filled a t (is_required s.often && not filled)) passed ∙ (ap (λ m. Taken s row filled a false m) none ∙ ih.1), ih.2)
step_complete (s ∷ row) filled a args c (b ∷ run, rest, e, all, n, f) =
    let same : a ≡ b = cc in
    let others : args ≡ run ++ rest = cc in
    let t : takes s.takes a ≡ true = ap (takes s.takes) same ∙ All-head (Passes s.takes) b run all in
    let passed = and_from (takes s.takes a) (not filled || is_many s.often) t (may_take s.often filled (length run) n) in
    (s ∷ row, ap (λ x. Taken s row filled a x (is_required s.often && not filled)) passed, (run, rest, others, All-tail (Passes s.takes) b run all, one_less s.often filled (length run) n, f))

pub clear_next : (row : List Slot) (filled : Bool) (a : Argument) (left : List Slot) → next row filled a ≡ Some left → is_clear row ≡ true → is_clear left ≡ true
clear_next [] filled a left e c = absurd cc
clear_next (s ∷ row) filled a left e c =
    by (takes s.takes a && (not filled || is_many s.often)) (is_required s.often && not filled) e (λ g. clear_next row false a left g (and_parts _ (is_clear row) c).1)
  where
    by : (t m : Bool) → Taken s row filled a t m ≡ Some left → (next row false a ≡ Some left → is_clear left ≡ true) → is_clear left ≡ true
    by true m g ih = let same : s ∷ row ≡ left = cc in subst (λ l. is_clear l ≡ true) same c
    by false true g ih = absurd cc
    by false false g ih = ih g

-- ---- whole walks

abbrev pub Stands : Type 0
Stands = List Slot × Bool

walk_sound : (args : List Argument) (row : List Slot) (filled : Bool) (at : Stands) (others : List Argument) → walk row filled args ≡ Some at → Left at.0 at.1 others → Left row filled (args ++ others)
walk_sound [] row filled at others e h =
    let same : ◌≡◌ {A = Stands} (row, filled) at = cc in
    subst (λ (x : Stands). Left x.0 x.1 others) (sym same) h
walk_sound (a ∷ args) row filled at others e h =
    elim (next row filled a) as (λ o. next row filled a ≡ o → option_and_then (λ left. walk left true args) o ≡ Some at → Left row filled (a ∷ (args ++ others))) [
      | None ↦ λ p g. absurd cc
      | Some left ↦ λ p g. step_sound row filled a left (args ++ others) p (walk_sound args left true at others g h)
    ] refl e

walk_complete : (args : List Argument) (row : List Slot) (filled : Bool) (others : List Argument) → is_clear row ≡ true → Left row filled (args ++ others) → (at : Stands) × (walk row filled args ≡ Some at) × Left at.0 at.1 others
walk_complete [] row filled others c h = ((row, filled), refl, h)
walk_complete (a ∷ args) row filled others c h =
    let s = step_complete row filled a (args ++ others) c h in
    let w = walk_complete args s.0 true others (clear_next row filled a s.0 s.1 c) s.2 in
    (w.0, ap (option_and_then (λ left. walk left true args)) s.1 ∙ w.1, w.2)

-- each kind of slot takes some argument
some_taken : (k : Takes) → (a : Argument) × (takes k a ≡ true)
some_taken kinds.Text = (arguments.Text, refl)
some_taken kinds.Number = (arguments.Number, refl)
some_taken kinds.NumberOrText = (arguments.Number, refl)
some_taken kinds.Count = (arguments.Count, refl)
some_taken kinds.CsKind = (arguments.CsKind, refl)
some_taken kinds.Direction = (arguments.Direction, refl)
some_taken kinds.SingleCrs = ((arguments.Node keywords.GeodeticCrs), refl)
some_taken kinds.AnyCrs = ((arguments.Node keywords.GeodeticCrs), refl)
some_taken kinds.GeodeticDatum = ((arguments.Node keywords.Datum), refl)
some_taken kinds.VerticalDatum = ((arguments.Node keywords.VerticalDatum), refl)
some_taken kinds.BaseCrs = ((arguments.Node keywords.BaseGeodeticCrs), refl)
some_taken kinds.LengthUnit = ((arguments.Node keywords.LengthUnit), refl)
some_taken kinds.AngleUnit = ((arguments.Node keywords.AngleUnit), refl)
some_taken kinds.AnyUnit = ((arguments.Node keywords.LengthUnit), refl)
some_taken (kinds.Node k n) = (arguments.Node k, ap (λ t. is_some (cond t (Some n) None)) (is_same k))

one_of : (o : Often) (filled : Bool) → (is_required o && not filled) ≡ true → Times o (1 + had filled)
one_of Once false e = refl
one_of Once true e = absurd cc
one_of AtMostOnce filled e = absurd cc
one_of Any filled e = tt
one_of AtLeastOnce filled e = omega arith

completes : (row : List Slot) (filled : Bool) → (others : List Argument) × Left row filled others
completes [] filled = ([], refl)
completes (s ∷ row) filled =
    let rest = completes row false in
    let f = left_fits row rest.0 rest.1 in
    let one = some_taken s.takes in
    elim (is_required s.often && not filled) as (λ b. (is_required s.often && not filled) ≡ b → (others : List Argument) × Left (s ∷ row) filled others) [
      | true ↦ λ e. (one.0 ∷ rest.0, (one.0 ∷ [], rest.0, refl, All-cons (Passes s.takes) one.0 [] one.1 (All-nil (Passes s.takes)), one_of s.often filled e, f))
      | false ↦ λ e. (rest.0, ([], rest.0, refl, All-nil (Passes s.takes), may_leave s.often filled e, f))
    ] refl

-- ---- the end of a node

none_missing : (row : List Slot) (filled : Bool) → missing row filled ≡ None → Left row filled []
none_missing [] filled e = refl
none_missing (s ∷ row) filled e =
    elim (is_required s.often && not filled) as (λ b. (is_required s.often && not filled) ≡ b → cond b (Some s.name) (missing row false) ≡ None → Left (s ∷ row) filled []) [
      | true ↦ λ p g. absurd cc
      | false ↦ λ p g. ([], [], refl, All-nil (Passes s.takes), may_leave s.often filled p, left_fits row [] (none_missing row false g))
    ] refl e

nothing_missing : (row : List Slot) (filled : Bool) → Left row filled [] → missing row filled ≡ None
nothing_missing [] filled h = refl
nothing_missing (s ∷ row) filled ([], rest, e, all, n, f) =
    ap (λ b. cond b (Some s.name) (missing row false)) (may_left s.often filled n) ∙ nothing_missing row false (fits_left row [] (subst (λ l. Fits row l) (sym e) f))
nothing_missing (s ∷ row) filled (b ∷ run, rest, e, all, n, f) = absurd cc

-- ---- the theorems

-- the walk takes all arguments that are admitted
pub goes_on : (row : List Slot) (args : List Argument) → is_clear row ≡ true → Admitted row args → (at : Stands) × (walk row false args ≡ Some at)
goes_on row args c h = let w = walk_complete args row false h.others c (fits_left row (args ++ h.others) h.fit) in (w.0, w.1)

pub admits : (row : List Slot) (args : List Argument) (at : Stands) → walk row false args ≡ Some at → Admitted row args
admits row args at e = let o = completes at.0 at.1 in record { others = o.0; fit = left_fits row (args ++ o.0) (walk_sound args row false at o.0 e o.1) }

-- where the walk ends after arguments that fit, no slot is missing
pub fits_end : (row : List Slot) (args : List Argument) → is_clear row ≡ true → Fits row args → (at : Stands) × (walk row false args ≡ Some at) × (missing at.0 at.1 ≡ None)
fits_end row args c h =
    let w = walk_complete args row false [] c (fits_left row (args ++ []) (subst (λ l. Fits row l) (sym (append-nil args)) h)) in
    (w.0, w.1, nothing_missing w.0.0 w.0.1 w.2)

pub end_fits : (row : List Slot) (args : List Argument) (at : Stands) → walk row false args ≡ Some at → missing at.0 at.1 ≡ None → Fits row args
end_fits row args at e m = left_fits row args (subst (λ l. Left row false l) (append-nil args) (walk_sound args row false at [] e (none_missing at.0 at.1 m)))

-- ---- one more argument

pub rows_clear : (ed : Edition) (node : Node) → is_clear (row_of ed node) ≡ true
rows_clear ed nodes.Root = refl
rows_clear ed nodes.GeodeticCrs = refl
rows_clear ed nodes.ProjectedCrs = refl
rows_clear editions.First nodes.VerticalCrs = refl
rows_clear editions.Second nodes.VerticalCrs = refl
rows_clear ed nodes.CompoundCrs = refl
rows_clear ed nodes.BaseCrs = refl
rows_clear ed nodes.Datum = refl
rows_clear ed nodes.VerticalDatum = refl
rows_clear ed nodes.GeodeticEnsemble = refl
rows_clear ed nodes.VerticalEnsemble = refl
rows_clear ed nodes.Named = refl
rows_clear ed nodes.EnsembleAccuracy = refl
rows_clear ed nodes.Ellipsoid = refl
rows_clear ed nodes.PrimeMeridian = refl
rows_clear ed nodes.Conversion = refl
rows_clear ed nodes.Parameter = refl
rows_clear ed nodes.Unit = refl
rows_clear ed nodes.CoordinateSystem = refl
rows_clear ed nodes.Axis = refl
rows_clear ed nodes.Meridian = refl
rows_clear ed nodes.Order = refl
rows_clear editions.First nodes.Usage = refl
rows_clear editions.Second nodes.Usage = refl
rows_clear ed nodes.BoundingBox = refl
rows_clear ed nodes.VerticalExtent = refl
rows_clear ed nodes.Value = refl
rows_clear ed nodes.Identifier = refl

walk-append : (args others : List Argument) (row : List Slot) (filled : Bool) → walk row filled (args ++ others) ≡ option_and_then (λ (at : Stands). walk at.0 at.1 others) (walk row filled args)
walk-append [] others row filled = refl
walk-append (a ∷ args) others row filled =
    elim (next row filled a) as (λ o. option_and_then (λ left. walk left true (args ++ others)) o ≡ option_and_then (λ (at : Stands). walk at.0 at.1 others) (option_and_then (λ left. walk left true args) o)) [
      | None ↦ refl
      | Some left ↦ walk-append args others left true
    ]

pub walk_push : (args : List Argument) (a : Argument) (row : List Slot) (left : List Slot) (filled : Bool) → walk row false args ≡ Some (left, filled) → walk row false (args ++ a ∷ []) ≡ option_and_then (λ next_left. Some (next_left, true)) (next left filled a)
walk_push args a row left filled e = walk-append args (a ∷ []) row false ∙ ap (option_and_then (λ (at : Stands). walk at.0 at.1 (a ∷ []))) e

module _ (ed : Edition) (node : Node) (slot : ℕ) (filled : Bool) (a : Argument) where
  pub step_at : (left : List Slot) → next (drop slot (row_of ed node)) filled a ≡ Some left → (args : List Argument) → walk (row_of ed node) false args ≡ Some (drop slot (row_of ed node), filled) → walk (row_of ed node) false (args ++ a ∷ []) ≡ Some (left, true)
  step_at left e args h = walk_push args a (row_of ed node) (drop slot (row_of ed node)) filled h ∙ ap (option_and_then (λ next_left. Some (next_left, true))) e

pub missing_unfit : (ed : Edition) (node : Node) (at : Stands) (name : SlotName) (args : List Argument) → walk (row_of ed node) false args ≡ Some at → missing at.0 at.1 ≡ Some name → Fits (row_of ed node) args → ⊥
missing_unfit ed node at n0 args h m f =
    let g = fits_end (row_of ed node) args (rows_clear ed node) f in
    let same : ◌≡◌ {A = Stands} g.0 at = cc in
    let n : missing at.0 at.1 ≡ None = subst (λ (x : Stands). missing x.0 x.1 ≡ None) same g.2 in
    cc
