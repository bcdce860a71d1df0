-- Statements about all rows, which are decided by computation.
use Rattle.std.proofs.Common.{append_assoc, ◌≡◌, ℕ, ◌<◌, Bool, true, false, cond, List, [], ◌∷◌, ◌++◌, length, get_or, Option, Some, None, refl, sym, ap, ◌∙◌, subst, arith, nat_eq}
use Rattle.std.specs.Prelude.{◌&&◌, ◌||◌, not, option_and_then}
use Rattle.std.specs.Option.{is_some}
use Rattle.std.specs.List.{list_all}
use Rattle.std.proofs.lemmas.Bool.{eqb-true, and_parts}
use Rattle.std.proofs.lemmas.List.Sums.{AllPass-from_list_all}
use Rattle.wkt_grammar.specs.declared.table.Edition.{Edition}
use Rattle.wkt_grammar.specs.declared.table.Edition.TheVariants as editions
use Rattle.wkt_grammar.specs.declared.table.Slot.{Slot}
use Rattle.wkt_grammar.specs.declared.table.Keyword.{Keyword}
use Rattle.wkt_grammar.specs.declared.table.Keyword.TheVariants as keywords
use Rattle.wkt_grammar.specs.declared.table.Argument.{Argument}
use Rattle.wkt_grammar.specs.declared.table.Argument.TheVariants as arguments
use Rattle.wkt_grammar.specs.declared.table.Node.{Node}
use Rattle.wkt_grammar.specs.declared.table.Node.TheVariants as nodes
use Rattle.wkt_grammar.specs.Rows.{row_of, row_in, enters, takes, is_required, Fits, Admitted}
use Rattle.wkt_grammar.specs.Words.{all_keywords}
use Rattle.wkt_grammar.specs.Walk.{is_many, next, walk, all_arguments}
use Rattle.wkt_grammar.proofs.Walks.{goes_on, rows_clear, walk_push, each_argument, admits, Stands}

-- ---- the row of a node by its keyword

abbrev rank : Node → ℕ
rank nodes.Root = 0
rank nodes.GeodeticCrs = 1
rank nodes.ProjectedCrs = 2
rank nodes.VerticalCrs = 3
rank nodes.CompoundCrs = 4
rank nodes.BaseCrs = 5
rank nodes.Datum = 6
rank nodes.VerticalDatum = 7
rank nodes.GeodeticEnsemble = 8
rank nodes.VerticalEnsemble = 9
rank nodes.Named = 10
rank nodes.EnsembleAccuracy = 11
rank nodes.Ellipsoid = 12
rank nodes.PrimeMeridian = 13
rank nodes.Conversion = 14
rank nodes.Parameter = 15
rank nodes.Unit = 16
rank nodes.CoordinateSystem = 17
rank nodes.Axis = 18
rank nodes.Meridian = 19
rank nodes.Order = 20
rank nodes.Usage = 21
rank nodes.BoundingBox = 22
rank nodes.VerticalExtent = 23
rank nodes.Value = 24
rank nodes.Identifier = 25

abbrev unrank : ℕ → Node
unrank i = get_or (nodes.Root ∷ nodes.GeodeticCrs ∷ nodes.ProjectedCrs ∷ nodes.VerticalCrs ∷ nodes.CompoundCrs ∷ nodes.BaseCrs ∷ nodes.Datum ∷ nodes.VerticalDatum ∷ nodes.GeodeticEnsemble ∷ nodes.VerticalEnsemble ∷ nodes.Named ∷ nodes.EnsembleAccuracy ∷ nodes.Ellipsoid ∷ nodes.PrimeMeridian ∷ nodes.Conversion ∷ nodes.Parameter ∷ nodes.Unit ∷ nodes.CoordinateSystem ∷ nodes.Axis ∷ nodes.Meridian ∷ nodes.Order ∷ nodes.Usage ∷ nodes.BoundingBox ∷ nodes.VerticalExtent ∷ nodes.Value ∷ nodes.Identifier ∷ []) i nodes.Root

unrank_rank : (n : Node) → unrank (rank n) ≡ n
unrank_rank nodes.Root = refl
unrank_rank nodes.GeodeticCrs = refl
unrank_rank nodes.ProjectedCrs = refl
unrank_rank nodes.VerticalCrs = refl
unrank_rank nodes.CompoundCrs = refl
unrank_rank nodes.BaseCrs = refl
unrank_rank nodes.Datum = refl
unrank_rank nodes.VerticalDatum = refl
unrank_rank nodes.GeodeticEnsemble = refl
unrank_rank nodes.VerticalEnsemble = refl
unrank_rank nodes.Named = refl
unrank_rank nodes.EnsembleAccuracy = refl
unrank_rank nodes.Ellipsoid = refl
unrank_rank nodes.PrimeMeridian = refl
unrank_rank nodes.Conversion = refl
unrank_rank nodes.Parameter = refl
unrank_rank nodes.Unit = refl
unrank_rank nodes.CoordinateSystem = refl
unrank_rank nodes.Axis = refl
unrank_rank nodes.Meridian = refl
unrank_rank nodes.Order = refl
unrank_rank nodes.Usage = refl
unrank_rank nodes.BoundingBox = refl
unrank_rank nodes.VerticalExtent = refl
unrank_rank nodes.Value = refl
unrank_rank nodes.Identifier = refl

abbrev agree : Option Node → Option Node → Bool
agree None o = true
agree (Some a) None = false
agree (Some a) (Some b) = nat_eq (rank a) (rank b)

agree_is : (o p : Option Node) (m : Node) → agree o p ≡ true → o ≡ Some m → p ≡ Some m
agree_is None p m e f = absurd cc
agree_is (Some a) None m e f = absurd cc
agree_is (Some a) (Some b) m e f =
    let same : a ≡ m = cc in
    let r = ap unrank (eqb-true (rank a) (rank b) e) in
    ap Some (sym (unrank_rank b) ∙ (sym r ∙ (unrank_rank a ∙ same)))

abbrev agrees : List Slot → Keyword → Bool
agrees row k = list_all (λ (s : Slot). agree (enters s.takes k) (row_in row k)) row

rows_agree : (ed : Edition) (n : Node) → list_all (agrees (row_of ed n)) all_keywords ≡ true
rows_agree ed nodes.Root = refl
rows_agree ed nodes.GeodeticCrs = refl
rows_agree ed nodes.ProjectedCrs = refl
rows_agree editions.First nodes.VerticalCrs = refl
rows_agree editions.Second nodes.VerticalCrs = refl
rows_agree ed nodes.CompoundCrs = refl
rows_agree ed nodes.BaseCrs = refl
rows_agree ed nodes.Datum = refl
rows_agree ed nodes.VerticalDatum = refl
rows_agree ed nodes.GeodeticEnsemble = refl
rows_agree ed nodes.VerticalEnsemble = refl
rows_agree ed nodes.Named = refl
rows_agree ed nodes.EnsembleAccuracy = refl
rows_agree ed nodes.Ellipsoid = refl
rows_agree ed nodes.PrimeMeridian = refl
rows_agree ed nodes.Conversion = refl
rows_agree ed nodes.Parameter = refl
rows_agree ed nodes.Unit = refl
rows_agree ed nodes.CoordinateSystem = refl
rows_agree ed nodes.Axis = refl
rows_agree ed nodes.Meridian = refl
rows_agree ed nodes.Order = refl
rows_agree editions.First nodes.Usage = refl
rows_agree editions.Second nodes.Usage = refl
rows_agree ed nodes.BoundingBox = refl
rows_agree ed nodes.VerticalExtent = refl
rows_agree ed nodes.Value = refl
rows_agree ed nodes.Identifier = refl

each_keyword : (p : Keyword → Bool) (k : Keyword) → list_all p all_keywords ≡ true → p k ≡ true
each_keyword p keywords.GeodeticCrs h = AllPass-from_list_all p all_keywords h 0 keywords.Unit (omega arith)
each_keyword p keywords.GeographicCrs h = AllPass-from_list_all p all_keywords h 1 keywords.Unit (omega arith)
each_keyword p keywords.ProjectedCrs h = AllPass-from_list_all p all_keywords h 2 keywords.Unit (omega arith)
each_keyword p keywords.VerticalCrs h = AllPass-from_list_all p all_keywords h 3 keywords.Unit (omega arith)
each_keyword p keywords.CompoundCrs h = AllPass-from_list_all p all_keywords h 4 keywords.Unit (omega arith)
each_keyword p keywords.BaseGeodeticCrs h = AllPass-from_list_all p all_keywords h 5 keywords.Unit (omega arith)
each_keyword p keywords.BaseGeographicCrs h = AllPass-from_list_all p all_keywords h 6 keywords.Unit (omega arith)
each_keyword p keywords.Datum h = AllPass-from_list_all p all_keywords h 7 keywords.Unit (omega arith)
each_keyword p keywords.VerticalDatum h = AllPass-from_list_all p all_keywords h 8 keywords.Unit (omega arith)
each_keyword p keywords.Ensemble h = AllPass-from_list_all p all_keywords h 9 keywords.Unit (omega arith)
each_keyword p keywords.Member h = AllPass-from_list_all p all_keywords h 10 keywords.Unit (omega arith)
each_keyword p keywords.Method h = AllPass-from_list_all p all_keywords h 11 keywords.Unit (omega arith)
each_keyword p keywords.GeoidModel h = AllPass-from_list_all p all_keywords h 12 keywords.Unit (omega arith)
each_keyword p keywords.EnsembleAccuracy h = AllPass-from_list_all p all_keywords h 13 keywords.Unit (omega arith)
each_keyword p keywords.Ellipsoid h = AllPass-from_list_all p all_keywords h 14 keywords.Unit (omega arith)
each_keyword p keywords.PrimeMeridian h = AllPass-from_list_all p all_keywords h 15 keywords.Unit (omega arith)
each_keyword p keywords.Conversion h = AllPass-from_list_all p all_keywords h 16 keywords.Unit (omega arith)
each_keyword p keywords.Parameter h = AllPass-from_list_all p all_keywords h 17 keywords.Unit (omega arith)
each_keyword p keywords.LengthUnit h = AllPass-from_list_all p all_keywords h 18 keywords.Unit (omega arith)
each_keyword p keywords.AngleUnit h = AllPass-from_list_all p all_keywords h 19 keywords.Unit (omega arith)
each_keyword p keywords.ScaleUnit h = AllPass-from_list_all p all_keywords h 20 keywords.Unit (omega arith)
each_keyword p keywords.Unit h = AllPass-from_list_all p all_keywords h 21 keywords.Unit (omega arith)
each_keyword p keywords.CoordinateSystem h = AllPass-from_list_all p all_keywords h 22 keywords.Unit (omega arith)
each_keyword p keywords.Axis h = AllPass-from_list_all p all_keywords h 23 keywords.Unit (omega arith)
each_keyword p keywords.Meridian h = AllPass-from_list_all p all_keywords h 24 keywords.Unit (omega arith)
each_keyword p keywords.Order h = AllPass-from_list_all p all_keywords h 25 keywords.Unit (omega arith)
each_keyword p keywords.Usage h = AllPass-from_list_all p all_keywords h 26 keywords.Unit (omega arith)
each_keyword p keywords.BoundingBox h = AllPass-from_list_all p all_keywords h 27 keywords.Unit (omega arith)
each_keyword p keywords.VerticalExtent h = AllPass-from_list_all p all_keywords h 28 keywords.Unit (omega arith)
each_keyword p keywords.Scope h = AllPass-from_list_all p all_keywords h 29 keywords.Unit (omega arith)
each_keyword p keywords.Area h = AllPass-from_list_all p all_keywords h 30 keywords.Unit (omega arith)
each_keyword p keywords.Anchor h = AllPass-from_list_all p all_keywords h 31 keywords.Unit (omega arith)
each_keyword p keywords.Citation h = AllPass-from_list_all p all_keywords h 32 keywords.Unit (omega arith)
each_keyword p keywords.Uri h = AllPass-from_list_all p all_keywords h 33 keywords.Unit (omega arith)
each_keyword p keywords.Remark h = AllPass-from_list_all p all_keywords h 34 keywords.Unit (omega arith)
each_keyword p keywords.Identifier h = AllPass-from_list_all p all_keywords h 35 keywords.Unit (omega arith)

pub decides : (ed : Edition) (n m : Node) (i : ℕ) (d : Slot) (k : Keyword) → i < length (row_of ed n) → enters (get_or (row_of ed n) i d).takes k ≡ Some m → row_in (row_of ed n) k ≡ Some m
decides ed n m i d k h e =
    let all = each_keyword (agrees (row_of ed n)) k (rows_agree ed n) in
    agree_is (enters (get_or (row_of ed n) i d).takes k) (row_in (row_of ed n) k) m (AllPass-from_list_all (λ (s : Slot). agree (enters s.takes k) (row_in (row_of ed n) k)) (row_of ed n) all i d h) e

-- ---- arguments that are the only ones that can come next

abbrev is_count : Argument → Bool
is_count arguments.Text = false
is_count arguments.Number = false
is_count arguments.Count = true
is_count arguments.CsKind = false
is_count arguments.Direction = false
is_count arguments.OtherWord = false
is_count arguments.OtherNode = false
is_count (arguments.Node k) = false

is_count_so : (a : Argument) → is_count a ≡ true → a ≡ arguments.Count
is_count_so arguments.Text e = absurd cc
is_count_so arguments.Number e = absurd cc
is_count_so arguments.Count e = refl
is_count_so arguments.CsKind e = absurd cc
is_count_so arguments.Direction e = absurd cc
is_count_so arguments.OtherWord e = absurd cc
is_count_so arguments.OtherNode e = absurd cc
is_count_so (arguments.Node k) e = absurd cc

abbrev is_kind : Argument → Bool
is_kind arguments.Text = false
is_kind arguments.Number = false
is_kind arguments.Count = false
is_kind arguments.CsKind = true
is_kind arguments.Direction = false
is_kind arguments.OtherWord = false
is_kind arguments.OtherNode = false
is_kind (arguments.Node k) = false

is_kind_so : (a : Argument) → is_kind a ≡ true → a ≡ arguments.CsKind
is_kind_so arguments.Text e = absurd cc
is_kind_so arguments.Number e = absurd cc
is_kind_so arguments.Count e = absurd cc
is_kind_so arguments.CsKind e = refl
is_kind_so arguments.Direction e = absurd cc
is_kind_so arguments.OtherWord e = absurd cc
is_kind_so arguments.OtherNode e = absurd cc
is_kind_so (arguments.Node k) e = absurd cc

abbrev is_direction : Argument → Bool
is_direction arguments.Text = false
is_direction arguments.Number = false
is_direction arguments.Count = false
is_direction arguments.CsKind = false
is_direction arguments.Direction = true
is_direction arguments.OtherWord = false
is_direction arguments.OtherNode = false
is_direction (arguments.Node k) = false

is_direction_so : (a : Argument) → is_direction a ≡ true → a ≡ arguments.Direction
is_direction_so arguments.Text e = absurd cc
is_direction_so arguments.Number e = absurd cc
is_direction_so arguments.Count e = absurd cc
is_direction_so arguments.CsKind e = absurd cc
is_direction_so arguments.Direction e = refl
is_direction_so arguments.OtherWord e = absurd cc
is_direction_so arguments.OtherNode e = absurd cc
is_direction_so (arguments.Node k) e = absurd cc

-- if `this` can come next and `that` holds, every argument that can come next passes `is`
abbrev alone : Argument → (Argument → Bool) → Bool → List Slot → Bool → Bool
alone this is that left filled = list_all (λ a. not (is_some (next left filled this) && (that && (is_some (next left filled a) && not (is a))))) all_arguments

abbrev tested : List Slot → Bool → Bool
tested left filled = alone arguments.Count is_count (not (is_some (next left filled arguments.Number))) left filled && (alone arguments.CsKind is_kind true left filled && alone arguments.Direction is_direction true left filled)

abbrev all_tested : List Slot → Bool
all_tested [] = tested [] true && tested [] false
all_tested (s ∷ row) = (tested (s ∷ row) true && tested (s ∷ row) false) && all_tested row

rows_tested : (ed : Edition) (n : Node) → all_tested (row_of ed n) ≡ true
rows_tested ed nodes.Root = refl
rows_tested ed nodes.GeodeticCrs = refl
rows_tested ed nodes.ProjectedCrs = refl
rows_tested editions.First nodes.VerticalCrs = refl
rows_tested editions.Second nodes.VerticalCrs = refl
rows_tested ed nodes.CompoundCrs = refl
rows_tested ed nodes.BaseCrs = refl
rows_tested ed nodes.Datum = refl
rows_tested ed nodes.VerticalDatum = refl
rows_tested ed nodes.GeodeticEnsemble = refl
rows_tested ed nodes.VerticalEnsemble = refl
rows_tested ed nodes.Named = refl
rows_tested ed nodes.EnsembleAccuracy = refl
rows_tested ed nodes.Ellipsoid = refl
rows_tested ed nodes.PrimeMeridian = refl
rows_tested ed nodes.Conversion = refl
rows_tested ed nodes.Parameter = refl
rows_tested ed nodes.Unit = refl
rows_tested ed nodes.CoordinateSystem = refl
rows_tested ed nodes.Axis = refl
rows_tested ed nodes.Meridian = refl
rows_tested ed nodes.Order = refl
rows_tested editions.First nodes.Usage = refl
rows_tested editions.Second nodes.Usage = refl
rows_tested ed nodes.BoundingBox = refl
rows_tested ed nodes.VerticalExtent = refl
rows_tested ed nodes.Value = refl
rows_tested ed nodes.Identifier = refl

tested_next : (row : List Slot) (filled : Bool) (a : Argument) (left : List Slot) → next row filled a ≡ Some left → all_tested row ≡ true → all_tested left ≡ true
tested_next [] filled a left e c = absurd cc
tested_next (s ∷ row) filled a left e c =
    by (takes s.takes a && (not filled || is_many s.often)) (is_required s.often && not filled) e (λ g. tested_next row false a left g (and_parts (tested (s ∷ row) true && tested (s ∷ row) false) (all_tested row) c).1)
  where
    by : (t m : Bool) → cond t (Some (s ∷ row)) (cond m None (next row false a)) ≡ Some left → (next row false a ≡ Some left → all_tested left ≡ true) → all_tested left ≡ true
    by true m g ih = let same : s ∷ row ≡ left = cc in subst (λ l. all_tested l ≡ true) same c
    by false true g ih = absurd cc
    by false false g ih = ih g

tested_walk : (args : List Argument) (row : List Slot) (filled : Bool) (at : Stands) → walk row filled args ≡ Some at → all_tested row ≡ true → all_tested at.0 ≡ true
tested_walk [] row filled at e c = let same : ◌≡◌ {A = Stands} (row, filled) at = cc in subst (λ (x : Stands). all_tested x.0 ≡ true) same c
tested_walk (a ∷ args) row filled at e c =
    elim (next row filled a) as (λ o. next row filled a ≡ o → option_and_then (λ left. walk left true args) o ≡ Some at → all_tested at.0 ≡ true) [
      | None ↦ λ p g. absurd cc
      | Some left ↦ λ p g. tested_walk args left true at g (tested_next row filled a left p c)
    ] refl e

tested_at : (left : List Slot) (filled : Bool) → all_tested left ≡ true → tested left filled ≡ true
tested_at [] true c = (and_parts (tested [] true) (tested [] false) c).0
tested_at [] false c = (and_parts (tested [] true) (tested [] false) c).1
tested_at (s ∷ row) true c = (and_parts (tested (s ∷ row) true) (tested (s ∷ row) false) (and_parts (tested (s ∷ row) true && tested (s ∷ row) false) (all_tested row) c).0).0
tested_at (s ∷ row) false c = (and_parts (tested (s ∷ row) true) (tested (s ∷ row) false) (and_parts (tested (s ∷ row) true && tested (s ∷ row) false) (all_tested row) c).0).1

pub front_admitted : (row : List Slot) (args : List Argument) (a : Argument) → Admitted row (args ++ a ∷ []) → Admitted row args
front_admitted row args a ad = record { others = a ∷ ad.others; fit = subst (λ l. Fits row l) (append_assoc args (a ∷ []) ad.others) ad.fit }

some_next : (ed : Edition) (n : Node) (args : List Argument) (at : Stands) (a : Argument) → walk (row_of ed n) false args ≡ Some at → Admitted (row_of ed n) (args ++ a ∷ []) → is_some (next at.0 at.1 a) ≡ true
some_next ed n args at a w ad =
    let g = goes_on (row_of ed n) (args ++ a ∷ []) (rows_clear ed n) ad in
    by g.0 (next at.0 at.1 a) (sym (walk_push args a (row_of ed n) at.0 at.1 w) ∙ g.1)
  where
    by : (y : Stands) (o : Option (List Slot)) → option_and_then (λ l. Some (l, true)) o ≡ Some y → is_some o ≡ true
    by y None h = absurd cc
    by y (Some l) h = refl

no_next : (ed : Edition) (n : Node) (args : List Argument) (at : Stands) (a : Argument) → walk (row_of ed n) false args ≡ Some at → (Admitted (row_of ed n) (args ++ a ∷ []) → ⊥) → is_some (next at.0 at.1 a) ≡ false
no_next ed n args at a w no_more =
    elim (next at.0 at.1 a) as (λ o. next at.0 at.1 a ≡ o → is_some o ≡ false) [
      | None ↦ λ e. refl
      | Some l ↦ λ e. absurd (no_more (admits (row_of ed n) (args ++ a ∷ []) (l, true) (walk_push args a (row_of ed n) at.0 at.1 w ∙ ap (option_and_then (λ x. Some (x, true))) e)))
    ] refl

must_be : (x y z t : Bool) → not (x && (y && (z && not t))) ≡ true → x ≡ true → y ≡ true → z ≡ true → t ≡ true
must_be true true true true e a b c = refl
must_be true true true false e a b c = absurd cc
must_be true true false t e a b c = absurd cc
must_be true false z t e a b c = absurd cc
must_be false y z t e a b c = absurd cc

alone_is : (this : Argument) (is : Argument → Bool) (that : Bool) (left : List Slot) (filled : Bool) (a : Argument) → alone this is that left filled ≡ true → is_some (next left filled this) ≡ true → that ≡ true → is_some (next left filled a) ≡ true → is a ≡ true
alone_is this is that left filled a h x y z =
    must_be (is_some (next left filled this)) that (is_some (next left filled a)) (is a) (each_argument (λ b. not (is_some (next left filled this) && (that && (is_some (next left filled b) && not (is b))))) a h) x y z

module _ (ed : Edition) (n : Node) (before : List Argument) (a : Argument) where
  pub lone_count : Admitted (row_of ed n) (before ++ arguments.Count ∷ []) → (Admitted (row_of ed n) (before ++ arguments.Number ∷ []) → ⊥) → Admitted (row_of ed n) (before ++ a ∷ []) → a ≡ arguments.Count
  lone_count x y z =
      let w = goes_on (row_of ed n) before (rows_clear ed n) (front_admitted (row_of ed n) before arguments.Count x) in
      let t = tested_at w.0.0 w.0.1 (tested_walk before (row_of ed n) false w.0 w.1 (rows_tested ed n)) in
      is_count_so a (alone_is arguments.Count is_count (not (is_some (next w.0.0 w.0.1 arguments.Number))) w.0.0 w.0.1 a
      (and_parts _ (alone arguments.CsKind is_kind true w.0.0 w.0.1 && alone arguments.Direction is_direction true w.0.0 w.0.1) t).0
      (some_next ed n before w.0 arguments.Count w.1 x) (ap not (no_next ed n before w.0 arguments.Number w.1 y)) (some_next ed n before w.0 a w.1 z))

  pub lone_kind : Admitted (row_of ed n) (before ++ arguments.CsKind ∷ []) → Admitted (row_of ed n) (before ++ a ∷ []) → a ≡ arguments.CsKind
  lone_kind x z =
      let w = goes_on (row_of ed n) before (rows_clear ed n) (front_admitted (row_of ed n) before arguments.CsKind x) in
      let t = tested_at w.0.0 w.0.1 (tested_walk before (row_of ed n) false w.0 w.1 (rows_tested ed n)) in
      is_kind_so a (alone_is arguments.CsKind is_kind true w.0.0 w.0.1 a
      (and_parts (alone arguments.CsKind is_kind true w.0.0 w.0.1) (alone arguments.Direction is_direction true w.0.0 w.0.1) (and_parts _ _ t).1).0
      (some_next ed n before w.0 arguments.CsKind w.1 x) refl (some_next ed n before w.0 a w.1 z))

  pub lone_direction : Admitted (row_of ed n) (before ++ arguments.Direction ∷ []) → Admitted (row_of ed n) (before ++ a ∷ []) → a ≡ arguments.Direction
  lone_direction x z =
      let w = goes_on (row_of ed n) before (rows_clear ed n) (front_admitted (row_of ed n) before arguments.Direction x) in
      let t = tested_at w.0.0 w.0.1 (tested_walk before (row_of ed n) false w.0 w.1 (rows_tested ed n)) in
      is_direction_so a (alone_is arguments.Direction is_direction true w.0.0 w.0.1 a
      (and_parts (alone arguments.CsKind is_kind true w.0.0 w.0.1) (alone arguments.Direction is_direction true w.0.0 w.0.1) (and_parts _ _ t).1).1
      (some_next ed n before w.0 arguments.Direction w.1 x) refl (some_next ed n before w.0 a w.1 z))
