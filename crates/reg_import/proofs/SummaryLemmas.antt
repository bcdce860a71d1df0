-- The summary of entries, with one more entry.
use Rattle.std.proofs.Common.{◌≡◌, Bool, true, false, ◌&&◌, cond, List, [], ◌∷◌, ◌++◌, Option, Some, None, refl, sym, ap, ◌∙◌}
use Rattle.std.specs.Cmp.{Equal-is}
use Rattle.std.proofs.lemmas.Cmp.{upto}
use Rattle.std.specs.FinMap.{slice_cmp-IsAntisymmetric, nat_cmp-IsAntisymmetric}
use Rattle.std.specs.Cmp.Lexicographic.{slice_cmp, texts_ties}
use Rattle.std.specs.Ordering.{is_lt, is_gt, is_eq, nat_cmp, ordering_reverse}
use Rattle.std.specs.BTreeMap.{get}
use Rattle.std.specs.declared.cmp.Ordering.{Ordering}
use Rattle.std.specs.declared.cmp.Ordering.TheVariants.{Less, Equal, Greater}
use Rattle.reg_op.specs.Ids.{Id, id_cmp, is_before}
use Rattle.reg_op.proofs.OpLemmas.{id_total, is_before_chain}
use Rattle.reg_import.specs.declared.indexed_text.IndexedText.{IndexedText}
use Rattle.reg_import.specs.declared.standing_entry.StandingEntry.{StandingEntry}
use Rattle.reg_import.specs.declared.summary.Found.{Found}
use Rattle.reg_import.specs.declared.summary.Summary.{Summary}
use Rattle.reg_import.specs.Imports.{least, sooner, and_least, has_text, has_text_and_is_valid, any_entry}
use Rattle.reg_import.specs.Summary.{found, found_in, bytes_cmp, SumsUp}

-- ---- the least of three ids

lt_turned : (r : Ordering) → is_lt (ordering_reverse r) ≡ is_gt r
lt_turned Less = refl
lt_turned Equal = refl
lt_turned Greater = refl

turned : (a b : Id) → is_before a b ≡ is_gt (id_cmp b a)
turned a b = ap is_lt (id_total.antisymm a b) ∙ lt_turned (id_cmp b a)

-- if a is not before b, and b not before c, then a is not before c
not_before_chain : (a b c : Id) → is_before a b ≡ false → is_before b c ≡ false → is_before a c ≡ false
not_before_chain a b c h k = turned a c ∙ upto id_total c b a (sym (turned b c) ∙ k) (sym (turned a b) ∙ h)

three : (a m e : Id) (p q : Bool) → is_before e m ≡ p → is_before m a ≡ q → sooner a (Some (sooner m (Some e))) ≡ sooner (sooner a (Some m)) (Some e)
three a m e true true h k =
    (λ j. cond (is_before (cond (h j) e m) a) (cond (h j) e m) a)
    ∙ (λ j. cond (is_before_chain e m a h k j) e a)
    ∙ sym ((λ j. cond (is_before e (cond (k j) m a)) e (cond (k j) m a)) ∙ (λ j. cond (h j) e m))
three a m e true false h k =
    (λ j. cond (is_before (cond (h j) e m) a) (cond (h j) e m) a)
    ∙ sym (λ j. cond (is_before e (cond (k j) m a)) e (cond (k j) m a))
three a m e false true h k =
    (λ j. cond (is_before (cond (h j) e m) a) (cond (h j) e m) a)
    ∙ (λ j. cond (k j) m a)
    ∙ sym ((λ j. cond (is_before e (cond (k j) m a)) e (cond (k j) m a)) ∙ (λ j. cond (h j) e m))
three a m e false false h k =
    (λ j. cond (is_before (cond (h j) e m) a) (cond (h j) e m) a)
    ∙ (λ j. cond (k j) m a)
    ∙ sym ((λ j. cond (is_before e (cond (k j) m a)) e (cond (k j) m a)) ∙ (λ j. cond (not_before_chain e m a h k j) e a))

sooner_of_three : (a m e : Id) → sooner a (Some (sooner m (Some e))) ≡ sooner (sooner a (Some m)) (Some e)
sooner_of_three a m e = three a m e (is_before e m) (is_before m a) refl refl

-- ---- the least, with one more entry

push_step : (x y : Bool) (a e : Id) (l : Option Id) → cond x (Some (sooner a (and_least y l e))) (and_least y l e) ≡ and_least y (cond x (Some (sooner a l)) l) e
push_step true true a e None = refl
push_step true true a e (Some m) = ap Some (sooner_of_three a m e)
push_step true false a e l = refl
push_step false y a e l = refl

least_push : (passes : StandingEntry → Bool) (es : List StandingEntry) (e : StandingEntry) → least passes (es ++ e ∷ []) ≡ and_least (passes e) (least passes es) e.entry
least_push passes [] e = refl
least_push passes (a ∷ es) e =
    (λ j. cond (passes a) (Some (sooner a.entry (least_push passes es e j))) (least_push passes es e j))
    ∙ push_step (passes a) (passes e) a.entry e.entry (least passes es)

-- ---- the least entries with a text, with one more entry

module _ (es : List StandingEntry) (e : StandingEntry) (k q : IndexedText) (before : Option Found) (v : Found) where
  found_of : (b : Bool) → is_eq (slice_cmp nat_cmp k.definition q.definition) ≡ b → k.definition ≡ e.definition → found_in before ≡ found q.definition es
      → (at : Found) → at ≡ found k.definition es → v.any ≡ and_least true at.any e.entry → v.valid ≡ and_least e.valid at.valid e.entry
      → found_in (cond b (Some v) before) ≡ found q.definition (es ++ e ∷ [])
  found_of b h is there at at_is any valid =
      let has : has_text q.definition e ≡ b = texts_ties e.definition q.definition ∙ (λ j. is_eq (slice_cmp nat_cmp (sym is j) q.definition)) ∙ h in
      by_case b h has
      ∙ (λ j. record {
        any = sym (least_push (has_text q.definition) es e ∙ (λ i. and_least (has i) (least (has_text q.definition) es) e.entry)) j;
        valid = sym (least_push (has_text_and_is_valid q.definition) es e ∙ (λ i. and_least (has i && e.valid) (least (has_text_and_is_valid q.definition) es) e.entry)) j;
      })
    where
      by_case : (b : Bool) → is_eq (slice_cmp nat_cmp k.definition q.definition) ≡ b → has_text q.definition e ≡ b → found_in (cond b (Some v) before)
          ≡ record { any = and_least b (least (has_text q.definition) es) e.entry; valid = and_least (b && e.valid) (least (has_text_and_is_valid q.definition) es) e.entry }
      by_case true h has =
          let same : k.definition ≡ q.definition = slice_cmp-IsAntisymmetric nat_cmp-IsAntisymmetric _ _ ((Equal-is (slice_cmp nat_cmp k.definition q.definition)).0 h) in
          let here : at ≡ found q.definition es = at_is ∙ (λ j. found (same j) es) in
          λ j. record {
            any = (any ∙ (λ i. and_least true (here i).any e.entry)) j;
            valid = (valid ∙ (λ i. and_least e.valid (here i).valid e.entry)) j;
          }
      by_case false h has = there

module _ (s s' : Summary) (es : List StandingEntry) (e : StandingEntry) (k : IndexedText) (v : Found) where
  pub sums_more : SumsUp s es → k.definition ≡ e.definition → v.any ≡ and_least true (found_in (get bytes_cmp s.texts k)).any e.entry → v.valid ≡ and_least e.valid (found_in (get bytes_cmp s.texts k)).valid e.entry
      → s'.least ≡ and_least true s.least e.entry → ((q : IndexedText) → get bytes_cmp s'.texts q ≡ cond (is_eq (bytes_cmp k q)) (Some v) (get bytes_cmp s.texts q))
      → SumsUp s' (es ++ e ∷ [])
  sums_more sums is any valid l up = record {
    least_of_all = l ∙ (λ j. and_least true (sums.least_of_all j) e.entry) ∙ sym (least_push any_entry es e);
    each = λ q. ap found_in (up q) ∙ found_of es e k q (get bytes_cmp s.texts q) v (is_eq (bytes_cmp k q)) refl is (sums.each q) (found_in (get bytes_cmp s.texts k)) (sums.each k) any valid;
  }
