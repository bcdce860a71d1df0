-- Indexes of rows by key, and what words name among the rows of their key alone.
use Rattle.std.proofs.Common.{◌≡◌, ℕ, Bool, true, false, cond, List, [], ◌∷◌, ◌++◌, map, Option, Some, None, refl, sym, ap, ◌∙◌, subst, inl, inr}
use Rattle.std.proofs.lemmas.Bool.{true≢false}
use Rattle.std.proofs.lemmas.Cmp.{nat_list_cmp_total}
use Rattle.std.proofs.lemmas.List.{map-append}
use Rattle.std.specs.List.{Contains}
use Rattle.std.specs.Cmp.{Equal-is, tied_itself}
use Rattle.std.specs.Cmp.Lexicographic.{slice_cmp}
use Rattle.std.specs.Ordering.{nat_cmp, is_eq}
use Rattle.std.specs.Global.{Vec}
use Rattle.std.specs.BTreeMap.{BTreeMap, get}
use Rattle.std.specs.Map.{lookup}
use Rattle.crs_value.specs.Parts.{lower}
use Rattle.std.specs.Char.{to_ascii_lowercase}
use Rattle.reg_op.specs.Set.{Ascends}
use Rattle.reg_op.specs.Ids.{Id}
use Rattle.reg_op.specs.Rows.{Row}
use Rattle.reg_op.proofs.OpLemmas.{bytes_exact}
use Rattle.reg_report.specs.declared.row.Row.{Row as MadeRow}
use Rattle.reg_report.specs.Conflicts.{KeyBytes, HasKey}
use Rattle.reg_report.specs.Seen.{row_seen}
use Rattle.reg_report.proofs.ConflictLemmas.{none_in, in_cons, in_head, in_tail}
use Rattle.reg_report.proofs.ContenderLemmas.{one_key}
use Rattle.reg_report.specs.Rows.{row_cmp}
use Rattle.reg_keys.specs.declared.fault.KeyFault.{KeyFault}
use Rattle.reg_keys.specs.declared.fault.KeyFault.TheVariants.{NoEntry, Several, Memory}
use Rattle.reg_keys.specs.Named.{HasWord, Answers, AreEntries, IsAnsweredBy, AllHave, IsLeast, StandsFor, IsObjection}
use Rattle.reg_keys.specs.Every.{StandsForEvery}
use Rattle.reg_keys.specs.Told.{TellsOf, IsUntold}
use Rattle.reg_keys.specs.declared.index.Spelling.{Spelling}
use Rattle.reg_keys.specs.declared.index.KeyIndex.{KeyIndex}
use Rattle.reg_keys.specs.Index.{spelling, IsSpelled, AreChosen, spelling_cmp, rows_in, Holds, IsIndex, AreSpelled}
use Rattle.reg_report.proofs.OrderLemmas.{first_before, rest_ascends, put_before}
use Rattle.reg_report.proofs.RowLemmas.{row_total}

-- ---- chosen rows

module _ (P : Row → Type 0) where
  pub within : (rs some : List Row) → AreChosen P rs some → (r : Row) → Contains some r → Contains rs r
  within [] some e r h = absurd (none_in r (subst (λ l. Contains l r) e h))
  within (x ∷ rs) some (inl (p, (rest, e, later))) r h = elim (in_cons r x rest (subst (λ l. Contains l r) e h)) [
    | inl same ↦ subst (Contains (x ∷ rs)) (sym same) (in_head x rs)
    | inr there ↦ in_tail r x rs (within rs rest later r there)
  ]
  within (x ∷ rs) some (inr (not, later)) r h = in_tail r x rs (within rs some later r h)

  pub all_chosen : (rs some : List Row) → AreChosen P rs some → (r : Row) → Contains rs r → P r → Contains some r
  all_chosen [] some e r h p = absurd (none_in r h)
  all_chosen (x ∷ rs) some (inl (q, (rest, e, later))) r h p = elim (in_cons r x rs h) [
    | inl same ↦ subst (λ l. Contains l r) (sym e) (subst (Contains (x ∷ rest)) (sym same) (in_head x rest))
    | inr there ↦ subst (λ l. Contains l r) (sym e) (in_tail r x rest (all_chosen rs rest later r there p))
  ]
  all_chosen (x ∷ rs) some (inr (not, later)) r h p = elim (in_cons r x rs h) [
    | inl same ↦ absurd (not (subst P same p))
    | inr there ↦ all_chosen rs some later r there p
  ]

  pub chosen_ascend : (rs some : List Row) → AreChosen P rs some → Ascends row_cmp rs → Ascends row_cmp some
  chosen_ascend [] some e up = subst (Ascends row_cmp) (sym e) tt
  chosen_ascend (x ∷ rs) some (inl (p, (rest, e, later))) up =
      subst (Ascends row_cmp) (sym e) (put_before row_total x rest (λ y h. first_before row_total x rs up y (within rs rest later y h)) (chosen_ascend rs rest later (rest_ascends row_total x rs up)))
  chosen_ascend (x ∷ rs) some (inr (not, later)) up = chosen_ascend rs some later (rest_ascends row_total x rs up)

  -- one row more, at the end
  pub one_more : (rs some : List Row) (r : Row) → P r → AreChosen P rs some → AreChosen P (rs ++ r ∷ []) (some ++ r ∷ [])
  one_more [] some r p e = inl (p, ([], ap (λ l. l ++ r ∷ []) e, refl))
  one_more (x ∷ rs) some r p (inl (q, (rest, e, later))) = inl (q, (rest ++ r ∷ [], ap (λ l. l ++ r ∷ []) e, one_more rs rest r p later))
  one_more (x ∷ rs) some r p (inr (not, later)) = inr (not, one_more rs some r p later)

  pub one_less : (rs some : List Row) (r : Row) → ¬ (P r) → AreChosen P rs some → AreChosen P (rs ++ r ∷ []) some
  one_less [] some r never e = inr (never, e)
  one_less (x ∷ rs) some r never (inl (q, (rest, e, later))) = inl (q, (rest, e, one_less rs rest r never later))
  one_less (x ∷ rs) some r never (inr (not, later)) = inr (not, one_less rs some r never later)

-- ---- spellings

pub one_spelling : (a b : List ℕ) (r : Row) → IsSpelled a r → IsSpelled b r → a ≡ b
one_spelling a b r (k, has, e) (l, had, f) = sym e ∙ ap spelling (one_key r.definition k l has had) ∙ f

-- the word that names a key is spelled as the key
pub word_spelled : (word : List ℕ) (r : Row) → HasWord word r → IsSpelled (lower word) r
word_spelled word r (k, (front, alike, is), has) = (
  k,
  has,
  map-append to_ascii_lowercase k.authority (58 ∷ k.code) ∙ (λ j. sym alike j ++ lower (58 ∷ k.code)) ∙ sym (map-append to_ascii_lowercase front (58 ∷ k.code)) ∙ sym (ap lower is),
)

pub key_spelled : (k : KeyBytes) (r : Row) → HasKey r.definition k → IsSpelled (spelling k) r
key_spelled k r has = (k, has, refl)

-- ---- maps

pub nothing_held : (m : BTreeMap Spelling (Vec MadeRow)) → m.entries ≡ [] → Holds m []
nothing_held m e q = ap (λ es. rows_in (lookup (λ k. is_eq (spelling_cmp q k)) es)) e

-- the rows under one spelling after a row with the spelling `own` was put into the map
pub put_in : (r : Row) (rs : List Row) (own q : List ℕ) (old new before after : List Row) → IsSpelled own r → AreChosen (IsSpelled own) rs before → after ≡ before ++ r ∷ []
    → new ≡ cond (is_eq (slice_cmp nat_cmp own q)) after old → AreChosen (IsSpelled q) rs old → AreChosen (IsSpelled q) (rs ++ r ∷ []) new
put_in r rs own q old new before after spelled was pushed put had = by (is_eq (slice_cmp nat_cmp own q)) refl
  where
    by : (b : Bool) → is_eq (slice_cmp nat_cmp own q) ≡ b → AreChosen (IsSpelled q) (rs ++ r ∷ []) new
    by true same =
        let e : own ≡ q = bytes_exact own q ((Equal-is (slice_cmp nat_cmp own q)).0 same) in
        subst (λ t. AreChosen (IsSpelled t) (rs ++ r ∷ []) new) e
        (subst (AreChosen (IsSpelled own) (rs ++ r ∷ [])) (sym (put ∙ (λ j. cond (same j) after old) ∙ pushed)) (one_more (IsSpelled own) rs before r spelled was))
    by false other =
        subst (AreChosen (IsSpelled q) (rs ++ r ∷ [])) (sym (put ∙ (λ j. cond (other j) after old)))
        (one_less (IsSpelled q) rs old r
        (λ s. true≢false (sym (subst (λ t. is_eq (slice_cmp nat_cmp own t) ≡ true) (one_spelling own q r spelled s) (ap is_eq (tied_itself nat_list_cmp_total own))) ∙ other))
        had)

-- two steps on one spelling: its rows are taken out, and put back with one more
pub twice : (b : Bool) (v : Vec MadeRow) (new mid old : Option (Vec MadeRow)) → new ≡ cond b (Some v) mid → mid ≡ cond b None old → rows_in new ≡ cond b (map row_seen v.items) (rows_in old)
twice true v new mid old e f = ap rows_in e
twice false v new mid old e f = ap rows_in (e ∙ f)

-- what is found under a spelling
pub found_in : (index : KeyIndex) (rs some : List Row) (q : Spelling) (text : List ℕ) (found : Option (Vec MadeRow)) → IsIndex index rs → found ≡ get spelling_cmp index.by_key q → q.bytes.items ≡ text → some ≡ rows_in found → AreSpelled text rs some
found_in index rs some q text found is e t s =
    let chosen : AreChosen (IsSpelled text) rs some =
    subst (λ l. AreChosen (IsSpelled text) rs l) (sym (s ∙ ap rows_in e))
    (subst (λ u. AreChosen (IsSpelled u) rs (rows_in (get spelling_cmp index.by_key q))) t (is.holds q)) in
    record { order = chosen_ascend (IsSpelled text) rs some chosen is.order; chosen = chosen }

-- ---- what a word names among the rows that are spelled as it

module _ (text : List ℕ) (rs some : List Row) (are : AreSpelled text rs some) where
  inside : (r : Row) → Contains some r → Contains rs r
  inside = within (IsSpelled text) rs some are.chosen

  module _ (P : Row → Type 0) (sub : (r : Row) → P r → IsSpelled text r) where
    there : (r : Row) → Contains rs r → P r → Contains some r
    there r h p = all_chosen (IsSpelled text) rs some are.chosen r h (sub r p)

    pub entries_too : (es : List Id) → AreEntries P some es → AreEntries P rs es
    entries_too es e = record {
      ascend = e.ascend;
      each = λ i. (
        λ h. let f = (e.each i).0 h in (f.0, inside f.0 f.1, f.2, f.3),
        λ (r, h, p, is). (e.each i).1 (r, there r h p, p, is),
      );
    }

module _ (word : List ℕ) (rs some : List Row) (are : AreSpelled (lower word) rs some) where
  answering : (r : Row) → Contains rs r → Answers word r → Contains some r
  answering = there (lower word) rs some are (Answers word) (λ r a. word_spelled word r a.0)

  least_too : (least : Row) → IsLeast some word least → IsLeast rs word least
  least_too least is = record { there = inside (lower word) rs some are least is.there; answers = is.answers; first = λ r h a. is.first r (answering r h a) a }

  have_too : (t : List ℕ) → AllHave t some word → AllHave t rs word
  have_too t all r h a = all r (answering r h a) a

  pub stands_too : (e : Id) → StandsFor some word e → StandsFor rs word e
  stands_too e (inl spells) = inl spells
  stands_too e (inr (free, (least, is, same, all))) = inr (free, (least, least_too least is, same, have_too least.definition all))

  pub objects_too : (f : KeyFault) → IsObjection some word f → IsObjection rs word f
  objects_too NoEntry (free, none) = (free, λ r h a. none r (answering r h a) a)
  objects_too (Several second) (free, o) = (
    free,
    record {
      least = o.least;
      is_least = least_too o.least o.is_least;
      other = o.other;
      there = inside (lower word) rs some are o.other o.there;
      answers = o.answers;
      is = o.is;
      differs = o.differs;
      first = λ r h a b. o.first r (answering r h a) a b;
    },
  )
  objects_too Memory u = tt

  pub answered_too : (es : List Id) → IsAnsweredBy some word es → IsAnsweredBy rs word es
  answered_too es (free, e) = (free, entries_too (lower word) rs some are (Answers word) (λ r a. word_spelled word r a.0) es e)

  pub tells_too : (es : List Id) → TellsOf some word es → TellsOf rs word es
  tells_too es (inl (e, spells, is)) = inl (e, spells, is)
  tells_too es (inr (free, e, any)) = inr (free, entries_too (lower word) rs some are (HasWord word) (word_spelled word) es e, any)

  pub untold_too : (f : KeyFault) → IsUntold some word f → IsUntold rs word f
  untold_too NoEntry (free, e) = (free, entries_too (lower word) rs some are (HasWord word) (word_spelled word) [] e)
  untold_too (Several second) never = never
  untold_too Memory u = tt

  pub every_too : (es : List Id) → StandsForEvery some word es → StandsForEvery rs word es
  every_too es (inl h) = inl h
  every_too es (inr (answered, (least, is, all))) = inr (answered_too es answered, (least, least_too least is, have_too least.definition all))
