-- The rows that meet a query, one row at a time.
use Rattle.std.proofs.Common.{◌≡◌, ◌↔◌, ℕ, Bool, true, false, ◌||◌, is_some, IfSome, Option, Some, None, List, [], ◌∷◌, ◌++◌, map, IsTrue, if◌then◌else◌, refl, sym, ap, ◌∙◌, subst, inl, inr}
use Rattle.std.proofs.lemmas.Bool.{true≢false, or_parts}
use Rattle.std.proofs.lemmas.List.{map-append}
use Rattle.crs_part.specs.declared.crs.CrsParts.{CrsParts}
use Rattle.reg_op.specs.Rows.{Row as RowOf}
use Rattle.reg_report.specs.declared.row.Row.{Row}
use Rattle.reg_report.specs.Conflicts.{KeyBytes}
use Rattle.reg_report.specs.Seen.{row_seen}
use Rattle.reg_keys.specs.Words.{NamesKey}
use Rattle.reg_query.specs.declared.find.query.Query.{Query}
use Rattle.reg_query.specs.Found.{IsMet, AreFound}
use Rattle.reg_query.specs.Queries.{HasSome, IsTitled, IsSought, MeetsValue, asks_value}

module _ (rs : List RowOf) (q : Query) where
  pub none_yet : AreFound rs q [] []
  none_yet = refl

  -- one more row is appended to those found, if it meets the query
  pub found_more : (done : List RowOf) (r : RowOf) (met : Bool) (old new : List RowOf) → IsMet rs q r met → new ≡ old ++ (if met then r ∷ [] else []) → AreFound rs q done old → AreFound rs q (done ++ r ∷ []) new
  found_more [] r met old new is e none = (met, [], is, refl, e ∙ ap (λ t. t ++ (if met then r ∷ [] else [])) none ∙ one met)
    where
      one : (b : Bool) → (if b then r ∷ [] else []) ≡ (if b then r ∷ [] else [])
      one b = refl
  found_more (d ∷ done) r met old new is e (m, rest, is_met, later, last) = (
    m,
    rest ++ (if met then r ∷ [] else []),
    is_met,
    found_more done r met rest (rest ++ (if met then r ∷ [] else [])) is refl later,
    e ∙ ap (λ t. t ++ (if met then r ∷ [] else [])) last ∙ put m,
  )
    where
      put : (b : Bool) → (if b then d ∷ rest else rest) ++ (if met then r ∷ [] else []) ≡ (if b then d ∷ (rest ++ (if met then r ∷ [] else [])) else (rest ++ (if met then r ∷ [] else [])))
      put true = refl
      put false = refl

-- the same for rows of the program
pub more_rows : (rs : List RowOf) (q : Query) (xs : List Row) (row : Row) (met : Bool) (old new : List RowOf) → IsMet rs q (row_seen row) met → new ≡ old ++ (if met then row_seen row ∷ [] else [])
    → AreFound rs q (map row_seen xs) old → AreFound rs q (map row_seen (xs ++ row ∷ [])) new
more_rows rs q xs row met old new is e are = subst (λ l. AreFound rs q l new) (sym (map-append row_seen xs (row ∷ []))) (found_more rs q (map row_seen xs) (row_seen row) met old new is e are)

-- ---- a query that asks nothing of the reference system

if_none : {X : Type 0} (o : Option X) (P : X → Type 0) → is_some o ≡ false → IfSome o P
if_none None P e = tt
if_none (Some x) P e = absurd (true≢false e)

pub nothing_asked : (q : Query) (crs : CrsParts) → asks_value q ≡ false → MeetsValue q crs
nothing_asked q crs e =
    let one = or_parts (is_some q.area) (is_some q.at || (is_some q.kind || is_some q.text)) e in
    let two = or_parts (is_some q.at) (is_some q.kind || is_some q.text) one.1 in
    let three = or_parts (is_some q.kind) (is_some q.text) two.1 in
    record { area = if_none q.area _ one.0; at = if_none q.at _ two.0; kind = if_none q.kind _ three.0; text = if_none q.text _ three.1 }

-- rows of the program have the same entries as the rows that contracts see
pub entries_seen : (rs : List Row) → map (λ (r : Row). r.entry) rs ≡ map (λ (r : RowOf). r.entry) (map row_seen rs)
entries_seen [] = refl
entries_seen (r ∷ rs) = ap (λ is. r.entry ∷ is) (entries_seen rs)

-- ---- what a word searches for

module _ (rs : List RowOf) (word : List ℕ) (k : KeyBytes) (name : List ℕ) where
  pub by_its_key : (by_key names : Bool) → IsTrue by_key → (IsTrue by_key ↔ HasSome rs word) → (IsTrue names ↔ NamesKey word k) → IsTrue names ↔ IsSought rs word k name
  by_its_key by_key names on tells is = (
    λ h. inl (tells.0 on, is.0 h),
    λ s. elim s [ inl a ↦ is.1 a.1 | inr b ↦ absurd (b.0 (tells.0 on)) ],
  )

  pub by_its_name : (by_key has : Bool) → by_key ≡ false → (IsTrue by_key ↔ HasSome rs word) → (IsTrue has ↔ IsTitled word k name) → IsTrue has ↔ IsSought rs word k name
  by_its_name by_key has off tells is = (
    λ h. inr (λ some. true≢false (sym (tells.1 some) ∙ off), is.0 h),
    λ s. elim s [ inl a ↦ absurd (true≢false (sym (tells.1 a.0) ∙ off)) | inr b ↦ is.1 b.1 ],
  )
