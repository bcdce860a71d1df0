-- The first entries of rows, and maps of them.
use Rattle.std.proofs.Common.{◌≡◌, ◌≢◌, ℕ, Bool, true, false, cond, List, [], ◌∷◌, ◌++◌, map, length, Option, Some, refl, sym, ap, ◌∙◌, subst, inl, inr, arith, append_assoc}
use Rattle.std.proofs.lemmas.Bool.{true≢false}
use Rattle.std.proofs.lemmas.Cmp.{nat_list_cmp_total}
use Rattle.std.proofs.lemmas.List.{map-append}
use Rattle.std.specs.Cmp.{Equal-is, tied_itself}
use Rattle.std.specs.Cmp.Lexicographic.{slice_cmp}
use Rattle.std.specs.Ordering.{nat_cmp, is_eq}
use Rattle.reg_op.specs.Ids.{Id}
use Rattle.reg_op.specs.Rows.{Row}
use Rattle.reg_op.specs.declared.status.Status.TheVariants.{Retired}
use Rattle.reg_op.proofs.OpLemmas.{bytes_exact}
use Rattle.reg_report.specs.declared.row.Row.{Row as MadeRow}
use Rattle.reg_report.specs.Seen.{row_seen}
use Rattle.reg_report.specs.Conflicts.{KeyBytes, key_cmp, HasKey}
use Rattle.reg_report.proofs.ConflictLemmas.{key_total, key_exact}
use Rattle.reg_report.proofs.ContenderLemmas.{one_key}
use Rattle.std.specs.Borrow.{Bor}
use Rattle.std.specs.BTreeMap.{BTreeMap, get}
use Rattle.std.specs.Map.{lookup}
use Rattle.reg_report.specs.declared.key.KeyText.{KeyText}
use Rattle.reg_report.specs.Keys.{key_bytes, text_cmp}
use Rattle.reg_disorder.specs.LinkHeirs.{IsFirst, HasText, IsOfKey, HasTexts, HasKeys, entry_in, bytes_cmp}

-- ---- one row more, in front

-- the entry of a row that is not retired goes into a map under its text
pub text_put : (made : Bor MadeRow) (later : List Row) (own q : List ℕ) (old new : Option (Bor MadeRow)) → (row_seen made.now).status ≢ Some Retired → own ≡ (row_seen made.now).definition
    → new ≡ cond (is_eq (slice_cmp nat_cmp own q)) (Some made) old → IsFirst (HasText q) later (entry_in old) → IsFirst (HasText q) (row_seen made.now ∷ later) (entry_in new)
text_put made later own q old new stands e put first = by (is_eq (slice_cmp nat_cmp own q)) refl
  where
    by : (b : Bool) → is_eq (slice_cmp nat_cmp own q) ≡ b → IsFirst (HasText q) (row_seen made.now ∷ later) (entry_in new)
    by true same = inl (record { stands = stands; is = sym e ∙ bytes_exact own q ((Equal-is (slice_cmp nat_cmp own q)).0 same) }, ap entry_in (put ∙ (λ j. cond (same j) (Some made) old)))
    by false other = inr (
      λ h. true≢false (sym (subst (λ t. is_eq (slice_cmp nat_cmp own t) ≡ true) (e ∙ h.is) (ap is_eq (tied_itself nat_list_cmp_total own))) ∙ other),
      subst (IsFirst (HasText q) later) (sym (ap entry_in (put ∙ (λ j. cond (other j) (Some made) old)))) first,
    )

-- or under its key
pub key_put : (made : Bor MadeRow) (later : List Row) (own q : KeyBytes) (old new : Option (Bor MadeRow)) → (row_seen made.now).status ≢ Some Retired → HasKey (row_seen made.now).definition own
    → new ≡ cond (is_eq (key_cmp own q)) (Some made) old → IsFirst (IsOfKey q) later (entry_in old) → IsFirst (IsOfKey q) (row_seen made.now ∷ later) (entry_in new)
key_put made later own q old new stands keyed put first = by (is_eq (key_cmp own q)) refl
  where
    by : (b : Bool) → is_eq (key_cmp own q) ≡ b → IsFirst (IsOfKey q) (row_seen made.now ∷ later) (entry_in new)
    by true same = inl (record { stands = stands; keyed = subst (HasKey (row_seen made.now).definition) (key_exact own q ((Equal-is (key_cmp own q)).0 same)) keyed }, ap entry_in (put ∙ (λ j. cond (same j) (Some made) old)))
    by false other = inr (
      λ h. true≢false (sym (subst (λ k. is_eq (key_cmp own k) ≡ true) (one_key (row_seen made.now).definition own q keyed h.keyed) (ap is_eq (tied_itself key_total own))) ∙ other),
      subst (IsFirst (IsOfKey q) later) (sym (ap entry_in (put ∙ (λ j. cond (other j) (Some made) old)))) first,
    )

-- ---- the first is unique

pub one_first : (P : Row → Type 0) (rs : List Row) (a b : Option Id) → IsFirst P rs a → IsFirst P rs b → a ≡ b
one_first P [] a b h k = h ∙ sym k
one_first P (r ∷ rs) a b (inl h) (inl k) = h.1 ∙ sym k.1
one_first P (r ∷ rs) a b (inl h) (inr k) = absurd (k.0 h.0)
one_first P (r ∷ rs) a b (inr h) (inl k) = absurd (h.0 k.0)
one_first P (r ∷ rs) a b (inr h) (inr k) = one_first P rs a b h.1 k.1

-- ---- a walk from the end

pub one_less : (all rest others later : List Row) (r : Row) → all ≡ rest ++ later → rest ≡ others ++ r ∷ [] → all ≡ others ++ (r ∷ later)
one_less all rest others later r e f = e ∙ ap (λ l. l ++ later) f ∙ append_assoc others (r ∷ []) later

pub seen_end : (rest others : List MadeRow) (r : MadeRow) → rest ≡ others ++ r ∷ [] → map row_seen rest ≡ map row_seen others ++ row_seen r ∷ []
seen_end rest others r e = ap (map row_seen) e ∙ map-append row_seen others (r ∷ [])

pub all_later : (rest : List MadeRow) (all later : List Row) → length rest ≡ 0 → all ≡ map row_seen rest ++ later → all ≡ later
all_later [] all later e h = h
all_later (r ∷ rest) all later e h = absurd (omega (arith, e))

-- ---- empty maps

pub no_texts : (m : BTreeMap (Bor (List ℕ)) (Bor MadeRow)) → m.entries ≡ [] → HasTexts m []
no_texts m e q = ap (λ es. entry_in (lookup (λ k. is_eq (bytes_cmp q k)) es)) e

pub no_keys : (m : BTreeMap KeyText (Bor MadeRow)) → m.entries ≡ [] → HasKeys m []
no_keys m e q = ap (λ es. entry_in (lookup (λ k. is_eq (text_cmp q k)) es)) e

-- ---- a retired row is not the first

pub not_text : (r : Row) (later : List Row) (q : List ℕ) (first : Option Id) → ¬ (r.status ≢ Some Retired) → IsFirst (HasText q) later first → IsFirst (HasText q) (r ∷ later) first
not_text r later q first gone h = inr (λ t. gone t.stands, h)

pub not_key : (r : Row) (later : List Row) (q : KeyBytes) (first : Option Id) → ¬ (r.status ≢ Some Retired) → IsFirst (IsOfKey q) later first → IsFirst (IsOfKey q) (r ∷ later) first
not_key r later q first gone h = inr (λ t. gone t.stands, h)

pub not_both : (t : Bool) → t ≡ true → t ≡ false → ⊥
not_both t e f = true≢false (sym e ∙ f)

-- ---- what a look-up finds

pub text_found : (m : BTreeMap (Bor (List ℕ)) (Bor MadeRow)) (rs : List Row) (q : Bor (List ℕ)) (own : List ℕ) (found : Option (Bor MadeRow)) → HasTexts m rs → found ≡ get bytes_cmp m q → q.now ≡ own
    → IsFirst (HasText own) rs (entry_in found)
text_found m rs q own found has e is = subst (λ t. IsFirst (HasText t) rs (entry_in found)) is (subst (IsFirst (HasText q.now) rs) (sym (ap entry_in e)) (has q))

pub key_found : (m : BTreeMap KeyText (Bor MadeRow)) (rs : List Row) (q : KeyText) (found : Option (Bor MadeRow)) → HasKeys m rs → found ≡ get text_cmp m q → IsFirst (IsOfKey (key_bytes q)) rs (entry_in found)
key_found m rs q found has e = subst (IsFirst (IsOfKey (key_bytes q)) rs) (sym (ap entry_in e)) (has q)
