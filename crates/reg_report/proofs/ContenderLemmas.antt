-- The entries that are not retired have the conflicts of the rows.
use Rattle.std.proofs.Common.{◌≡◌, ℕ, ◌+◌, ◌<◌, ◌≤◌, List, [], ◌∷◌, ◌++◌, map, length, get_or, take, refl, sym, ap, ◌∙◌, subst, inl, inr}
use Rattle.std.proofs.lemmas.List.{take_more, take_all, map_push}
use Rattle.std.proofs.lemmas.List.Elements.{Contains-append_left, Contains-push, Contains-push_cases}
use Rattle.std.proofs.lemmas.List.Sorted.{Contains-permutation, IsPermutation-sym}
use Rattle.std.specs.List.{Contains}
use Rattle.std.specs.List.Sorted.{IsPermutation}
use Rattle.crs_part.specs.declared.identifiers.Ident.{Ident}
use Rattle.crs_part.specs.Slots.{ids_of}
use Rattle.crs_value.specs.declared.crs.Crs.{Crs}
use Rattle.crs_value.specs.declared.key.Key.{Key}
use Rattle.crs_value.specs.Keys.{IsKeyOf}
use Rattle.reg_op.specs.Definition.{HasNone, IsKeyIn}
use Rattle.reg_op.specs.Definition as definition
use Rattle.reg_op.proofs.Texts.{one_value}
use Rattle.reg_op.specs.Ids.{Id}
use Rattle.reg_op.specs.Rows.{Row, IsInConflict}
use Rattle.reg_report.specs.declared.row.Row.{Row as MadeRow}
use Rattle.reg_report.specs.declared.contender.Contender.{Contender}
use Rattle.reg_report.specs.Seen.{row_seen}
use Rattle.reg_report.specs.Conflicts.{KeyBytes, bytes_of, HasKey, Stands, Contested, AreConflicts}
use Rattle.reg_report.specs.Contenders.{key_of, IsOfRow, AreContenders, Adds, Differ, Enters, Tells}
use Rattle.reg_report.proofs.ConflictLemmas.{none_in, from_map}

-- ---- a text has at most one key

same_key_of : (ids : List Ident) (crs other : Crs) (k l : Key) → ids_of crs.parts ≡ ids → crs ≡ other → ¬ (HasNone crs) → definition.HasKey crs k → definition.HasKey other l → bytes_of k ≡ bytes_of l
same_key_of [] crs other k l e same some h g = absurd (some e)
same_key_of (id ∷ others) crs other k l e same some h g =
    let one : IsKeyOf id k = h id others e in
    let two : IsKeyOf id l = g id others (ap (λ (c : Crs). ids_of c.parts) (sym same) ∙ e) in
    λ j. record { authority = (one.authority ∙ sym two.authority) j; code = (one.code ∙ sym two.code) j }

pub one_key : (text : List ℕ) (k l : KeyBytes) → HasKey text k → HasKey text l → k ≡ l
one_key text k l h g =
    let a = h.1 in
    let b = g.1 in
    sym h.2 ∙ same_key_of (ids_of (a.0).parts) a.0 b.0 h.0 g.0 refl (one_value text a.0 b.0 a.1 b.1) a.2 a.3 b.3 ∙ g.2

-- ---- one row after another

one_more : (rs : List Row) (r : Row) (old new : List Contender) → AreContenders rs old → Adds r old new → AreContenders (rs ++ r ∷ []) new
one_more rs r old new are (inl (gone, same)) = record {
  each = λ c h. let f = are.each c (subst (λ l. Contains l c) same h) in (f.0, Contains-append_left rs (r ∷ []) f.0 f.1, f.2, f.3);
  all = λ q h stands. elim (Contains-push_cases rs r q h) [
    | inl m ↦ let f = are.all q m stands in (f.0, subst (λ l. Contains l f.0) (sym same) f.1, f.2)
    | inr e ↦ absurd (stands (ap (λ (p : Row). p.status) (sym e) ∙ gone))
  ];
}
one_more rs r old new are (inr (stands, (c, of_row, same))) = record {
  each = λ d h. elim (Contains-push_cases old c d (subst (λ l. Contains l d) same h)) [
    | inl m ↦ let f = are.each d m in (f.0, Contains-append_left rs (r ∷ []) f.0 f.1, f.2, f.3)
    | inr e ↦ (r, Contains-push rs r, stands, subst (λ x. IsOfRow x r) e of_row)
  ];
  all = λ q h standing. elim (Contains-push_cases rs r q h) [
    | inl m ↦ let f = are.all q m standing in (f.0, subst (λ l. Contains l f.0) (sym same) (Contains-append_left old (c ∷ []) f.0 f.1), f.2)
    | inr e ↦ (c, subst (λ l. Contains l c) (sym same) (Contains-push old c), subst (IsOfRow c) e of_row)
  ];
}

pub contenders_more : (rows : List MadeRow) (k : ℕ) (row : MadeRow) (old new : List Contender) → k < length rows → row ≡ get_or rows k row → Adds (row_seen row) old new → AreContenders (map row_seen (take k rows)) old
    → AreContenders (map row_seen (take (k + 1) rows)) new
contenders_more rows k row old new h at adds are =
    subst (λ l. AreContenders l new)
    (sym (map_push row_seen (take k rows) row) ∙ (λ j. map row_seen (take k rows ++ at j ∷ [])) ∙ ap (map row_seen) (sym (take_more rows k row h)))
    (one_more (map row_seen (take k rows)) (row_seen row) old new are adds)

pub all_contenders : (rows : List MadeRow) (k : ℕ) (made sorted : List Contender) → length rows ≤ k → IsPermutation made sorted → AreContenders (map row_seen (take k rows)) made → AreContenders (map row_seen rows) sorted
all_contenders rows k made sorted h p are =
    let all : AreContenders (map row_seen rows) made = subst (λ l. AreContenders (map row_seen l) made) (take_all k rows h) are in
    record {
      each = λ c m. all.each c (Contains-permutation sorted made c (IsPermutation-sym made sorted p) m);
      all = λ r m s. let f = all.all r m s in (f.0, Contains-permutation made sorted f.0 p f.1, f.2);
    }

-- ---- the conflicts of the entries are those of the rows

module _ (rs : List Row) (cs : List Contender) (ks : List Contested) (are : AreContenders rs cs) (tells : Tells cs ks) where
  keyed : (c : Contender) (r : Row) → IsOfRow c r → HasKey r.definition (key_of c)
  keyed c r i = (c.key, i.keyed, refl)

  in_rows : (k : KeyBytes) → Differ cs k → IsInConflict HasKey rs k
  in_rows k d =
      let a = are.each d.one d.has_one in
      let b = are.each d.other d.has_other in
      record {
        one = a.0;
        other = b.0;
        has_one = a.1;
        has_other = b.1;
        one_stands = a.2;
        other_stands = b.2;
        key_of_one = subst (HasKey a.0.definition) d.key_of_one (keyed d.one a.0 a.3);
        key_of_other = subst (HasKey b.0.definition) d.key_of_other (keyed d.other b.0 b.3);
        differ = λ e. d.differ (a.3.definition ∙ e ∙ sym b.3.definition);
      }

  from_rows : (k : KeyBytes) → IsInConflict HasKey rs k → Differ cs k
  from_rows k c =
      let a = are.all c.one c.has_one c.one_stands in
      let b = are.all c.other c.has_other c.other_stands in
      record {
        one = a.0;
        other = b.0;
        has_one = a.1;
        has_other = b.1;
        key_of_one = one_key c.one.definition (key_of a.0) k (keyed a.0 c.one a.2) c.key_of_one;
        key_of_other = one_key c.other.definition (key_of b.0) k (keyed b.0 c.other b.2) c.key_of_other;
        differ = λ e. c.differ (sym a.2.definition ∙ e ∙ b.2.definition);
      }

  stands_in : (k : KeyBytes) (i : Id) → Enters cs k i → Stands rs k i
  stands_in k i e =
      let a = are.each e.one e.has_one in
      record {
        row = a.0;
        there = a.1;
        is = sym a.3.entry ∙ e.is;
        stands = a.2;
        keyed = subst (HasKey a.0.definition) e.key_of_one (keyed e.one a.0 a.3);
      }

  enters_in : (k : KeyBytes) (i : Id) → Stands rs k i → Enters cs k i
  enters_in k i s =
      let a = are.all s.row s.there s.stands in
      record {
        one = a.0;
        has_one = a.1;
        key_of_one = one_key s.row.definition (key_of a.0) k (keyed a.0 s.row a.2) s.keyed;
        is = a.2.entry ∙ s.is;
      }

  pub conflicts_are : AreConflicts rs ks
  conflicts_are = record {
    ascend = tells.ascend;
    each = λ k. (
      λ h. let f = from_map (λ (c : Contested). c.key) ks k h in in_rows k (subst (Differ cs) (sym f.2) (tells.sound f.0 f.1)),
      λ c. tells.complete k (from_rows k c),
    );
    entries = λ c h.
        let e = tells.entries c h in
        (e.0, e.1, λ i. (λ m. stands_in c.key i ((e.2 i).0 m), λ s. (e.2 i).1 (enters_in c.key i s)));
  }
