-- After settling, the keys of kept entries have no conflict; after settling equal texts, each has one entry.
use Rattle.std.proofs.Common.{◌≡◌, ◌≢◌, ◌⊎◌, true, List, [], ap, refl, sym, ◌∙◌, subst, inl, inr}
use Rattle.std.specs.Prelude.{Contains, Some}
use Rattle.std.specs.declared.cmp.Ordering.{Ordering}
use Rattle.std.specs.declared.cmp.Ordering.TheVariants.{Less, Equal, Greater}
use Rattle.std.specs.Ordering.{is_lt, ordering_reverse}
use Rattle.reg_op.specs.Ids.{Id, id_cmp, is_before}
use Rattle.reg_op.specs.Contents.{Content, IsContent}
use Rattle.reg_op.specs.Rows.{Row, rows, IsInConflict}
use Rattle.reg_op.specs.declared.status.Status.TheVariants.{Retired}
use Rattle.reg_op.proofs.OpLemmas.{id_total, id_exact}
use Rattle.reg_disorder.proofs.Rows.{one_row}
use Rattle.reg_report.specs.Conflicts.{KeyBytes, HasKey}
use Rattle.reg_report.proofs.ConflictLemmas.{none_in}
use Rattle.reg_disorder.specs.Settling.{IsSettled}
use Rattle.reg_disorder.specs.Doubles.{IsDouble, AreDoubles}
use Rattle.reg_disorder.proofs.Settled.{picked, covers, Agree, all_agree}
use Rattle.reg_desk.proofs.AfterRetiring.{Leaves, is_retired_after, Comes, comes}

before_cases : (i j : Id) → (is_before i j ≡ true) ⊎ ((i ≡ j) ⊎ (is_before j i ≡ true))
before_cases i j = by (id_cmp i j) refl
  where
    by : (o : Ordering) → id_cmp i j ≡ o → (is_before i j ≡ true) ⊎ ((i ≡ j) ⊎ (is_before j i ≡ true))
    by Less e = inl (ap is_lt e)
    by Equal e = inr (inl (id_exact i j e))
    by Greater e = inr (inr (ap is_lt (id_total.antisymm j i ∙ ap ordering_reverse e)))

module _ (x y : Content) (is : IsContent x) (ids : List Id) (l : Leaves x y ids) where
  abbrev From : Row → Type 0
  From r = Comes x r

  -- a row that is not retired after settling, and has the key of a kept entry, is kept
  kept_after : (keeps : List Id) (keep r : Row) (key : KeyBytes) → IsSettled (rows x.ops) keeps ids → Contains (rows x.ops) keep → Contains keeps keep.entry → HasKey keep.definition key
      → Contains (rows y.ops) r → r.status ≢ Some Retired → HasKey r.definition key → (c : From r) → Contains keeps (c.row).entry
  kept_after keeps keep r key settled there named keyed h stands its c = elim (covers (rows x.ops) keeps keeps [] [] ids (one_row x is) settled keep c.row there named c.there (c.stood stands)
      (record { key = key; of_one = keyed; of_other = subst (λ t. HasKey t key) (sym c.text) its })) [
        | inl kept ↦ kept
        | inr gone ↦ absurd (stands (is_retired_after x y ids l r h (subst (λ i. Contains ids i) c.entry gone)))
      ]

  pub kept_keys : (keeps : List Id) (keep : Row) (key : KeyBytes) → IsSettled (rows x.ops) keeps ids → Contains (rows x.ops) keep → Contains keeps keep.entry → HasKey keep.definition key
      → ¬ (IsInConflict HasKey (rows y.ops) key)
  kept_keys keeps keep key settled there named keyed c =
      let one = comes x y ids l is c.one c.has_one in
      let other = comes x y ids l is c.other c.has_other in
      let none : Agree (rows x.ops) [] = λ a b ca cb na nb e. none_in a.entry na in
      all_agree (rows x.ops) keeps keeps [] [] ids (one_row x is) settled none one.row other.row one.there other.there
      (kept_after keeps keep c.one key settled there named keyed c.has_one c.one_stands c.key_of_one one)
      (kept_after keeps keep c.other key settled there named keyed c.has_other c.other_stands c.key_of_other other)
      (record {
        shares = record { key = key; of_one = subst (λ t. HasKey t key) (sym one.text) c.key_of_one; of_other = subst (λ t. HasKey t key) (sym other.text) c.key_of_other };
        differ = λ e. c.differ (sym one.text ∙ (e ∙ other.text));
      })

  -- of two rows that are not retired after settling and have one text, neither entry is less than the other
  none_before : AreDoubles (rows x.ops) ids → (a b : Row) → Contains (rows y.ops) a → Contains (rows y.ops) b → a.status ≢ Some Retired → b.status ≢ Some Retired → a.definition ≡ b.definition
      → is_before a.entry b.entry ≡ true → ⊥
  none_before doubles a b ha hb sa sb same before =
      let one = comes x y ids l is a ha in
      let other = comes x y ids l is b hb in
      let first : is_before (one.row).entry (other.row).entry ≡ true =
      subst (λ i. is_before i (other.row).entry ≡ true) (sym one.entry) (subst (λ i. is_before a.entry i ≡ true) (sym other.entry) before) in
      let double : IsDouble (rows x.ops) other.row = record {
        stands = other.stood sb;
        lesser = record { lesser = one.row; there = one.there; is = record { stands = one.stood sa; text = one.text ∙ (same ∙ sym other.text); before = first } };
      } in
      let gone : Contains ids b.entry = subst (λ i. Contains ids i) other.entry (picked (IsDouble (rows x.ops)) (rows x.ops) ids other.row doubles other.there double) in
      sb (is_retired_after x y ids l b hb gone)

  pub one_entry : AreDoubles (rows x.ops) ids → (a b : Row) → Contains (rows y.ops) a → Contains (rows y.ops) b → a.status ≢ Some Retired → b.status ≢ Some Retired → a.definition ≡ b.definition → a.entry ≡ b.entry
  one_entry doubles a b ha hb sa sb same = elim (before_cases a.entry b.entry) [
    | inl less ↦ absurd (none_before doubles a b ha hb sa sb same less)
    | inr more ↦ elim more [
      | inl equal ↦ equal
      | inr greater ↦ absurd (none_before doubles b a hb ha sb sa (sym same) greater)
    ]
  ]
