-- Records that are read one after another.
use Rattle.std.proofs.Common.{Bor, List, ℕ, ◌≡◌, ◌++◌, ◌∷◌, [], refl, sym, ap, subst, ◌∙◌, inl, Some, None}
use Rattle.std.specs.declared.result.Result.TheVariants.{Ok}
use Rattle.csv.specs.Machine.{Read, next_record}
use Rattle.csv.specs.Reading.{Reached, AreRecords, RowStep, default_config, strip_bom}
use Rattle.csv.specs.Records.{Row, fields_of}
use Rattle.csv.specs.declared.iter.ByteRecordsIntoIter.{ByteRecordsIntoIter}
use Rattle.csv.specs.declared.parser.Config.{Config}
use Rattle.csv.specs.declared.parser.State.{State}
use Rattle.csv.specs.declared.parser.State.TheVariants as st
use Rattle.csv.proofs.ReadFacts.{rows-end, rows-more}
use Rattle.csv_table.specs.Records.{HasRead}

module _ (text : List ℕ) (records : List (List (List ℕ))) (a b : ByteRecordsIntoIter (Bor (List ℕ))) (has : HasRead text records a) where
  -- one more record is read
  pub read_more : (x : Row) → RowStep (λ (s : Bor (List ℕ)). Some s.now) a.rdr b.rdr b.left (Some (Ok x)) → HasRead text (records ++ fields_of x ∷ []) b
  read_more x s =
      let m = rows-more (λ (s : Bor (List ℕ)). Some s.now) a.rdr b.rdr (fields_of x) default_config st.StartRecord (strip_bom text) has.4 records has.3 has.5 has.6 s.0 in
      (s.0.3 ∙ has.0, inl s.1, s.2, s.0.2 ∙ has.3, m.0, m.1, m.2)

  -- none is left
  pub read_all_of : RowStep (λ (s : Bor (List ℕ)). Some s.now) a.rdr b.rdr b.left None → AreRecords default_config st.StartRecord (strip_bom text) records
  read_all_of s = (a.rdr.state, has.4, has.6, rows-end (λ (s : Bor (List ℕ)). Some s.now) a.rdr b.rdr [] default_config has.4 has.3 has.5 s)

-- ---- a text has its records once

one_next : (c : Config) (s : State) (xs : List ℕ) (p q : Read) → next_record c s [] [] xs ≡ Some p → next_record c s [] [] xs ≡ Some q → p ≡ q
one_next c s xs p q e f = cc (e, f)

no_next : (c : Config) (s t : State) (xs ys : List ℕ) (p : Read) → s ≡ t → xs ≡ ys → next_record c t [] [] ys ≡ None → next_record c s [] [] xs ≡ Some p → ⊥
no_next c s t xs ys p a b n e = cc (a, b, n, e)

one_reading : (c : Config) (xs ys : List (List (List ℕ))) (s s1 s2 : State) (b b1 b2 : List ℕ) → Reached c s b xs s1 b1 → next_record c s1 [] [] b1 ≡ None
    → Reached c s b ys s2 b2 → next_record c s2 [] [] b2 ≡ None → xs ≡ ys
unfolding Reached
one_reading c [] [] s s1 s2 b b1 b2 r n t m = refl
one_reading c [] (y ∷ ys) s s1 s2 b b1 b2 (e, f) n (p, g, h, t) m = absurd (no_next c s s1 b b1 p e f n g)
one_reading c (x ∷ xs) [] s s1 s2 b b1 b2 (p, g, h, r) n (e, f) m = absurd (no_next c s s2 b b2 p e f m g)
one_reading c (x ∷ xs) (y ∷ ys) s s1 s2 b b1 b2 (p, g, h, r) n (q, k, l, t) m =
    let same : q ≡ p = one_next c s b q p k g in
    let rest : xs ≡ ys = one_reading c xs ys p.1 s1 s2 p.2 b1 b2 r n (subst (λ (w : Read). Reached c w.1 w.2 ys s2 b2) same t) m in
    let first : x ≡ y = h ∙ ap (λ (w : Read). w.0) (sym same) ∙ sym l in
    ap (λ (z : List (List ℕ)). z ∷ xs) first ∙ ap (λ (zs : List (List (List ℕ))). y ∷ zs) rest

pub one_list : (text : List ℕ) (xs ys : List (List (List ℕ))) → AreRecords default_config st.StartRecord (strip_bom text) xs → AreRecords default_config st.StartRecord (strip_bom text) ys → xs ≡ ys
one_list text xs ys (s1, b1, r, n) (s2, b2, t, m) = one_reading default_config xs ys st.StartRecord s1 s2 (strip_bom text) b1 b2 r n t m
