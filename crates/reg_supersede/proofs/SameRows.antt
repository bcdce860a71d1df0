-- Rows of the same entries, of which the same are retired: words stand for the same entries in both.
use Rattle.std.proofs.Common.{◌≡◌, ◌≢◌, ℕ, ◌+◌, true, false, List, [], ◌∷◌, refl, sym, ◌∙◌, subst, inl, inr}
use Rattle.std.specs.Prelude.{Contains, Some}
use Rattle.reg_op.specs.Ids.{Id, is_before}
use Rattle.reg_op.specs.Rows.{Row}
use Rattle.reg_op.specs.declared.status.Status.TheVariants.{Retired}
use Rattle.reg_report.specs.Conflicts.{KeyBytes, HasKey}
use Rattle.reg_keys.specs.declared.fault.KeyFault.{KeyFault}
use Rattle.reg_keys.specs.declared.fault.KeyFault.TheVariants.{NoEntry, Several, Memory}
use Rattle.reg_keys.specs.Words.{NamesKey}
use Rattle.reg_keys.specs.Named.{Answers, IsEntry, AreEntries, AllHave, IsLeast, StandsFor, IsOther, IsObjection}
use Rattle.reg_keys.specs.Every.{StandsForEvery, StandForEach, FailsAt}

-- the row r is among these too, but perhaps with another status; it is not retired there, unless it is here
pub record IsThere (qs : List Row) (r : Row) : Type 0 where
  pub row : Row
  pub there : Contains qs row
  pub entry : row.entry ≡ r.entry
  pub definition : row.definition ≡ r.definition
  pub stands : r.status ≢ Some Retired → row.status ≢ Some Retired

pub record AreSame (rs qs : List Row) : Type 0 where
  pub to : (r : Row) → Contains rs r → IsThere qs r
  pub from : (q : Row) → Contains qs q → IsThere rs q

pub same_back : (rs qs : List Row) → AreSame rs qs → AreSame qs rs
same_back rs qs s = record { to = s.from; from = s.to }

pub same_chain : (rs qs ps : List Row) → AreSame rs qs → AreSame qs ps → AreSame rs ps
same_chain rs qs ps s t = record { to = through rs qs ps s.to t.to; from = through ps qs rs t.from s.from }
  where
    through : (ls bs cs : List Row) → ((a : Row) → Contains ls a → IsThere bs a) → ((b : Row) → Contains bs b → IsThere cs b) → (a : Row) → Contains ls a → IsThere cs a
    through ls bs cs f g a h =
        let b = f a h in
        let c = g b.row b.there in
        record { row = c.row; there = c.there; entry = c.entry ∙ b.entry; definition = c.definition ∙ b.definition; stands = λ up. c.stands (b.stands up) }

pub same_itself : (rs : List Row) → AreSame rs rs
same_itself rs = record { to = itself; from = itself }
  where
    itself : (r : Row) → Contains rs r → IsThere rs r
    itself r h = record { row = r; there = h; entry = refl; definition = refl; stands = λ up. up }

-- ---- one word

module _ (word : List ℕ) where
  answers_too : (r q : Row) → q.definition ≡ r.definition → (r.status ≢ Some Retired → q.status ≢ Some Retired) → Answers word r → Answers word q
  answers_too r q e f a = (subst (λ (d : List ℕ). (k : KeyBytes) × NamesKey word k × HasKey d k) (sym e) a.0, f a.1)

  answers_there : (qs : List Row) (r : Row) (t : IsThere qs r) → Answers word r → Answers word t.row
  answers_there qs r t a = answers_too r t.row t.definition t.stands a

  module _ (rs qs : List Row) (same : AreSame rs qs) where
    entry_too : (e : Id) → IsEntry (Answers word) rs e → IsEntry (Answers word) qs e
    entry_too e (r, h, a, is) = let t = same.to r h in (t.row, t.there, answers_there qs r t a, t.entry ∙ is)

    entry_back : (e : Id) → IsEntry (Answers word) qs e → IsEntry (Answers word) rs e
    entry_back e (q, h, a, is) = let t = same.from q h in (t.row, t.there, answers_there rs q t a, t.entry ∙ is)

    entries_too : (es : List Id) → AreEntries (Answers word) rs es → AreEntries (Answers word) qs es
    entries_too es are = record { ascend = are.ascend; each = λ e. (λ h. entry_too e ((are.each e).0 h), λ h. (are.each e).1 (entry_back e h)) }

    least_too : (least : Row) → IsLeast rs word least → (t : IsThere qs least) → IsLeast qs word t.row
    least_too least is t = record {
      there = t.there;
      answers = answers_there qs least t is.answers;
      first = λ q h a.
          let p = same.from q h in
          subst (λ (i : Id). is_before i t.row.entry ≡ false) p.entry
          (subst (λ (i : Id). is_before p.row.entry i ≡ false) (sym t.entry) (is.first p.row p.there (answers_there rs q p a)));
    }

    have_too : (text : List ℕ) → AllHave text rs word → AllHave text qs word
    have_too text all q h a = let p = same.from q h in sym p.definition ∙ all p.row p.there (answers_there rs q p a)

    all_too : (least : Row) (t : IsThere qs least) → AllHave least.definition rs word → AllHave t.row.definition qs word
    all_too least t all = have_too t.row.definition (subst (λ (d : List ℕ). AllHave d rs word) (sym t.definition) all)

    pub stands_too : (e : Id) → StandsFor rs word e → StandsFor qs word e
    stands_too e (inl h) = inl h
    stands_too e (inr (free, (least, is, at, all))) =
        let t = same.to least is.there in
        inr (free, (t.row, least_too least is t, t.entry ∙ at, all_too least t all))

    pub every_too : (es : List Id) → StandsForEvery rs word es → StandsForEvery qs word es
    every_too es (inl h) = inl h
    every_too es (inr ((free, are), (least, is, all))) =
        let t = same.to least is.there in
        inr ((free, entries_too es are), (t.row, least_too least is t, all_too least t all))

    other_too : (second : Id) → IsOther rs word second → IsOther qs word second
    other_too second o =
        let t = same.to o.least o.is_least.there in
        let u = same.to o.other o.there in
        record {
          least = t.row;
          is_least = least_too o.least o.is_least t;
          other = u.row;
          there = u.there;
          answers = answers_there qs o.other u o.answers;
          is = u.entry ∙ o.is;
          differs = λ e. o.differs (sym u.definition ∙ e ∙ t.definition);
          first = λ q h a b.
              let p = same.from q h in
              sym p.definition ∙ o.first p.row p.there (answers_there rs q p a) (subst (λ (i : Id). is_before i second ≡ true) (sym p.entry) b) ∙ sym t.definition;
        }

    pub objects_too : (f : KeyFault) → IsObjection rs word f → IsObjection qs word f
    objects_too NoEntry (free, none) = (free, λ q h a. let p = same.from q h in none p.row p.there (answers_there rs q p a))
    objects_too (Several second) (free, o) = (free, other_too second o)
    objects_too Memory u = tt

-- ---- some words

module _ (rs qs : List Row) (same : AreSame rs qs) where
  pub each_too : (words : List (List ℕ)) (es : List Id) → StandForEach rs words es → StandForEach qs words es
  each_too [] es h = h
  each_too (w ∷ ws) es (e, later, s, l, is) = (e, later, stands_too w rs qs same e s, each_too ws later l, is)

  pub fails_too : (n : ℕ) (words : List (List ℕ)) (k : ℕ) (f : KeyFault) → FailsAt rs n words k f → FailsAt qs n words k f
  fails_too n [] k f h = h
  fails_too n (w ∷ ws) k f (inl (at, o)) = inl (at, objects_too w rs qs same f o)
  fails_too n (w ∷ ws) k f (inr (e, s, o)) = inr (e, stands_too w rs qs same e s, fails_too (n + 1) ws k f o)
