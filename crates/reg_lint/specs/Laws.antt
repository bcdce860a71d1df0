-- What the rows of a content depend on: the texts of its entries that are not retired, and nothing else.
use Rattle.std.specs.Prelude.{◌≡◌, ◌↔◌, true, false, not, ℕ, List, map, filter, Contains, IsPermutation, IsSome}
use Rattle.crs_part.specs.Slots.{ids_of}
use Rattle.crs_value.specs.declared.crs.Crs.{Crs}
use Rattle.crs_sense.specs.declared.rule.Rule.{Rule}
use Rattle.crs_sense.specs.Rules.{breaks}
use Rattle.wkt_crs.specs.Definition.{IsCrsOf}
use Rattle.reg_op.specs.Contents.{Content}
use Rattle.reg_op.specs.Rows.{Row, rows}
use Rattle.reg_lint.specs.Subjects.{Subject}
use Rattle.reg_lint.specs.declared.rule.AnyRule.{AnyRule}
use Rattle.reg_lint.specs.Details.{detail_of}
use Rattle.reg_lint.specs.Subjects.{is_retired, authority_of, code_of}

-- an entry that is not retired has the text
pub record IsLiveText (x : Content) (text : List ℕ) : Type 0 where
  pub row : Row
  pub there : Contains (rows x.ops) row
  pub live : is_retired row.status ≡ false
  pub is : row.definition ≡ text

abbrev pub HaveSameTexts : Content → Content → Type 0
HaveSameTexts x y = (text : List ℕ) → IsLiveText x text ↔ IsLiveText y text

-- the reference system has this key, and breaks the rule
pub record Breaks (rule : Rule) (authority code : List ℕ) (crs : Crs) : Type 0 where
  pub broken : breaks rule crs.parts ≡ true
  pub authority_is : authority_of (ids_of crs.parts) ≡ authority
  pub code_is : code_of (ids_of crs.parts) ≡ code

-- the text of an entry that is not retired spells such a reference system
pub record Tells (x : Content) (rule : Rule) (authority code : List ℕ) : Type 0 where
  pub text : List ℕ
  pub there : IsLiveText x text
  pub crs : Crs
  pub spelled : IsCrsOf crs text
  pub breaks : Breaks rule authority code crs

-- one of what is looked at is such a reference system, so that it has a row
pub record HasRow (ss : List Subject) (rule : Rule) (authority code : List ℕ) : Type 0 where
  pub subject : Subject
  pub there : Contains ss subject
  pub breaks : Breaks rule authority code subject.crs

-- ---- the order of entries

-- the texts of the entries that are not retired, by id
abbrev pub live_texts : Content → List (List ℕ)
live_texts x = map (λ (r : Row). r.definition) (filter (λ (r : Row). not (is_retired r.status)) (rows x.ops))

-- ---- rules over several systems count those who say something

-- the same texts, each as often, in any order
abbrev pub HaveSameTextsAsOften : Content → Content → Type 0
HaveSameTextsAsOften x y = IsPermutation (live_texts x) (live_texts y)

-- one of what is looked at has the key, and a sentence by the rule, so that it has a row
pub record HasRowBy (ss : List Subject) (rule : AnyRule) (authority code : List ℕ) : Type 0 where
  pub subject : Subject
  pub there : Contains ss subject
  pub broken : IsSome (detail_of rule ss subject)
  pub authority_is : authority_of (ids_of subject.crs.parts) ≡ authority
  pub code_is : code_of (ids_of subject.crs.parts) ≡ code
