-- For each word and content, how many claim it; and for each word what most claim.
use Rattle.std.specs.Prelude.{◌≡◌, ◌+◌, ◌<◌, ◌^◌, ◌==◌, ℕ, suc, false, List, [], ◌∷◌, Option, Some, None, if◌then◌else◌}
use Rattle.std.specs.List.{list_any}
use Rattle.std.specs.Borrow.{Bor}
use Rattle.std.specs.BTreeMap.{BTreeMap, get}
use Rattle.std.specs.Ordering.{nat_cmp, ordering_then, is_eq}
use Rattle.std.specs.Cmp.Lexicographic.{slice_cmp}
use Rattle.std.specs.declared.cmp.Ordering.{Ordering}
use Rattle.crs_said.specs.Claims.{Said}
use Rattle.reg_sense.specs.declared.tally.WordAndContent.{WordAndContent}
use Rattle.reg_sense.specs.declared.tally.ClaimTally.{ClaimTally}
use Rattle.reg_sense.specs.Claimants.{Voice, voice, is_claim}
use Rattle.reg_sense.specs.Least.{least}
use Rattle.reg_sense.specs.Most.{count, contents, is_more}

-- the first who claims something, its place, and how many claim it
pub record Counted : Type 0 where
  pub first : Voice
  pub place : ℕ
  pub count : ℕ

abbrev pub counted : Option ClaimTally → Option Counted
counted None = None
counted (Some t) = Some (record { first = voice t.first.now; place = t.place; count = t.count })

-- one at this place claims it, before these others
abbrev pub with_first : List ℕ → List ℕ → ℕ → Voice → List Voice → Counted
with_first w c i v vs = record { first = v; place = i; count = suc (count w c vs) }

-- the same of some, whose places begin at this number
abbrev pub tally : List ℕ → List ℕ → ℕ → List Voice → Option Counted
tally w c i [] = None
tally w c i (v ∷ vs) = if list_any (is_claim w c) v.claims then Some (with_first w c i v vs) else tally w c (suc i) vs

-- the tally after one more, at this place, who may be in it already
abbrev pub with_one : ℕ → Voice → Option Counted → Counted
with_one i v None = record { first = v; place = i; count = 1 }
with_one i v (Some t) = if t.place == i then t else record { first = v; place = i; count = suc t.count }

-- a number holds one more, if it is another's
abbrev pub IsRoomy : ℕ → Option Counted → Type 0
IsRoomy i None = Unit {0}
IsRoomy i (Some t) = (t.place == i) ≡ false → t.count + 1 < 2 ^ 64

abbrev pub pair_cmp : WordAndContent → WordAndContent → Ordering
pair_cmp a b = ordering_then (slice_cmp nat_cmp a.word.now b.word.now) (slice_cmp nat_cmp a.content.now b.content.now)

abbrev pub Tallies : Type 0
Tallies = BTreeMap WordAndContent ClaimTally

-- the new map has the tally at the pair, and what the old one has elsewhere
abbrev pub HasPut : WordAndContent → ClaimTally → Tallies → Tallies → Type 0
HasPut own made old new = (q : WordAndContent) → get pair_cmp new q ≡ (if is_eq (pair_cmp own q) then Some made else get pair_cmp old q)

-- the map has these tallies
abbrev pub HasTallies : Tallies → ℕ → List Voice → Type 0
HasTallies m i vs = (q : WordAndContent) → counted (get pair_cmp m q) ≡ tally q.word.now q.content.now i vs

-- the same where one before them has claimed so much
abbrev pub HasPart : Tallies → ℕ → Voice → List Said → List Voice → Type 0
HasPart m i v done vs = (q : WordAndContent) → counted (get pair_cmp m q) ≡ (if list_any (is_claim q.word.now q.content.now) done then Some (with_first q.word.now q.content.now i v vs) else tally q.word.now q.content.now (suc i) vs)

-- ---- what most claim

abbrev pub bytes_cmp : Bor (List ℕ) → Bor (List ℕ) → Ordering
bytes_cmp a b = slice_cmp nat_cmp a.now b.now

abbrev pub seen_in : Option (Bor (List ℕ)) → Option (List ℕ)
seen_in None = None
seen_in (Some text) = Some text.now

-- the map has for each word the content that most claim, among these claims
abbrev pub HasMost : List Voice → BTreeMap (Bor (List ℕ)) (Bor (List ℕ)) → List Said → Type 0
HasMost vs m xs = (q : Bor (List ℕ)) → seen_in (get bytes_cmp m q) ≡ least (is_more vs q.now) (contents q.now xs)
