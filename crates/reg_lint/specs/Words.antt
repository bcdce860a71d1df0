-- Words for which more than one content is claimed.
use Rattle.std.specs.Prelude.{◌≡◌, false, ◌||◌, ℕ, Bool, List, Option, Some, None, if◌then◌else◌}
use Rattle.std.specs.Global.{Vec}
use Rattle.std.specs.BTreeMap.{BTreeMap, get_by}
use Rattle.std.specs.BTreeSet.{contains_by}
use Rattle.std.specs.Cmp.Lexicographic.{slice_cmp}
use Rattle.std.specs.List.{list_any}
use Rattle.std.specs.Ordering.{nat_cmp}
use Rattle.std.specs.Str.{bytes_eq}
use Rattle.crs_said.specs.Claims.{Said}
use Rattle.reg_sense.specs.Claimants.{is_about}
use Rattle.reg_sense.specs.Others.{is_other}
use Rattle.reg_lint.specs.Known.{is_same}
use Rattle.reg_lint.specs.declared.words.Words.{Words}
use Rattle.reg_lint.specs.declared.words.Standing.{Standing}
use Rattle.reg_lint.specs.declared.words.Standing.TheVariants as standing

-- the content that was claimed first for the word
abbrev pub first_content : BTreeMap (Vec ℕ) (Vec ℕ) → List ℕ → Option (Vec ℕ)
first_content firsts w = get_by (λ (k : Vec ℕ). slice_cmp nat_cmp w k.items) firsts

abbrev pub is_disputed : Words → List ℕ → Bool
is_disputed words w = contains_by (λ (k : Vec ℕ). slice_cmp nat_cmp w k.items) words.disputed

-- what a claim of this content is beside the first one
abbrev pub beside : Option (Vec ℕ) → List ℕ → Standing
beside None c = standing.First
beside (Some d) c = if bytes_eq d.items c then standing.Same else standing.Other

-- what is first for a word after one more
abbrev pub first_put : List ℕ → List ℕ → Vec ℕ → Option (Vec ℕ) → Option (Vec ℕ)
first_put w word content old = if is_same w word then Some content else old

abbrev pub PutsFirst : Said → Words → Words → Type 0
PutsFirst x old new = (c : Vec ℕ) × (c.items ≡ x.content) × (new.disputed ≡ old.disputed) × ((w : List ℕ) → first_content new.firsts w ≡ first_put w x.word c (first_content old.firsts w))

abbrev pub PutsDisputed : List ℕ → Words → Words → Type 0
PutsDisputed word old new = (new.firsts ≡ old.firsts) × ((w : List ℕ) → is_disputed new w ≡ (is_same w word || is_disputed old w))

-- these claims have no word but this content, the first one; or they do not have the word
abbrev pub Fits : List ℕ → List Said → Option (Vec ℕ) → Type 0
Fits w xs None = list_any (is_about w) xs ≡ false
Fits w xs (Some c) = list_any (is_other w c.items) xs ≡ false

-- these claims were heard: a word that is not disputed has one content in all of them
abbrev pub HaveHeard : Words → List Said → Type 0
HaveHeard words xs = (w : List ℕ) → is_disputed words w ≡ false → Fits w xs (first_content words.firsts w)

-- all these claims about the word have one content
abbrev pub Agree : List Said → List ℕ → Type 0
Agree xs w = (c : List ℕ) × (list_any (is_other w c) xs ≡ false)
