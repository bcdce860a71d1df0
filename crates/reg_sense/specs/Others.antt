-- Those who have the name of another, and say another thing.
use Rattle.std.specs.Prelude.{◌≡◌, ℕ, Bool, ◌&&◌, not, List, ◌++◌, Option, Some, None, codes, if◌then◌else◌}
use Rattle.std.specs.Borrow.{Bor}
use Rattle.std.specs.BTreeMap.{BTreeMap, get}
use Rattle.std.specs.List.{find, list_any}
use Rattle.std.specs.Str.{bytes_eq}
use Rattle.crs_said.specs.Claims.{Said}
use Rattle.reg_sense.specs.declared.others.Sides.{Sides}
use Rattle.reg_sense.specs.Claimants.{Voice, voice, key_text, is_about, first_told}
use Rattle.reg_sense.specs.Tallies.{bytes_cmp}
use Rattle.reg_sense.specs.Twins.{voice_in}

-- it claims another content for the word
abbrev pub is_other : List ℕ → List ℕ → Said → Bool
is_other w c x = is_about w x && not (bytes_eq x.content c)

-- the first who claims another content for the word
abbrev pub first_other : List Voice → List ℕ → List ℕ → Option Voice
first_other vs w c = find (λ (v : Voice). list_any (is_other w c) v.claims) vs

abbrev pub other_text : Voice → List ℕ
other_text t = codes "has the name of " ++ key_text t ++ codes ", and says another thing"

abbrev pub other_maybe : Option Voice → Option (List ℕ)
other_maybe None = None
other_maybe (Some t) = Some (other_text t)

-- another content is claimed for the word too
abbrev pub other_told : List Voice → Said → Option (List ℕ)
other_told vs x = other_maybe (first_other vs x.word x.content)

-- for the first such word of one
abbrev pub told_other : List Voice → Voice → Option (List ℕ)
told_other vs v = first_told (other_told vs) v.claims

-- ---- maps

-- of two sides, the first who claims another content than this one
abbrev pub apart : List ℕ → Option Sides → Option Voice
apart c None = None
apart c (Some s) = if bytes_eq s.content.now c then voice_in s.other else Some (voice s.first.now)

abbrev pub AllSides : Type 0
AllSides = BTreeMap (Bor (List ℕ)) Sides

-- the map has for each word and content the first who claims another content
abbrev pub HasSides : AllSides → List Voice → Type 0
HasSides m vs = (q : Bor (List ℕ)) (c : List ℕ) → apart c (get bytes_cmp m q) ≡ first_other vs q.now c

-- the same where one before them has claimed so much
abbrev pub HasPart : AllSides → Voice → List Said → List Voice → Type 0
HasPart m v done vs = (q : Bor (List ℕ)) (c : List ℕ) → apart c (get bytes_cmp m q) ≡ (if list_any (is_other q.now c) done then Some v else first_other vs q.now c)
