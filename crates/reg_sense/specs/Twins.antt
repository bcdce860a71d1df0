-- Those who say the same as another.
use Rattle.std.specs.Prelude.{◌≡◌, ℕ, List, ◌∷◌, ◌++◌, filter, Option, Some, None, codes, if◌then◌else◌}
use Rattle.std.specs.Borrow.{Bor}
use Rattle.std.specs.BTreeMap.{BTreeMap, get}
use Rattle.std.specs.List.{list_any}
use Rattle.crs_said.specs.Claims.{Said}
use Rattle.text_hidden.specs.Short.{short}
use Rattle.reg_sense.specs.declared.claimant.Claimant.{Claimant}
use Rattle.reg_sense.specs.Claimants.{Voice, voice, key_text, is_about, first_told}
use Rattle.reg_sense.specs.Keys.{is_before, has_same_key}
use Rattle.reg_sense.specs.Least.{least}
use Rattle.reg_sense.specs.Tallies.{bytes_cmp}

-- those who claim something for the word
abbrev pub saying : List ℕ → List Voice → List Voice
saying w vs = filter (λ (v : Voice). list_any (is_about w) v.claims) vs

-- of these the one of the least key; of several of that key, the first
abbrev pub first_of : List Voice → List ℕ → Option Voice
first_of vs w = least is_before (saying w vs)

abbrev pub twin_text : Voice → List ℕ
twin_text t = codes "says the same as " ++ key_text t ++ codes " \"" ++ short t.name ++ codes "\" but for names"

abbrev pub twin_maybe : Voice → Option Voice → Option (List ℕ)
twin_maybe v None = None
twin_maybe v (Some t) = if has_same_key t v then None else Some (twin_text t)

-- another of a lesser key claims the word too
abbrev pub twin_told : List Voice → Voice → Said → Option (List ℕ)
twin_told vs v x = twin_maybe v (first_of vs x.word)

-- for the first such word of one
abbrev pub told_twin : List Voice → Voice → Option (List ℕ)
told_twin vs v = first_told (twin_told vs v) v.claims

-- ---- maps

abbrev pub voice_in : Option (Bor Claimant) → Option Voice
voice_in None = None
voice_in (Some c) = Some (voice c.now)

abbrev pub Firsts : Type 0
Firsts = BTreeMap (Bor (List ℕ)) (Bor Claimant)

-- the map has for each word the one of the least key
abbrev pub HasFirsts : Firsts → List Voice → Type 0
HasFirsts m vs = (q : Bor (List ℕ)) → voice_in (get bytes_cmp m q) ≡ first_of vs q.now

-- the same where one before them has claimed so much
abbrev pub HasPart : Firsts → Voice → List Said → List Voice → Type 0
HasPart m v done vs = (q : Bor (List ℕ)) → voice_in (get bytes_cmp m q) ≡ least is_before (if list_any (is_about q.now) done then v ∷ saying q.now vs else saying q.now vs)
