-- What most claim, and who claims otherwise.
use Rattle.std.specs.Prelude.{ℕ, zero, suc, Bool, false, List, [], ◌∷◌, ◌++◌, length, map, filter, flat_map, Option, Some, None, codes, decimal, if◌then◌else◌}
use Rattle.std.specs.List.{list_any}
use Rattle.std.specs.Str.{bytes_eq}
use Rattle.std.specs.Ordering.{nat_cmp, is_lt, ordering_then}
use Rattle.std.specs.Cmp.Lexicographic.{slice_cmp}
use Rattle.std.specs.declared.cmp.Ordering.{Ordering}
use Rattle.crs_said.specs.Claims.{Said}
use Rattle.reg_sense.specs.Claimants.{Voice, key_text, is_about, is_claim, first_told}
use Rattle.reg_sense.specs.Least.{least}

-- those who claim the content for the word, and how many they are
abbrev pub claiming : List ℕ → List ℕ → List Voice → List Voice
claiming w c vs = filter (λ (v : Voice). list_any (is_claim w c) v.claims) vs

abbrev pub count : List ℕ → List ℕ → List Voice → ℕ
count w c vs = length (claiming w c vs)

-- the contents that are claimed for the word
abbrev pub contents : List ℕ → List Said → List (List ℕ)
contents w xs = map (λ (x : Said). x.content) (filter (is_about w) xs)

-- contents by how many claim them, the most first, and then by bytes
abbrev pub most_cmp : List Voice → List ℕ → List ℕ → List ℕ → Ordering
most_cmp vs w c d = ordering_then (nat_cmp (count w d vs) (count w c vs)) (slice_cmp nat_cmp c d)

abbrev pub is_more : List Voice → List ℕ → List ℕ → List ℕ → Bool
is_more vs w c d = is_lt (most_cmp vs w c d)

abbrev pub all_claims : List Voice → List Said
all_claims vs = flat_map (λ (v : Voice). v.claims) vs

-- the content that most claim for the word; of several, the least
abbrev pub most : List Voice → List ℕ → Option (List ℕ)
most vs w = least (is_more vs w) (contents w (all_claims vs))

-- it, if it is another content than this one
abbrev pub otherwise : Option (List ℕ) → List ℕ → Option (List ℕ)
otherwise None c = None
otherwise (Some m) c = if bytes_eq m c then None else Some m

-- it is this content
abbrev pub is_content : Option (List ℕ) → List ℕ → Bool
is_content None c = false
is_content (Some m) c = bytes_eq m c

-- how many more than the first
abbrev pub more_told : ℕ → List ℕ
more_told zero = []
more_told (suc n) = codes " and " ++ decimal (suc n) ++ codes " more"

-- the first, and how many more
abbrev pub those_told : List Voice → List ℕ
those_told [] = []
those_told (v ∷ vs) = key_text v ++ more_told (length vs)

-- what is claimed, and who claims this content
abbrev pub against : List Voice → Said → List ℕ → List ℕ
against vs x m = x.said ++ (codes " in " ++ those_told (claiming x.word m vs))

abbrev pub against_maybe : List Voice → Said → Option (List ℕ) → Option (List ℕ)
against_maybe vs x None = None
against_maybe vs x (Some m) = Some (against vs x m)

-- a claim where most claim another content for the word
abbrev pub odd_told : List Voice → Said → Option (List ℕ)
odd_told vs x = against_maybe vs x (otherwise (most vs x.word) x.content)

-- the first such claim of one
abbrev pub told_against : List Voice → Voice → Option (List ℕ)
told_against vs v = first_told (odd_told vs) v.claims
