-- Those who claim: reference systems, each with its key, its name and what it says.
use Rattle.std.specs.Prelude.{ℕ, Bool, ◌&&◌, List, [], ◌∷◌, ◌++◌, map, Option, Some, None}
use Rattle.std.specs.Global.{Vec}
use Rattle.std.specs.Option.{option_or}
use Rattle.std.specs.Str.{bytes_eq}
use Rattle.crs_said.specs.Claims.{Said, claim_seen}
use Rattle.text_hidden.specs.Short.{short}
use Rattle.reg_sense.specs.declared.claimant.Claimant.{Claimant}

pub record Voice : Type 0 where
  pub authority : List ℕ
  pub code : List ℕ
  pub name : List ℕ
  pub claims : List Said

abbrev pub voice : Claimant → Voice
voice c = record { authority = c.authority.items; code = c.code.items; name = c.name.items; claims = map claim_seen c.claims.items }

-- the first characters of the authority, a colon, and those of the code
abbrev pub key_text : Voice → List ℕ
key_text v = short v.authority ++ (58 ∷ short v.code)

-- the claim is about this word
abbrev pub is_about : List ℕ → Said → Bool
is_about w x = bytes_eq x.word w

-- it claims this content for the word
abbrev pub is_claim : List ℕ → List ℕ → Said → Bool
is_claim w c x = is_about w x && bytes_eq x.content c

-- ---- sentences

abbrev pub detail_seen : Option (Vec ℕ) → Option (List ℕ)
detail_seen None = None
detail_seen (Some text) = Some text.items

-- the first sentence there is
abbrev pub first_told : (Said → Option (List ℕ)) → List Said → Option (List ℕ)
first_told told [] = None
first_told told (x ∷ xs) = option_or (told x) (first_told told xs)
