-- What a rule over several systems depends on.
use Rattle.std.specs.Prelude.{◌≡◌, ℕ, List}
use Rattle.reg_sense.specs.Names.{is_among}

-- each text is among both or among neither
abbrev pub HaveSameNames : List (List ℕ) → List (List ℕ) → Type 0
HaveSameNames ms ns = (word : List ℕ) → is_among ms word ≡ is_among ns word
