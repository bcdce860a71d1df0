-- Whether what is printed has any byte.
use Rattle.std.specs.Prelude.{◌≢◌, ◌↔◌, ℕ, Bool, List, [], IsTrue}
use Rattle.reg_op.specs.Contents.{Content}

-- the text is printed, and the result is whether it has any byte
abbrev pub PrintsAnd : (Content → List ℕ → Type 0) → Bool → Content → List ℕ → Type 0
PrintsAnd Prints any x text = Prints x text × (IsTrue any ↔ (text ≢ []))
