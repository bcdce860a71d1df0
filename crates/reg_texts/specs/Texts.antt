-- The texts of a register.
use Rattle.std.specs.Prelude.{◌↔◌, ℕ, List, Contains}
use Rattle.reg_op.specs.Contents.{Content}
use Rattle.reg_op.specs.Rows.{rows}
use Rattle.reg_op.specs.Set.{Ascends}
use Rattle.reg_texts.specs.Said.{Said, said_cmp, AreSaid}
use Rattle.reg_texts.specs.Listing.{IsListing}

-- the same in order, each once
pub record IsInOrder (all once : List Said) : Type 0 where
  pub ascend : Ascends said_cmp once
  pub same : (s : Said) → Contains once s ↔ Contains all s

-- the text is the listing of all statements of the register
pub record IsTextsOf (x : Content) (text : List ℕ) : Type 0 where
  pub said : List Said
  pub are : AreSaid (rows x.ops) said
  pub listing : IsListing said text
