-- The words of the law of links.
use Rattle.std.specs.Prelude.{◌≡◌, true, false, ◌&&◌, List, [], ◌∷◌}
use Rattle.reg_op.specs.Ids.{Id}
use Rattle.reg_op.specs.declared.operation.OpBody.{OpBody as Body}
use Rattle.reg_op.specs.declared.operation.OpBody.TheVariants.{Enter, Supersede, Retire}
use Rattle.reg_op.specs.Contents.{Content}
use Rattle.reg_op.specs.Status.{enters}
use Rattle.reg_disorder.specs.Links.{supersedes_by, is_linked}
use Rattle.reg_disorder.specs.LinkHeirs.{IsHeir}

-- none of these effects supersedes an entry
abbrev pub SupersedesNone : List Body → Type 0
SupersedesNone [] = Unit {0}
SupersedesNone (Enter text ∷ bs) = SupersedesNone bs
SupersedesNone (Supersede old newer ∷ bs) = ⊥
SupersedesNone (Retire entry ∷ bs) = SupersedesNone bs

-- they are the heirs, in the second content, of two entries that are linked in the first
pub record IsHeirOfBoth (x m : Content) (a b : Id) : Type 0 where
  pub old : Id
  pub newer : Id
  pub linked : is_linked x.ops old newer ≡ true
  pub heir_of_old : IsHeir m.ops old a
  pub heir_of_newer : IsHeir m.ops newer b

-- the content supersedes the one by the other already, but an entry of the two has still to come
pub record WasAwaited (x : Content) (a b : Id) : Type 0 where
  pub supersedes : supersedes_by x.ops a b ≡ true
  pub missing : (enters x.ops a && enters x.ops b) ≡ false
