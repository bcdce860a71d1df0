-- Retirements of entries for others that stay.
use Rattle.std.specs.Prelude.{◌≡◌, ◌⊎◌, ◌++◌, ℕ, List, Err}
use Rattle.reg_op.specs.Ids.{Id}
use Rattle.reg_op.specs.Contents.{Content}
use Rattle.reg_office.specs.declared.fault.OfficeFault.{OfficeFault}
use Rattle.reg_office.specs.Making.{made}
use Rattle.reg_office.specs.Commands.{Does, retirements}
use Rattle.reg_disorder.specs.declared.linking.link.Link.{Link}
use Rattle.reg_disorder.specs.Links.{links_in}
use Rattle.reg_disorder.specs.Passing.{PassesOn, IsNotPassedOn}

-- the office retires these entries, and then makes the links that pass on; the ids are those of all new operations
pub record RetiresFor (x : Content) (replica note : List ℕ) (entries : List Id) (y : Content) (ids : List Id) : Type 0 where
  pub between : Content
  pub retired : List Id
  pub retires : Does x replica note (retirements entries) between retired
  pub links : List Link
  pub linked : List Id
  pub passes : PassesOn (links_in x.ops) between replica note y links linked
  pub are : ids ≡ retired ++ linked

-- a retirement is refused; or all were made, and then there are too few numbers for the links
abbrev pub CannotRetireFor : Content → List ℕ → List ℕ → List Id → OfficeFault → Type 0
CannotRetireFor x replica note entries f = (made x replica note (retirements entries) ≡ Err f)
    ⊎ ((between : Content) × (retired : List Id) × Does x replica note (retirements entries) between retired × IsNotPassedOn (links_in x.ops) between replica note f)
