-- The links that pass on to heirs.
use Rattle.std.specs.Prelude.{◌≡◌, ◌↔◌, ℕ, Bool, true, not, ◌&&◌, List, map, Contains, Err}
use Rattle.reg_op.specs.Set as set
use Rattle.reg_op.specs.Ids.{Id, is_same}
use Rattle.reg_op.specs.Operations.{Ops}
use Rattle.reg_op.specs.declared.operation.OpBody.{OpBody as Body}
use Rattle.reg_op.specs.declared.operation.OpBody.TheVariants.{Supersede}
use Rattle.reg_op.specs.Contents.{Content}
use Rattle.reg_office.specs.declared.fault.OfficeFault.{OfficeFault}
use Rattle.reg_office.specs.Making.{made}
use Rattle.reg_office.specs.Commands.{Does}
use Rattle.reg_disorder.specs.declared.linking.link.Link.{Link}
use Rattle.reg_disorder.specs.Links.{stands, supersedes_by, link_cmp}
use Rattle.reg_disorder.specs.LinkHeirs.{IsHeir}

-- the link has an end that is retired
abbrev pub is_cut : Ops → Link → Bool
is_cut s l = not (stands s l.old && stands s l.newer)

-- its ends differ, and the one does not supersede the other yet
abbrev pub is_new : Ops → Link → Bool
is_new s l = not (is_same l.old l.newer) && not (supersedes_by s l.old l.newer)

-- the ends of the second are the heirs of those of the first
pub record Inherits (s : Ops) (l heir : Link) : Type 0 where
  pub old : IsHeir s l.old heir.old
  pub newer : IsHeir s l.newer heir.newer

-- of these links before a command, some that is now cut passes on to this one, which is new
pub record PassesTo (before : List Link) (s : Ops) (heir : Link) : Type 0 where
  pub link : Link
  pub there : Contains before link
  pub cut : is_cut s link ≡ true
  pub inherits : Inherits s link heir
  pub new : is_new s heir ≡ true

-- all to which some pass, in order, each once
pub record AreHeirLinks (before : List Link) (s : Ops) (links : List Link) : Type 0 where
  pub all : set.Set link_cmp
  pub items : links ≡ set.items all
  pub each : (l : Link) → (set.contains all l ≡ true) ↔ PassesTo before s l

abbrev pub body_of : Link → Body
body_of l = Supersede l.old l.newer

abbrev pub bodies_of : List Link → List Body
bodies_of links = map body_of links

-- after a command has led to the content x, the office makes the links that pass on
pub record PassesOn (before : List Link) (x : Content) (replica note : List ℕ) (y : Content) (links : List Link) (ids : List Id) : Type 0 where
  pub are : AreHeirLinks before x.ops links
  pub does : Does x replica note (bodies_of links) y ids

-- it makes none, for this reason
pub record IsNotPassedOn (before : List Link) (x : Content) (replica note : List ℕ) (f : OfficeFault) : Type 0 where
  pub links : List Link
  pub are : AreHeirLinks before x.ops links
  pub refused : made x replica note (bodies_of links) ≡ Err f
