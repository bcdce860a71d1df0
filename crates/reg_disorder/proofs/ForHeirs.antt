-- Retirements, and then links, from the steps that make them.
use Rattle.std.proofs.Common.{◌≡◌, ◌⊎◌, ℕ, List, ◌++◌, sym, ap, ◌∙◌, subst, inl, inr}
use Rattle.reg_op.specs.Ids.{Id}
use Rattle.reg_op.specs.Contents.{Content}
use Rattle.reg_office.specs.declared.fault.OfficeFault.{OfficeFault}
use Rattle.reg_office.specs.declared.fault.OfficeFault.TheVariants as fault
use Rattle.reg_office.specs.Commands.{Does, retirements}
use Rattle.reg_disorder.specs.declared.linking.link.Link.{Link}
use Rattle.reg_disorder.specs.Links.{links_in}
use Rattle.reg_disorder.specs.Passing.{PassesOn, IsNotPassedOn}
use Rattle.reg_disorder.specs.Retiring.{RetiresFor, CannotRetireFor}

-- an office with this register and replica retires entries, which leads to `between`
module _ (x start between : Content) (replica own later note : List ℕ) (entries retired : List Id) (before : List Link) (same : start ≡ x) (its : own ≡ replica) (still : later ≡ own)
    (d : Does start own note (retirements entries) between retired) (are : before ≡ links_in x.ops) where
  does : Does x replica note (retirements entries) between retired
  does = subst (λ (c : Content). Does c replica note (retirements entries) between retired) same (subst (λ r. Does start r note (retirements entries) between retired) its d)

  pub retires_for : (y out : Content) (links : List Link) (linked more all : List Id) → PassesOn before between later note y links linked → more ≡ linked → all ≡ retired ++ more → out ≡ y → RetiresFor x replica note entries out all
  retires_for y out links linked more all p e whole end =
      subst (λ (c : Content). RetiresFor x replica note entries c all) (sym end) (record {
        between = between;
        retired = retired;
        retires = does;
        links = links;
        linked = linked;
        passes = subst (λ ls. PassesOn ls between replica note y links linked) are (subst (λ r. PassesOn before between r note y links linked) (still ∙ its) p);
        are = whole ∙ ap (λ l. retired ++ l) e;
      })

  pub cannot_pass : (f : OfficeFault) → IsNotPassedOn before between later note f ⊎ (f ≡ fault.Memory) → CannotRetireFor x replica note entries f ⊎ (f ≡ fault.Memory)
  cannot_pass f (inl n) =
      inl (inr (between, retired, does, subst (λ ls. IsNotPassedOn ls between replica note f) are (subst (λ r. IsNotPassedOn before between r note f) (still ∙ its) n)))
  cannot_pass f (inr m) = inr m
