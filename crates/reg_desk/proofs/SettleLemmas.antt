-- The faults of settling, by its steps.
use Rattle.std.proofs.Common.{◌≡◌, ◌⊎◌, ◌≤◌, ℕ, List, length, refl, sym, ◌∙◌, subst, inl, inr}
use Rattle.reg_op.specs.Ids.{Id}
use Rattle.reg_op.specs.Contents.{Content}
use Rattle.reg_office.specs.declared.fault.OfficeFault.{OfficeFault}
use Rattle.reg_office.specs.declared.fault.OfficeFault.TheVariants as office
use Rattle.reg_engine.specs.declared.fault.Refusal.{Refusal}
use Rattle.reg_engine.specs.declared.fault.Refusal.TheVariants as refusal
use Rattle.reg_engine.specs.declared.fault.CliFault.{CliFault}
use Rattle.reg_engine.specs.declared.fault.CliFault.TheVariants as cli
use Rattle.reg_engine.specs.Fault.{office_fault}
use Rattle.reg_disorder.specs.Retiring.{CannotRetireFor}
use Rattle.reg_desk.specs.Settle.{IsUnretired}

-- ---- retiring

-- an office's fault refuses a command, or there is no memory
of_office : (g : OfficeFault) → (office_fault g ≡ cli.Memory) ⊎ ((r : Refusal) × (office_fault g ≡ cli.Refused r))
of_office office.NoteTooLong = inr (refusal.Office office.NoteTooLong, refl)
of_office (office.UnknownEntry i) = inr (refusal.Office (office.UnknownEntry i), refl)
of_office (office.AlreadyRetired i) = inr (refusal.Office (office.AlreadyRetired i), refl)
of_office office.SameEntry = inr (refusal.Office office.SameEntry, refl)
of_office (office.AlreadySuperseded i) = inr (refusal.Office (office.AlreadySuperseded i), refl)
of_office office.CountSpent = inr (refusal.Office office.CountSpent, refl)
of_office office.Memory = inl refl

abbrev Unretired : Content → List ℕ → List ℕ → List Id → CliFault → Type 0
Unretired x replica note list f = ((g : OfficeFault) × CannotRetireFor x replica note list g × (f ≡ office_fault g)) ⊎ (f ≡ cli.Memory)

-- the fault if the entries of the list cannot be retired, or their links not passed on
pub list_unmade : (Lists : Content → List Id → Type 0) (Refuses : Content → Refusal → Type 0) (x : Content) (replica note : List ℕ) (list other : List Id) → length note ≤ 200
    → list ≡ other → Lists x list → (f : CliFault) → Unretired x replica note other f → IsUnretired Lists Refuses replica note x f
list_unmade Lists Refuses x replica note list other short e lists f (inr memory) = subst (λ g. IsUnretired Lists Refuses replica note x g) (sym memory) tt
list_unmade Lists Refuses x replica note list other short e lists f (inl (g, cannot, is)) = elim (of_office g) [
  | inl memory ↦ subst (λ h. IsUnretired Lists Refuses replica note x h) (sym (is ∙ memory)) tt
  | inr (r, refused) ↦ subst (λ h. IsUnretired Lists Refuses replica note x h) (sym (is ∙ refused))
      (inr (inr (short, record { list = list; lists = lists; fault = g; refused = subst (λ l. CannotRetireFor x replica note l g) (sym e) cannot; is = refused })))
]
