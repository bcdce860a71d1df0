-- Why texts are not imported, or their links are not made.
use Rattle.std.proofs.Common.{◌≡◌, ◌⊎◌, ℕ, Bool, true, false, List, [], refl, sym, ap, ◌∙◌, subst, inl, inr}
use Rattle.std.specs.List.{list_any}
use Rattle.std.proofs.lemmas.Bool.{true≢false}
use Rattle.reg_op.specs.Contents.{Content}
use Rattle.reg_office.specs.declared.fault.OfficeFault.{OfficeFault}
use Rattle.reg_office.specs.declared.fault.OfficeFault.TheVariants as office
use Rattle.reg_import.specs.declared.reading.FileText.{FileText}
use Rattle.reg_import.specs.declared.import.ImportRefusal.TheVariants as refused
use Rattle.reg_import.specs.Readings.{readings}
use Rattle.reg_engine.specs.Fault.{office_fault}
use Rattle.reg_engine.specs.declared.fault.Refusal.TheVariants as refusal
use Rattle.reg_engine.specs.declared.fault.CliFault.TheVariants as cli
use Rattle.reg_desk.specs.declared.import.options.ImportOptions.{ImportOptions}
use Rattle.reg_desk.specs.declared.import.fault.ImportFault.TheVariants as import
use Rattle.reg_desk.specs.declared.import.fault.Unimported.{Unimported}
use Rattle.reg_desk.specs.ImportTexts.{TextAt}
use Rattle.reg_op.specs.Ids.{Id}
use Rattle.reg_import.specs.declared.reading.ReadText.{ReadText}
use Rattle.reg_import.specs.declared.action.TextAction.{TextAction}
use Rattle.reg_import.specs.declared.action.Differs.{Differs}
use Rattle.reg_import.specs.declared.import.Importing.{Importing}
use Rattle.reg_import.specs.Imports.{is_spent}
use Rattle.reg_import.specs.Plans.{AreSteps, PassesAll, IsPassedPlan, Imports}
use Rattle.reg_import.specs.Taking.{HasTaken}
use Rattle.reg_import.proofs.TakingLemmas.{taken_steps, taken_may}
use Rattle.reg_import.proofs.AtOnceLemmas.{imported_may}
use Rattle.reg_disorder.specs.declared.linking.link.Link.{Link}
use Rattle.reg_disorder.specs.Links.{links_in}
use Rattle.reg_disorder.specs.Passing.{PassesOn, IsNotPassedOn}
use Rattle.reg_desk.specs.ImportLinks.{ImportsLinked, IsUnlinked}
use Rattle.reg_desk.specs.Import.{IsUnmadeOf}
use Rattle.reg_desk.proofs.ImportEngineLemmas.{plain_is}

-- the fault where there is no result
pub unlinked_is : (o : ImportOptions) (first : ℕ) (x : Content) (files : List (List ℕ)) (cuts : List TextAt) (texts : List FileText) (f : OfficeFault) (u : Unimported) → u.fault ≡ import.Cli (office_fault f) → u.notes.items ≡ []
    → IsUnlinked o x (readings texts) f → IsUnmadeOf o first x files cuts texts u
unlinked_is o first x files cuts texts f u fault notes (inl spent) =
    inl (refused.CountSpent, spent.1, plain_is (λ g. g ≡ cli.Refused (refusal.Office office.CountSpent)) u (office_fault f) fault notes (ap office_fault spent.0))
unlinked_is o first x files cuts texts f u fault notes (inr (inl memory)) = inl (refused.Memory, memory.1, plain_is (λ g. g ≡ cli.Memory) u (office_fault f) fault notes (ap office_fault memory.0))
unlinked_is o first x files cuts texts f u fault notes (inr (inr only)) = inr (f, only, plain_is (λ g. g ≡ office_fault f) u (office_fault f) fault notes refl)

-- ---- the end of an import

module _ (o : ImportOptions) (x : Content) (rs : List ReadText) (ts : List TextAction) (m : Importing) (h : HasTaken x o.replica o.note.now o.differs rs ts m) (passes : PassesAll o.keep_going ts) where
  -- a number is too large
  pub spent_here : (b : Bool) → b ≡ list_any is_spent ts → b ≡ true → IsUnlinked o x rs office.CountSpent
  spent_here b is spent =
      let all : AreSteps x o.replica o.differs rs h.steps = taken_steps x o.replica o.note.now o.differs rs ts m h in
      inl (
        refl,
        (h.short, (h.steps, all, (subst (PassesAll o.keep_going) h.told passes, λ none. true≢false (sym spent ∙ is ∙ ap (list_any is_spent) h.told ∙ none)))),
      )

  pub memory_here : IsUnlinked o x rs office.Memory
  memory_here = inr (inl (refl, taken_may x o.replica o.note.now o.differs rs ts m h o.keep_going passes))

  -- the import is done
  pub joined_here : (y : Content) (b : Bool) → b ≡ list_any is_spent ts → b ≡ false
      → ((keep_going : Bool) (replica note : List ℕ) (differs : Differs) (rs : List ReadText) (ts : List TextAction) → HasTaken x replica note differs rs ts m → IsPassedPlan keep_going ts → Imports x replica note differs keep_going rs y ts)
      → Imports x o.replica o.note.now o.differs o.keep_going rs y ts
  joined_here y b is none join = join o.keep_going o.replica o.note.now o.differs rs ts h (passes, sym is ∙ none)

-- ---- an import, and then an office with the register that it makes

module _ (o : ImportOptions) (x between own : Content) (replica : List ℕ) (before : List Link) (texts : List ReadText) (ts : List TextAction) (same : own ≡ between) (its : replica ≡ o.replica) (are : before ≡ links_in x.ops)
    (imports : Imports x o.replica o.note.now o.differs o.keep_going texts between ts) where
  pub only_imported : (f : OfficeFault) → IsNotPassedOn before own replica o.note.now f ⊎ (f ≡ office.Memory)
      → IsUnlinked o x texts f
  only_imported f (inr memory) = inr (inl (memory, imported_may x between o.replica o.note.now o.differs o.keep_going texts ts imports))
  only_imported f (inl n) = inr (inr (record {
    between = between;
    told = ts;
    imports = imports;
    not_passed = subst (λ ls. IsNotPassedOn ls between o.replica o.note.now f) are (subst (λ r. IsNotPassedOn before between r o.note.now f) its (subst (λ (c : Content). IsNotPassedOn before c replica o.note.now f) same n));
  }))

  pub linked_from : (y out : Content) (links : List Link) (ids : List Id) → PassesOn before own replica o.note.now y links ids → out ≡ y → ImportsLinked o x texts out ts links
  linked_from y out links ids p end = subst (λ (c : Content). ImportsLinked o x texts c ts links) (sym end) (record {
    between = between;
    imports = imports;
    ids = ids;
    passes = subst (λ ls. PassesOn ls between o.replica o.note.now y links ids) are (subst (λ r. PassesOn before between r o.note.now y links ids) its (subst (λ (c : Content). PassesOn before c replica o.note.now y links ids) same p));
  })
