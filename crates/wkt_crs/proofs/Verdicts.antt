-- A text that spells a value has no fault, and a text has at most one first fault; `Memory` says nothing about the text.
use Rattle.std.proofs.Common.{◌≡◌, ℕ, List, Option, Some, None, refl, sym, ap, ◌∙◌, subst}
use Rattle.std.proofs.lemmas.Option.{none-some}
use Rattle.crs_value.specs.declared.crs.Crs.{Crs}
use Rattle.crs_value.specs.declared.broken.Broken.{Broken}
use Rattle.crs_value.specs.declared.broken.Condition.{Condition}
use Rattle.crs_value.specs.declared.broken.Whose.{Whose}
use Rattle.crs_value.specs.Checking.{first_broken}
use Rattle.crs_value.proofs.Checks.{none_broken}
use Rattle.wkt_tree.proofs.Exclusion.{fault_no}
use Rattle.wkt_tree.proofs.First as first
use Rattle.wkt_grammar.specs.Bare.{bare}
use Rattle.wkt_grammar.specs.Denotes.{DenotesParts}
use Rattle.wkt_grammar.proofs.Nodes.{parts_law}
use Rattle.wkt_crs.specs.declared.fault.ReadFault.{ReadFault}
use Rattle.wkt_crs.specs.declared.fault.ReadFault.TheVariants as fault
use Rattle.wkt_crs.specs.Spells.{Spells}
use Rattle.wkt_crs.specs.Faults.{FirstFault, FirstBroken, IsGrammatical, keyword_place}
use Rattle.wkt_crs.proofs.Texts.{Denoted, one_item, one_slot, no_slot_fault, of_spells, parts_of}

of_broken : (text : List ℕ) (condition : Condition) (at : ℕ) (b : FirstBroken text condition at) → Denoted text b.value
of_broken text condition at b = record { item = b.item; outline = b.outline; denotes = b.denotes }

pub value_or_fault : (text : List ℕ) (v : Crs) (f : ReadFault) → Spells text v → FirstFault text f → f ≡ fault.Memory
value_or_fault text v (fault.Text f) s h = absurd (fault_no text _ f h s.outline)
value_or_fault text v (fault.Slot f) s h = absurd (no_slot_fault text v.parts f (of_spells text v s) h)
value_or_fault text v (fault.Broken condition at) s h =
    absurd (none-some _ (sym (none_broken v.parts v.conditions) ∙ ap first_broken (parts_of text h.value v (of_broken text condition at h) s) ∙ h.broken))
value_or_fault text v fault.Memory s h = refl

-- a text that spells a value has no fault of its tokens or slots
pub spelled_is_grammatical : (text : List ℕ) (v : Crs) → Spells text v → IsGrammatical text
spelled_is_grammatical text v s = (λ f h. fault_no text _ f h s.outline, λ f h. no_slot_fault text v.parts f (of_spells text v s) h)

who_of : Option Broken → Whose → Whose
who_of None who = who
who_of (Some b) who = b.whose

condition_of : Option Broken → Condition → Condition
condition_of None c = c
condition_of (Some b) c = b.condition

one_broken : (text : List ℕ) (c d : Condition) (at to : ℕ) → FirstBroken text c at → FirstBroken text d to → fault.Broken c at ≡ fault.Broken d to
unfolding who_of condition_of
one_broken text c d at to x y =
    let item = one_item text x.item y.item x.outline.cut y.outline.cut in
    let value = parts_law.once (bare y.item) x.value y.value (subst (λ i. DenotesParts (bare i) x.value) item x.denotes) y.denotes in
    let same = sym x.broken ∙ (ap first_broken value ∙ y.broken) in
    let who : x.whose ≡ y.whose = ap (λ o. who_of o x.whose) same in
    let which : c ≡ d = ap (λ o. condition_of o c) same in
    let place : at ≡ to = x.place ∙ (ap (λ i. keyword_place i x.whose) item ∙ (ap (keyword_place y.item) who ∙ sym y.place)) in
    λ i. fault.Broken (which i) (place i)

pub one_first_fault : (text : List ℕ) (f g : ReadFault) → ¬ (f ≡ fault.Memory) → ¬ (g ≡ fault.Memory) → FirstFault text f → FirstFault text g → f ≡ g
one_first_fault text fault.Memory g m n h k = absurd (m refl)
one_first_fault text f fault.Memory m n h k = absurd (n refl)
one_first_fault text (fault.Text f) (fault.Text g) m n h k = ap fault.Text (first.one_first_fault text f g h k)
one_first_fault text (fault.Text f) (fault.Slot g) m n h k = absurd (fault_no text _ f h k.outline)
one_first_fault text (fault.Text f) (fault.Broken c at) m n h k = absurd (fault_no text _ f h k.outline)
one_first_fault text (fault.Slot f) (fault.Text g) m n h k = absurd (fault_no text _ g k h.outline)
one_first_fault text (fault.Broken c at) (fault.Text g) m n h k = absurd (fault_no text _ g k h.outline)
one_first_fault text (fault.Slot f) (fault.Slot g) m n h k = ap fault.Slot (one_slot text f g h k)
one_first_fault text (fault.Slot f) (fault.Broken c at) m n h k = absurd (no_slot_fault text k.value f (of_broken text c at k) h)
one_first_fault text (fault.Broken c at) (fault.Slot g) m n h k = absurd (no_slot_fault text h.value g (of_broken text c at h) k)
one_first_fault text (fault.Broken c at) (fault.Broken d to) m n h k = one_broken text c d at to h k
