use Rattle.std.proofs.Common.{◌≡◌, Err, sym, ap, ◌∙◌, subst, inr}
use Rattle.wkt_tree.proofs.Exclusion.{fault_no}
use Rattle.wkt_write.specs.CondensedLaw.{IsReadAs}
use Rattle.wkt_crs.specs.declared.fault.ReadFault.TheVariants as read
use Rattle.wkt_crs.specs.Definition.{of_read}
use Rattle.wkt_crs.proofs.FromText.{own, seen_found, seen_text_only, seen_text_fault, condensed_canon, value_found, value_fault, value_only}
use Rattle.wkt_crs.proofs.Recognized as recognized
use Rattle.wkt_crs.proofs.Texts.{no_slot}
use Rattle.wkt_crs.proofs.Verdicts.{value_or_fault}
use Rattle.wkt_crs.proofs.definition.Definition.from_text.Goals as goal

-- a text that is recognized as canonical has no fault of its tokens or slots

pub returns-in-Some-clause-ok : goal.returns-in-Some-clause-ok
returns-in-Some-clause-ok c = seen_found c.of_seen.result c.args.text.now c.args.text.now (own c.in-Some.ensures) c.of_seen.ensures.ok

pub returns-in-Some-clause-only : goal.returns-in-Some-clause-only
returns-in-Some-clause-only c = λ v s d. seen_text_only c.of_seen.result c.args.text.now c.args.text.now v (own c.in-Some.ensures) c.of_seen.ensures.ok c.of_seen.ensures.fault s d

pub returns-in-Some-clause-text : goal.returns-in-Some-clause-text
returns-in-Some-clause-text c = λ f first. absurd (recognized.no_text_fault f c.in-Some.ensures.1 c.in-Some.ensures.0 first)

pub returns-in-Some-clause-slot : goal.returns-in-Some-clause-slot
returns-in-Some-clause-slot c = λ f first. absurd (recognized.no_slot_fault f c.in-Some.ensures.1 c.in-Some.ensures.0 first)

-- the text spells what the recognized condensed text spells

pub returns-in-Some-seen_in-clause-ok : goal.returns-in-Some-seen_in-clause-ok
returns-in-Some-seen_in-clause-ok c =
    let bytes = c.deref-in-Some-seen_in.result.now in
    let canon = condensed_canon c.args.text.now c.in-Some-condense.condensed.items c.deref.result.now bytes c.in-Some-seen_in.seen c.deref.ensures.value c.deref-in-Some-seen_in.ensures.value c.in-Some-condense.ensures.reads c.in-Some-seen_in.ensures in
    seen_found c.of_seen-in-Some-seen_in.result c.args.text.now bytes canon c.of_seen-in-Some-seen_in.ensures.ok

pub returns-in-Some-seen_in-clause-fault : goal.returns-in-Some-seen_in-clause-fault
returns-in-Some-seen_in-clause-fault c =
    let bytes = c.deref-in-Some-seen_in.result.now in
    seen_text_fault c.of_seen-in-Some-seen_in.result c.args.text.now bytes (subst (IsReadAs c.args.text.now) (sym c.deref-in-Some-seen_in.ensures.value) c.in-Some-condense.ensures.reads) c.of_seen-in-Some-seen_in.ensures.fault

pub returns-in-Some-seen_in-clause-only : goal.returns-in-Some-seen_in-clause-only
returns-in-Some-seen_in-clause-only c = λ v s d.
    let bytes = c.deref-in-Some-seen_in.result.now in
    let canon = condensed_canon c.args.text.now c.in-Some-condense.condensed.items c.deref.result.now bytes c.in-Some-seen_in.seen c.deref.ensures.value c.deref-in-Some-seen_in.ensures.value c.in-Some-condense.ensures.reads c.in-Some-seen_in.ensures in
    seen_text_only c.of_seen-in-Some-seen_in.result c.args.text.now bytes v canon c.of_seen-in-Some-seen_in.ensures.ok c.of_seen-in-Some-seen_in.ensures.fault s d

pub returns-in-Some-seen_in-clause-text : goal.returns-in-Some-seen_in-clause-text
returns-in-Some-seen_in-clause-text c = λ f first.
    let bytes = c.deref-in-Some-seen_in.result.now in
    let canon = condensed_canon c.args.text.now c.in-Some-condense.condensed.items c.deref.result.now bytes c.in-Some-seen_in.seen c.deref.ensures.value c.deref-in-Some-seen_in.ensures.value c.in-Some-condense.ensures.reads c.in-Some-seen_in.ensures in
    let spells = canon.spells in
    absurd (fault_no c.args.text.now _ f first spells.outline)

pub returns-in-Some-seen_in-clause-slot : goal.returns-in-Some-seen_in-clause-slot
returns-in-Some-seen_in-clause-slot c = λ f first.
    let bytes = c.deref-in-Some-seen_in.result.now in
    let canon = condensed_canon c.args.text.now c.in-Some-condense.condensed.items c.deref.result.now bytes c.in-Some-seen_in.seen c.deref.ensures.value c.deref-in-Some-seen_in.ensures.value c.in-Some-condense.ensures.reads c.in-Some-seen_in.ensures in
    absurd (no_slot c.args.text.now canon.value f canon.spells first)

-- the text spells the value that is read

pub returns-in-Ok-clause-ok : goal.returns-in-Ok-clause-ok
returns-in-Ok-clause-ok c = value_found c.new.result c.args.text.now c.in-Ok.crs c.in-Ok.ensures.found c.new.ensures.ok

pub returns-in-Ok-clause-fault : goal.returns-in-Ok-clause-fault
returns-in-Ok-clause-fault c = value_fault c.new.result c.args.text.now c.in-Ok.crs c.in-Ok.ensures.found c.new.ensures.fault

pub returns-in-Ok-clause-only : goal.returns-in-Ok-clause-only
returns-in-Ok-clause-only c = λ v s d. value_only c.new.result c.args.text.now c.in-Ok.crs v c.in-Ok.ensures.found c.new.ensures.only s d

pub returns-in-Ok-clause-slot : goal.returns-in-Ok-clause-slot
returns-in-Ok-clause-slot c = λ f first. absurd (no_slot c.args.text.now c.in-Ok.crs f c.in-Ok.ensures.found first)

pub returns-in-Err-clause-only : goal.returns-in-Err-clause-only
returns-in-Err-clause-only c = λ v s d. inr (ap Err (c.of_read.ensures ∙ ap of_read (value_or_fault c.args.text.now v c.in-Err.fault s c.in-Err.ensures.fault)))

pub returns-in-Err-clause-slot : goal.returns-in-Err-clause-slot
returns-in-Err-clause-slot c = λ f first.
    let told = c.in-Err.ensures.slot f first in
    let same : c.in-Err.fault ≡ read.Slot f = cc in
    ap Err (c.of_read.ensures ∙ ap of_read same)
