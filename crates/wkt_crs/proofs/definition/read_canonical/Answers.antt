use Rattle.std.proofs.Common.{◌≡◌, length, sym, ap, ◌∙◌, subst, arith, nat_eq, inr, Err}
use Rattle.std.specs.Cmp.Lexicographic.{pointwise}
use Rattle.std.proofs.lemmas.Bool.{not-false, not-true}
use Rattle.wkt_crs.specs.Definition.{IsCanonicalFault, of_read}
use Rattle.wkt_crs.specs.declared.fault.ReadFault.TheVariants as read
use Rattle.wkt_crs.proofs.Texts.{no_slot}
use Rattle.wkt_crs.proofs.Verdicts.{value_or_fault}
use Rattle.wkt_crs.proofs.Defining.{of_definition, spelled_by_definition, read_refused, same_bytes, not_same, same_ok, same_only}
use Rattle.wkt_crs.proofs.definition.read_canonical.Goals as goal

pub returns-then-not-has_identifier-clause-fault : goal.returns-then-not-has_identifier-clause-fault
returns-then-not-has_identifier-clause-fault c =
    (c.requires, (c.in-Ok.crs, c.in-Ok.ensures.found, c.has_identifier.ensures.none c.if-not-has_identifier.true))

pub returns-then-not-has_identifier-clause-only : goal.returns-then-not-has_identifier-clause-only
returns-then-not-has_identifier-clause-only c = λ d.
    absurd ((of_definition c.args.bytes.now c.in-Ok.crs d c.in-Ok.ensures.found).1 (c.has_identifier.ensures.none c.if-not-has_identifier.true))

pub returns-then-ne-clause-fault : goal.returns-then-ne-clause-fault
returns-then-ne-clause-fault c =
    let other = not_same c.as_slice.result.now c.args.bytes.now (not-true (pointwise nat_eq c.as_slice.result.now c.args.bytes.now) (sym c.ne.ensures ∙ c.if-ne.true)) in (
      c.requires,
      (
        c.in-Ok.crs,
        c.in-Ok.ensures.found,
        c.has_identifier.ensures.some c.if-not-has_identifier.false,
        λ e. other (c.as_slice.ensures.value ∙ (c.in-Ok-write_crs.ensures ∙ sym e)),
      ),
    )

pub returns-then-ne-clause-only : goal.returns-then-ne-clause-only
returns-then-ne-clause-only c = λ d.
    let other = not_same c.as_slice.result.now c.args.bytes.now (not-true (pointwise nat_eq c.as_slice.result.now c.args.bytes.now) (sym c.ne.ensures ∙ c.if-ne.true)) in
    absurd (other (c.as_slice.ensures.value ∙ (c.in-Ok-write_crs.ensures ∙ sym (of_definition c.args.bytes.now c.in-Ok.crs d c.in-Ok.ensures.found).0)))

pub defined-requires : goal.defined-requires
defined-requires c =
    let short = c.requires in
    let same = sym c.as_slice.ensures.value ∙ same_bytes c.as_slice.result.now c.args.bytes.now (not-false (pointwise nat_eq c.as_slice.result.now c.args.bytes.now) (sym c.ne.ensures ∙ c.if-ne.false)) in (
      c.in-Ok-write_crs.ensures,
      (let n = ap length same in omega (arith, n, short)),
      c.has_identifier.ensures.some c.if-not-has_identifier.false,
    )

pub returns-clause-ok : goal.returns-clause-ok
returns-clause-ok c =
    let same = sym c.as_slice.ensures.value ∙ same_bytes c.as_slice.result.now c.args.bytes.now (not-false (pointwise nat_eq c.as_slice.result.now c.args.bytes.now) (sym c.ne.ensures ∙ c.if-ne.false)) in
    same_ok c.defined.result c.in-Ok-write_crs.text.items c.args.bytes.now same c.defined.ensures.ok

pub returns-clause-only : goal.returns-clause-only
returns-clause-only c = λ d.
    let same = sym c.as_slice.ensures.value ∙ same_bytes c.as_slice.result.now c.args.bytes.now (not-false (pointwise nat_eq c.as_slice.result.now c.args.bytes.now) (sym c.ne.ensures ∙ c.if-ne.false)) in
    same_only c.defined.result c.in-Ok-write_crs.text.items c.args.bytes.now same c.defined.ensures.ok c.defined.ensures.fault

pub returns-in-Err-clause-fault : goal.returns-in-Err-clause-fault
returns-in-Err-clause-fault c = subst (IsCanonicalFault c.args.bytes.now) (sym c.of_read.ensures) (read_refused c.args.bytes.now c.in-Err.fault c.requires c.in-Err.ensures.fault)

pub returns-in-Err-clause-only : goal.returns-in-Err-clause-only
returns-in-Err-clause-only c = λ d.
    inr (ap Err (c.of_read.ensures ∙ ap of_read (value_or_fault c.args.bytes.now d.crs c.in-Err.fault (spelled_by_definition c.args.bytes.now d) c.in-Err.ensures.fault)))

-- a text with a slot fault spells no value

pub returns-in-Err-clause-slot : goal.returns-in-Err-clause-slot
returns-in-Err-clause-slot c = λ f first.
    let told = c.in-Err.ensures.slot f first in
    let same : c.in-Err.fault ≡ read.Slot f = cc in
    ap Err (c.of_read.ensures ∙ ap of_read same)

pub returns-then-not-has_identifier-clause-slot : goal.returns-then-not-has_identifier-clause-slot
returns-then-not-has_identifier-clause-slot c = λ f first. absurd (no_slot c.args.bytes.now c.in-Ok.crs f c.in-Ok.ensures.found first)

pub returns-in_default-clause-slot : goal.returns-in_default-clause-slot
returns-in_default-clause-slot c = λ f first. absurd (no_slot c.args.bytes.now c.in-Ok.crs f c.in-Ok.ensures.found first)

pub returns-then-ne-clause-slot : goal.returns-then-ne-clause-slot
returns-then-ne-clause-slot c = λ f first. absurd (no_slot c.args.bytes.now c.in-Ok.crs f c.in-Ok.ensures.found first)

pub returns-clause-slot : goal.returns-clause-slot
returns-clause-slot c = λ f first. absurd (no_slot c.args.bytes.now c.in-Ok.crs f c.in-Ok.ensures.found first)
