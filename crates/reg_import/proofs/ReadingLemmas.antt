-- A text has one reading.
use Rattle.std.proofs.Common.{◌≡◌, ◌≢◌, ℕ, ◌<◌, ◌≤◌, List, length, refl, sym, ap, ◌∙◌, subst, arith}
use Rattle.crs_value.specs.declared.crs.Crs.{Crs}
use Rattle.crs_value.specs.declared.key.Key.{Key}
use Rattle.wkt_crs.specs.declared.fault.Unspelled.{Unspelled}
use Rattle.wkt_crs.specs.declared.definition.DefinitionFault.{DefinitionFault}
use Rattle.wkt_crs.specs.declared.definition.DefinitionFault.TheVariants as fault
use Rattle.wkt_crs.specs.Unspelled.{as_read}
use Rattle.wkt_crs.specs.Spells.{Spells, canon}
use Rattle.wkt_crs.specs.Faults.{FirstFault}
use Rattle.wkt_crs.specs.Definition.{HasNone, IsKeyIn, IsTextFault}
use Rattle.wkt_crs.proofs.Texts.{one_value}
use Rattle.wkt_crs.proofs.Verdicts.{value_or_fault, one_first_fault}
use Rattle.wkt_crs.proofs.Written.{canonical_spells}
use Rattle.wkt_crs.proofs.Defining.{not_memory, one_refusal}
use Rattle.reg_import.specs.declared.reading.ReadText.{ReadText}
use Rattle.reg_import.specs.declared.reading.ReadText.TheVariants as reading
use Rattle.reg_import.specs.Readings.{IsReading}
use Rattle.reg_import.specs.Again.{IsSameReading}
use Rattle.reg_import.proofs.StandingLemmas.{one_key}

-- a text that spells a value has no fault of reading
spelled : (text : List ℕ) (v : Crs) (f : Unspelled) → Spells text v → FirstFault text (as_read f) → ⊥
spelled text v f s h = not_memory f (value_or_fault text v (as_read f) s h)

module _ (text definition : List ℕ) (key : Key) (h : IsReading text (reading.Defined definition key)) where
  abbrev value : Crs
  value = h.0.value

  identified : HasNone value → ⊥
  identified none =
      let short : length (canon value) ≤ 1048576 = omega (arith, h.1.short, ap length h.0.is) in
      let spells : Spells definition value = subst (λ (b : List ℕ). Spells b value) (sym h.0.is) (canonical_spells value short) in
      h.2.2 (subst HasNone (one_value definition value h.2.0 spells h.2.1) none)

  pub no_fault : (f : DefinitionFault) → IsTextFault text f → f ≢ fault.Memory → ⊥
  no_fault (fault.Read f) is some = spelled text value f h.0.spells is
  no_fault fault.NoIdentifier is some = identified (subst HasNone (one_value text is.0 value is.1 h.0.spells) is.2)
  no_fault fault.CanonicalTooLong is some =
      let long : 65536 < length (canon value) = subst (λ v. 65536 < length (canon v)) (one_value text is.0 value is.1 h.0.spells) is.3 in
      absurd (omega (arith, h.1.short, ap length h.0.is, long))
  no_fault fault.NotCanonical is some = absurd is
  no_fault fault.Memory is some = absurd (some refl)

one_fault : (text : List ℕ) (f g : DefinitionFault) → IsTextFault text f → IsTextFault text g → f ≢ fault.Memory → g ≢ fault.Memory → f ≡ g
one_fault text fault.Memory g h k m n = absurd (m refl)
one_fault text fault.NotCanonical g h k m n = absurd h
one_fault text f fault.Memory h k m n = absurd (n refl)
one_fault text f fault.NotCanonical h k m n = absurd k
one_fault text (fault.Read f) (fault.Read g) h k m n = ap fault.Read (one_refusal f g (one_first_fault text (as_read f) (as_read g) (not_memory f) (not_memory g) h k))
one_fault text (fault.Read f) fault.NoIdentifier h k m n = absurd (spelled text k.0 f k.1 h)
one_fault text (fault.Read f) fault.CanonicalTooLong h k m n = absurd (spelled text k.0 f k.1 h)
one_fault text fault.NoIdentifier (fault.Read g) h k m n = absurd (spelled text h.0 g h.1 k)
one_fault text fault.NoIdentifier fault.NoIdentifier h k m n = refl
one_fault text fault.NoIdentifier fault.CanonicalTooLong h k m n = absurd (k.2 (subst HasNone (one_value text h.0 k.0 h.1 k.1) h.2))
one_fault text fault.CanonicalTooLong (fault.Read g) h k m n = absurd (spelled text h.0 g h.1 k)
one_fault text fault.CanonicalTooLong fault.NoIdentifier h k m n = absurd (h.2 (subst HasNone (one_value text k.0 h.0 k.1 h.1) k.2))
one_fault text fault.CanonicalTooLong fault.CanonicalTooLong h k m n = refl

pub one_reading : (text : List ℕ) (r s : ReadText) → IsReading text r → IsReading text s → IsSameReading r s
one_reading text (reading.Defined definition key) (reading.Defined other its) h k =
    let same : definition ≡ other = h.0.is ∙ ap canon (one_value text h.0.value k.0.value h.0.spells k.0.spells) ∙ sym k.0.is in
    (same, one_key definition key its h.2 (subst (IsKeyIn its) (sym same) k.2))
one_reading text (reading.Defined definition key) (reading.Unread f) h k = absurd (no_fault text definition key h f k.0 k.1)
one_reading text (reading.Unread f) (reading.Defined definition key) h k = absurd (no_fault text definition key k f h.0 h.1)
one_reading text (reading.Unread f) (reading.Unread g) h k = one_fault text f g h.0 k.0 h.1 k.1
