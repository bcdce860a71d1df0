-- The text of a definition has no fault, and another text has at most one.
use Rattle.std.proofs.Common.{◌≡◌, ℕ, ◌≤◌, List, length, refl, ap, subst, arith}
use Rattle.reg_op.specs.DefinitionFault.{DefinitionFault}
use Rattle.reg_op.specs.DefinitionFault.TheVariants as definition
use Rattle.reg_op.specs.Definition.{IsDefinition, IsCanonicalFault, HasNone}
use Rattle.reg_op.proofs.Texts.{one_value}
use Rattle.reg_op.proofs.Verdicts.{one_first_fault, value_or_fault}
use Rattle.reg_op.specs.Unspelled.{as_read}
use Rattle.reg_op.proofs.Defining.{of_definition, spelled_by_definition, not_memory, one_refusal}
use Rattle.reg_file.specs.declared.fault.FileFault.{FileFault}
use Rattle.reg_file.specs.declared.fault.FileFault.TheVariants as fault
use Rattle.reg_file.specs.Reading.{IsOfText, IsTextFault}

no_plain_fault : (text : List ℕ) (f : DefinitionFault) → IsDefinition text → IsOfText f → IsCanonicalFault text f → ⊥
no_plain_fault text (definition.Read f) d is e = not_memory f (value_or_fault text d.crs (as_read f) (spelled_by_definition text d) e.1)
no_plain_fault text definition.NoIdentifier d is e = (of_definition text e.1.0 d e.1.1).1 e.1.2
no_plain_fault text definition.CanonicalTooLong d is e = let k : length text ≤ 65536 = d.short in omega (arith, e)
no_plain_fault text definition.NotCanonical d is e = is
no_plain_fault text definition.Memory d is e = is

pub no_text_fault : (text : List ℕ) (f : FileFault) → IsDefinition text → IsTextFault text f → ⊥
no_text_fault text (fault.Definition f) d e = no_plain_fault text f d e.0 e.1
no_text_fault text fault.NotCanonical d e = e.1.3 (of_definition text e.1.0 d e.1.1).0
no_text_fault text f d e = absurd e

one_plain_fault : (text : List ℕ) (f g : DefinitionFault) → IsOfText f → IsOfText g → IsCanonicalFault text f → IsCanonicalFault text g → f ≡ g
one_plain_fault text (definition.Read f) (definition.Read g) p q e h = ap definition.Read (one_refusal f g (one_first_fault text (as_read f) (as_read g) (not_memory f) (not_memory g) e.1 h.1))
one_plain_fault text (definition.Read f) definition.NoIdentifier p q e h = absurd (not_memory f (value_or_fault text h.1.0 (as_read f) h.1.1 e.1))
one_plain_fault text definition.NoIdentifier (definition.Read g) p q e h = absurd (not_memory g (value_or_fault text e.1.0 (as_read g) e.1.1 h.1))
one_plain_fault text (definition.Read f) definition.CanonicalTooLong p q e h = absurd (omega (arith, e.0, h))
one_plain_fault text definition.NoIdentifier definition.CanonicalTooLong p q e h = absurd (omega (arith, e.0, h))
one_plain_fault text definition.CanonicalTooLong (definition.Read g) p q e h = absurd (omega (arith, e, h.0))
one_plain_fault text definition.CanonicalTooLong definition.NoIdentifier p q e h = absurd (omega (arith, e, h.0))
one_plain_fault text definition.NoIdentifier definition.NoIdentifier p q e h = refl
one_plain_fault text definition.CanonicalTooLong definition.CanonicalTooLong p q e h = refl
one_plain_fault text definition.NotCanonical g p q e h = absurd p
one_plain_fault text definition.Memory g p q e h = absurd p
one_plain_fault text f definition.NotCanonical p q e h = absurd q
one_plain_fault text f definition.Memory p q e h = absurd q

-- a text that can be read, and is not canonical, has no other fault
not_other : (text : List ℕ) (f : DefinitionFault) → IsOfText f → IsCanonicalFault text f → IsCanonicalFault text definition.NotCanonical → ⊥
not_other text (definition.Read f) p e h = not_memory f (value_or_fault text h.1.0 (as_read f) h.1.1 e.1)
not_other text definition.NoIdentifier p e h = h.1.2 (subst HasNone (one_value text e.1.0 h.1.0 e.1.1 h.1.1) e.1.2)
not_other text definition.CanonicalTooLong p e h = omega (arith, e, h.0)
not_other text definition.NotCanonical p e h = p
not_other text definition.Memory p e h = p

pub one_text_fault : (text : List ℕ) (f g : FileFault) → IsTextFault text f → IsTextFault text g → f ≡ g
one_text_fault text (fault.Definition f) (fault.Definition g) e h = ap fault.Definition (one_plain_fault text f g e.0 h.0 e.1 h.1)
one_text_fault text (fault.Definition f) fault.NotCanonical e h = absurd (not_other text f e.0 e.1 h)
one_text_fault text fault.NotCanonical (fault.Definition g) e h = absurd (not_other text g h.0 h.1 e)
one_text_fault text fault.NotCanonical fault.NotCanonical e h = refl
one_text_fault text (fault.Definition f) g e h = absurd h
one_text_fault text fault.NotCanonical g e h = absurd h
one_text_fault text f g e h = absurd e
