-- The definition of a text: of bytes that are seen to be canonical, or of the value that the text spells.
use Rattle.std.proofs.Common.{◌≡◌, ◌≤◌, ℕ, List, length, refl, sym, ap, ◌∙◌, subst, inl, inr}
use Rattle.std.specs.Prelude.{◌⊎◌, Result, Ok, Err, IfOk, IfErr}
use Rattle.crs_value.specs.declared.crs.Crs.{Crs}
use Rattle.wkt_canonical.specs.declared.crs.SeenSystem.{SeenSystem}
use Rattle.wkt_canonical.specs.Reads.{IsCanonicalOf}
use Rattle.wkt_crs.specs.declared.fault.ReadFault.TheVariants as read
use Rattle.wkt_crs.specs.declared.definition.DefinitionFault.{DefinitionFault}
use Rattle.wkt_crs.specs.declared.definition.DefinitionFault.TheVariants as fault
use Rattle.wkt_crs.specs.Spells.{Spells, SpellsCanon, canon}
use Rattle.wkt_crs.specs.Definition.{IsDefinition, IsNewFault, IsCanonicalFault, IsSeenFault, IsTextFault}
use Rattle.wkt_write.specs.CondensedLaw.{IsReadAs}
use Rattle.wkt_crs.proofs.Condensed.{spells_as, canon_as}
use Rattle.wkt_crs.proofs.Texts.{one_value}
use Rattle.wkt_crs.proofs.Defining.{of_definition}
use Rattle.wkt_crs.proofs.Recognized.{crs_seen, seen_spells}

-- the result of a call
abbrev Given : Type 0
Given = Result (List ℕ) DefinitionFault

-- ---- bytes that are seen to be canonical

canonical_fault : (bytes : List ℕ) (f : DefinitionFault) → length bytes ≤ 65536 → IsSeenFault bytes f → IsCanonicalFault bytes f
canonical_fault bytes (fault.Read f) short h = absurd h
canonical_fault bytes fault.NoIdentifier short h = (short, h)
canonical_fault bytes fault.CanonicalTooLong short h = absurd h
canonical_fault bytes fault.NotCanonical short h = absurd h
canonical_fault bytes fault.Memory short h = tt

pub seen_fault : (r : Given) (bytes : List ℕ) → length bytes ≤ 65536 → IfErr r (IsSeenFault bytes) → IfErr r (IsCanonicalFault bytes)
seen_fault (Ok d) bytes short h = tt
seen_fault (Err f) bytes short h = canonical_fault bytes f short h

only_memory : (bytes : List ℕ) (f : DefinitionFault) → IsDefinition bytes → IsSeenFault bytes f → f ≡ fault.Memory
only_memory bytes (fault.Read f) d h = absurd h
only_memory bytes fault.NoIdentifier d (crs, spells, none) = absurd ((of_definition bytes crs d spells).1 none)
only_memory bytes fault.CanonicalTooLong d h = absurd h
only_memory bytes fault.NotCanonical d h = absurd h
only_memory bytes fault.Memory d h = refl

pub seen_only : (r : Given) (bytes : List ℕ) → IfOk r (λ d. d ≡ bytes) → IfErr r (IsSeenFault bytes) → IsDefinition bytes → (r ≡ Ok bytes) ⊎ (r ≡ Err fault.Memory)
seen_only (Ok d) bytes e h is = inl (ap Ok e)
seen_only (Err f) bytes e h is = inr (ap Err (only_memory bytes f is h))

-- these bytes are their own canonical text

pub own : {seen : SeenSystem} {bytes : List ℕ} → (length bytes ≤ 65536) × IsCanonicalOf seen bytes → SpellsCanon bytes bytes
own (short, r) = record { value = crs_seen r; spells = seen_spells r short; is = r.is }

is_canon : (text bytes : List ℕ) (v : Crs) → SpellsCanon text bytes → Spells text v → bytes ≡ canon v
is_canon text bytes v c s = c.is ∙ ap canon (one_value text c.value v c.spells s)

pub seen_found : (r : Given) (text bytes : List ℕ) → SpellsCanon text bytes → IfOk r (λ d. d ≡ bytes) → IfOk r (SpellsCanon text)
seen_found (Ok d) text bytes c e = subst (SpellsCanon text) (sym e) c
seen_found (Err f) text bytes c e = tt

pub seen_text_only : (r : Given) (text bytes : List ℕ) (v : Crs) → SpellsCanon text bytes → IfOk r (λ d. d ≡ bytes) → IfErr r (IsSeenFault bytes) → Spells text v → IsDefinition (canon v)
    → (r ≡ Ok (canon v)) ⊎ (r ≡ Err fault.Memory)
seen_text_only r text bytes v c e h s d =
    let same = is_canon text bytes v c s in
    subst (λ t. (r ≡ Ok t) ⊎ (r ≡ Err fault.Memory)) same (seen_only r bytes e h (subst (λ t. IsDefinition t) (sym same) d))

-- a text that condenses to such bytes

condensed_fault : (text bytes : List ℕ) (f : DefinitionFault) → IsReadAs text bytes → IsSeenFault bytes f → IsTextFault text f
condensed_fault text bytes (fault.Read f) r h = absurd h
condensed_fault text bytes fault.NoIdentifier r (crs, spells, none) = (crs, spells_as text bytes crs r spells, none)
condensed_fault text bytes fault.CanonicalTooLong r h = absurd h
condensed_fault text bytes fault.NotCanonical r h = absurd h
condensed_fault text bytes fault.Memory r h = tt

-- a text whose condensed bytes are canonical spells their value; the bytes are read as two slices, a and b
pub condensed_canon : (text bytes a b : List ℕ) (seen : SeenSystem) → a ≡ bytes → b ≡ bytes → IsReadAs text bytes → (length a ≤ 65536) × IsCanonicalOf seen a → SpellsCanon text b
condensed_canon text bytes a b seen e g r s =
    canon_as text b b (subst (IsReadAs text) (sym g) r) (own (subst (λ l. (length l ≤ 65536) × IsCanonicalOf seen l) (e ∙ sym g) s))

pub seen_text_fault : (r : Given) (text bytes : List ℕ) → IsReadAs text bytes → IfErr r (IsSeenFault bytes) → IfErr r (IsTextFault text)
seen_text_fault (Ok d) text bytes read h = tt
seen_text_fault (Err f) text bytes read h = condensed_fault text bytes f read h

-- ---- the value that a text spells

pub value_found : (r : Given) (text : List ℕ) (v : Crs) → Spells text v → IfOk r (λ d. d ≡ canon v) → IfOk r (SpellsCanon text)
value_found (Ok d) text v s e = record { value = v; spells = s; is = e }
value_found (Err f) text v s e = tt

new_fault : (text : List ℕ) (v : Crs) (f : DefinitionFault) → Spells text v → IsNewFault v f → IsTextFault text f
new_fault text v (fault.Read f) s h = absurd h
new_fault text v fault.NoIdentifier s h = (v, s, h)
new_fault text v fault.CanonicalTooLong s (some, long) = (v, s, some, long)
new_fault text v fault.NotCanonical s h = absurd h
new_fault text v fault.Memory s h = tt

pub value_fault : (r : Given) (text : List ℕ) (v : Crs) → Spells text v → IfErr r (IsNewFault v) → IfErr r (IsTextFault text)
value_fault (Ok d) text v s h = tt
value_fault (Err f) text v s h = new_fault text v f s h

pub value_only : (r : Given) (text : List ℕ) (v w : Crs) → Spells text v → (IsDefinition (canon v) → (r ≡ Ok (canon v)) ⊎ (r ≡ Err fault.Memory)) → Spells text w → IsDefinition (canon w)
    → (r ≡ Ok (canon w)) ⊎ (r ≡ Err fault.Memory)
value_only r text v w s only t d = subst (λ u. IsDefinition (canon u) → (r ≡ Ok (canon u)) ⊎ (r ≡ Err fault.Memory)) (one_value text v w s t) only d
