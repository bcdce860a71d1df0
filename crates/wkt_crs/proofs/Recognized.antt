-- Texts that are recognized as canonical ones.
use Rattle.std.proofs.Common.{◌≡◌, ℕ, ◌≤◌, true, List, [], ◌∷◌, length, refl, sym, ap, ◌∙◌, subst}
use Rattle.std.specs.Prelude.{Option, Some, None}
use Rattle.std.specs.Str.{is_utf8}
use Rattle.crs_number.proofs.Spelled.{canonical_spells as numeral_spells}
use Rattle.crs_part.proofs.Spelled.{spelled_is_utf8}
use Rattle.crs_part.specs.Slots.{ids_of}
use Rattle.crs_part.specs.declared.text.Text.{Text}
use Rattle.crs_part.specs.declared.identifiers.Ident.{Ident}
use Rattle.crs_part.specs.declared.identifiers.NumberOrText.{NumberOrText}
use Rattle.crs_part.specs.declared.identifiers.NumberOrText.TheVariants as code
use Rattle.crs_value.specs.Keys.{text_of, IsKeyOf}
use Rattle.crs_value.specs.declared.crs.Crs.{Crs}
use Rattle.crs_value.specs.declared.key.Key.{Key}
use Rattle.wkt_tree.specs.declared.fault.TextFault.{TextFault}
use Rattle.wkt_tree.specs.Faults as tree
use Rattle.wkt_tree.proofs.Exclusion.{fault_no}
use Rattle.wkt_grammar.specs.declared.fault.SlotFault.{SlotFault}
use Rattle.wkt_canonical.specs.declared.identifiers.Identifier.{Identifier}
use Rattle.wkt_canonical.specs.declared.crs.SeenSystem.{SeenSystem}
use Rattle.wkt_canonical.specs.Seen.{Identifies, IsFirst}
use Rattle.wkt_canonical.specs.Reads.{IsCanonicalOf}
use Rattle.wkt_crs.specs.Spells.{Spells}
use Rattle.wkt_crs.specs.Faults.{FirstSlot}
use Rattle.wkt_crs.specs.Definition.{HasNone, IsDefinedBy, IsDefinition}
use Rattle.wkt_crs.proofs.Texts.{no_slot}
use Rattle.wkt_crs.proofs.Defining.{canonical_text, defines, of_definition}

-- the reference system whose canonical text the bytes are
abbrev pub crs_seen : {seen : SeenSystem} {bytes : List ℕ} → IsCanonicalOf seen bytes → Crs
crs_seen r = record { parts = r.value; conditions = r.conditions }

pub seen_spells : {seen : SeenSystem} {bytes : List ℕ} (r : IsCanonicalOf seen bytes) → length bytes ≤ 65536 → Spells bytes (crs_seen r)
seen_spells {bytes = bytes} r short = canonical_text (crs_seen r) bytes r.is short

-- ---- such a text has no fault of its tokens or its slots

pub no_text_fault : {seen : SeenSystem} {bytes : List ℕ} (f : TextFault) → IsCanonicalOf seen bytes → length bytes ≤ 65536 → tree.FirstFault bytes f → ⊥
no_text_fault {bytes = bytes} f r short h = let s = seen_spells r short in fault_no bytes _ f h s.outline

pub no_slot_fault : {seen : SeenSystem} {bytes : List ℕ} (f : SlotFault) → IsCanonicalOf seen bytes → length bytes ≤ 65536 → FirstSlot bytes f → ⊥
no_slot_fault {bytes = bytes} f r short h = no_slot bytes (crs_seen r) f (seen_spells r short) h

-- ---- if no identifier is seen, there is none

none_first : (ids : List Ident) (seen : Option Identifier) → seen ≡ None → IsFirst ids seen → ids ≡ []
none_first [] seen e h = refl
none_first (id ∷ others) None e h = absurd h
none_first (id ∷ others) (Some first) e h = absurd (cc)

pub has_none : {seen : SeenSystem} {bytes : List ℕ} (r : IsCanonicalOf seen bytes) → seen.identifier ≡ None → HasNone (crs_seen r)
has_none {seen} r e = none_first (ids_of r.value) seen.identifier e r.seen_of.identifier

pub undefined : {seen : SeenSystem} {bytes : List ℕ} → IsCanonicalOf seen bytes → length bytes ≤ 65536 → seen.identifier ≡ None → IsDefinition bytes → ⊥
undefined {bytes = bytes} r short e d = (of_definition bytes (crs_seen r) d (seen_spells r short)).1 (has_none r e)

-- ---- if an identifier is seen, it is the first one

pub record First (seen : Identifier) (ids : List Ident) : Type 0 where
  pub id : Ident
  pub others : List Ident
  pub is : ids ≡ id ∷ others
  pub identifies : Identifies seen id

some_first : (ids : List Ident) (seen : Option Identifier) (first : Identifier) → seen ≡ Some first → IsFirst ids seen → First first ids
some_first [] seen first e h = absurd (cc)
some_first (id ∷ others) None first e h = absurd (cc)
some_first (id ∷ others) (Some found) first e h =
    let same : found ≡ first = cc in
    record { id = id; others = others; is = refl; identifies = subst (λ f. Identifies f id) same h }

pub first_seen : {seen : SeenSystem} {bytes : List ℕ} (first : Identifier) (r : IsCanonicalOf seen bytes) → seen.identifier ≡ Some first → First first (ids_of r.value)
first_seen {seen} first r e = some_first (ids_of r.value) seen.identifier first e r.seen_of.identifier

pub has_one : (first : Identifier) (ids : List Ident) → First first ids → ids ≡ [] → ⊥
has_one first ids f e = let is = f.is in absurd (cc)

-- ---- the authority, the code and the name are UTF-8

code_utf8 : (v : NumberOrText) → is_utf8 (text_of v) ≡ true
code_utf8 (code.Number d) = spelled_is_utf8 _ _ _ (numeral_spells d)
code_utf8 (code.Text t) = t.utf8

pub authority_utf8 : {seen : SeenSystem} {bytes : List ℕ} (first : Identifier) → IsCanonicalOf seen bytes → seen.identifier ≡ Some first → is_utf8 first.authority.now ≡ true
authority_utf8 first r e = let f = first_seen first r e in ap is_utf8 (sym f.identifies.authority) ∙ f.id.authority.utf8

pub key_code_utf8 : {seen : SeenSystem} {bytes : List ℕ} (first : Identifier) → IsCanonicalOf seen bytes → seen.identifier ≡ Some first → is_utf8 first.code.now ≡ true
key_code_utf8 first r e = let f = first_seen first r e in ap is_utf8 (sym f.identifies.code) ∙ code_utf8 f.id.code

-- ---- the definition that such a text is

key_of_first : (first : Identifier) (ids : List Ident) (key : Key) → First first ids → key.authority.bytes ≡ first.authority.now → key.code.bytes ≡ first.code.now → (id : Ident) (others : List Ident) → ids ≡ id ∷ others → IsKeyOf id key
key_of_first first ids key f a k id others e =
    let is = f.is in
    let same : f.id ≡ id = cc in
    subst (λ i. IsKeyOf i key) same (record { authority = a ∙ sym f.identifies.authority; code = k ∙ sym f.identifies.code })

pub defines_seen : {seen : SeenSystem} {bytes : List ℕ} (first : Identifier) (key : Key) (name : Text) → IsCanonicalOf seen bytes → length bytes ≤ 65536 → seen.identifier ≡ Some first → key.authority.bytes ≡ first.authority.now → key.code.bytes ≡ first.code.now → name.bytes ≡ seen.name.now → IsDefinedBy key name bytes
defines_seen {bytes = bytes} first key name r short e a k n =
    let f = first_seen first r e in
    defines (crs_seen r) key name bytes (r.is, short, has_one first (ids_of r.value) f) (key_of_first first (ids_of r.value) key f a k) (n ∙ sym r.seen_of.name)

pub is_definition_seen : {seen : SeenSystem} {bytes : List ℕ} (first : Identifier) (r : IsCanonicalOf seen bytes) → length bytes ≤ 65536 → seen.identifier ≡ Some first → IsDefinition bytes
is_definition_seen first r short e =
    record { crs = crs_seen r; canonical = r.is; short = short; identified = has_one first (ids_of r.value) (first_seen first r e) }
