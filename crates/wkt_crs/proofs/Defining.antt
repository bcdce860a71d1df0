-- Bytes that are definitions.
use Rattle.std.proofs.Common.{◌≡◌, ℕ, nat_eq, ◌≤◌, true, false, List, [], ◌∷◌, length, refl, sym, ap, ◌∙◌, subst, arith, inl, inr}
use Rattle.std.proofs.Math.Logic.{∥∥₁_elim}
use Rattle.std.proofs.Math.Bridge.{le_prop}
use Rattle.std.proofs.Props.{props}
use mathlib.Core.HLevel.{is_prop→PathP}
use Rattle.std.specs.Prelude.{◌⊎◌, Option, Some, None, Result, Ok, Err, IfOk, IfErr}
use Rattle.std.specs.Cmp.Lexicographic.{pointwise, same_text, other_text}
use Rattle.crs_part.specs.declared.text.Text.{Text}
use Rattle.crs_part.specs.declared.identifiers.Ident.{Ident}
use Rattle.crs_value.specs.Keys.{IsKeyOf, IsFirstKey}
use Rattle.crs_value.specs.declared.crs.Crs.{Crs}
use Rattle.crs_value.specs.declared.key.Key.{Key}
use Rattle.wkt_crs.specs.declared.fault.ReadFault.{ReadFault}
use Rattle.wkt_crs.specs.declared.fault.ReadFault.TheVariants as read
use Rattle.wkt_crs.specs.declared.fault.Unspelled.{Unspelled}
use Rattle.wkt_crs.specs.declared.fault.Unspelled.TheVariants as refused
use Rattle.wkt_crs.specs.Faults.{FirstFault}
use Rattle.wkt_crs.specs.Unspelled.{as_read, unspelled}
use Rattle.wkt_crs.specs.declared.definition.DefinitionFault.{DefinitionFault}
use Rattle.wkt_crs.specs.declared.definition.DefinitionFault.TheVariants as fault
use Rattle.wkt_crs.specs.Spells.{Spells, canon}
use Rattle.wkt_crs.specs.Definition.{HasNone, HasKey, HasName, IsDefinedBy, IsDefinition, IsCrsOf, IsNameIn, IsKeyIn, IsCanonicalFault, of_read}
use Rattle.wkt_crs.proofs.Texts.{one_value}
use Rattle.wkt_crs.proofs.Written.{canonical_spells}

pub canonical_text : (crs : Crs) (bytes : List ℕ) → bytes ≡ canon crs → length bytes ≤ 65536 → Spells bytes crs
canonical_text crs bytes e short =
    let n = ap length e in
    subst (λ b. Spells b crs) (sym e) (canonical_spells crs (omega (arith, n, short)))

pub spelled_by_definition : (bytes : List ℕ) (d : IsDefinition bytes) → Spells bytes d.crs
spelled_by_definition bytes d = canonical_text d.crs bytes d.canonical d.short

-- ---- a definition, its key and its name

-- bytes are a definition in at most one way
one_definition : (bytes : List ℕ) → IsProp (IsDefinition bytes)
one_definition bytes d e =
    let p = one_value bytes d.crs e.crs (spelled_by_definition bytes d) (spelled_by_definition bytes e) in
    λ i. record {
      crs = p i;
      canonical = is_prop→PathP (λ j. bytes ≡ canon (p j)) (λ j. hlevel props) d.canonical e.canonical i;
      short = le_prop d.short e.short i;
      identified = is_prop→PathP (λ j. ¬ (HasNone (p j))) (λ j. hlevel props) d.identified e.identified i;
    }

pub is_definition : (key : Key) (name : Text) (bytes : List ℕ) → IsDefinedBy key name bytes → IsDefinition bytes
is_definition key name bytes d = ∥∥₁_elim d.definition (one_definition bytes) (λ x. x)

pub is_name_in : (key : Key) (name : Text) (bytes : List ℕ) → IsDefinedBy key name bytes → IsNameIn name bytes
is_name_in key name bytes d =
    let x = is_definition key name bytes d in
    let s = spelled_by_definition bytes x in
    (x.crs, (x.canonical, s), d.named x.crs s)

pub is_key_in : (key : Key) (name : Text) (bytes : List ℕ) → IsDefinedBy key name bytes → IsKeyIn key bytes
is_key_in key name bytes d =
    let x = is_definition key name bytes d in
    let s = spelled_by_definition bytes x in
    (x.crs, s, x.identified, d.keyed x.crs s)

pub key_of_first : (ids : List Ident) (key : Key) → IsFirstKey ids (Some key) → (id : Ident) (others : List Ident) → ids ≡ id ∷ others → IsKeyOf id key
key_of_first [] key h id others e = absurd cc
key_of_first (x ∷ xs) key h id others e = let same : x ≡ id = cc in subst (λ i. IsKeyOf i key) same h

pub some_first : (ids : List Ident) (o : Option Key) → o ≡ None → ¬ (ids ≡ []) → IsFirstKey ids o → ⊥
some_first [] o e n h = n refl
some_first (x ∷ xs) None e n h = absurd h
some_first (x ∷ xs) (Some key) e n h = absurd cc

pub defines : (crs : Crs) (key : Key) (name : Text) (bytes : List ℕ) → (bytes ≡ canon crs) × (length bytes ≤ 65536) × ¬ (HasNone crs) → HasKey crs key → HasName crs name → IsDefinedBy key name bytes
defines crs key name bytes h k n =
    let s = canonical_text crs bytes h.0 h.1 in
    record {
      definition = ∣ record { crs = crs; canonical = h.0; short = h.1; identified = h.2 } ∣₁;
      keyed = λ v t. subst (λ w. HasKey w key) (one_value bytes crs v s t) k;
      named = λ v t. subst (λ w. HasName w name) (one_value bytes crs v s t) n;
    }

-- ---- bytes that are compared

pub same_bytes : (a b : List ℕ) → pointwise nat_eq a b ≡ true → a ≡ b
same_bytes a b h = same_text a b (sym h)

pub not_same : (a b : List ℕ) → pointwise nat_eq a b ≡ false → a ≡ b → ⊥
not_same a b h = other_text a b (sym h)

-- ---- texts that are definitions

-- a definition that spells a value is its canonical text, and the value has an identifier
pub of_definition : (bytes : List ℕ) (crs : Crs) → IsDefinition bytes → Spells bytes crs → (bytes ≡ canon crs) × (HasNone crs → ⊥)
of_definition bytes crs d s =
    let same : d.crs ≡ crs = one_value bytes d.crs crs (canonical_text d.crs bytes d.canonical d.short) s in
    subst (λ v. (bytes ≡ canon v) × (HasNone v → ⊥)) same (d.canonical, d.identified)

pub crs_of_definition : (bytes : List ℕ) (crs : Crs) → IsDefinition bytes → Spells bytes crs → IsCrsOf crs bytes
crs_of_definition bytes crs d s = ((of_definition bytes crs d s).0, s)

pub same_ok : (result : Result (List ℕ) DefinitionFault) (text bytes : List ℕ) → text ≡ bytes → IfOk result (λ d. d ≡ text) → IfOk result (λ d. d ≡ bytes)
same_ok (Ok d) text bytes e h = h ∙ e
same_ok (Err f) text bytes e h = h

pub same_only : (result : Result (List ℕ) DefinitionFault) (text bytes : List ℕ) → text ≡ bytes → IfOk result (λ d. d ≡ text) → IfErr result (λ f. f ≡ fault.Memory) → (result ≡ Ok bytes) ⊎ (result ≡ Err fault.Memory)
same_only (Ok d) text bytes e h g = inl (ap Ok (h ∙ e))
same_only (Err f) text bytes e h g = inr (ap Err g)

pub spelled_as_defined : (crs : Crs) → IsDefinition (canon crs) → Spells (canon crs) crs
spelled_as_defined crs d = let short = d.short in canonical_spells crs (omega (arith, short))

pub read_refused : (bytes : List ℕ) (f : ReadFault) → length bytes ≤ 65536 → FirstFault bytes f → IsCanonicalFault bytes (of_read f)
read_refused bytes (read.Text f) short h = (short, h)
read_refused bytes (read.Slot f) short h = (short, h)
read_refused bytes (read.Broken condition at) short h = (short, h)
read_refused bytes read.Memory short h = tt

-- a fault of a text is not `Memory`
pub not_memory : (f : Unspelled) → as_read f ≡ read.Memory → ⊥
not_memory (refused.Text f) e = cc
not_memory (refused.Slot f) e = cc
not_memory (refused.Broken condition at) e = cc

known : Option Unspelled → Unspelled → Unspelled
known (Some f) g = f
known None g = g

unspelled_read : (f : Unspelled) → unspelled (as_read f) ≡ Some f
unspelled_read (refused.Text f) = refl
unspelled_read (refused.Slot f) = refl
unspelled_read (refused.Broken condition at) = refl

-- faults with the same result of reading are the same
pub one_refusal : (f g : Unspelled) → as_read f ≡ as_read g → f ≡ g
unfolding known
one_refusal f g e = ap (λ o. known o f) (sym (unspelled_read f) ∙ (ap unspelled e ∙ unspelled_read g))
