-- Imports that end at their first text, whatever the register is, and those that do not.
use Rattle.std.proofs.Common.{◌≡◌, ℕ, ◌+◌, ◌≤◌, nat_lt, Bool, true, false, not, ◌&&◌, cond, List, [], ◌∷◌, filter, length, Some, None, Ok, Err, refl, sym, ap, ◌∙◌, subst, arith}
use Rattle.std.specs.Prelude.{Contains}
use Rattle.std.proofs.lemmas.Bool.{true≢false}
use Rattle.std.proofs.lemmas.Bool.Decides.{nat_tests}
use Rattle.crs_number.specs.Canonical.{canonical}
use Rattle.crs_number.proofs.Spelled.{canonical_spells}
use Rattle.crs_part.specs.declared.identifiers.Ident.{Ident}
use Rattle.crs_part.specs.declared.identifiers.NumberOrText.{NumberOrText}
use Rattle.crs_part.specs.declared.identifiers.NumberOrText.TheVariants as code
use Rattle.crs_part.specs.declared.text.Text.{Text}
use Rattle.crs_part.specs.Slots.{ids_of}
use Rattle.crs_part.proofs.Spelled.{spelled_is_utf8}
use Rattle.crs_value.specs.declared.crs.Crs.{Crs}
use Rattle.crs_value.specs.declared.key.Key.{Key}
use Rattle.crs_value.specs.Keys.{text_of, IsKeyOf}
use Rattle.wkt_crs.specs.Definition.{HasNone, HasKey, IsDefinition, IsKeyIn}
use Rattle.wkt_crs.specs.declared.definition.DefinitionFault.{DefinitionFault}
use Rattle.wkt_crs.proofs.Defining.{spelled_by_definition}
use Rattle.reg_op.specs.Operations.{Op}
use Rattle.reg_op.specs.declared.operation.OpBody.{OpBody as Body}
use Rattle.reg_op.specs.Contents.{Content, IsContent}
use Rattle.reg_op.specs.Rows.{Row, rows}
use Rattle.reg_report.proofs.ConflictLemmas.{in_head, in_tail}
use Rattle.reg_office.specs.declared.fault.OfficeFault.TheVariants as fault
use Rattle.reg_office.specs.Making.{greatest, objections, else_next, is_spent, made_unless, new_ops, made}
use Rattle.reg_import.specs.declared.standing_entry.StandingEntry.{StandingEntry}
use Rattle.reg_import.specs.declared.reading.ReadText.{ReadText}
use Rattle.reg_import.specs.declared.reading.ReadText.TheVariants as reading
use Rattle.reg_import.specs.declared.action.Differs.{Differs}
use Rattle.reg_import.specs.declared.action.Problem.TheVariants as problem
use Rattle.reg_import.specs.declared.action.TextAction.{TextAction}
use Rattle.reg_import.specs.declared.import.ImportRefusal.TheVariants as refusal
use Rattle.reg_import.specs.Known.{is_valid, AreKnown, stands, AreStanding, At, by_key}
use Rattle.reg_import.specs.Imports.{imports, tolds, effects, NoneRefused}
use Rattle.reg_import.specs.Plans.{begins_unread, MayRunOut, Imports, IsImportRefusal}
use Rattle.reg_import.proofs.StandingLemmas.{in_filter}
use Rattle.reg_import.proofs.LawLemmas.{defined_rows}

-- ---- each content has entries that are not retired, perhaps none

-- a code has a text
code_text : (c : NumberOrText) → (t : Text) × (t.bytes ≡ text_of c)
code_text (code.Text t) = (t, refl)
code_text (code.Number n) = (
  record { bytes = canonical n.coefficient n.exponent; utf8 = spelled_is_utf8 (canonical n.coefficient n.exponent) n.coefficient n.exponent (canonical_spells n) },
  refl,
)

-- the first identifier has a key
key_in : (crs : Crs) (ids : List Ident) → ids_of crs.parts ≡ ids → ¬ (HasNone crs) → (key : Key) × HasKey crs key
key_in crs [] e some = absurd (some e)
key_in crs (id ∷ others) e some =
    let its = code_text id.code in
    let key : Key = record { authority = id.authority; code = its.0 } in (
      key,
      λ i is h.
          let both : id ∷ others ≡ i ∷ is = sym e ∙ h in
          let same : id ≡ i = cc in
          subst (λ j. IsKeyOf j key) same (record { authority = refl; code = its.1 }),
    )

has_key : (w : List ℕ) → IsDefinition w → (key : Key) × IsKeyIn key w
has_key w d = let k = key_in d.crs (ids_of d.crs.parts) refl d.identified in (k.0, (d.crs, spelled_by_definition w d, d.identified, k.1))

known : (rs : List Row) → ((r : Row) → Contains rs r → IsDefinition r.definition) → (es : List StandingEntry) × AreKnown rs es
known [] are = ([], refl)
known (r ∷ rs) are =
    let k = has_key r.definition (are r (in_head r rs)) in
    let rest = known rs (λ q c. are q (in_tail q r rs c)) in
    let e : StandingEntry = record { entry = r.entry; key = k.0; definition = r.definition; valid = is_valid r.status } in
    (e ∷ rest.0, (e, rest.0, record { entry = refl; definition = refl; keyed = k.1; valid = refl }, rest.1, refl))

standing_entries : (x : Content) → IsContent x → (es : List StandingEntry) × AreStanding x.ops es
standing_entries x is = known (filter stands (rows x.ops)) (λ r c. defined_rows x is r (in_filter stands (rows x.ops) r c).0)

-- ---- an import that ends at its first text

pub ends_at_first : (x : Content) (r note : List ℕ) (d : Differs) (keep_going : Bool) (f : DefinitionFault) (rs : List ReadText) → IsContent x → length note ≤ 200 → keep_going ≡ false
    → IsImportRefusal x r note d keep_going (reading.Unread f ∷ rs) (refusal.Refused 0 (problem.Unread f))
ends_at_first x r note d keep_going f rs is short ends =
    let es = standing_entries x is in
    (short, (imports d r (greatest r x.seen + 1) (by_key es.0) (reading.Unread f ∷ rs), (es.0, es.1, refl), (ends, record { refused = refl; first = refl })))

-- ---- one that does not

not_more : (n : ℕ) → nat_lt 200 n ≡ false → n ≤ 200
not_more n h = grind (arith, nat_tests)

-- an office that makes operations has no note that is too long
short_note : (x : Content) (r note : List ℕ) (bodies : List Body) (ops : List Op) → made x r note bodies ≡ Ok ops → length note ≤ 200
short_note x r note bodies ops h = elim (nat_lt 200 (length note)) as (λ b. nat_lt 200 (length note) ≡ b → length note ≤ 200) [
  | true ↦ λ e.
      let os : List Op = new_ops x r note bodies in
      let told : made x r note bodies ≡ Err fault.NoteTooLong = ap (λ (b : Bool). made_unless (else_next (cond b (Some fault.NoteTooLong) None) (objections x os)) (is_spent (greatest r x.seen) (length bodies)) os) e in
      let refused = sym told ∙ h in
      absurd cc
  | false ↦ λ e. not_more (length note) e
] refl

pub not_first : (d : Differs) (r : List ℕ) (n : ℕ) (at : At) (keep_going : Bool) (rs : List ReadText) → (keep_going ≡ false → NoneRefused (tolds (imports d r n at rs))) → (not keep_going && begins_unread rs) ≡ false
not_first d r n at true rs h = refl
not_first d r n at false [] h = refl
not_first d r n at false (reading.Unread f ∷ rs) h = absurd (true≢false (h refl))
not_first d r n at false (reading.Defined text key ∷ rs) h = refl

pub imported_may : (x y : Content) (r note : List ℕ) (d : Differs) (keep_going : Bool) (rs : List ReadText) (ts : List TextAction) → Imports x r note d keep_going rs y ts → MayRunOut note keep_going rs
imported_may x y r note d keep_going rs ts m = (
  short_note x r note (effects m.steps) m.does.ops m.does.are_made,
  not_first d r (greatest r x.seen + 1) (by_key m.are_steps.0) keep_going rs (λ e. subst NoneRefused (m.told ∙ ap tolds m.are_steps.2) (m.passes e)),
)
