-- The lines of an import, as far as its texts are taken.
use Rattle.std.proofs.Common.{◌≡◌, ℕ, ◌+◌, List, [], ◌∷◌, ◌++◌, append_assoc, append-nil, length, length-append, filter, map, Some, None, refl, sym, ap, ◌∙◌, subst, arith}
use Rattle.std.specs.Prelude.{Option}
use Rattle.std.specs.Borrow.{Bor}
use Rattle.std.specs.BTreeMap.{is_at}
use Rattle.std.specs.BTreeSet.{BTreeSet}
use Rattle.std.specs.List.{list_any}
use Rattle.std.proofs.lemmas.Bool.{true≢false}
use Rattle.std.specs.String.{string_bytes}
use Rattle.std.proofs.lemmas.List.{map-append}
use Rattle.std.proofs.lemmas.List.Elements.{filter-append}
use Rattle.csv.specs.Writing.{row_text, default_writer}
use Rattle.reg_report.specs.Lines.{AreLines}
use Rattle.reg_import.specs.declared.indexed_key.IndexedKey.{IndexedKey}
use Rattle.reg_import.specs.declared.listing.Listing.{Listing}
use Rattle.reg_import.specs.declared.listing.ImportLines.{ImportLines}
use Rattle.reg_import.specs.declared.reading.FileText.{FileText}
use Rattle.reg_import.specs.declared.reading.ReadText.{ReadText}
use Rattle.reg_import.specs.declared.action.TextAction.{TextAction}
use Rattle.reg_import.specs.Readings.{readings, keys_in}
use Rattle.reg_import.specs.Gone.{HasKeys}
use Rattle.reg_report.specs.Conflicts.{KeyBytes}
use Rattle.reg_report.proofs.ConflictLemmas.{none_in}
use Rattle.reg_import.specs.Index.{key_bytes, text_cmp}
use Rattle.reg_import.specs.Lines.{Line, lines_of, is_shown, import_header, IsImportLine}
use Rattle.reg_import.specs.Listing.{PacksLines}
use Rattle.reg_import.specs.Listed.{HasKeysOf, HasListed}
use Rattle.reg_import.proofs.LineLemmas.{pack_none, pack_more}
use Rattle.reg_import.proofs.GoneLemmas.{keys_in-append}

lines_both : (xs ys : List FileText) (ts us : List TextAction) → length xs ≡ length ts → lines_of (xs ++ ys) (ts ++ us) ≡ lines_of xs ts ++ lines_of ys us
lines_both [] ys [] us h = refl
lines_both [] ys (t ∷ ts) us h = absurd (omega (arith, h))
lines_both (x ∷ xs) ys [] us h = absurd (omega (arith, h))
lines_both (x ∷ xs) ys (t ∷ ts) us h = ap (λ l. record { text = x; told = t } ∷ l) (lines_both xs ys ts us (omega (arith, h)))

both_long : {A B : Type 0} (xs ys : List A) (ts us : List B) → length xs ≡ length ts → length ys ≡ length us → length (xs ++ ys) ≡ length (ts ++ us)
both_long xs ys ts us h k = length-append xs ys ∙ (λ j. h j + k j) ∙ sym (length-append ts us)

pub none_listed : (l : Listing) (w : ImportLines) → w.packed.value ≡ row_text default_writer import_header → w.texts.items ≡ [] → w.told.items ≡ [] → HasKeysOf l.gone [] w.keys → HasListed l [] [] w
none_listed l w header texts told keys = record {
  before = [];
  did = [];
  paired = refl;
  waiting = ap length texts ∙ sym (ap length told);
  texts_are = sym texts;
  told_are = sym told;
  packed = subst (PacksLines (IsImportLine (map string_bytes l.names.now)) [] (row_text default_writer import_header)) (sym header) (pack_none (IsImportLine (map string_bytes l.names.now)) (row_text default_writer import_header));
  keys = keys;
}

module _ (l : Listing) (texts : List FileText) (ts : List TextAction) (w new : ImportLines) (h : HasListed l texts ts w) where
  -- one more text waits
  pub one_listed : (text : FileText) (t : TextAction) → new.packed ≡ w.packed → new.texts.items ≡ w.texts.items ++ text ∷ [] → new.told.items ≡ w.told.items ++ t ∷ []
      → HasKeysOf l.gone (readings texts ++ text.reading ∷ []) new.keys → HasListed l (texts ++ text ∷ []) (ts ++ t ∷ []) new
  one_listed text t packed pushed told keys = record {
    before = h.before;
    did = h.did;
    paired = h.paired;
    waiting = ap length pushed ∙ both_long w.texts.items (text ∷ []) w.told.items (t ∷ []) h.waiting refl ∙ sym (ap length told);
    texts_are = ap (λ l. l ++ text ∷ []) h.texts_are ∙ append_assoc h.before w.texts.items (text ∷ []) ∙ ap (λ l. h.before ++ l) (sym pushed);
    told_are = ap (λ l. l ++ t ∷ []) h.told_are ∙ append_assoc h.did w.told.items (t ∷ []) ∙ ap (λ l. h.did ++ l) (sym told);
    packed = subst (PacksLines (IsImportLine (map string_bytes l.names.now)) (filter (is_shown l.changes) (lines_of h.before h.did)) (row_text default_writer import_header)) (ap (λ b. b.value) (sym packed)) h.packed;
    keys = subst (λ rs. HasKeysOf l.gone rs new.keys) (sym (map-append (λ (t : FileText). t.reading) texts (text ∷ []))) keys;
  }

  -- the lines of those that wait are packed
  pub all_listed : (text : List ℕ) → AreLines (IsImportLine (map string_bytes l.names.now)) (filter (is_shown l.changes) (lines_of w.texts.items w.told.items)) text → new.packed.value ≡ w.packed.value ++ text
      → new.texts.items ≡ [] → new.told.items ≡ [] → new.keys ≡ w.keys → HasListed l texts ts new
  all_listed text are packed no_texts no_told keys = record {
    before = texts;
    did = ts;
    paired = ap length h.texts_are ∙ both_long h.before w.texts.items h.did w.told.items h.paired h.waiting ∙ sym (ap length h.told_are);
    waiting = ap length no_texts ∙ sym (ap length no_told);
    texts_are = sym (append-nil texts) ∙ ap (λ l. texts ++ l) (sym no_texts);
    told_are = sym (append-nil ts) ∙ ap (λ l. ts ++ l) (sym no_told);
    packed =
        let names = map string_bytes l.names.now in
        let shown : filter (is_shown l.changes) (lines_of texts ts) ≡ filter (is_shown l.changes) (lines_of h.before h.did) ++ filter (is_shown l.changes) (lines_of w.texts.items w.told.items) =
        (λ j. filter (is_shown l.changes) (lines_of (h.texts_are j) (h.told_are j)))
        ∙ ap (filter (is_shown l.changes)) (lines_both h.before w.texts.items h.did w.told.items h.paired)
        ∙ filter-append (is_shown l.changes) (lines_of h.before h.did) (lines_of w.texts.items w.told.items) in
        subst (λ (ls : List Line). PacksLines (IsImportLine names) ls (row_text default_writer import_header) new.packed.value) (sym shown)
        (pack_more (IsImportLine names) (filter (is_shown l.changes) (lines_of h.before h.did)) (filter (is_shown l.changes) (lines_of w.texts.items w.told.items)) (row_text default_writer import_header) w.packed.value new.packed.value text h.packed are packed);
    keys = subst (HasKeysOf l.gone (readings texts)) (sym keys) h.keys;
  }

-- where none waits, all lines are packed
pub listed_lines : (l : Listing) (texts : List FileText) (ts : List TextAction) (w : ImportLines) → w.texts.items ≡ [] → w.told.items ≡ [] → HasListed l texts ts w
    → PacksLines (IsImportLine (map string_bytes l.names.now)) (filter (is_shown l.changes) (lines_of texts ts)) (row_text default_writer import_header) w.packed.value
listed_lines l texts ts w no_texts no_told h =
    let all : texts ≡ h.before = h.texts_are ∙ ap (λ l. h.before ++ l) no_texts ∙ append-nil h.before in
    let did : ts ≡ h.did = h.told_are ∙ ap (λ l. h.did ++ l) no_told ∙ append-nil h.did in
    subst (λ (ls : List Line). PacksLines (IsImportLine (map string_bytes l.names.now)) (filter (is_shown l.changes) ls) (row_text default_writer import_header) w.packed.value) (λ j. lines_of (sym all j) (sym did j)) h.packed

-- ---- keys

no_key : (keys : BTreeSet IndexedKey) → keys.keys ≡ [] → HasKeys keys []
no_key keys e q = (λ yes. absurd (true≢false (sym yes ∙ ap (list_any (is_at (text_cmp q))) e)), λ h. absurd (none_in (key_bytes q) h))

pub no_keys : (authority : Option (Bor (List ℕ))) (keys : BTreeSet IndexedKey) → keys.keys ≡ [] → HasKeysOf authority [] keys
no_keys None keys e = tt
no_keys (Some a) keys e = no_key keys e

pub more_keys : (authority : Option (Bor (List ℕ))) (a : Bor (List ℕ)) (rs : List ReadText) (r : ReadText) (old new : BTreeSet IndexedKey) → authority ≡ Some a → HasKeysOf authority rs old
    → ((before : List KeyBytes) → HasKeys old before → HasKeys new (before ++ keys_in (r ∷ []))) → HasKeysOf authority (rs ++ r ∷ []) new
more_keys None a rs r old new is has more = absurd cc
more_keys (Some b) a rs r old new is has more = subst (HasKeys new) (sym (keys_in-append rs (r ∷ []))) (more (keys_in rs) has)
