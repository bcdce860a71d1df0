-- Texts that are read up to one that is no definition are refused as all texts of the files are.
use Rattle.std.proofs.Common.{◌≡◌, ◌⊎◌, ℕ, ◌+◌, ◌^◌, ◌≤◌, Bool, true, false, cond, length, List, [], ◌∷◌, ◌++◌, Some, append-nil, refl, sym, ap, ◌∙◌, subst, inl, inr, zero, suc}
use Rattle.std.specs.Prelude.{option_map, Option}
use Rattle.std.specs.Option.{unwrap_or}
use Rattle.std.specs.List.{list_any, slice_get}
use Rattle.std.proofs.lemmas.List.{map-append}
use Rattle.reg_op.specs.Contents.{Content, IsContent}
use Rattle.reg_office.specs.Making.{greatest}
use Rattle.reg_import.specs.declared.action.Differs.{Differs}
use Rattle.reg_import.specs.declared.action.Problem.TheVariants as problem
use Rattle.reg_import.specs.declared.action.TextAction.{TextAction}
use Rattle.reg_import.specs.declared.reading.ReadText.TheVariants as reading
use Rattle.reg_import.specs.Known.{At, by_key}
use Rattle.reg_import.specs.Imports.{told_at, bodies_at, then_at, imports, tolds}
use Rattle.reg_import.proofs.AtOnceLemmas.{ends_at_first}
use Rattle.reg_import.specs.declared.reading.FileText.{FileText}
use Rattle.reg_import.specs.declared.action.Problem.{Problem}
use Rattle.reg_import.specs.declared.action.TextAction.TheVariants as told
use Rattle.reg_import.specs.declared.import.ImportRefusal.{ImportRefusal}
use Rattle.reg_import.specs.declared.import.ImportRefusal.TheVariants as refused
use Rattle.reg_import.specs.Readings.{is_unread, place_in, readings}
use Rattle.reg_import.specs.Plans.{IsImportRefusal}
use Rattle.reg_import.proofs.ReadingLemmas.{one_reading}
use Rattle.reg_import.proofs.FrontLemmas.{get_front, none_imported, refusal_on}
use Rattle.reg_engine.specs.declared.fault.CliFault.TheVariants as cli
use Rattle.reg_desk.specs.declared.import.options.ImportOptions.{ImportOptions}
use Rattle.reg_desk.specs.declared.import.fault.ImportFault.{ImportFault}
use Rattle.reg_desk.specs.declared.import.fault.ImportFault.TheVariants as import
use Rattle.reg_desk.specs.declared.import.fault.Unimported.{Unimported}
use Rattle.reg_desk.specs.ImportTexts.{TextAt, AreRead, HaveTexts, AreGiven}
use Rattle.reg_desk.specs.ImportLinks.{IsOnlyImported}
use Rattle.reg_desk.specs.ImportNotes.{note_of}
use Rattle.reg_desk.specs.Import.{names_of, IsAgainst, if_explained, note_at, IsRefusedAt, MakesOf, Makes, IsUncounted, TakesMemory, IsRefusedBy, IsUnmadeOf, IsFaultOf, EndsAtFirst, IsUnmade, IsPlain}
use Rattle.reg_desk.proofs.SameTexts.{same_reading, one_cuts, one_read}

-- ---- the first of all readings

record Front (cuts later : List TextAt) (whole : List FileText) : Type 0 where
  front : List FileText
  behind : List FileText
  read : AreRead cuts front
  is : whole ≡ front ++ behind

front_of : (cuts later : List TextAt) (whole : List FileText) → AreRead (cuts ++ later) whole → Front cuts later whole
front_of [] later whole h = record { front = []; behind = whole; read = tt; is = refl }
front_of (c ∷ cuts) later [] h = absurd h
front_of (c ∷ cuts) later (t ∷ whole) h =
    let s = front_of cuts later whole h.1 in
    record { front = t ∷ s.front; behind = s.behind; read = (h.0, s.read); is = ap (λ l. t ∷ l) s.is }

-- another reading of the same text has its places
record Again (us : List FileText) (i : ℕ) (t : FileText) : Type 0 where
  other : FileText
  there : slice_get us i ≡ Some other
  told : other.at ≡ t.at
  file : other.file ≡ t.file

again : (cuts : List TextAt) (ts us : List FileText) (i : ℕ) (t : FileText) → AreRead cuts ts → AreRead cuts us → slice_get ts i ≡ Some t → Again us i t
again [] [] us i t h k e = absurd cc
again [] (w ∷ ts) us i t h k e = absurd h
again (c ∷ cuts) [] us i t h k e = absurd h
again (c ∷ cuts) (w ∷ ts) [] i t h k e = absurd k
again (c ∷ cuts) (w ∷ ts) (u ∷ us) zero t h k e =
    let same : w ≡ t = cc in
    let reads : u.reading ≡ w.reading = same_reading u.reading w.reading (one_reading c.bytes u.reading w.reading k.0.reads h.0.reads) in
    record {
      other = u;
      there = refl;
      told = k.0.told_at ∙ ap (λ r. c.place + place_in r) reads ∙ sym h.0.told_at ∙ ap (λ (v : FileText). v.at) same;
      file = k.0.in_file ∙ sym h.0.in_file ∙ ap (λ (v : FileText). v.file) same;
    }
again (c ∷ cuts) (w ∷ ts) (u ∷ us) (suc i) t h k e =
    let m = again cuts ts us i t h.1 k.1 e in
    record { other = m.other; there = m.there; told = m.told; file = m.file }

cut_of : (cuts : List TextAt) (ts : List FileText) (i : ℕ) (t : FileText) → AreRead cuts ts → slice_get ts i ≡ Some t → (c : TextAt) × (slice_get cuts i ≡ Some c)
cut_of [] [] i t h e = absurd cc
cut_of [] (w ∷ ts) i t h e = absurd h
cut_of (c ∷ cuts) [] i t h e = absurd h
cut_of (c ∷ cuts) (w ∷ ts) zero t h e = (c, refl)
cut_of (c ∷ cuts) (w ∷ ts) (suc i) t h e = cut_of cuts ts i t h.1 e

text_of : (first : ℕ) (texts : List FileText) (i : ℕ) (p : Problem) (f : ImportFault) → IsAgainst first texts i p f → (t : FileText) × (slice_get texts i ≡ Some t)
text_of first texts i p (import.Cli f) h = absurd h
text_of first texts i p (import.Refused q place file) h = (h.0, h.1)

some_at : (d : Differs) (r : List ℕ) (n : ℕ) (at : At) (ts : List FileText) (i : ℕ) (t : TextAction) → slice_get (tolds (imports d r n at (readings ts))) i ≡ Some t → (q : FileText) × (slice_get ts i ≡ Some q)
some_at d r n at [] i t h = absurd cc
some_at d r n at (q ∷ ts) zero t h = (q, refl)
some_at d r n at (q ∷ ts) (suc i) t h =
    let a : TextAction = told_at d r n at q.reading in
    some_at d r (n + length (bodies_at a at q.reading)) (then_at a at q.reading) ts i t h

-- ---- the fault of the first texts, and of all

module _ (o : ImportOptions) (first : ℕ) (x : Content) (files : List (List ℕ)) (cuts later : List TextAt) (texts whole : List FileText) (read : AreRead cuts texts) (all : AreRead (cuts ++ later) whole) where
  abbrev s : Front cuts later whole
  s = front_of cuts later whole all

  whole_readings : readings whole ≡ readings texts ++ readings s.behind
  whole_readings = ap readings s.is ∙ map-append (λ (t : FileText). t.reading) s.front s.behind ∙ ap (λ l. l ++ readings s.behind) (one_read cuts s.front texts s.read read)

  against_on : (i : ℕ) (p : Problem) (f : ImportFault) → IsAgainst first texts i p f → IsAgainst first whole i p f
  against_on i p (import.Cli f) h = absurd h
  against_on i p (import.Refused q place file) h =
      let m = again cuts texts s.front i h.0 read s.read h.1 in
      (m.other, subst (λ l. slice_get l i ≡ Some m.other) (sym s.is) (get_front s.front s.behind i m.other m.there), h.2, h.3 ∙ sym m.told, h.4 ∙ ap (λ n. first + n) (sym m.file))

  note_on : (i : ℕ) (p : Problem) (t : FileText) → slice_get texts i ≡ Some t → note_at o files cuts i p ≡ note_at o files (cuts ++ later) i p
  note_on i p t e =
      let c = cut_of cuts texts i t read e in
      ap (λ (g : Option TextAt). unwrap_or (option_map (λ c. note_of (names_of o) files c (told.Refused p)) g) []) (c.1 ∙ sym (get_front cuts later i c.0 c.1))

  refused_on : (i : ℕ) (p : Problem) (u : Unimported) → IsRefusedAt o first files cuts texts i p u → IsRefusedAt o first files (cuts ++ later) whole i p u
  refused_on i p u h =
      let t = text_of first texts i p u.fault h.0 in
      (against_on i p u.fault h.0, h.1 ∙ ap (if_explained o) (note_on i p t.0 t.1))

  -- a text that is refused is there
  refused_text : (i : ℕ) (p : Problem) → IsImportRefusal x o.replica o.note.now o.differs o.keep_going (readings texts) (refused.Refused i p) → (t : FileText) × (slice_get texts i ≡ Some t)
  refused_text i p h =
      some_at o.differs o.replica (greatest o.replica x.seen + 1) (by_key h.1.1.0) texts i (told.Refused p) (subst (λ l. slice_get (tolds l) i ≡ Some (told.Refused p)) h.1.1.2 h.1.2.1.refused)

  takes_on : (i : ℕ) (t : FileText) → slice_get texts i ≡ Some t → TakesMemory o first (slice_get texts i) → TakesMemory o first (slice_get whole i)
  takes_on i t e (inl explained) = inl explained
  takes_on i t e (inr far) =
      let m = again cuts texts s.front i t read s.read e in
      let there : slice_get whole i ≡ Some m.other = subst (λ l. slice_get l i ≡ Some m.other) (sym s.is) (get_front s.front s.behind i m.other m.there) in
      let here : 2 ^ 64 ≤ first + t.file = subst (IsUncounted first) e far in
      inr (subst (IsUncounted first) (sym there) (subst (λ n. 2 ^ 64 ≤ first + n) (sym m.file) here))

  by_on : (r : ImportRefusal) (u : Unimported) → IsImportRefusal x o.replica o.note.now o.differs o.keep_going (readings texts) r → IsRefusedBy o first files cuts texts r u → IsRefusedBy o first files (cuts ++ later) whole r u
  by_on refused.NoteTooLong u is h = h
  by_on (refused.Refused i p) u is h = elim h [
    | inl at ↦ inl (refused_on i p u at)
    | inr memory ↦ let t = refused_text i p is in inr (memory.0, takes_on i t.0 t.1 memory.1)
  ]
  by_on refused.CountSpent u is h = h
  by_on refused.Memory u is h = h

  -- if no other text is there
  unmade_same : readings texts ≡ readings whole → (u : Unimported) → IsUnmadeOf o first x files cuts texts u → IsUnmadeOf o first x files (cuts ++ later) whole u
  unmade_same e u (inl (r, h, by)) = inl (r, subst (λ rs. IsImportRefusal x o.replica o.note.now o.differs o.keep_going rs r) e h, by_on r u h by)
  unmade_same e u (inr (f, only, plain)) = inr (f, subst (λ rs. IsOnlyImported o x rs f) e only, plain)

  -- if one is no definition
  unmade_on : o.keep_going ≡ false → list_any is_unread (readings texts) ≡ true → (u : Unimported) → IsUnmadeOf o first x files cuts texts u → IsUnmadeOf o first x files (cuts ++ later) whole u
  unmade_on ends unread u (inl (r, h, by)) =
      inl (r, subst (λ rs. IsImportRefusal x o.replica o.note.now o.differs o.keep_going rs r) (sym whole_readings) (refusal_on x o.replica o.note.now o.differs o.keep_going (readings texts) ends unread (readings s.behind) r h), by_on r u h by)
  unmade_on ends unread u (inr (f, only, plain)) = absurd (none_imported x o.replica o.note.now o.differs o.keep_going (readings texts) ends unread only.between only.told only.imports)

-- the fault is that of all texts
pub as_all_are : (o : ImportOptions) (first : ℕ) (x : Content) (files : List (List ℕ)) (cuts all : List TextAt) (texts whole : List FileText) → AreGiven o.keep_going files cuts texts → HaveTexts files all whole
    → (u : Unimported) → IsUnmadeOf o first x files cuts texts u → IsUnmadeOf o first x files all whole u
as_all_are o first x files cuts all texts whole (inl these) have u h =
    let same : cuts ++ [] ≡ all = append-nil cuts ∙ one_cuts 0 files cuts all these.cut have.cut in
    let read : AreRead (cuts ++ []) whole = subst (λ l. AreRead l whole) (sym same) have.read in
    let is : readings texts ≡ readings whole = one_read cuts texts whole these.read (subst (λ l. AreRead l whole) (append-nil cuts) read) in
    subst (λ l. IsUnmadeOf o first x files l whole u) same (unmade_same o first x files cuts [] texts whole these.read read is u h)
as_all_are o first x files cuts all texts whole (inr (ends, b)) have u h =
    let same : cuts ++ b.later ≡ all = one_cuts 0 files (cuts ++ b.later) all b.cut have.cut in
    let read : AreRead (cuts ++ b.later) whole = subst (λ l. AreRead l whole) (sym same) have.read in
    subst (λ l. IsUnmadeOf o first x files l whole u) same (unmade_on o first x files cuts b.later texts whole b.read read ends b.unread u h)

-- the first text is refused as it is among all
refused_first : (o : ImportOptions) (first : ℕ) (x : Content) (files : List (List ℕ)) (text : TextAt) (later : List TextAt) (whole : List FileText) (u : Unimported) → AreRead (text ∷ later) whole → IsContent x
    → length o.note.now ≤ 200 → o.keep_going ≡ false → o.explain ≡ false → IsFaultOf first text u.fault → u.notes.items ≡ [] → IsUnmadeOf o first x files (text ∷ later) whole u
refused_first o first x files text later [] u read is short ends plain fault notes = absurd read
refused_first o first x files text later (t ∷ ts) u read is short ends plain (f, reads, told) notes =
    let r : t.reading ≡ reading.Unread f = same_reading t.reading (reading.Unread f) (one_reading text.bytes t.reading (reading.Unread f) read.0.reads reads) in
    let rs : readings (t ∷ ts) ≡ reading.Unread f ∷ readings ts = ap (λ q. q ∷ readings ts) r in
    inl (
      refused.Refused 0 (problem.Unread f),
      subst (λ qs. IsImportRefusal x o.replica o.note.now o.differs o.keep_going qs (refused.Refused 0 (problem.Unread f))) (sym rs)
          (ends_at_first x o.replica o.note.now o.differs o.keep_going f (readings ts) is short ends),
      inl (
        subst (IsAgainst first (t ∷ ts) 0 (problem.Unread f)) (sym told)
            (t, refl, refl, sym (read.0.told_at ∙ ap (λ q. text.place + place_in q) r), ap (λ n. first + n) (sym read.0.in_file)),
        notes ∙ ap (λ (b : Bool). cond b (note_at o files (text ∷ later) 0 (problem.Unread f)) []) (sym plain),
      ),
    )

pub first_as_all : (o : ImportOptions) (first : ℕ) (x : Content) (files : List (List ℕ)) (all : List TextAt) (whole : List FileText) (u : Unimported) → HaveTexts files all whole → IsContent x
    → length o.note.now ≤ 200 → EndsAtFirst o first files u.fault → u.notes.items ≡ [] → IsUnmadeOf o first x files all whole u
first_as_all o first x files all whole u have is short e notes =
    let same : e.text ∷ e.later ≡ all = one_cuts 0 files (e.text ∷ e.later) all e.cut have.cut in
    subst (λ l. IsUnmadeOf o first x files l whole u) same
    (refused_first o first x files e.text e.later whole u (subst (λ l. AreRead l whole) (sym same) have.read) is short e.ends e.unexplained e.told notes)

pub unmade_as_all : (o : ImportOptions) (first : ℕ) (x : Content) (files : List (List ℕ)) (all : List TextAt) (whole : List FileText) (u : Unimported) → HaveTexts files all whole → IsUnmade o first x files u
    → IsPlain (λ f. f ≡ cli.Memory) u ⊎ IsUnmadeOf o first x files all whole u
unmade_as_all o first x files all whole u have (inl (inl memory)) = inl memory.0
unmade_as_all o first x files all whole u have (inl (inr (inl long))) = inr (inl (refused.NoteTooLong, long.1, long.0))
unmade_as_all o first x files all whole u have (inl (inr (inr h))) = inr (first_as_all o first x files all whole u have h.0 h.1 h.2 h.3)
unmade_as_all o first x files all whole u have (inr (cuts, texts, given, h)) = inr (as_all_are o first x files cuts all texts whole given have u h)

-- ---- what is made

-- nothing is made if the import ends before all texts were read
pub given_made : (o : ImportOptions) (first : ℕ) (x y : Content) (files : List (List ℕ)) (cuts : List TextAt) (texts : List FileText) (lines : List ℕ) (passed : Option Unimported) → AreGiven o.keep_going files cuts texts
    → MakesOf o first x files cuts texts y lines passed → Makes o first x files y lines passed
given_made o first x y files cuts texts lines passed (inl have) m = (cuts, texts, have, m)
given_made o first x y files cuts texts lines passed (inr (ends, b)) (ts, links, linked, are, over) =
    absurd (none_imported x o.replica o.note.now o.differs o.keep_going (readings texts) ends b.unread linked.between ts linked.imports)

pub given_unmade : (o : ImportOptions) (first : ℕ) (x : Content) (files : List (List ℕ)) (cuts : List TextAt) (texts : List FileText) (u : Unimported) → AreGiven o.keep_going files cuts texts
    → IsUnmadeOf o first x files cuts texts u → IsUnmade o first x files u
given_unmade o first x files cuts texts u given h = inr (cuts, texts, given, h)
