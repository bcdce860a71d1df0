-- The same files imported again, and an exported file that is imported.
use Rattle.std.proofs.Common.{◌≡◌, ◌⊎◌, Bool, ℕ, List, [], ◌∷◌, ◌++◌, refl, sym, ap, ◌∙◌, subst, inl, inr}
use Rattle.std.specs.Prelude.{map, ◌↔◌, Option}
use Rattle.std.proofs.lemmas.List.{append-nil, map-append}
use Rattle.wkt_tree.specs.Tree.{Piece}
use Rattle.byte_io.specs.Device.{SourceState}
use Rattle.reg_op.specs.Operations.{OneBody, kept}
use Rattle.reg_op.specs.Contents.{Content, nothing, IsContent}
use Rattle.reg_report.specs.Exports.{export}
use Rattle.reg_import.specs.declared.reading.FileText.{FileText}
use Rattle.reg_import.specs.declared.reading.ReadText.{ReadText}
use Rattle.reg_import.specs.declared.reading.ReadText.TheVariants as reading
use Rattle.reg_import.specs.declared.action.Differs.{Differs}
use Rattle.reg_import.specs.declared.action.Differs.TheVariants.{Beside}
use Rattle.reg_import.specs.declared.action.Problem.{Problem}
use Rattle.reg_import.specs.declared.import.ImportRefusal.{ImportRefusal}
use Rattle.reg_import.specs.declared.import.ImportRefusal.TheVariants as refused
use Rattle.reg_import.specs.Readings.{readings}
use Rattle.reg_import.specs.Again.{HasStanding, AreReadings, RetiresNoneAhead}
use Rattle.reg_import.specs.Plans.{Imports, IsImportRefusal}
use Rattle.reg_import.specs.declared.action.TextAction.{TextAction}
use Rattle.reg_import.specs.Imports.{effects}
use Rattle.reg_import.proofs.StandingLemmas.{then_one_body, then_kept}
use Rattle.reg_import.proofs.LastLemmas.{AreKeyed, SameEntries}
use Rattle.reg_import.proofs.LawLemmas.{are_keyed, import_alike, refused_alike, exported_pass, exported_read, import_exported}
use Rattle.reg_disorder.specs.Links.{links_in}
use Rattle.reg_disorder.specs.Passing.{bodies_of, PassesOn, IsNotPassedOn}
use Rattle.reg_office.specs.declared.fault.OfficeFault.TheVariants as office
use Rattle.reg_engine.specs.Fault.{office_fault}
use Rattle.reg_engine.specs.declared.fault.Refusal.TheVariants as refusal
use Rattle.reg_engine.specs.declared.fault.CliFault.{CliFault}
use Rattle.reg_engine.specs.declared.fault.CliFault.TheVariants as cli
use Rattle.reg_desk.specs.declared.import.options.ImportOptions.{ImportOptions}
use Rattle.reg_desk.specs.declared.import.fault.ImportFault.{ImportFault}
use Rattle.reg_desk.specs.declared.import.fault.Unimported.{Unimported}
use Rattle.reg_desk.specs.ImportFiles.{GiveAll}
use Rattle.reg_desk.specs.ImportTexts.{TextAt, in_file, HaveTexts, BeginWith}
use Rattle.reg_desk.specs.Import.{IsPlain, Makes, Refuses, IsRefusedBy, IsUnmadeOf, EndsAtFirst, IsUnmade, IsReady}
use Rattle.reg_desk.specs.ImportLinks.{ImportsLinked}
use Rattle.reg_desk.proofs.ImportedLinks.{same_entries, nothing_passed, only_note, its_own, none_there}
use Rattle.reg_desk.proofs.ImportEngineLemmas.{weaker}
use Rattle.reg_desk.proofs.SameTexts.{one_given, same_readings, are_readings}
use Rattle.reg_desk.proofs.GivenLemmas.{as_all_are, first_as_all}

-- ---- the same files again

module _ (o p : ImportOptions) (m n : ℕ) (x y : Content) (files : List (List ℕ)) (lines : List ℕ) (passed : Option Unimported) (is : IsContent x) (ahead : RetiresNoneAhead x o.replica)
    (differs : p.differs ≡ o.differs) (keep_going : p.keep_going ≡ o.keep_going) (made : Makes o m x files y lines passed) where
  abbrev rs : List ReadText
  rs = readings made.1

  abbrev first : ImportsLinked o x rs y made.3.0 made.3.1
  first = made.3.2

  abbrev between : Content
  between = first.between

  -- the second import is into a content with the entries that the first one left
  alike : SameEntries between y
  alike = same_entries between y o.replica o.note.now made.3.1 first.ids (first.passes).does

  one : OneBody y.ops
  one = then_one_body between y o.replica o.note.now (bodies_of made.3.1) first.ids (first.passes).does

  its_kept : kept y.ops ≡ y.ops
  its_kept = then_kept between y o.replica o.note.now (bodies_of made.3.1) first.ids (first.passes).does

  keyed : AreKeyed rs
  keyed = are_keyed (map (λ (c : TextAt). c.bytes) made.0) rs (are_readings made.0 made.1 made.2.read)

  again_nothing : (z : Content) (us : List TextAction) (texts : List FileText) (cuts : List TextAt) → HaveTexts files cuts texts → Imports y p.replica p.note.now p.differs p.keep_going (readings texts) z us → z ≡ y
  again_nothing z us texts cuts have second =
      let same : readings texts ≡ rs = same_readings files cuts made.0 texts made.1 have made.2 in
      (import_alike x between o.replica o.note.now p.replica p.note.now o.differs o.keep_going rs made.3.0 is ahead keyed first.imports y alike one its_kept z us
      (subst (λ (d : Differs). Imports y p.replica p.note.now d o.keep_going rs z us) differs
      (subst (λ (k : Bool). Imports y p.replica p.note.now p.differs k rs z us) keep_going
      (subst (λ (l : List ReadText). Imports y p.replica p.note.now p.differs p.keep_going l z us) same second)))).0

  pub made_again : (z : Content) (others : List ℕ) (skipped : Option Unimported) → Makes p n y files z others skipped → z ≡ y
  made_again z others skipped (cuts, texts, have, (us, links, second, told, over)) =
      let same : second.between ≡ y = again_nothing second.between us texts cuts have second.imports in
      let passes : PassesOn (links_in y.ops) y p.replica p.note.now z links second.ids = subst (λ (c : Content). PassesOn (links_in y.ops) c p.replica p.note.now z links second.ids) same second.passes in
      nothing_passed (links_in y.ops) y z p.replica p.note.now links second.ids one its_kept (its_own y) passes

  refused_then : (texts : List FileText) (cuts : List TextAt) (r : ImportRefusal) → HaveTexts files cuts texts → Refuses p y texts r → (r ≡ refused.NoteTooLong) ⊎ (r ≡ refused.Memory)
  refused_then texts cuts r have h =
      let same : readings texts ≡ rs = same_readings files cuts made.0 texts made.1 have made.2 in
      refused_alike x between y o.replica o.note.now p.replica p.note.now o.differs o.keep_going rs made.3.0 is ahead keyed first.imports alike r
      (subst (λ (d : Differs). IsImportRefusal y p.replica p.note.now d o.keep_going rs r) differs
      (subst (λ (k : Bool). IsImportRefusal y p.replica p.note.now p.differs k rs r) keep_going
      (subst (λ (l : List ReadText). IsImportRefusal y p.replica p.note.now p.differs p.keep_going l r) same h)))

  abbrev IsNote : CliFault → Type 0
  IsNote f = (f ≡ cli.Refused (refusal.Office office.NoteTooLong)) ⊎ (f ≡ cli.Memory)

  of_refusal : (cuts : List TextAt) (texts : List FileText) (r : ImportRefusal) (u : Unimported) → (r ≡ refused.NoteTooLong) ⊎ (r ≡ refused.Memory) → IsRefusedBy p n files cuts texts r u → IsPlain IsNote u
  of_refusal cuts texts r u (inl e) h =
      weaker (λ f. f ≡ cli.Refused (refusal.Office office.NoteTooLong)) IsNote u.fault u.notes.items (λ f is. inl is) (subst (λ (k : ImportRefusal). IsRefusedBy p n files cuts texts k u) e h)
  of_refusal cuts texts r u (inr e) h = weaker (λ f. f ≡ cli.Memory) IsNote u.fault u.notes.items (λ f is. inr is) (subst (λ (k : ImportRefusal). IsRefusedBy p n files cuts texts k u) e h)

  unmade_of : (u : Unimported) → IsUnmadeOf p n y files made.0 made.1 u → IsPlain IsNote u
  unmade_of u (inl (r, h, by)) = of_refusal made.0 made.1 r u (refused_then made.1 made.0 r made.2 h) by
  unmade_of u (inr (f, only, plain)) =
      let same : only.between ≡ y = again_nothing only.between only.told made.1 made.0 made.2 only.imports in
      let not_passed : IsNotPassedOn (links_in y.ops) y p.replica p.note.now f = subst (λ (c : Content). IsNotPassedOn (links_in y.ops) c p.replica p.note.now f) same only.not_passed in
      let long : f ≡ office.NoteTooLong = only_note (links_in y.ops) y p.replica p.note.now f (its_own y) not_passed in
      weaker (λ g. g ≡ office_fault f) IsNote u.fault u.notes.items (λ g e. inl (e ∙ ap office_fault long)) plain

  pub unmade_again : (u : Unimported) → IsUnmade p n y files u → IsPlain IsNote u
  unmade_again u (inl (inl memory)) = weaker (λ f. f ≡ cli.Memory) IsNote u.fault u.notes.items (λ f is. inr is) memory.0
  unmade_again u (inl (inr (inl long))) = weaker (λ f. f ≡ cli.Refused (refusal.Office office.NoteTooLong)) IsNote u.fault u.notes.items (λ f is. inl is) long.0
  unmade_again u (inl (inr (inr h))) = unmade_of u (first_as_all p n y files made.0 made.1 u made.2 h.0 h.1 h.2 h.3)
  unmade_again u (inr (cuts, texts, given, h)) = unmade_of u (as_all_are p n y files cuts made.0 texts made.1 given made.2 u h)

-- a result that is ready is made of the bytes that the sources gave
pub made_of : (o : ImportOptions) (m : ℕ) (x y : Content) (a b : List SourceState) (files : List (List ℕ)) (lines : List ℕ) (passed : Option Unimported) → GiveAll a b files
    → IsReady o m x a b y lines passed → Makes o m x files y lines passed
made_of o m x y a b files lines passed gave (those, given, made) = subst (λ (bs : List (List ℕ)). Makes o m x bs y lines passed) (one_given a b those files given gave) made

pub ready_again : (o p : ImportOptions) (m n : ℕ) (x y z : Content) (a b c d : List SourceState) (files : List (List ℕ)) (lines others : List ℕ) (passed skipped : Option Unimported)
    → IsContent x → RetiresNoneAhead x o.replica → p.differs ≡ o.differs → p.keep_going ≡ o.keep_going → GiveAll a b files → GiveAll c d files
    → IsReady o m x a b y lines passed → IsReady p n y c d z others skipped → z ≡ y
ready_again o p m n x y z a b c d files lines others passed skipped is ahead differs going given gave first second =
    made_again o p m n x y files lines passed is ahead differs going (made_of o m x y a b files lines passed given first) z others skipped (made_of p n y z c d files others skipped gave second)

pub unready_again : (o p : ImportOptions) (m n : ℕ) (x y : Content) (a b : List SourceState) (files : List (List ℕ)) (lines : List ℕ) (passed : Option Unimported) (u : Unimported)
    → IsContent x → RetiresNoneAhead x o.replica → p.differs ≡ o.differs → p.keep_going ≡ o.keep_going → GiveAll a b files → IsReady o m x a b y lines passed → IsUnmade p n y files u
    → IsPlain (λ f. (f ≡ cli.Refused (refusal.Office office.NoteTooLong)) ⊎ (f ≡ cli.Memory)) u
unready_again o p m n x y a b files lines passed u is ahead differs going given first h =
    unmade_again o p m n x y files lines passed is ahead differs going (made_of o m x y a b files lines passed given first) u h

-- ---- an exported file

same_bytes : (these : List Piece) → map (λ (c : TextAt). c.bytes) (map (in_file 0) these) ≡ map (λ (p : Piece). p.bytes) these
same_bytes [] = refl
same_bytes (p ∷ ps) = ap (λ l. p.bytes ∷ l) (same_bytes ps)

-- the texts of a single file have these readings
of_one : (bytes : List ℕ) (cuts : List TextAt) (texts : List FileText) (h : HaveTexts (bytes ∷ []) cuts texts) → AreReadings (map (λ (p : Piece). p.bytes) h.cut.0) (readings texts)
of_one bytes cuts texts h =
    let all : cuts ≡ map (in_file 0) h.cut.0 = h.cut.4 ∙ ap (λ rest. map (in_file 0) h.cut.0 ++ rest) h.cut.3 ∙ append-nil (map (in_file 0) h.cut.0) in
    subst (λ bs. AreReadings bs (readings texts)) (ap (map (λ (c : TextAt). c.bytes)) all ∙ same_bytes h.cut.0) (are_readings cuts texts h.read)

exported_made : (o : ImportOptions) (first : ℕ) (x y : Content) (lines : List ℕ) (passed : Option Unimported) → IsContent x → o.differs ≡ Beside
    → Makes o first nothing (export x.ops ∷ []) y lines passed → (text : List ℕ) → HasStanding y.ops text ↔ HasStanding x.ops text
exported_made o first x y lines passed is beside (cuts, texts, have, (ts, links, m, told, over)) =
    let does = m.imports.does in
    let one = then_one_body nothing m.between o.replica o.note.now (effects (m.imports).steps) (m.imports).ids does in
    let its = then_kept nothing m.between o.replica o.note.now (effects (m.imports).steps) (m.imports).ids does in
    let same : y ≡ m.between = nothing_passed (links_in nothing.ops) m.between y o.replica o.note.now links m.ids one its (none_there m.between) m.passes in
    import_exported x y o.replica o.note.now o.keep_going have.cut.0 (readings texts) ts is have.cut.2 (of_one (export x.ops) cuts texts have)
    (subst (λ (d : Differs). Imports nothing o.replica o.note.now d o.keep_going (readings texts) y ts) beside
    (subst (λ (c : Content). Imports nothing o.replica o.note.now o.differs o.keep_going (readings texts) c ts) (sym same) m.imports))

pub exported_ready : (o : ImportOptions) (first : ℕ) (x y : Content) (a b : List SourceState) (lines : List ℕ) (passed : Option Unimported) → IsContent x → o.differs ≡ Beside
    → GiveAll a b (export x.ops ∷ []) → IsReady o first nothing a b y lines passed → (text : List ℕ) → HasStanding y.ops text ↔ HasStanding x.ops text
exported_ready o first x y a b lines passed is beside given ready =
    exported_made o first x y lines passed is beside (made_of o first nothing y a b (export x.ops ∷ []) lines passed given ready)

exported_passes : (o : ImportOptions) (x : Content) (cuts : List TextAt) (texts : List FileText) (at : ℕ) (p : Problem) → IsContent x → o.differs ≡ Beside
    → HaveTexts (export x.ops ∷ []) cuts texts → Refuses o nothing texts (refused.Refused at p) → ⊥
exported_passes o x cuts texts at p is beside have h =
    exported_pass x o.replica o.note.now o.keep_going have.cut.0 (readings texts) at p is have.cut.2 (of_one (export x.ops) cuts texts have)
    (subst (λ (d : Differs). IsImportRefusal nothing o.replica o.note.now d o.keep_going (readings texts) (refused.Refused at p)) beside h)

-- each of the first texts of an exported file is a definition
exported_begin : (x : Content) (cuts : List TextAt) (texts : List FileText) → IsContent x → BeginWith (export x.ops ∷ []) cuts texts → ⊥
exported_begin x cuts texts is b =
    let all : cuts ++ b.later ≡ map (in_file 0) b.cut.0 = b.cut.4 ∙ ap (λ rest. map (in_file 0) b.cut.0 ++ rest) b.cut.3 ∙ append-nil (map (in_file 0) b.cut.0) in
    let bytes : map (λ (p : Piece). p.bytes) b.cut.0 ≡ map (λ (c : TextAt). c.bytes) cuts ++ map (λ (c : TextAt). c.bytes) b.later =
    sym (same_bytes b.cut.0) ∙ ap (map (λ (c : TextAt). c.bytes)) (sym all) ∙ map-append (λ (c : TextAt). c.bytes) cuts b.later in
    exported_read x b.cut.0 (map (λ (c : TextAt). c.bytes) cuts) (map (λ (c : TextAt). c.bytes) b.later) (readings texts) is b.cut.2 bytes (are_readings cuts texts b.read) b.unread

exported_first : (o : ImportOptions) (first : ℕ) (x : Content) (k : ImportFault) → IsContent x → EndsAtFirst o first (export x.ops ∷ []) k → ⊥
exported_first o first x k is e =
    let all : e.text ∷ e.later ≡ map (in_file 0) e.cut.0 = e.cut.4 ∙ ap (λ rest. map (in_file 0) e.cut.0 ++ rest) e.cut.3 ∙ append-nil (map (in_file 0) e.cut.0) in
    let bytes : map (λ (p : Piece). p.bytes) e.cut.0 ≡ (e.text.bytes ∷ []) ++ map (λ (c : TextAt). c.bytes) e.later = sym (same_bytes e.cut.0) ∙ ap (map (λ (c : TextAt). c.bytes)) (sym all) in
    exported_read x e.cut.0 (e.text.bytes ∷ []) (map (λ (c : TextAt). c.bytes) e.later) (reading.Unread e.told.0 ∷ []) is e.cut.2 bytes (reading.Unread e.told.0, [], e.told.1, refl, refl) refl

-- a fault that no text has: the note is too long, the counts are spent, or memory ran out
abbrev pub IsOther : CliFault → Type 0
IsOther f = (f ≡ cli.Refused (refusal.Office office.NoteTooLong)) ⊎ ((f ≡ cli.Refused (refusal.Office office.CountSpent)) ⊎ (f ≡ cli.Memory))

exported_refusal : (o : ImportOptions) (first : ℕ) (x : Content) (cuts : List TextAt) (texts : List FileText) (r : ImportRefusal) (u : Unimported) → IsContent x → o.differs ≡ Beside
    → HaveTexts (export x.ops ∷ []) cuts texts → Refuses o nothing texts r → IsRefusedBy o first (export x.ops ∷ []) cuts texts r u → IsPlain IsOther u
exported_refusal o first x cuts texts refused.NoteTooLong u is beside have h by =
    weaker (λ f. f ≡ cli.Refused (refusal.Office office.NoteTooLong)) IsOther u.fault u.notes.items (λ f e. inl e) by
exported_refusal o first x cuts texts (refused.Refused at p) u is beside have h by = absurd (exported_passes o x cuts texts at p is beside have h)
exported_refusal o first x cuts texts refused.CountSpent u is beside have h by =
    weaker (λ f. f ≡ cli.Refused (refusal.Office office.CountSpent)) IsOther u.fault u.notes.items (λ f e. inr (inl e)) by
exported_refusal o first x cuts texts refused.Memory u is beside have h by = weaker (λ f. f ≡ cli.Memory) IsOther u.fault u.notes.items (λ f e. inr (inr e)) by

pub exported_unmade : (o : ImportOptions) (first : ℕ) (x : Content) (u : Unimported) → IsContent x → o.differs ≡ Beside → IsUnmade o first nothing (export x.ops ∷ []) u → IsPlain IsOther u
exported_unmade o first x u is beside (inl (inl memory)) = weaker (λ f. f ≡ cli.Memory) IsOther u.fault u.notes.items (λ f e. inr (inr e)) memory.0
exported_unmade o first x u is beside (inl (inr (inl long))) = weaker (λ f. f ≡ cli.Refused (refusal.Office office.NoteTooLong)) IsOther u.fault u.notes.items (λ f e. inl e) long.0
exported_unmade o first x u is beside (inl (inr (inr h))) = absurd (exported_first o first x u.fault is h.2)
exported_unmade o first x u is beside (inr (cuts, texts, inr (ends, begins), h)) = absurd (exported_begin x cuts texts is begins)
exported_unmade o first x u is beside (inr (cuts, texts, inl have, inl (r, h, by))) = exported_refusal o first x cuts texts r u is beside have h by
exported_unmade o first x u is beside (inr (cuts, texts, inl have, inr (f, only, plain))) =
    let long : f ≡ office.NoteTooLong = only_note (links_in nothing.ops) only.between o.replica o.note.now f (none_there only.between) only.not_passed in
    weaker (λ g. g ≡ office_fault f) IsOther u.fault u.notes.items (λ g e. inl (e ∙ ap office_fault long)) plain
