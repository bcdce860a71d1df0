-- The loops that take the texts of files.
use Rattle.std.proofs.Common.{◌≡◌, ◌∷◌, ◌++◌, [], List, ℕ, zero, suc, ◌+◌, true, false, not, length, map, drop, append_assoc, append-nil, refl, ap, sym, subst, arith, inl, inr, ◌∙◌}
use Rattle.std.specs.Global.{Vec}
use Rattle.std.specs.List.{AllPass, list_any}
use Rattle.std.proofs.lemmas.Bool.{true≢false, and_parts, or_left, or_right, not-true}
use Rattle.std.proofs.lemmas.List.{map-append}
use Rattle.wkt_tree.specs.Bytes.{is_blank}
use Rattle.wkt_tree.specs.Tree.{Piece}
use Rattle.wkt_compare.specs.Texts.{begin, IsNext, AreTexts, IsCutInto}
use Rattle.wkt_compare.proofs.EachCut.{some_texts, each_cut}
use Rattle.reg_op.specs.Contents.{Content}
use Rattle.reg_import.specs.declared.reading.FileText.{FileText}
use Rattle.reg_import.specs.declared.action.TextAction.{TextAction}
use Rattle.reg_import.specs.Readings.{is_unread, readings}
use Rattle.reg_desk.specs.declared.import.options.ImportOptions.{ImportOptions}
use Rattle.reg_desk.specs.declared.import.progress.Progress.{Progress}
use Rattle.reg_desk.specs.ImportFiles.{bytes_of}
use Rattle.reg_desk.specs.ImportTexts.{TextAt, in_file, AreCuts, AreRead, BeginWith}
use Rattle.reg_desk.specs.ImportNotes.{content_of}
use Rattle.reg_desk.specs.ImportProgress.{HasCome, OneMore, FileCome, AllCome}

-- ---- files

-- `cuts` followed by any texts of the remaining files are the texts of all files
abbrev pub CutsComplete : List (List ℕ) → ℕ → List (List ℕ) → List TextAt → Type 0
CutsComplete files file rest cuts = (more : List TextAt) → AreCuts file rest more → AreCuts 0 files (cuts ++ more)

pub cuts_more : (files : List (List ℕ)) (file : ℕ) (rest others : List (List ℕ)) (bytes : List ℕ) (these : List Piece) (old new : List TextAt) → rest ≡ bytes ∷ others → IsCutInto bytes these
    → new ≡ old ++ map (in_file file) these → CutsComplete files file rest old → CutsComplete files (file + 1) others new
cuts_more files file rest others bytes these old new e is pushed done more are =
    subst (AreCuts 0 files) (sym (append_assoc old (map (in_file file) these) more) ∙ ap (λ t. t ++ more) (sym pushed))
    (done (map (in_file file) these ++ more) (subst (λ r. AreCuts file r (map (in_file file) these ++ more)) (sym e) (these, more, is, are, refl)))

no_cuts : (file : ℕ) (rest : List (List ℕ)) → length rest ≡ 0 → AreCuts file rest []
no_cuts file [] h = refl
no_cuts file (b ∷ bs) h = absurd (omega arith)

pub cuts_done : (files : List (List ℕ)) (file : ℕ) (rest : List (List ℕ)) (cuts : List TextAt) → length rest ≡ 0 → CutsComplete files file rest cuts → AreCuts 0 files cuts
cuts_done files file rest cuts h done = subst (AreCuts 0 files) (append-nil cuts) (done [] (no_cuts file rest h))

-- some texts are those of all files
pub some_cuts : (file : ℕ) (files : List (List ℕ)) → (cuts : List TextAt) × AreCuts file files cuts
some_cuts file [] = ([], refl)
some_cuts file (bytes ∷ others) =
    let these = each_cut bytes in
    let rest = some_cuts (file + 1) others in
    (map (in_file file) these.0 ++ rest.0, (these.0, rest.0, these.1, rest.1, refl))

-- ---- readings

pub both_read : (front back : List TextAt) (ts us : List FileText) → AreRead front ts → AreRead back us → AreRead (front ++ back) (ts ++ us)
both_read [] back [] us h k = k
both_read [] back (t ∷ ts) us h k = absurd h
both_read (c ∷ front) back [] us h k = absurd h
both_read (c ∷ front) back (t ∷ ts) us h k = (h.0, both_read front back ts us h.1 k)

any_behind : (before texts : List FileText) → list_any is_unread (readings texts) ≡ true → list_any is_unread (readings (before ++ texts)) ≡ true
any_behind [] texts h = h
any_behind (t ∷ ts) texts h = or_right (is_unread t.reading) _ (any_behind ts texts h)

-- ---- the texts of a file

module _ (o : ImportOptions) (x : Content) (files : List (List ℕ)) (file : ℕ) (bytes : List ℕ) (cuts : List TextAt) (texts : List FileText) (ts : List TextAction) where
  -- the texts before this place were taken, and the rest of the file is to be cut from here
  pub record SoFar (place : ℕ) (rest : List ℕ) (now : Progress) : Type 0 where
    pub these : List Piece
    pub its : List FileText
    pub did : List TextAction
    pub so_far : (more : List Piece) → AreTexts place rest more → IsCutInto bytes (these ++ more)
    pub read : AreRead (map (in_file file) these) its
    pub come : HasCome o x files (cuts ++ map (in_file file) these) (texts ++ its) (ts ++ did) now
    pub goes : now.ends ≡ false

  pub none_yet : (place : ℕ) (rest : List ℕ) (now : Progress) → place ≡ begin bytes → rest ≡ drop place bytes → HasCome o x files cuts texts ts now → now.ends ≡ false → SoFar place rest now
  none_yet place rest now at is h goes = record {
    these = [];
    its = [];
    did = [];
    so_far = λ more k. subst (λ (n : ℕ). AreTexts n (drop n bytes) more) at (subst (λ (l : List ℕ). AreTexts place l more) is k);
    read = tt;
    come = subst (λ cs. HasCome o x files cs (texts ++ []) (ts ++ []) now) (sym (append-nil cuts))
        (subst (λ xs. HasCome o x files cuts xs (ts ++ []) now) (sym (append-nil texts)) (subst (λ us. HasCome o x files cuts texts us now) (sym (append-nil ts)) h));
    goes = goes;
  }

  module _ (place : ℕ) (rest later : List ℕ) (p : Piece) (now new : Progress) (s : SoFar place rest now) (next : IsNext place rest p later)
      (one : OneMore o x files (in_file file p) (cuts ++ map (in_file file) s.these) (texts ++ s.its) (ts ++ s.did) new) where
    abbrev these_more : List Piece
    these_more = s.these ++ p ∷ []

    so_far_more : (more : List Piece) → AreTexts (p.place + length p.bytes) later more → IsCutInto bytes (these_more ++ more)
    so_far_more more h = subst (IsCutInto bytes) (sym (append_assoc s.these (p ∷ []) more)) (s.so_far (p ∷ more) (later, next, h))

    read_more : AreRead (map (in_file file) these_more) (s.its ++ one.text ∷ [])
    read_more = subst (λ l. AreRead l (s.its ++ one.text ∷ [])) (sym (map-append (in_file file) s.these (p ∷ [])))
        (both_read (map (in_file file) s.these) (in_file file p ∷ []) s.its (one.text ∷ []) s.read (one.read, tt))

    come_more : HasCome o x files (cuts ++ map (in_file file) these_more) (texts ++ (s.its ++ one.text ∷ [])) (ts ++ (s.did ++ one.did ∷ [])) new
    come_more =
        subst (λ cs. HasCome o x files cs (texts ++ (s.its ++ one.text ∷ [])) (ts ++ (s.did ++ one.did ∷ [])) new)
        (append_assoc cuts (map (in_file file) s.these) (in_file file p ∷ []) ∙ ap (λ l. cuts ++ l) (sym (map-append (in_file file) s.these (p ∷ []))))
        (subst (λ xs. HasCome o x files ((cuts ++ map (in_file file) s.these) ++ in_file file p ∷ []) xs (ts ++ (s.did ++ one.did ∷ [])) new) (append_assoc texts s.its (one.text ∷ []))
        (subst (λ us. HasCome o x files ((cuts ++ map (in_file file) s.these) ++ in_file file p ∷ []) ((texts ++ s.its) ++ one.text ∷ []) us new) (append_assoc ts s.did (one.did ∷ [])) one.come))

    pub one_more : new.ends ≡ false → SoFar (p.place + length p.bytes) later new
    one_more goes = record { these = these_more; its = s.its ++ one.text ∷ []; did = s.did ++ one.did ∷ []; so_far = so_far_more; read = read_more; come = come_more; goes = goes }

    -- the import ends at this text
    pub ends_here : new.ends ≡ true → FileCome o x files file bytes cuts texts ts new
    ends_here e =
        let behind = some_texts (p.place + length p.bytes) later in
        let parts = and_parts (not o.keep_going) (is_unread one.text.reading) (sym one.is ∙ e) in
        record {
          these = these_more;
          later = behind.0;
          cut = so_far_more behind.0 behind.1;
          its = s.its ++ one.text ∷ [];
          did = s.did ++ one.did ∷ [];
          read = read_more;
          come = come_more;
          all = λ k. absurd (true≢false (sym e ∙ k));
          unread = λ k. (not-true o.keep_going parts.0, any_behind s.its (one.text ∷ []) (or_left (is_unread one.text.reading) false parts.1));
        }

  -- the file has no more texts
  pub file_done : (place : ℕ) (rest : List ℕ) (now : Progress) → SoFar place rest now → AllPass is_blank rest → FileCome o x files file bytes cuts texts ts now
  file_done place rest now s blank = record {
    these = s.these;
    later = [];
    cut = s.so_far [] blank;
    its = s.its;
    did = s.did;
    read = s.read;
    come = s.come;
    all = λ k. refl;
    unread = λ k. absurd (true≢false (sym k ∙ s.goes));
  }

-- ---- the texts of all files

-- the texts of the files before this one were taken
pub record FilesSoFar (o : ImportOptions) (x : Content) (files : List (List ℕ)) (file : ℕ) (rest : List (List ℕ)) (now : Progress) : Type 0 where
  pub cuts : List TextAt
  pub texts : List FileText
  pub ts : List TextAction
  pub cut : CutsComplete files file rest cuts
  pub read : AreRead cuts texts
  pub come : HasCome o x files cuts texts ts now
  pub goes : now.ends ≡ false

module _ (o : ImportOptions) (x : Content) (files : List (List ℕ)) (file : ℕ) (rest others : List (List ℕ)) (bytes : List ℕ) (now new : Progress) (is : rest ≡ bytes ∷ others) (s : FilesSoFar o x files file rest now)
    (r : FileCome o x files file bytes s.cuts s.texts s.ts new) where
  abbrev with_these : List TextAt
  with_these = s.cuts ++ map (in_file file) r.these

  next_read : AreRead with_these (s.texts ++ r.its)
  next_read = both_read s.cuts (map (in_file file) r.these) s.texts r.its s.read r.read

  pub next_file : new.ends ≡ false → FilesSoFar o x files (file + 1) others new
  next_file e =
      let whole : r.these ++ r.later ≡ r.these = ap (λ l. r.these ++ l) (r.all e) ∙ append-nil r.these in record {
        cuts = with_these;
        texts = s.texts ++ r.its;
        ts = s.ts ++ r.did;
        cut = cuts_more files file rest others bytes r.these s.cuts with_these is (subst (IsCutInto bytes) whole r.cut) refl s.cut;
        read = next_read;
        come = r.come;
        goes = e;
      }

  pub ends_given : new.ends ≡ true → AllCome o x files new
  ends_given e =
      let more = some_cuts (file + 1) others in
      let front : List TextAt = map (in_file file) r.these in
      let back : List TextAt = map (in_file file) r.later ++ more.0 in
      let here : AreCuts file rest (map (in_file file) (r.these ++ r.later) ++ more.0) =
      subst (λ l. AreCuts file l (map (in_file file) (r.these ++ r.later) ++ more.0)) (sym is) (r.these ++ r.later, more.0, r.cut, more.1, refl) in
      let same : s.cuts ++ (map (in_file file) (r.these ++ r.later) ++ more.0) ≡ with_these ++ back =
      ap (λ l. s.cuts ++ (l ++ more.0)) (map-append (in_file file) r.these r.later) ∙ ap (λ l. s.cuts ++ l) (append_assoc front (map (in_file file) r.later) more.0)
      ∙ sym (append_assoc s.cuts front back) in
      let begins : BeginWith files with_these (s.texts ++ r.its) = record {
        later = back;
        cut = subst (AreCuts 0 files) same (s.cut (map (in_file file) (r.these ++ r.later) ++ more.0) here);
        read = next_read;
        unread = any_behind s.texts r.its (r.unread e).1;
      } in
      (with_these, s.texts ++ r.its, s.ts ++ r.did, inr ((r.unread e).0, begins), r.come)

pub none_before : (o : ImportOptions) (x : Content) (files : List (List ℕ)) (now : Progress) → HasCome o x files [] [] [] now → now.ends ≡ false → FilesSoFar o x files 0 files now
none_before o x files now h goes = record { cuts = []; texts = []; ts = []; cut = λ more are. are; read = tt; come = h; goes = goes }

pub all_given : (o : ImportOptions) (x : Content) (files : List (List ℕ)) (file : ℕ) (rest : List (List ℕ)) (now : Progress) → length rest ≡ 0 → FilesSoFar o x files file rest now → AllCome o x files now
all_given o x files file rest now none s = (s.cuts, s.texts, s.ts, inl (record { cut = cuts_done files file rest s.cuts none s.cut; read = s.read }), s.come)

-- the file at a place is the first of those from there
pub content_at : (files : List (Vec ℕ)) (i : ℕ) (v : Vec ℕ) (rest : List (Vec ℕ)) → drop i files ≡ v ∷ rest → v.items ≡ content_of (bytes_of files) i
content_at [] zero v rest h = absurd cc
content_at [] (suc i) v rest h = absurd cc
content_at (f ∷ files) zero v rest h =
    let same : f ≡ v = cc in
    ap (λ (w : Vec ℕ). w.items) (sym same)
content_at (f ∷ files) (suc i) v rest h = content_at files i v rest h
