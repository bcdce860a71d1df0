-- Each text without a fault of its tokens or its slots has a value or a first condition that fails.
use Rattle.std.proofs.Common.{◌≡◌, ℕ, List, [], ◌∷◌, ◌++◌, Option, Some, None, All, refl, ◌∙◌, subst}
use Rattle.std.proofs.Common.{inl, inr}
use Rattle.std.proofs.lemmas.List.Elements.{All-nil, All-cons, All-head, All-tail}
use Rattle.crs_part.specs.declared.crs.CrsParts.{CrsParts}
use Rattle.crs_value.specs.declared.broken.Broken.{Broken}
use Rattle.crs_value.specs.Checking.{first_broken}
use Rattle.crs_value.proofs.Checks.{conditions_hold}
use Rattle.wkt_tree.specs.declared.token.TokenKind.TheVariants.{Word, Open, Close}
use Rattle.wkt_tree.specs.declared.fault.TextFault.{TextFault}
use Rattle.wkt_tree.specs.Tree.{Piece, Tok, tok, Item, Items, last, more, tokens, all_tokens}
use Rattle.wkt_tree.specs.Tree as tree
use Rattle.wkt_tree.specs.Tokens.{IsQuoted}
use Rattle.wkt_tree.specs.Cut.{cut}
use Rattle.wkt_tree.specs.Cursor.{IsSoundToken}
use Rattle.wkt_tree.specs.Faults.{IsOutline}
use Rattle.wkt_tree.specs.Faults as text
use Rattle.wkt_tree.proofs.Sound.{cut_sound}
use Rattle.wkt_grammar.specs.declared.table.Edition.TheVariants as editions
use Rattle.wkt_grammar.specs.declared.table.Node.TheVariants as nodes
use Rattle.wkt_grammar.specs.declared.table.Takes.TheVariants as kinds
use Rattle.wkt_grammar.specs.declared.fault.SlotFault.{SlotFault}
use Rattle.wkt_grammar.specs.Slots.{IsClean, IsFirst}
use Rattle.wkt_grammar.specs.Bare.{Bare, bare, all_bare, none, and}
use Rattle.wkt_grammar.proofs.Fitting.{clean_fitted, fitted_cuts}
use Rattle.wkt_write.specs.WellFormed.{WellFormed, IsText}
use Rattle.wkt_grammar.specs.SecondEdition.{Fitting, AllFitting}
use Rattle.wkt_grammar.specs.Denotes.{DenotesParts}
use Rattle.wkt_crs.specs.declared.fault.ReadFault.TheVariants as fault
use Rattle.wkt_crs.specs.Faults.{FirstBroken, keyword_place}
use Rattle.wkt_crs.specs.Verdict.{HasVerdict}
use Rattle.wkt_crs.proofs.Texts.{Denoted, spells_of, slot_told}
use Rattle.wkt_crs.proofs.Values.{IsRead, AllRead, good_read}
use Rattle.wkt_crs.proofs.NodeValues.{parts_has}

-- ---- the texts and numbers of a text's tree can be read

front_sound : (a b : List Tok) → All IsSoundToken (a ++ b) → All IsSoundToken a × All IsSoundToken b
front_sound [] b h = (All-nil IsSoundToken, h)
front_sound (t ∷ a) b h =
    let r = front_sound a b (All-tail IsSoundToken t (a ++ b) h) in
    (All-cons IsSoundToken t a (All-head IsSoundToken t (a ++ b) h) r.0, r.1)

text_is : (b : List ℕ) → IsQuoted b → IsText b
text_is b q = record { content = q.0; is = q.2; utf8 = q.1 }

mutual
  item_read : (i : Item) → All IsSoundToken (tokens i) → IsRead (bare i)
  item_read (tree.text p) h = text_is p.bytes (All-head IsSoundToken _ [] h)
  item_read (tree.number p) h = All-head IsSoundToken _ [] h
  item_read (tree.word p) h = tt
  item_read (tree.node k d o items c) h =
      let inner = (front_sound (tok Word k ∷ tok (Open d) o ∷ all_tokens items) (tok (Close d) c ∷ []) h).0 in
      items_read items (All-tail IsSoundToken _ (all_tokens items) (All-tail IsSoundToken _ (tok (Open d) o ∷ all_tokens items) inner))

  items_read : (items : Items) → All IsSoundToken (all_tokens items) → AllRead (all_bare items)
  items_read (last i) h = (item_read i h, tt)
  items_read (more i c rest) h =
      let parts = front_sound (tokens i) _ h in
      (item_read i parts.0, items_read rest (All-tail IsSoundToken _ (all_tokens rest) parts.1))

-- ---- trees that fit

pub good_denotes : (n : ℕ) (x : Bare) → WellFormed n x → Fitting kinds.AnyCrs x → (v : CrsParts) × DenotesParts x v
good_denotes n x g f = parts_has.of x (good_read n x g) f

one_fits : (x : Bare) (run rest : List Bare) → x ∷ [] ≡ run ++ rest → AllFitting kinds.AnyCrs run → rest ≡ [] → Fitting kinds.AnyCrs x
one_fits x [] rest e f r = absurd (let z = e ∙ r in cc)
one_fits x (y ∷ run) rest e f r = let same : y ≡ x = cc in subst (Fitting kinds.AnyCrs) same f.0

clean_fits : (ts : List Tok) → IsClean editions.Second ts → (k : Piece) (d : _) (o : Piece) (items : Items) (c : Piece) → ts ≡ tokens (tree.node k d o items c) → Fitting kinds.AnyCrs (bare (tree.node k d o items c))
clean_fits ts clean k d o items c e =
    let x = bare (tree.node k d o items c) in
    let f = fitted_cuts editions.Second nodes.Root (and x none) (clean_fitted editions.Second ts clean k d o items c e) in
    one_fits x f.0 f.1 f.2 f.3 f.5

-- a tree without a slot fault denotes some parts
pub clean_denotes : (bytes : List ℕ) (ts : List Tok) → IsOutline bytes ts → IsClean editions.Second ts → (parts : CrsParts) × Denoted bytes parts
clean_denotes bytes ts o clean =
    let t = o.tree in
    let item = tree.node t.keyword t.delimiter t.opening t.items t.closing in
    let outline : IsOutline bytes (tokens item) = subst (λ l. IsOutline bytes l) t.spelled o in
    let fits = clean_fits ts clean t.keyword t.delimiter t.opening t.items t.closing t.spelled in
    let v = parts_has.of (bare item) (item_read item (cut_sound 0 bytes (tokens item) outline.cut outline.utf8)) fits in
    (v.0, record { item = item; outline = outline; denotes = v.1 })

-- ---- the conditions

broken_of : (bytes : List ℕ) (parts : CrsParts) (d : Denoted bytes parts) (b : Broken) → first_broken parts ≡ Some b → FirstBroken bytes b.condition (keyword_place d.item b.whose)
broken_of bytes parts d b e = record { item = d.item; outline = d.outline; value = parts; denotes = d.denotes; whose = b.whose; broken = e; place = refl }

denoted_verdict : (bytes : List ℕ) (parts : CrsParts) → Denoted bytes parts → HasVerdict bytes
denoted_verdict bytes parts d = by (first_broken parts) refl
  where
    by : (o : Option Broken) → first_broken parts ≡ o → HasVerdict bytes
    by None e = inl (record { parts = parts; conditions = conditions_hold parts e }, spells_of bytes parts (record { parts = parts; conditions = conditions_hold parts e }) d refl)
    by (Some b) e = inr (fault.Broken b.condition (keyword_place d.item b.whose), (λ m. cc), broken_of bytes parts d b e)

pub clean_verdict : (bytes : List ℕ) (ts : List Tok) → IsOutline bytes ts → IsClean editions.Second ts → HasVerdict bytes
clean_verdict bytes ts o clean = let d = clean_denotes bytes ts o clean in denoted_verdict bytes d.0 d.1

-- ---- the verdict that each step of reading gives

pub text_verdict : (bytes : List ℕ) (f : TextFault) → text.FirstFault bytes f → HasVerdict bytes
text_verdict bytes f h = inr (fault.Text f, (λ m. cc), h)

pub slot_verdict : (bytes outline : List ℕ) (f : SlotFault) → outline ≡ bytes → IsOutline bytes (cut 0 bytes) → IsFirst editions.Second (cut 0 outline) f → HasVerdict bytes
slot_verdict bytes outline f e o h = inr (fault.Slot f, (λ m. cc), slot_told bytes outline f e o h)

pub outline_verdict : (bytes outline : List ℕ) → outline ≡ bytes → IsOutline bytes (cut 0 bytes) → IsClean editions.Second (cut 0 outline) → HasVerdict bytes
outline_verdict bytes outline e o clean = clean_verdict bytes (cut 0 bytes) o (subst (λ b. IsClean editions.Second (cut 0 b)) e clean)
