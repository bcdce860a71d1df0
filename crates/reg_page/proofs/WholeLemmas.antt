-- The page is its three parts, appended in turn.
use Rattle.std.proofs.Common.{◌≡◌, ℕ, true, false, List, [], ◌∷◌, ◌++◌, map, filter, append_assoc, refl, sym, ap, ◌∙◌}
use Rattle.std.specs.List.{flat_map}
use Rattle.std.specs.List.Sorted.{IsPermutation}
use Rattle.html_page.specs.Pieces.{Piece, Markup, html, Appends}
use Rattle.html_page.proofs.JoinLemmas.{next, html-append}
use Rattle.html_page.specs.declared.markup.TheConstants.{AFTER_FIGURES, CONFLICTS_START, CONFLICTS_END, AWAITED_START, AWAITED_END, GAPS_START, GAPS_END, ENTRIES_START, ENTRIES_END, RETIRED_START, RETIRED_END}
use Rattle.html_page.specs.Templates.{head, figures, section, conflict, awaited as waiting, gap, entry, end, page}
use Rattle.crs_sense.specs.declared.rule.Rule.{Rule}
use Rattle.reg_page.proofs.LoopLemmas.{as_others}
use Rattle.csv_table.specs.declared.offices.names.Name.{Name}
use Rattle.reg_op.specs.Set as set
use Rattle.reg_op.specs.Ids.{Id}
use Rattle.reg_op.specs.Operations.{Op}
use Rattle.reg_op.specs.Contents.{Content}
use Rattle.reg_op.specs.Rows.{rows as entry_rows, awaited}
use Rattle.reg_report.specs.declared.gap.Gap.{Gap}
use Rattle.reg_report.specs.Gaps.{AreGaps}
use Rattle.reg_report.specs.Conflicts.{Contested, AreConflicts}
use Rattle.reg_report.specs.Contenders.{conflict_seen}
use Rattle.reg_page.specs.declared.described.Described.{Described}
use Rattle.reg_page.specs.declared.gathered.Gathered.{Gathered}
use Rattle.reg_page.specs.Descriptions.{AscendById, AreDescribed, InOrder}
use Rattle.reg_page.specs.Gathered.{IsGathered}
use Rattle.reg_page.specs.Page.{is_on, acts_in, conflict_of, gap_of, is_among, is_in_conflict, row_of, rows_of, figures_of, shown_of, IsPage, named}
use Rattle.reg_page.specs.SameTexts.{same_text_in}
use Rattle.reg_page.specs.Blocks.{gap_section}
use Rattle.reg_page.specs.Parts.{top, unsettled, open_ends, table}
use Rattle.reg_page.proofs.ActLemmas.{same_on}
use Rattle.reg_page.proofs.DescribeLemmas.{in_order}
use Rattle.reg_op.specs.Text.{printed}
use Rattle.reg_page.proofs.SameLemmas.{itself, entry_same, figures_moved, conflicts_moved, rows_moved}

regrouped : (all s t u : List Piece) → all ++ (s ++ t ++ u) ≡ all ++ s ++ t ++ u
regrouped all s t u = sym (append_assoc all (s ++ t) u) ∙ ap (λ ps. ps ++ u) (sym (append_assoc all s t))

five : (all v w x y z : List Piece) → all ++ (v ++ w ++ x ++ y ++ z) ≡ all ++ v ++ w ++ x ++ y ++ z
five all v w x y z = sym (append_assoc all (v ++ w ++ x ++ y) z) ∙ ap (λ ps. ps ++ z) (sym (append_assoc all (v ++ w ++ x) y) ∙ ap (λ ps. ps ++ y) (regrouped all v w x))

-- eleven lists of pieces are appended as parts of three, three and five
joined : (p q r s t u v w x y z : List Piece) {a b c d : List ℕ} → Appends a b (p ++ q ++ r) → Appends b c (s ++ t ++ u) → Appends c d (v ++ w ++ x ++ y ++ z)
    → Appends a d (p ++ q ++ r ++ s ++ t ++ u ++ v ++ w ++ x ++ y ++ z)
joined p q r s t u v w x y z one two three =
    as_others _ (p ++ q ++ r ++ s ++ t ++ u ++ v ++ w ++ x ++ y ++ z) (five (p ++ q ++ r ++ s ++ t ++ u) v w x y z)
    (next (as_others _ (p ++ q ++ r ++ s ++ t ++ u) (regrouped (p ++ q ++ r) s t u) (next one two)) three)

-- appending the three parts of a page appends the page
pub in_parts : (read : List ℕ → List ℕ) (x : Content) (title : List ℕ) (described : List Described) (acts : List Op) (cs : List Contested) (is : List Id) (gaps : List Gap) {a b c d : List ℕ}
    → Appends a b (top title (figures_of x described cs is gaps)) → Appends b c (open_ends read (map (conflict_of described) cs) (map printed is) (map gap_of gaps)) → Appends c d (table read (rows_of cs [] false x.ops described acts described) (rows_of [] (filter (is_among false x.ops) described) true x.ops described acts described))
    → Appends a d (page read (shown_of x title described acts cs is gaps))
in_parts read x title described acts cs is gaps one two three =
    joined (head title) (figures (figures_of x described cs is gaps)) (Markup AFTER_FIGURES.now ∷ [])
    (section CONFLICTS_START.now (conflict read) CONFLICTS_END.now (map (conflict_of described) cs)) (section AWAITED_START.now (waiting read) AWAITED_END.now (map printed is)) (section GAPS_START.now (gap read) GAPS_END.now (map gap_of gaps))
    (Markup ENTRIES_START.now ∷ []) (flat_map (entry read) (rows_of cs [] false x.ops described acts described)) (Markup ENTRIES_END.now ∷ [])
    (section RETIRED_START.now (entry read) RETIRED_END.now (rows_of [] (filter (is_among false x.ops) described) true x.ops described acts described)) end one two three

-- appending the page of what the content shows to an empty text gives the page of the content
pub is_page : (rules : List Rule) (title : List ℕ) (names : List Name) (x : Content) (rows : List Described) (cs : List Contested) (gaps : List Gap)
    (acts : List Op) (cs' : List Contested) (is : List Id) (gaps' : List Gap) (start last : List ℕ)
    → AreDescribed rules x.ops rows → AreConflicts (entry_rows x.ops) cs → AreGaps x.seen gaps
    → ((e : Id) → filter (is_on e) acts ≡ filter (is_on e) (acts_in x.ops)) → cs' ≡ cs → is ≡ set.items (awaited x.ops) → gaps' ≡ gaps → start ≡ []
    → Appends start last (page (named names) (shown_of x title rows acts cs' is gaps')) → IsPage rules title names x last
is_page rules title names x rows cs gaps acts cs' is gaps' start last t c g on ec ei eg es h =
    let wanted = set.items (awaited x.ops) in
    let live = filter (is_among false x.ops) rows in
    let one : (ks : List Contested) (told : List Described) (r : Described) → row_of x.ops rows acts ks told r ≡ row_of x.ops rows (acts_in x.ops) ks told r =
    λ ks told r. entry_same rows rows (λ i. refl) x.ops acts (acts_in x.ops) on (same_text_in told r) (same_text_in told r) refl (is_in_conflict ks r) (is_in_conflict ks r) refl r r (itself r) in
    let shows : shown_of x title rows acts cs wanted gaps ≡ shown_of x title rows (acts_in x.ops) cs wanted gaps = λ j. record {
      title = title;
      figures = figures_of x rows cs wanted gaps;
      conflicts = map (conflict_of rows) cs;
      awaited = map printed wanted;
      gaps = map gap_of gaps;
      entries = map (λ (r : Described). one cs [] r j) live;
      retired = map (λ (r : Described). one [] live r j) (filter (is_among true x.ops) rows);
    } in
    record {
      shows = shown_of x title rows (acts_in x.ops) cs wanted gaps;
      are = record { described = rows; are_described = t; conflicts = cs; are_conflicts = c; gaps = gaps; are_gaps = g; is = refl };
      is = h.is ∙ (λ j. es j ++ html (page (named names) (shown_of x title rows acts (ec j) (ei j) (eg j)))) ∙ ap (λ s. html (page (named names) s)) shows;
    }

-- the bytes of the figures, of the blocks before the gaps, of the gaps, and of the blocks after them are the page, of the descriptions in its
-- order
pub is_whole : (read : List ℕ → List ℕ) (x : Content) (title : List ℕ) (ts rows : List Described) (acts : List Op) (cs : List Contested) (is : List Id) (gaps : List Gap) (first front later : List ℕ)
    → AscendById ts → IsPermutation ts rows → first ≡ html (top title (figures_of x ts cs is gaps)) → front ≡ html (unsettled read (map (conflict_of ts) cs) (map printed is))
    → later ≡ html (table read (rows_of cs [] false x.ops ts acts rows) (rows_of [] (filter (is_among false x.ops) rows) true x.ops ts acts rows))
    → first ++ (front ++ (html (gap_section read gaps) ++ later)) ≡ html (page read (shown_of x title rows acts cs is gaps))
is_whole read x title ts rows acts cs is gaps first front later up same before between after =
    let live = filter (is_among false x.ops) rows in
    let missing : List Piece = gap_section read gaps in
    let others : List Piece = unsettled read (map (conflict_of rows) cs) (map printed is) in
    let entries : List Piece = table read (rows_of cs [] false x.ops rows acts rows) (rows_of [] live true x.ops rows acts rows) in
    let front_moved : front ≡ html others = between ∙ (λ j. html (unsettled read (conflicts_moved ts rows up same cs j) (map printed is))) in
    let later_moved : later ≡ html entries = after ∙ (λ j. html (table read (rows_moved ts rows up same cs [] false x.ops acts rows j) (rows_moved ts rows up same [] live true x.ops acts rows j))) in
    let whole : Appends [] ((first ++ html (others ++ missing)) ++ html entries) (page read (shown_of x title rows acts cs is gaps)) =
    in_parts read x title rows acts cs is gaps {b = first} {c = first ++ html (others ++ missing)}
    (record { is = before ∙ ap (λ f. html (top title f)) (figures_moved ts rows up same x cs is gaps) }) (record { is = refl }) (record { is = refl }) in
    (λ j. first ++ (front_moved j ++ (html missing ++ later_moved j)))
    ∙ ap (λ l. first ++ l) (sym (append_assoc (html others) (html missing) (html entries)) ∙ ap (λ l. l ++ html entries) (sym (html-append others missing)))
    ∙ sym (append_assoc first (html (others ++ missing)) (html entries)) ∙ whole.is

-- what is gathered of a register, with its entries in order and its gaps, gives its page
pub paged : (rules : List Rule) (title : List ℕ) (names : List Name) (x : Content) (g : Gathered) (rows : List Described) (gaps : List Gap) → IsGathered rules x g → InOrder g.described.items rows → AreGaps x.seen gaps
    → IsPage rules title names x (html (page (named names) (shown_of x title rows g.acts.items (map conflict_seen g.conflicts.items) g.awaited.items gaps)))
paged rules title names x g rows gaps h order missing =
    is_page rules title names x rows (map conflict_seen g.conflicts.items) gaps g.acts.items (map conflict_seen g.conflicts.items) g.awaited.items gaps [] _
    (in_order rules x.ops g.described.items rows h.described order) h.conflicts missing (same_on (acts_in x.ops) g.acts.items h.same) refl h.awaited refl refl (record { is = refl })
