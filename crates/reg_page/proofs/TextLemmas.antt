-- Each row of the page shows an entry of the register, and the rows are in the order of their keys.
use Rattle.std.proofs.Common.{◌≡◌, ℕ, ◌+◌, zero, suc, Bool, true, false, All, Option, filter, List, [], ◌∷◌, map, get_or, arith, refl, sym, ap, subst}
use Rattle.std.proofs.lemmas.List.Elements.{All-map, All-filter}
use Rattle.std.proofs.lemmas.List.Kept.{IsSortedBy-filter}
use Rattle.std.proofs.lemmas.List.Sorted.{ranks_by}
use Rattle.std.specs.List.Sorted.{IsSorted}
use Rattle.std.specs.declared.cmp.Ordering.{Ordering}
use Rattle.std.specs.declared.cmp.Ordering.TheVariants.{Less, Equal, Greater}
use Rattle.std.specs.Ordering.{nat_cmp, ordering_then, is_lt}
use Rattle.std.specs.Cmp.Lexicographic.{slice_cmp}
use Rattle.html_page.specs.Shown as shown
use Rattle.reg_op.specs.Contents.{Content}
use Rattle.reg_op.specs.Ids.{Id, id_cmp}
use Rattle.reg_op.specs.Kept.{entering}
use Rattle.reg_op.specs.Operations.{Op, Ops}
use Rattle.reg_op.specs.Set as set
use Rattle.crs_sense.specs.declared.rule.Rule.{Rule}
use Rattle.reg_page.specs.declared.described.Described.{Described}
use Rattle.reg_page.specs.Codes.{code_cmp}
use Rattle.reg_page.specs.Descriptions.{IsDescribed, described_cmp}
use Rattle.reg_page.specs.Kinds.{kind_word}
use Rattle.reg_report.specs.Conflicts.{Contested}
use Rattle.reg_page.specs.Page.{is_among, entry_of, is_in_conflict, row_of, rows_of, acts_in, IsShown}
use Rattle.reg_page.specs.SameTexts.{same_text_in}
use Rattle.reg_page.specs.Rows.{ShowsEntry, entry_cmp}
use Rattle.reg_page.proofs.DescribeLemmas.{described_total}

-- ---- texts

module _ (rules : List Rule) (s : Ops) (described : List Described) (os : List Op) where
  shows : (same : Option Id) (contested : Bool) (t : Described) → IsDescribed rules s t → ShowsEntry rules s (entry_of s described os same contested t)
  shows same contested t h =
      let d = h.described in
      record {
        id = t.id;
        definition = h.definition;
        entered = subst (λ note. set.contains s (entering t.id h.definition note) ≡ true) (sym d.note) h.entered;
        prints = refl;
        key = t.key;
        keyed = d.keyed;
        authority = refl;
        code = refl;
        crs = d.system.crs;
        spelled = d.system.spelled;
        name = d.system.shows.name;
        boxes = d.system.shows.boxes;
        areas = d.system.shows.areas;
        kind = ap kind_word d.system.shows.kind;
        standing = refl;
        text = d.system.shows.text;
        questions = d.system.shows.questions;
      }

  rows_show : (cs : List Contested) (told ts : List Described) → All (IsDescribed rules s) ts → (gone : Bool) → All (ShowsEntry rules s) (rows_of cs told gone s described os ts)
  rows_show cs told ts each gone =
      All-map (ShowsEntry rules s) (row_of s described os cs told) (filter (is_among gone s) ts)
      (All-filter (is_among gone s) (λ t. ShowsEntry rules s (row_of s described os cs told t)) ts (λ k d h.
      shows (same_text_in told (get_or ts k d)) (is_in_conflict cs (get_or ts k d)) (get_or ts k d) (each k d h)))

pub all_show : (rules : List Rule) (title : List ℕ) (x : Content) (s : shown.Shown) → IsShown rules title x s → All (ShowsEntry rules x.ops) s.entries × All (ShowsEntry rules x.ops) s.retired
all_show rules title x s h =
    let ts = h.described in
    let each = h.are_described.each in
    subst (λ (z : shown.Shown). All (ShowsEntry rules x.ops) z.entries × All (ShowsEntry rules x.ops) z.retired) (sym h.is)
    (rows_show rules x.ops ts (acts_in x.ops) h.conflicts [] ts each false, rows_show rules x.ops ts (acts_in x.ops) [] (filter (is_among false x.ops) ts) ts each true)

-- ---- order

first_two : (a b c : Ordering) → is_lt (ordering_then a (ordering_then b c)) ≡ false → is_lt (ordering_then a b) ≡ false
first_two Less b c h = h
first_two Greater b c h = refl
first_two Equal Less c h = h
first_two Equal Equal c h = refl
first_two Equal Greater c h = refl

rows_sorted : (f : Described → shown.Entry) → ((t u : Described) → is_lt (described_cmp u t) ≡ false → is_lt (entry_cmp (f u) (f t)) ≡ false) → (ts : List Described) → IsSorted described_cmp ts → IsSorted entry_cmp (map f ts)
rows_sorted f each [] up k d low h = absurd (omega (arith, h))
rows_sorted f each (t ∷ []) up k d low h = absurd (omega (arith, h))
rows_sorted f each (t ∷ u ∷ ts) up zero d low h = each t u (up 0 t (omega arith) (omega arith))
rows_sorted f each (t ∷ u ∷ ts) up (suc k) d low h =
    let e : suc k + 1 ≡ suc (k + 1) = omega arith in
    subst (λ m. is_lt (entry_cmp (get_or (map f (t ∷ u ∷ ts)) m d) (get_or (map f (u ∷ ts)) k d)) ≡ false) (sym e)
    (rows_sorted f each (u ∷ ts) (λ i v a b.
    let g : suc i + 1 ≡ suc (i + 1) = omega arith in
    subst (λ m. is_lt (described_cmp (get_or (t ∷ u ∷ ts) m v) (get_or (u ∷ ts) i v)) ≡ false) g (up (suc i) v (omega arith) (omega arith))) k d (omega arith) (omega (arith, h)))

module _ (s : Ops) (described : List Described) (os : List Op) where
  in_order : (cs : List Contested) (told ts : List Described) → IsSorted described_cmp ts → (gone : Bool) → IsSorted entry_cmp (rows_of cs told gone s described os ts)
  in_order cs told ts up gone =
      rows_sorted (row_of s described os cs told) (λ t u h. first_two (slice_cmp nat_cmp u.key.authority.bytes t.key.authority.bytes) (code_cmp u.key.code.bytes t.key.code.bytes) (id_cmp u.id t.id) h) (filter (is_among gone s) ts)
      (IsSortedBy-filter (λ (a b : Described). is_lt (described_cmp a b)) (ranks_by described_total (λ (t : Described). t)) (is_among gone s) ts up)

pub all_in_order : (rules : List Rule) (title : List ℕ) (x : Content) (s : shown.Shown) → IsShown rules title x s → IsSorted entry_cmp s.entries × IsSorted entry_cmp s.retired
all_in_order rules title x s h =
    let ts = h.described in
    let up = h.are_described.sorted in
    subst (λ (z : shown.Shown). IsSorted entry_cmp z.entries × IsSorted entry_cmp z.retired) (sym h.is)
    (in_order x.ops ts (acts_in x.ops) h.conflicts [] ts up false, in_order x.ops ts (acts_in x.ops) [] (filter (is_among false x.ops) ts) ts up true)
