-- Descriptions that show the same give the same rows, and a permutation of descriptions gives the same links and pairs.
use Rattle.std.proofs.Common.{◌≡◌, ℕ, Bool, Option, List, [], ◌∷◌, ◌++◌, map, filter, length, cond, if◌then◌else◌, refl, sym, ap, ◌∙◌}
use Rattle.std.specs.List.{flat_map}
use Rattle.std.specs.List.Sorted.{IsPermutation}
use Rattle.std.specs.Global.{Vec}
use Rattle.std.proofs.lemmas.List.Sorted.{length_permutation, sum_by-IsPermutation}
use Rattle.html_page.specs.Shown as shown
use Rattle.reg_op.specs.Set as set
use Rattle.reg_op.specs.Ids.{Id, is_same}
use Rattle.reg_op.specs.Text.{printed}
use Rattle.reg_op.specs.Contents.{Content}
use Rattle.reg_op.specs.Operations.{Op, Ops}
use Rattle.reg_op.specs.declared.operation.OpBody.{OpBody as Body}
use Rattle.reg_op.specs.declared.operation.OpBody.TheVariants.{Enter, Supersede, Retire}
use Rattle.reg_op.specs.Status.{status}
use Rattle.reg_report.specs.declared.gap.Gap.{Gap}
use Rattle.reg_report.specs.Conflicts.{Contested}
use Rattle.reg_page.specs.declared.described.Described.{Described}
use Rattle.reg_page.specs.Descriptions.{AscendById}
use Rattle.reg_page.specs.Kinds.{kind_word}
use Rattle.reg_page.specs.Boxes.{box_seen}
use Rattle.reg_page.specs.Page.{standing_of, described_at, link_as, link_to, is_on, links_by, links_in, events_by, events_in, printed_if, entry_of, is_in_conflict, pairs_of, pairs_from, pairs_among, conflict_of, is_valid, is_superseded, is_retired, is_among, rows_of, figures_of}
use Rattle.reg_page.specs.SameTexts.{same_text_in}
use Rattle.reg_page.proofs.ActLemmas.{same_links, same_events}
use Rattle.reg_page.proofs.FindLemmas.{same_at}

-- two descriptions show the same of an entry
pub record Same (t u : Described) : Type 0 where
  pub id : t.id ≡ u.id
  pub authority : t.key.authority.bytes ≡ u.key.authority.bytes
  pub code : t.key.code.bytes ≡ u.key.code.bytes
  pub name : t.system.name.items ≡ u.system.name.items
  pub boxes : map box_seen t.system.boxes.items ≡ map box_seen u.system.boxes.items
  pub areas : map (λ (a : Vec ℕ). a.items) t.system.areas.items ≡ map (λ (a : Vec ℕ). a.items) u.system.areas.items
  pub kind : t.system.kind ≡ u.system.kind
  pub text : t.system.text.items ≡ u.system.text.items
  pub questions : map (λ (q : Vec ℕ). q.items) t.system.questions.items ≡ map (λ (q : Vec ℕ). q.items) u.system.questions.items
  pub note : t.note.items ≡ u.note.items

pub itself : (t : Described) → Same t t
itself t = record { id = refl; authority = refl; code = refl; name = refl; boxes = refl; areas = refl; kind = refl; text = refl; questions = refl; note = refl }

-- if both lists have the same links, descriptions that show the same give the same row
module _ (ts us : List Described) (link : (i : Id) → link_to ts i ≡ link_to us i) where
  links_same : (e : Id) (b : Body) → links_by ts e b ≡ links_by us e b
  links_same e (Enter text) = refl
  links_same e (Supersede old newer) = ap (λ (l : shown.Link). if is_same old e then l ∷ [] else []) (link newer)
  links_same e (Retire entry) = refl

  events_same : (e : Id) (id note : List ℕ) (b : Body) → events_by ts e id note b ≡ events_by us e id note b
  events_same e id note (Enter text) = refl
  events_same e id note (Supersede old newer) = ap (λ (l : shown.Link). if is_same old e then shown.SupersededBy l id note ∷ [] else []) (link newer)
  events_same e id note (Retire entry) = refl

  pub entry_same : (s : Ops) (os ps : List Op) → ((e : Id) → filter (is_on e) os ≡ filter (is_on e) ps) → (o p : Option Id) → o ≡ p → (b c : Bool) → b ≡ c → (t u : Described) → Same t u
      → entry_of s ts os o b t ≡ entry_of s us ps p c u
  entry_same s os ps on o p told b c contested t u same =
      let links : flat_map (links_in ts t.id) os ≡ flat_map (links_in us u.id) ps =
      (λ j. flat_map (λ (o : Op). links_same t.id o.body j) os) ∙ same_links us t.id os ps (on t.id) ∙ (λ j. flat_map (links_in us (same.id j)) ps) in
      let events : flat_map (events_in ts t.id) os ≡ flat_map (events_in us u.id) ps =
      (λ j. flat_map (λ (o : Op). events_same t.id (printed o.id) o.note o.body j) os) ∙ same_events us t.id os ps (on t.id) ∙ (λ j. flat_map (events_in us (same.id j)) ps) in
      λ j. record {
        id = printed (same.id j);
        authority = same.authority j;
        code = same.code j;
        name = same.name j;
        boxes = same.boxes j;
        areas = same.areas j;
        kind = kind_word (same.kind j);
        standing = standing_of (status s (same.id j));
        links = links j;
        text = same.text j;
        questions = same.questions j;
        note = same.note j;
        events = events j;
        same_text_as = printed_if (told j);
        in_conflict = contested j;
      }

-- if both lists have the same pairs, they have the same conflicts
module _ (ts us : List Described) (pair : (i k : Id) → pairs_of (described_at ts i) (described_at ts k) ≡ pairs_of (described_at us i) (described_at us k)) where
  from_same : (i : Id) (is : List Id) → pairs_from ts i is ≡ pairs_from us i is
  from_same i [] = refl
  from_same i (j ∷ js) = λ k. pair i j k ++ from_same j js k

  among_same : (is : List Id) → pairs_among ts is ≡ pairs_among us is
  among_same [] = refl
  among_same (i ∷ is) = from_same i is

  pub conflict_same : (c : Contested) → conflict_of ts c ≡ conflict_of us c
  conflict_same c = λ j. record { authority = c.key.authority; code = c.key.code; pairs = among_same c.entries j }

-- ---- a permutation of the descriptions

module _ (ts us : List Described) (up : AscendById ts) (p : IsPermutation ts us) where
  pub link_moved : (i : Id) → link_to ts i ≡ link_to us i
  link_moved i = ap (link_as i) (same_at ts us up p i)

  pair_moved : (i k : Id) → pairs_of (described_at ts i) (described_at ts k) ≡ pairs_of (described_at us i) (described_at us k)
  pair_moved i k = λ j. pairs_of (same_at ts us up p i j) (same_at ts us up p k j)

  pub conflicts_moved : (cs : List Contested) → map (conflict_of ts) cs ≡ map (conflict_of us) cs
  conflicts_moved cs = λ j. map (λ (c : Contested). conflict_same ts us pair_moved c j) cs

  pub rows_moved : (cs : List Contested) (told : List Described) (gone : Bool) (s : Ops) (os : List Op) (rows : List Described) → rows_of cs told gone s ts os rows ≡ rows_of cs told gone s us os rows
  rows_moved cs told gone s os rows = λ j.
      map (λ (t : Described). entry_same ts us link_moved s os os (λ e. refl) (same_text_in told t) (same_text_in told t) refl (is_in_conflict cs t) (is_in_conflict cs t) refl t t (itself t) j) (filter (is_among gone s) rows)

  pub figures_moved : (x : Content) (cs : List Contested) (is : List Id) (gs : List Gap) → figures_of x ts cs is gs ≡ figures_of x us cs is gs
  figures_moved x cs is gs = λ j. record {
    entries = sym (length_permutation ts us p) j;
    valid = sym (sum_by-IsPermutation (λ (t : Described). cond (is_valid (standing_of (status x.ops t.id))) 1 0) ts us p) j;
    superseded = sym (sum_by-IsPermutation (λ (t : Described). cond (is_superseded (standing_of (status x.ops t.id))) 1 0) ts us p) j;
    retired = sym (sum_by-IsPermutation (λ (t : Described). cond (is_retired (standing_of (status x.ops t.id))) 1 0) ts us p) j;
    conflicts = length cs;
    awaited = length is;
    gaps = length gs;
    operations = length (set.items x.ops);
  }
