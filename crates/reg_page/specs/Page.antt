-- The page of a register.
use Rattle.std.specs.Prelude.{◌≡◌, ◌⊎◌, ℕ, Bool, true, false, not, List, [], ◌∷◌, ◌++◌, filter, find, map, length, Contains, Option, Some, None, if◌then◌else◌}
use Rattle.std.specs.Global.{Vec}
use Rattle.std.specs.List.{flat_map, count_by, list_any}
use Rattle.std.specs.Ordering.{is_eq}
use Rattle.uuid.specs.Text.{hyphenated_text, lower}
use Rattle.csv_table.specs.declared.offices.names.Name.{Name}
use Rattle.csv_table.specs.Shown as office
use Rattle.html_page.specs.Pieces.{html}
use Rattle.html_page.specs.declared.head.PageFigures.{PageFigures}
use Rattle.html_page.specs.declared.standing.Standing.{Standing}
use Rattle.html_page.specs.declared.standing.Standing.TheVariants as standing
use Rattle.html_page.specs.Shown as shown
use Rattle.html_page.specs.Templates.{page}
use Rattle.html_page.specs.Words.{compared}
use Rattle.crs_sense.specs.declared.rule.Rule.{Rule}
use Rattle.reg_op.specs.Set as set
use Rattle.reg_op.specs.Set.{Ascends}
use Rattle.reg_op.specs.Ids.{Id, is_same}
use Rattle.reg_op.specs.Text.{printed}
use Rattle.reg_op.specs.Operations.{Op, Ops}
use Rattle.reg_op.specs.declared.operation.OpBody.{OpBody as Body}
use Rattle.reg_op.specs.declared.operation.OpBody.TheVariants.{Enter, Supersede, Retire}
use Rattle.reg_op.specs.Contents.{Content}
use Rattle.reg_op.specs.Status.{is_enter, status}
use Rattle.reg_op.specs.declared.status.Status.{Status}
use Rattle.reg_op.specs.declared.status.Status.TheVariants as statuses
use Rattle.reg_op.specs.Rows.{rows, awaited}
use Rattle.reg_report.specs.declared.gap.Gap.{Gap}
use Rattle.reg_report.specs.Gaps.{AreGaps}
use Rattle.reg_report.specs.Conflicts.{bytes_of, key_cmp, Contested, AreConflicts}
use Rattle.reg_report.specs.declared.conflict.Conflict.{Conflict}
use Rattle.reg_report.specs.Contenders.{conflict_seen}
use Rattle.reg_page.specs.declared.described.Described.{Described}
use Rattle.reg_page.specs.Descriptions.{AreDescribed}
use Rattle.reg_page.specs.Kinds.{kind_word}
use Rattle.reg_page.specs.Boxes.{box_seen}
use Rattle.reg_page.specs.SameTexts.{same_text_in}

-- ---- entries

abbrev pub standing_of : Option Status → Standing
standing_of None = standing.Valid
standing_of (Some statuses.Valid) = standing.Valid
standing_of (Some statuses.Superseded) = standing.Superseded
standing_of (Some statuses.Retired) = standing.Retired

-- what the page shows of an entry, if it was entered
abbrev pub described_at : List Described → Id → Option Described
described_at described i = find (λ (t : Described). is_same t.id i) described

abbrev pub link_as : Id → Option Described → shown.Link
link_as i None = shown.Awaited (printed i)
link_as i (Some t) = shown.Entered (printed t.id) t.key.authority.bytes t.key.code.bytes

abbrev pub link_to : List Described → Id → shown.Link
link_to described i = link_as i (described_at described i)

-- the operations on entries: supersessions and retirements
abbrev pub acts_in : Ops → List Op
acts_in s = filter (λ (o : Op). not (is_enter o.body)) (set.items s)

-- the entry that an operation supersedes or retires, or that it enters
abbrev pub subject_of : Id → Body → Id
subject_of i (Enter text) = i
subject_of i (Supersede old newer) = old
subject_of i (Retire entry) = entry

abbrev pub subject : Op → Id
subject o = subject_of o.id o.body

abbrev pub is_on : Id → Op → Bool
is_on e o = is_same (subject o) e

-- the entries that supersede an entry
abbrev pub links_by : List Described → Id → Body → List shown.Link
links_by described e (Enter text) = []
links_by described e (Supersede old newer) = if is_same old e then link_to described newer ∷ [] else []
links_by described e (Retire entry) = []

-- what an operation does to an entry
abbrev pub events_by : List Described → Id → List ℕ → List ℕ → Body → List shown.Event
events_by described e id note (Enter text) = []
events_by described e id note (Supersede old newer) = if is_same old e then shown.SupersededBy (link_to described newer) id note ∷ [] else []
events_by described e id note (Retire entry) = if is_same entry e then shown.RetiredBy id note ∷ [] else []

abbrev pub links_in : List Described → Id → Op → List shown.Link
links_in described e o = links_by described e o.body

abbrev pub events_in : List Described → Id → Op → List shown.Event
events_in described e o = events_by described e (printed o.id) o.note o.body

abbrev pub printed_if : Option Id → Option (List ℕ)
printed_if None = None
printed_if (Some i) = Some (printed i)

-- the row of an entry, with what the operations do to it; with the entry whose row has its text, if there is one; and with whether it is in
-- conflict
abbrev pub entry_of : Ops → List Described → List Op → Option Id → Bool → Described → shown.Entry
entry_of s described os same contested t = record {
  id = printed t.id;
  authority = t.key.authority.bytes;
  code = t.key.code.bytes;
  name = t.system.name.items;
  boxes = map box_seen t.system.boxes.items;
  areas = map (λ (a : Vec ℕ). a.items) t.system.areas.items;
  kind = kind_word t.system.kind;
  standing = standing_of (status s t.id);
  links = flat_map (links_in described t.id) os;
  text = t.system.text.items;
  questions = map (λ (q : Vec ℕ). q.items) t.system.questions.items;
  note = t.note.items;
  events = flat_map (events_in described t.id) os;
  same_text_as = printed_if same;
  in_conflict = contested;
}

-- the key of the entry is one of these
abbrev pub is_in_conflict : List Contested → Described → Bool
is_in_conflict cs t = list_any (λ (c : Contested). is_eq (key_cmp c.key (bytes_of t.key))) cs

-- the keys ascend
abbrev pub AscendByKey : List Conflict → Type 0
AscendByKey cs = Ascends key_cmp (map (λ (c : Contested). c.key) (map conflict_seen cs))

-- the row of an entry, if these keys are in conflict, and the rows of these entries have their texts
abbrev pub row_of : Ops → List Described → List Op → List Contested → List Described → Described → shown.Entry
row_of s described os cs told t = entry_of s described os (same_text_in told t) (is_in_conflict cs t) t

-- ---- conflicts

-- an entry's text, with the words marked that another's text does not have
abbrev pub side_of : Described → Described → shown.Side
side_of t other = record { id = printed t.id; note = t.note.items; words = compared t.system.text.items other.system.text.items }

abbrev pub pairs_of : Option Described → Option Described → List shown.Pair
pairs_of None other = []
pairs_of (Some one) None = []
pairs_of (Some one) (Some other) = record { first = side_of one other; second = side_of other one } ∷ []

-- an entry beside the first of these, and each of these beside the next one
abbrev pub pairs_from : List Described → Id → List Id → List shown.Pair
pairs_from described i [] = []
pairs_from described i (j ∷ js) = pairs_of (described_at described i) (described_at described j) ++ pairs_from described j js

-- each entry of a key beside the next one, so that a text stands in two pairs at most
abbrev pub pairs_among : List Described → List Id → List shown.Pair
pairs_among described [] = []
pairs_among described (i ∷ is) = pairs_from described i is

abbrev pub conflict_of : List Described → Contested → shown.Conflict
conflict_of described c = record { authority = c.key.authority; code = c.key.code; pairs = pairs_among described c.entries }

-- ---- the page

abbrev pub gap_of : Gap → shown.Gap
gap_of g = record { replica = hyphenated_text lower g.replica; low = g.low; high = g.high }

abbrev pub is_valid : Standing → Bool
is_valid standing.Valid = true
is_valid standing.Superseded = false
is_valid standing.Retired = false

abbrev pub is_superseded : Standing → Bool
is_superseded standing.Valid = false
is_superseded standing.Superseded = true
is_superseded standing.Retired = false

abbrev pub is_retired : Standing → Bool
is_retired standing.Valid = false
is_retired standing.Superseded = false
is_retired standing.Retired = true

abbrev pub figures_of : Content → List Described → List Contested → List Id → List Gap → PageFigures
figures_of x described cs is gs = record {
  entries = length described;
  valid = count_by (λ (t : Described). is_valid (standing_of (status x.ops t.id))) described;
  superseded = count_by (λ (t : Described). is_superseded (standing_of (status x.ops t.id))) described;
  retired = count_by (λ (t : Described). is_retired (standing_of (status x.ops t.id))) described;
  conflicts = length cs;
  awaited = length is;
  gaps = length gs;
  operations = length (set.items x.ops);
}

-- whether an entry is one of the retired ones, or one of the others
abbrev pub is_among : Bool → Ops → Described → Bool
is_among gone s t = if gone then is_retired (standing_of (status s t.id)) else not (is_retired (standing_of (status s t.id)))

-- the rows of the entries that are not retired, or of those that are
abbrev pub rows_of : List Contested → List Described → Bool → Ops → List Described → List Op → List Described → List shown.Entry
rows_of cs told gone s described os ts = map (row_of s described os cs told) (filter (is_among gone s) ts)

-- what is shown of a content, from the descriptions of its entries, its operations, conflicts, awaited ids and gaps. The rows of retired
-- entries link to the rows of those that are not, where these have the same text
abbrev pub shown_of : Content → List ℕ → List Described → List Op → List Contested → List Id → List Gap → shown.Shown
shown_of x title described os cs is gs = record {
  title = title;
  figures = figures_of x described cs is gs;
  conflicts = map (conflict_of described) cs;
  awaited = map printed is;
  gaps = map gap_of gs;
  entries = rows_of cs [] false x.ops described os described;
  retired = rows_of [] (filter (is_among false x.ops) described) true x.ops described os described;
}

-- what the page of a content with this title shows, with what is asked by these rules
pub record IsShown (rules : List Rule) (title : List ℕ) (x : Content) (s : shown.Shown) : Type 0 where
  pub described : List Described
  pub are_described : AreDescribed rules x.ops described
  pub conflicts : List Contested
  pub are_conflicts : AreConflicts (rows x.ops) conflicts
  pub gaps : List Gap
  pub are_gaps : AreGaps x.seen gaps
  pub is : s ≡ shown_of x title described (acts_in x.ops) conflicts (set.items (awaited x.ops)) gaps

-- what is read in the place of an id or a UUID: it has the name of its office, if there is one
abbrev pub named : List Name → List ℕ → List ℕ
named names id = office.shown false names id

-- the page of a content with this title and these names of offices
pub record IsPage (rules : List Rule) (title : List ℕ) (names : List Name) (x : Content) (bytes : List ℕ) : Type 0 where
  pub shows : shown.Shown
  pub are : IsShown rules title x shows
  pub is : bytes ≡ html (page (named names) shows)

-- the side is an entry of the page, retired or not: its words, without marks, are the entry's text
pub record IsSide (s : shown.Shown) (side : shown.Side) : Type 0 where
  pub entry : shown.Entry
  pub there : Contains s.entries entry ⊎ Contains s.retired entry
  pub id : side.id ≡ entry.id
  pub words : flat_map (λ (w : shown.Word). w.text) side.words ≡ entry.text
