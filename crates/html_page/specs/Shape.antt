-- The shape of a page: its contents without the texts.
use Rattle.std.specs.Prelude.{ℕ, List, [], map, Option, Some, None}
use Rattle.html_page.specs.declared.head.PageFigures.{PageFigures}
use Rattle.html_page.specs.Shown.{Link, Entered, Awaited, Event, SupersededBy, RetiredBy, Box, Entry, Word, Side, Pair, Conflict, Gap, Shown}

abbrev pub no_text : List ℕ → List ℕ
no_text text = []

abbrev pub figures_shape : PageFigures
figures_shape = record { entries = 0; valid = 0; superseded = 0; retired = 0; conflicts = 0; awaited = 0; gaps = 0; operations = 0 }

abbrev pub link_shape : Link → Link
link_shape (Entered id authority code) = Entered [] [] []
link_shape (Awaited id) = Awaited []

abbrev pub event_shape : Event → Event
event_shape (SupersededBy newer id note) = SupersededBy (link_shape newer) [] []
event_shape (RetiredBy id note) = RetiredBy [] []

-- of a box: whether it crosses the meridian of 180 degrees
abbrev pub box_shape : Box → Box
box_shape b = record { south = []; west = []; north = []; east = []; crosses = b.crosses }

-- whether the text is in another row
abbrev pub link_to_text : Option (List ℕ) → Option (List ℕ)
link_to_text None = None
link_to_text (Some id) = Some []

-- of an entry: the numbers of its boxes, areas, links, questions and operations, its status, and whether its text is in another row
abbrev pub entry_shape : Entry → Entry
entry_shape e = record {
  id = [];
  authority = [];
  code = [];
  name = [];
  boxes = map box_shape e.boxes;
  areas = map no_text e.areas;
  kind = [];
  standing = e.standing;
  links = map link_shape e.links;
  text = [];
  questions = map no_text e.questions;
  note = [];
  events = map event_shape e.events;
  same_text_as = link_to_text e.same_text_as;
  in_conflict = e.in_conflict;
}

-- of a word: whether it is marked or folded
abbrev pub word_shape : Word → Word
word_shape w = record { kind = w.kind; text = [] }

abbrev pub side_shape : Side → Side
side_shape s = record { id = []; note = []; words = map word_shape s.words }

abbrev pub pair_shape : Pair → Pair
pair_shape p = record { first = side_shape p.first; second = side_shape p.second }

abbrev pub conflict_shape : Conflict → Conflict
conflict_shape c = record { authority = []; code = []; pairs = map pair_shape c.pairs }

abbrev pub gap_shape : Gap → Gap
gap_shape g = record { replica = []; low = 0; high = 0 }

abbrev pub shape : Shown → Shown
shape s = record {
  title = [];
  figures = figures_shape;
  conflicts = map conflict_shape s.conflicts;
  awaited = map no_text s.awaited;
  gaps = map gap_shape s.gaps;
  entries = map entry_shape s.entries;
  retired = map entry_shape s.retired;
}
