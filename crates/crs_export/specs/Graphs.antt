-- Nodes and edges in DOT.
use Rattle.std.specs.Prelude.{ℕ, ◌++◌, List}
use Rattle.crs_export.specs.DotQuotes.{escaped}
use Rattle.crs_export.specs.declared.title.Title.{Title}
use Rattle.crs_export.specs.declared.markup.TheConstants.{NODE_START, LABEL, BEFORE_CODE_IN_LABEL, BEFORE_NAME_IN_LABEL, BEFORE_COLOR, NODE_END, CAPTION_END, ARROW, EDGE_END, RIVALS_END}

-- an entry, with its key and its name as label
abbrev pub node : Title → List ℕ → List ℕ
node t color =
    NODE_START.now ++ escaped t.entry.now ++ LABEL.now ++ escaped t.authority.now ++ BEFORE_CODE_IN_LABEL.now ++ escaped t.code.now
    ++ BEFORE_NAME_IN_LABEL.now ++ escaped t.name.now ++ BEFORE_COLOR.now ++ color ++ NODE_END.now

-- an id that was not entered, with what is read in its place as label
abbrev pub caption : List ℕ → List ℕ → List ℕ
caption id shown = NODE_START.now ++ escaped id ++ LABEL.now ++ escaped shown ++ CAPTION_END.now

-- from an entry to one that supersedes it
abbrev pub edge : List ℕ → List ℕ → List ℕ
edge old newer = NODE_START.now ++ escaped old ++ ARROW.now ++ escaped newer ++ EDGE_END.now

-- between two entries in conflict
abbrev pub rivals : List ℕ → List ℕ → List ℕ
rivals one other = NODE_START.now ++ escaped one ++ ARROW.now ++ escaped other ++ RIVALS_END.now
