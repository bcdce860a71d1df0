-- The contents of the page of a register. Ids, keys, names, areas and notes are texts.
use Rattle.std.specs.Prelude.{ℕ, Bool, List, Option}
use Rattle.html_page.specs.declared.head.PageFigures.{PageFigures}
use Rattle.html_page.specs.declared.standing.Standing.{Standing}
use Rattle.html_page.specs.declared.run.RunKind.{RunKind}

-- an entry that another one names, with its key; or the id of one that was not entered
pub data Link : Type 0 where
  Entered : List ℕ → List ℕ → List ℕ → Link
  Awaited : List ℕ → Link

-- an operation on an entry, with its id and note: another entry supersedes it, or it is retired
pub data Event : Type 0 where
  SupersededBy : Link → List ℕ → List ℕ → Event
  RetiredBy : List ℕ → List ℕ → Event

-- a bounding box by its numerals, and whether it crosses the meridian of 180 degrees
pub record Box : Type 0 where
  pub south : List ℕ
  pub west : List ℕ
  pub north : List ℕ
  pub east : List ℕ
  pub crosses : Bool

-- an entry, with its text, what an expert would ask about it, its history, and whether it is in conflict. The row of another entry may
-- have the same text: then this row links to that one by its id, in the place of the boxes, the text and the questions
pub record Entry : Type 0 where
  pub id : List ℕ
  pub authority : List ℕ
  pub code : List ℕ
  pub name : List ℕ
  pub boxes : List Box
  pub areas : List (List ℕ)
  pub kind : List ℕ
  pub standing : Standing
  pub links : List Link
  pub text : List ℕ
  pub questions : List (List ℕ)
  pub note : List ℕ
  pub events : List Event
  pub same_text_as : Option (List ℕ)
  pub in_conflict : Bool

-- a run of words of a text
pub record Word : Type 0 where
  pub kind : RunKind
  pub text : List ℕ

-- an entry of a key in conflict, with its note and its text in words
pub record Side : Type 0 where
  pub id : List ℕ
  pub note : List ℕ
  pub words : List Word

pub record Pair : Type 0 where
  pub first : Side
  pub second : Side

pub record Conflict : Type 0 where
  pub authority : List ℕ
  pub code : List ℕ
  pub pairs : List Pair

pub record Gap : Type 0 where
  pub replica : List ℕ
  pub low : ℕ
  pub high : ℕ

pub record Shown : Type 0 where
  pub title : List ℕ
  pub figures : PageFigures
  pub conflicts : List Conflict
  pub awaited : List (List ℕ)
  pub gaps : List Gap
  pub entries : List Entry
  pub retired : List Entry
