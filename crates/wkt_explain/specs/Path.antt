-- The nodes that are open at a place: outside quotation marks, an opening delimiter opens the node of the word before it, and
-- a closing one closes the innermost.
use Rattle.std.specs.Prelude.{ℕ, ◌-◌, ◌==◌, ◌||◌, Bool, true, false, not, List, [], ◌∷◌, ◌++◌, map, filter, length, take, if◌then◌else◌}
use Rattle.wkt_tree.specs.Bytes.{is_blank, is_word_byte}
use Rattle.wkt_explain.specs.declared.path.ByteKind.{ByteKind}
use Rattle.wkt_explain.specs.declared.path.ByteKind.TheVariants.{Mark, Opens, Closes, InWord, Blank, Other}
use Rattle.wkt_explain.specs.declared.path.PathTrail.{PathTrail}

abbrev pub piece_of : ℕ → ByteKind
piece_of b =
    if is_word_byte b then InWord
    else (if is_blank b then Blank
    else (if b == 34 then Mark
    else (if b == 91 || b == 40 then Opens
    else (if b == 93 || b == 41 then Closes
    else Other))))

-- the state at a place: whether it is in quotation marks, the word before it, whether that word is complete, and the words
-- before the open delimiters, the outermost first
pub record Read : Type 0 where
  pub quoted : Bool
  pub whole : Bool
  pub word : List ℕ
  pub opened : List (List ℕ)

abbrev pub trail_seen : PathTrail → Read
trail_seen t = record { quoted = t.quoted; whole = t.whole; word = t.word.items; opened = map (λ w. w.items) t.opened.items }

abbrev pub start : Read
start = record { quoted = false; whole = true; word = []; opened = [] }

-- a byte outside quotation marks
abbrev pub outside : ByteKind → ℕ → Read → Read
outside Mark b r = record { quoted = true; whole = true; word = []; opened = r.opened }
outside Opens b r = record { quoted = r.quoted; whole = true; word = []; opened = r.opened ++ r.word ∷ [] }
outside Closes b r = record { quoted = r.quoted; whole = true; word = []; opened = take (length r.opened - 1) r.opened }
outside InWord b r = record { quoted = r.quoted; whole = false; word = (if r.whole then [] else r.word) ++ b ∷ []; opened = r.opened }
outside Blank b r = record { quoted = r.quoted; whole = true; word = r.word; opened = r.opened }
outside Other b r = record { quoted = false; whole = true; word = []; opened = r.opened }

-- a byte inside them: a mark ends them
abbrev pub inside : ℕ → Read → Read
inside b r = if b == 34 then record { quoted = false; whole = true; word = []; opened = r.opened } else r

abbrev pub takes : Read → ℕ → Read
takes r b = if r.quoted then inside b r else outside (piece_of b) b r

abbrev pub reads_on : Read → List ℕ → Read
reads_on r [] = r
reads_on r (b ∷ bs) = reads_on (takes r b) bs

-- the words before the delimiters that are open after the text
abbrev pub open_at : List ℕ → List (List ℕ)
open_at text = (reads_on start text).opened

-- a word that is not empty: nothing else is a keyword
abbrev pub is_named : List ℕ → Bool
is_named word = not (length word == 0)

-- the keywords of the nodes that are open after the text
abbrev pub path_at : List ℕ → List (List ℕ)
path_at text = filter is_named (open_at text)
