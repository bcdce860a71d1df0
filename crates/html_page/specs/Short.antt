-- Texts of which at most 200 characters are shown.
use Rattle.std.specs.Prelude.{ℕ, List, ◌++◌}
use Rattle.text_hidden.specs.Short.{shortened, ellipsis_of}
use Rattle.html_page.specs.declared.marks.Feeds.TheVariants.{Marked}
use Rattle.html_page.specs.Escaped.{escaped}
use Rattle.html_page.specs.Marks.{marked}

-- the first 200 characters, and `…` if the text has more
abbrev pub short : List ℕ → List ℕ
short text = escaped (marked Marked (shortened text)) ++ ellipsis_of text
