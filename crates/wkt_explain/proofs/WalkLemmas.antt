-- Steps of a walk through a file.
use Rattle.std.proofs.Common.{◌≡◌, ℕ, ◌+◌, ◌-◌, ◌<◌, ◌≤◌, Bool, true, false, ◌==◌, List, [], ◌++◌, length, take, drop, ap, sym, ◌∙◌, arith, length-drop}
use Rattle.std.specs.List.{list_all, suffix_len}
use Rattle.std.proofs.lemmas.Bool.Decides.{nat_tests}
use Rattle.std.proofs.lemmas.List.{take-append-drop, drop-take, length-take-le, take-take, drop-drop}
use Rattle.std.proofs.lemmas.List.Folds.{list_all-append}
use Rattle.std.proofs.Math.Seq.{take-add}
use Rattle.std.proofs.lemmas.Bool.{and_parts}
use Rattle.wkt_explain.specs.Characters.{first_len, chars}
use Rattle.wkt_explain.specs.Position.{goes_on, last_line, line_number, feeds, text_in}
use Rattle.wkt_explain.specs.Walk.{AreWhole, IsInLine}
use Rattle.wkt_explain.proofs.CharLemmas.{chars-nil, first_len-bounds}
use Rattle.wkt_explain.proofs.LineLemmas.{last_line-goes_on, lines_end, line_grows, feeds-append, no_feeds}
use Rattle.wkt_explain.proofs.FrontLemmas.{first_len-small, one_more_whole, none_whole}

-- ---- the bytes between two places

pub between_is : (file : List ℕ) (at place : ℕ) → at ≤ place → text_in file at place ≡ take (place - at) (drop at file)
between_is file at place le = let e : place ≡ at + (place - at) = omega arith in ap (λ n. drop at (take n file)) e ∙ drop-take at (place - at) file

pub up_to : (file : List ℕ) (at place : ℕ) → at ≤ place → take at file ++ text_in file at place ≡ take place file
up_to file at place le =
    let e : at + (place - at) ≡ place = omega arith in
    ap (λ x. take at file ++ x) (between_is file at place le) ∙ sym (take-add at (place - at) file) ∙ ap (λ n. take n file) e

pub between_len : (file : List ℕ) (at place : ℕ) → at ≤ place → place ≤ length file → length (text_in file at place) ≡ place - at
between_len file at place le within = length-drop at (take place file) ∙ ap (λ n. n - at) (length-take-le place file within)

pub between_behind : (file : List ℕ) (at n place : ℕ) → text_in file (at + n) place ≡ drop n (text_in file at place)
between_behind file at n place = sym (drop-drop n at (take place file))

-- the bytes up to n after a place are those before it and the first n between the two places
begun : (file : List ℕ) (at place n : ℕ) → at ≤ place → n ≤ place - at → take (at + n) file ≡ take at file ++ take n (text_in file at place)
begun file at place n le fits =
    take-add at n file ∙ ap (λ x. take at file ++ x) (sym (take-take n (place - at) (drop at file) fits) ∙ ap (take n) (sym (between_is file at place le)))

-- ---- lines

-- the lines that end between two places
pub record Passed (file : List ℕ) (at place : ℕ) (lines : List ℕ) : Type 0 where
  pub most : at + length lines ≤ place
  pub before : take (at + length lines) file ≡ take at file ++ lines
  pub behind : text_in file (at + length lines) place ≡ last_line (text_in file at place)

pub lines_passed : (file : List ℕ) (at place : ℕ) (b lines : List ℕ) → at ≤ place → place ≤ length file → b ≡ text_in file at place
    → lines ≡ take (length b - suffix_len goes_on b) b → Passed file at place lines
lines_passed file at place b lines le within e l =
    let n = length b - suffix_len goes_on b in
    let len : length b ≡ place - at = ap length e ∙ between_len file at place le within in
    let same : length lines ≡ n = ap length l ∙ length-take-le n b (omega arith) in
    record {
      most = omega (arith, len, same);
      before = ap (λ m. take (at + m) file) same ∙ begun file at place n le (omega (arith, len)) ∙ ap (λ x. take at file ++ take n x) (sym e) ∙ ap (λ x. take at file ++ x) (sym l);
      behind = ap (λ m. text_in file (at + m) place) same ∙ between_behind file at n place ∙ ap (drop n) (sym e) ∙ ap last_line e;
    }

pub rest_goes_on : (file : List ℕ) (at place : ℕ) (lines : List ℕ) → Passed file at place lines → list_all goes_on (text_in file (at + length lines) place) ≡ true
rest_goes_on file at place lines p = ap (list_all goes_on) p.behind ∙ last_line-goes_on (text_in file at place)

-- if no line ends between two places, no byte between them ends a line
pub all_goes_on : (file : List ℕ) (at place : ℕ) (lines : List ℕ) → Passed file at place lines → length lines ≡ 0 → list_all goes_on (text_in file at place) ≡ true
all_goes_on file at place lines p none =
    let same : at + length lines ≡ at = omega (arith, none) in
    ap (λ n. list_all goes_on (text_in file n place)) (sym same) ∙ rest_goes_on file at place lines p

pub line_counted : (file : List ℕ) (at place line : ℕ) (lines : List ℕ) → Passed file at place lines → line ≡ line_number (take at file)
    → line + feeds lines ≡ line_number (take (at + length lines) file)
line_counted file at place line lines p e =
    let all : feeds (take (at + length lines) file) ≡ feeds (take at file) + feeds lines = ap feeds p.before ∙ feeds-append (take at file) lines in
    omega (arith, all, e)

pub line_begun : (file : List ℕ) (at place : ℕ) (b lines : List ℕ) → Passed file at place lines → lines ≡ take (length b - suffix_len goes_on b) b → 0 < length lines
    → last_line (take (at + length lines) file) ≡ []
line_begun file at place b lines p l some = ap last_line p.before ∙ lines_end (take at file) b lines l some

-- an empty line has no characters
pub none_passed : (line : List ℕ) → line ≡ [] → 0 ≡ length (chars line)
none_passed line e = sym (ap (λ l. length (chars l)) e ∙ ap length chars-nil)

pub nothing_whole : (line behind : List ℕ) → line ≡ [] → AreWhole line behind
nothing_whole line behind e n = ap (λ l. chars (l ++ take n behind)) e ∙ none_whole behind n ∙ ap (λ l. chars l ++ chars (take n behind)) (sym e)

-- ---- characters

pub record Stepped (file : List ℕ) (at place k : ℕ) : Type 0 where
  pub some : 0 < k
  pub most : k ≤ 4
  pub line : list_all goes_on (text_in file (at + k) place) ≡ true
  pub feeds_same : line_number (take (at + k) file) ≡ line_number (take at file)
  pub last : last_line (take (at + k) file) ≡ last_line (take at file) ++ take k (drop at file)

pub char_stepped : (file : List ℕ) (at place k : ℕ) → IsInLine file at place → at + 4 ≤ place → place ≤ length file → k ≡ first_len (drop at file) → Stepped file at place k
char_stepped file at place k inside ahead within e =
    let b = text_in file at place in
    let left : length (drop at file) ≡ length file - at = length-drop at file in
    let bounds = first_len-bounds (drop at file) (omega (arith, left)) in
    let small : first_len (drop at file) ≤ 4 = first_len-small (drop at file) in
    let parts = and_parts (list_all goes_on (take k b)) (list_all goes_on (drop k b))
    (sym (list_all-append goes_on (take k b) (drop k b)) ∙ ap (list_all goes_on) (take-append-drop k b) ∙ inside.1) in
    let grown : take (at + k) file ≡ take at file ++ take k b = begun file at place k inside.0 (omega (arith, e, small)) in
    let all : feeds (take (at + k) file) ≡ feeds (take at file) + feeds (take k b) = ap feeds grown ∙ feeds-append (take at file) (take k b) in
    let none : feeds (take k b) ≡ 0 = no_feeds (take k b) parts.0 in
    let front : take k b ≡ take k (drop at file) = ap (take k) (between_is file at place inside.0) ∙ take-take k (place - at) (drop at file) (omega (arith, e, small)) in
    record {
      some = omega (arith, e, bounds.0);
      most = omega (arith, e, small);
      line = ap (list_all goes_on) (between_behind file at k place) ∙ parts.1;
      feeds_same = omega (arith, all, none);
      last = ap last_line grown ∙ line_grows (take at file) (take k b) parts.0 ∙ ap (λ x. last_line (take at file) ++ x) front;
    }

-- the line up to the place after the next character has one more character
pub char_counted : (file : List ℕ) (at place k passed : ℕ) → Stepped file at place k → 0 < length (drop at file) → k ≡ first_len (drop at file)
    → AreWhole (last_line (take at file)) (drop at file) → passed ≡ length (chars (last_line (take at file)))
    → passed + 1 ≡ length (chars (last_line (take (at + k) file)))
char_counted file at place k passed s some e whole p =
    let more = one_more_whole (last_line (take at file)) (drop at file) k whole some e in
    ap (λ n. n + 1) p ∙ sym more.1 ∙ ap (λ l. length (chars l)) (sym s.last)

pub char_whole : (file : List ℕ) (at place k : ℕ) → Stepped file at place k → 0 < length (drop at file) → k ≡ first_len (drop at file)
    → AreWhole (last_line (take at file)) (drop at file) → AreWhole (last_line (take (at + k) file)) (drop (at + k) file)
char_whole file at place k s some e whole n =
    let more = one_more_whole (last_line (take at file)) (drop at file) k whole some e in
    ap (λ l. chars (l ++ take n (drop (at + k) file))) s.last
    ∙ ap (λ r. chars ((last_line (take at file) ++ take k (drop at file)) ++ take n r)) (sym (drop-drop k at file))
    ∙ more.0 n
    ∙ ap (λ r. chars (last_line (take at file) ++ take k (drop at file)) ++ chars (take n r)) (drop-drop k at file)
    ∙ ap (λ l. chars l ++ chars (take n (drop (at + k) file))) (sym s.last)

pub none_left : (n : ℕ) (b : Bool) → b ≡ (n == 0) → b ≡ true → n ≡ 0
none_left n b h e = grind (arith, nat_tests)

pub some_left : (n : ℕ) (b : Bool) → b ≡ (n == 0) → b ≡ false → 0 < n
some_left n b h e = grind (arith, nat_tests)

pub more_there : (file : List ℕ) (at place : ℕ) → at + 4 ≤ place → place ≤ length file → 0 < length (drop at file)
more_there file at place ahead within = let left : length (drop at file) ≡ length file - at = length-drop at file in omega (arith, left)
