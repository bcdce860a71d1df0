-- The page in blocks, and its gaps between them. All blocks are listed before the first byte of the page is written; then each is made
-- and written in turn. So is each gap.
use Rattle.std.specs.Prelude.{ℕ, Bool, List, [], ◌∷◌, filter, map, Some, None}
use Rattle.std.specs.List.{flat_map}
use Rattle.html_page.specs.Pieces.{Piece, Markup, html, Appends}
use Rattle.html_page.specs.Shown as shown
use Rattle.html_page.specs.Templates.{conflict_start, pair, section, awaited, gap, entry, end}
use Rattle.html_page.specs.declared.markup.TheConstants.{GAPS_START, GAPS_END}
use Rattle.csv_table.specs.declared.offices.names.Name.{Name}
use Rattle.reg_op.specs.Operations.{Op, Ops}
use Rattle.reg_op.specs.Text.{printed}
use Rattle.reg_report.specs.declared.gap.Gap.{Gap}
use Rattle.reg_report.specs.Conflicts.{Contested}
use Rattle.reg_page.specs.declared.block.Block.{Block}
use Rattle.reg_page.specs.declared.block.Block.TheVariants as block
use Rattle.reg_page.specs.declared.described.Described.{Described}
use Rattle.reg_page.specs.Page.{side_of, entry_of, row_of, is_among, gap_of, named}

-- what the blocks are made with: what is read in the place of an id, the operations of the register, its entries by id, and its
-- supersessions and retirements by entry
pub record Setting : Type 0 where
  pub named : List ℕ → List ℕ
  pub ops : Ops
  pub described : List Described
  pub acts : List Op

abbrev pub setting : List Name → Ops → List Described → List Op → Setting
setting names s described acts = record { named = named names; ops = s; described = described; acts = acts }

-- the pieces of a block
abbrev pub pieces_of : Setting → Block → List Piece
pieces_of m (block.Mark constant) = Markup constant.now ∷ []
pieces_of m (block.Key one) = conflict_start one.now.authority.bytes one.now.code.bytes
pieces_of m (block.Pair one other) = pair m.named (record { first = side_of one.now other.now; second = side_of other.now one.now })
pieces_of m (block.Awaited id) = awaited m.named (printed id.now)
pieces_of m (block.Row one contested) = entry m.named (entry_of m.ops m.described m.acts None contested one.now)
pieces_of m (block.Linked one other contested) = entry m.named (entry_of m.ops m.described m.acts (Some other.now.id) contested one.now)
pieces_of m block.End = end

-- the bytes of some blocks
abbrev pub bytes_of : Setting → List Block → List ℕ
bytes_of m blocks = html (flat_map (pieces_of m) blocks)

-- the blocks are the old ones, and then some with these pieces
abbrev pub Lists : Setting → List Block → List Block → List Piece → Type 0
Lists m old new pieces = Appends (bytes_of m old) (bytes_of m new) pieces

-- the rows of the entries among these that are not retired, or of those that are
abbrev pub rows_with : Setting → List Contested → List Described → Bool → Ops → List Described → List shown.Entry
rows_with m cs told gone s ts = map (row_of m.ops m.described m.acts cs told) (filter (is_among gone s) ts)

-- the pieces of some gaps, and their section of the page
abbrev pub gap_pieces : (List ℕ → List ℕ) → List Gap → List Piece
gap_pieces read gs = flat_map (gap read) (map gap_of gs)

abbrev pub gap_section : (List ℕ → List ℕ) → List Gap → List Piece
gap_section read gs = section GAPS_START.now (gap read) GAPS_END.now (map gap_of gs)
