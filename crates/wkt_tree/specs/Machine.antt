-- Which tokens may follow, by the delimiters that are open, the innermost first.
use Rattle.std.specs.Prelude.{ℕ, List, [], ◌∷◌, length, Option, Some, None, if◌then◌else◌, nat_lt, option_and_then}
use Rattle.wkt_tree.specs.declared.token.Delimiter.{Delimiter}
use Rattle.wkt_tree.specs.declared.token.Delimiter.TheVariants.{Square, Round}
use Rattle.wkt_tree.specs.declared.token.TokenKind.{TokenKind}
use Rattle.wkt_tree.specs.declared.token.TokenKind.TheVariants.{Word, Quoted, Number, Comma, Open, Close}
use Rattle.wkt_tree.specs.declared.machine.Phase.{Phase}
use Rattle.wkt_tree.specs.declared.machine.Phase.TheVariants.{Begin, Named, Past}
use Rattle.wkt_tree.specs.declared.fault.TextFault.{TextFault}
use Rattle.wkt_tree.specs.declared.fault.TextFault.TheVariants.{Unexpected, Depth, After}
use Rattle.wkt_tree.specs.Tree.{Tok}

-- the last part, and the open delimiters
pub record State : Type 0 where
  pub phase : Phase
  pub stack : List Delimiter

-- a state of these two
abbrev pub state : Phase → List Delimiter → State
state p s = record { phase = p; stack = s }

-- a whole item inside some delimiter
abbrev pub whole : List Delimiter → Option State
whole [] = None
whole (d ∷ s) = Some (state Past (d ∷ s))

-- a comma after an item
abbrev pub comma : List Delimiter → Option State
comma [] = None
comma (d ∷ s) = Some (state Begin (d ∷ s))

-- the innermost delimiter is closed by one of its kind
abbrev pub closed : Delimiter → List Delimiter → Option State
closed e [] = None
closed Square (Square ∷ s) = Some (state Past s)
closed Round (Round ∷ s) = Some (state Past s)
closed Square (Round ∷ s) = None
closed Round (Square ∷ s) = None

-- the state after a token of this kind, with at most n delimiters open
abbrev pub step_at : ℕ → Phase → List Delimiter → TokenKind → Option State
step_at n Begin s Word = Some (state Named s)
step_at n Begin s Quoted = whole s
step_at n Begin s Number = whole s
step_at n Begin s Comma = None
step_at n Begin s (Open d) = None
step_at n Begin s (Close d) = None
step_at n Named s Word = None
step_at n Named s Quoted = None
step_at n Named s Number = None
step_at n Named s Comma = comma s
step_at n Named s (Open d) = if nat_lt (length s) n then Some (state Begin (d ∷ s)) else None
step_at n Named s (Close d) = closed d s
step_at n Past s Word = None
step_at n Past s Quoted = None
step_at n Past s Number = None
step_at n Past s Comma = comma s
step_at n Past s (Open d) = None
step_at n Past s (Close d) = closed d s

-- the state after the next token
abbrev pub step : ℕ → State → TokenKind → Option State
step n st k = step_at n st.phase st.stack k

-- the state after some tokens
abbrev pub run : ℕ → State → List Tok → Option State
run n st [] = Some st
run n st (t ∷ ts) = option_and_then (λ next. run n next ts) (step n st t.kind)

-- the fault of a token that is not allowed
abbrev pub refusal : Phase → List Delimiter → TokenKind → ℕ → TextFault
refusal Begin s k at = Unexpected at
refusal Named s Word at = Unexpected at
refusal Named s Quoted at = Unexpected at
refusal Named s Number at = Unexpected at
refusal Named s Comma at = Unexpected at
refusal Named s (Open d) at = Depth at
refusal Named s (Close d) at = Unexpected at
refusal Past [] k at = After at
refusal Past (d ∷ s) k at = Unexpected at
