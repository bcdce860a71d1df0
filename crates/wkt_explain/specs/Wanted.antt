-- What can stand in a node.
use Rattle.std.specs.Prelude.{ℕ, Bool, true, false, List, [], ◌∷◌, ◌++◌, codes, Option, Some, None, if◌then◌else◌}
use Rattle.std.specs.List.{flat_map}
use Rattle.wkt_grammar.specs.declared.table.Edition.TheVariants.{Second}
use Rattle.wkt_grammar.specs.declared.table.Slot.{Slot}
use Rattle.wkt_grammar.specs.declared.table.Takes.{Takes}
use Rattle.wkt_grammar.specs.declared.table.Takes.TheVariants as kinds
use Rattle.wkt_grammar.specs.declared.table.Keyword.{Keyword}
use Rattle.wkt_grammar.specs.declared.table.Keyword.TheVariants as keywords
use Rattle.wkt_grammar.specs.declared.table.Node.{Node}
use Rattle.wkt_grammar.specs.declared.table.Node.TheVariants.{Root}
use Rattle.wkt_grammar.specs.Words.{keyword_of, spelling}
use Rattle.wkt_grammar.specs.Rows.{row_in, row_of}
use Rattle.wkt_grammar.specs.declared.fault.SlotFault.{SlotFault}
use Rattle.wkt_grammar.specs.declared.fault.SlotFault.TheVariants.{NotHere, Missing, NotCount, WordUnknown}
use Rattle.wkt_crs.specs.declared.fault.Unspelled.{Unspelled}
use Rattle.wkt_crs.specs.declared.fault.Unspelled.TheVariants as refused
use Rattle.wkt_crs.specs.declared.definition.DefinitionFault.{DefinitionFault}
use Rattle.wkt_crs.specs.declared.definition.DefinitionFault.TheVariants as fault
use Rattle.wkt_explain.specs.Sentences.{sentence}

-- the row of a node with this word as an argument of this row
abbrev pub entered : Option Keyword → List Slot → Option Node
entered None row = None
entered (Some k) row = row_in row k

abbrev pub inner : Option Node → List ℕ → Option Node
inner None word = None
inner (Some n) word = entered (keyword_of word) (row_of Second n)

-- the row of the innermost of these nodes, each in the one before, if they stand where the grammar has them
abbrev pub innermost : Option Node → List (List ℕ) → Option Node
innermost node [] = node
innermost node (w ∷ ws) = innermost (inner node w) ws

-- the slots of the innermost of these nodes, in a text
abbrev pub slots_of : Option Node → List Slot
slots_of None = []
slots_of (Some n) = row_of Second n

abbrev pub slots_in : List (List ℕ) → List Slot
slots_in path = slots_of (innermost (Some Root) path)

-- the keywords of the nodes that a slot takes, in the order of its sentence
abbrev pub admitted : Takes → List Keyword
admitted kinds.Text = []
admitted kinds.Number = []
admitted kinds.NumberOrText = []
admitted kinds.Count = []
admitted kinds.CsKind = []
admitted kinds.Direction = []
admitted kinds.SingleCrs = keywords.GeographicCrs ∷ keywords.GeodeticCrs ∷ keywords.ProjectedCrs ∷ keywords.VerticalCrs ∷ []
admitted kinds.AnyCrs = keywords.GeographicCrs ∷ keywords.GeodeticCrs ∷ keywords.ProjectedCrs ∷ keywords.VerticalCrs ∷ keywords.CompoundCrs ∷ []
admitted kinds.GeodeticDatum = keywords.Datum ∷ keywords.Ensemble ∷ []
admitted kinds.VerticalDatum = keywords.VerticalDatum ∷ keywords.Ensemble ∷ []
admitted kinds.BaseCrs = keywords.BaseGeographicCrs ∷ keywords.BaseGeodeticCrs ∷ []
admitted kinds.LengthUnit = keywords.LengthUnit ∷ keywords.Unit ∷ []
admitted kinds.AngleUnit = keywords.AngleUnit ∷ keywords.Unit ∷ []
admitted kinds.AnyUnit = keywords.LengthUnit ∷ keywords.AngleUnit ∷ keywords.ScaleUnit ∷ keywords.Unit ∷ []
admitted (kinds.Node k n) = k ∷ []

-- the spellings of keywords, with "or" between them
abbrev pub alternatives : List Keyword → List ℕ
alternatives [] = []
alternatives (k ∷ []) = spelling k
alternatives (k ∷ l ∷ ks) = spelling k ++ codes " or " ++ alternatives (l ∷ ks)

-- what a slot takes: something that is no node, or nodes with these keywords
abbrev pub taken : Takes → List ℕ
taken kinds.Text = codes "a text"
taken kinds.Number = codes "a number"
taken kinds.NumberOrText = codes "a number or a text"
taken kinds.Count = codes "a whole number"
taken kinds.CsKind = codes "a kind of coordinate system"
taken kinds.Direction = codes "a direction"
taken kinds.SingleCrs = alternatives (admitted kinds.SingleCrs)
taken kinds.AnyCrs = alternatives (admitted kinds.AnyCrs)
taken kinds.GeodeticDatum = alternatives (admitted kinds.GeodeticDatum)
taken kinds.VerticalDatum = alternatives (admitted kinds.VerticalDatum)
taken kinds.BaseCrs = alternatives (admitted kinds.BaseCrs)
taken kinds.LengthUnit = alternatives (admitted kinds.LengthUnit)
taken kinds.AngleUnit = alternatives (admitted kinds.AngleUnit)
taken kinds.AnyUnit = alternatives (admitted kinds.AnyUnit)
taken (kinds.Node k n) = alternatives (admitted (kinds.Node k n))

abbrev pub slot_words : Slot → List ℕ
slot_words s = codes ", " ++ taken s.takes

abbrev pub only_words : Slot → List ℕ
only_words s = codes "this cannot stand here; all that can is " ++ taken s.takes

abbrev pub each_words : Slot → List Slot → List ℕ
each_words s ss = codes "this cannot stand here; all that can is, in this order, " ++ taken s.takes ++ flat_map slot_words ss

abbrev pub slots_words : Slot → List Slot → List ℕ
slots_words s [] = only_words s
slots_words s (t ∷ ts) = each_words s (t ∷ ts)

-- for an argument that does not fit these slots
abbrev pub not_here_sentence : List Slot → List ℕ
not_here_sentence [] = codes "nothing of this kind can stand here"
not_here_sentence (s ∷ ss) = slots_words s ss

abbrev pub is_slot_not_here : SlotFault → Bool
is_slot_not_here (NotHere at) = true
is_slot_not_here (Missing s at) = false
is_slot_not_here (NotCount at) = false
is_slot_not_here (WordUnknown at) = false

abbrev pub is_unspelled_not_here : Unspelled → Bool
is_unspelled_not_here (refused.Text f) = false
is_unspelled_not_here (refused.Slot f) = is_slot_not_here f
is_unspelled_not_here (refused.Broken c at) = false

abbrev pub is_not_here : DefinitionFault → Bool
is_not_here (fault.Read f) = is_unspelled_not_here f
is_not_here fault.NoIdentifier = false
is_not_here fault.CanonicalTooLong = false
is_not_here fault.NotCanonical = false
is_not_here fault.Memory = false

-- for a fault in these nodes, each in the one before
abbrev pub sentence_in : List (List ℕ) → DefinitionFault → List ℕ
sentence_in path f = if is_not_here f then not_here_sentence (slots_in path) else sentence f
