-- The first fault of a text: of its tokens, else of its slots, else of its conditions.
use Rattle.std.specs.Prelude.{◌≡◌, ℕ, List, Some}
use Rattle.crs_part.specs.declared.crs.CrsParts.{CrsParts}
use Rattle.crs_value.specs.declared.broken.Condition.{Condition}
use Rattle.crs_value.specs.declared.broken.Whose.{Whose}
use Rattle.crs_value.specs.declared.broken.Whose.TheVariants.{First, Second, Whole}
use Rattle.crs_value.specs.Checking.{first_broken}
use Rattle.wkt_tree.specs.declared.fault.TextFault.{TextFault}
use Rattle.wkt_tree.specs.Tree.{Tok, Item, Items, text, number, word, node, last, more, tokens}
use Rattle.wkt_tree.specs.Faults.{IsOutline}
use Rattle.wkt_tree.specs.Faults as tree
use Rattle.wkt_grammar.specs.declared.table.Edition.TheVariants as editions
use Rattle.wkt_grammar.specs.declared.fault.SlotFault.{SlotFault}
use Rattle.wkt_grammar.specs.Slots.{IsFirst, begin}
use Rattle.wkt_grammar.specs.Bare.{bare}
use Rattle.wkt_grammar.specs.Denotes.{DenotesParts}
use Rattle.wkt_crs.specs.declared.fault.ReadFault.{ReadFault}
use Rattle.wkt_crs.specs.declared.fault.ReadFault.TheVariants as fault

-- the text is written with the tokens of a tree, whose first slot fault this is, by the second edition of the grammar
pub record FirstSlot (text : List ℕ) (f : SlotFault) : Type 0 where
  pub toks : List Tok
  pub outline : IsOutline text toks
  pub first : IsFirst editions.Second toks f

-- the text has no fault of its tokens, and none of its slots
abbrev pub IsGrammatical : List ℕ → Type 0
IsGrammatical bytes = ((f : TextFault) → ¬ (tree.FirstFault bytes f)) × ((f : SlotFault) → ¬ (FirstSlot bytes f))

-- where the first of these items begins
abbrev pub first_begin : Items → ℕ
first_begin (last i) = begin i
first_begin (more i c rest) = begin i

-- where the items after the first begin
abbrev pub second_begin : Items → ℕ
second_begin (last i) = 0
second_begin (more i c rest) = first_begin rest

abbrev pub third_begin : Items → ℕ
third_begin (last i) = 0
third_begin (more i c rest) = second_begin rest

-- the first byte of the keyword of the system that a condition is about; a name comes before the components
abbrev pub keyword_place : Item → Whose → ℕ
keyword_place i Whole = begin i
keyword_place (node k d o items c) First = second_begin items
keyword_place (node k d o items c) Second = third_begin items
keyword_place (text p) First = 0
keyword_place (text p) Second = 0
keyword_place (number p) First = 0
keyword_place (number p) Second = 0
keyword_place (word p) First = 0
keyword_place (word p) Second = 0

-- the tree denotes parts whose first failing condition is this one
pub record FirstBroken (text : List ℕ) (condition : Condition) (at : ℕ) : Type 0 where
  pub item : Item
  pub outline : IsOutline text (tokens item)
  pub value : CrsParts
  pub denotes : DenotesParts (bare item) value
  pub whose : Whose
  pub broken : first_broken value ≡ Some (record { whose = whose; condition = condition })
  pub place : at ≡ keyword_place item whose

-- `Memory` says nothing about the text
abbrev pub FirstFault : List ℕ → ReadFault → Type 0
FirstFault bytes (fault.Text f) = tree.FirstFault bytes f
FirstFault bytes (fault.Slot f) = FirstSlot bytes f
FirstFault bytes (fault.Broken condition at) = FirstBroken bytes condition at
FirstFault bytes fault.Memory = Unit {0}
