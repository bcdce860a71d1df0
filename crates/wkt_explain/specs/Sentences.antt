-- A sentence for each fault.
use Rattle.std.specs.Prelude.{ℕ, List, codes}
use Rattle.crs_value.specs.declared.broken.Condition.{Condition}
use Rattle.crs_value.specs.declared.broken.Condition.TheVariants as condition
use Rattle.wkt_grammar.specs.declared.table.SlotName.{SlotName}
use Rattle.wkt_grammar.specs.declared.table.SlotName.TheVariants as slot
use Rattle.wkt_tree.specs.declared.fault.TextFault.{TextFault}
use Rattle.wkt_tree.specs.declared.fault.TextFault.TheVariants as text
use Rattle.wkt_grammar.specs.declared.fault.SlotFault.{SlotFault}
use Rattle.wkt_grammar.specs.declared.fault.SlotFault.TheVariants as argument
use Rattle.wkt_crs.specs.declared.fault.Unspelled.{Unspelled}
use Rattle.wkt_crs.specs.declared.fault.Unspelled.TheVariants as refused
use Rattle.wkt_crs.specs.declared.definition.DefinitionFault.{DefinitionFault}
use Rattle.wkt_crs.specs.declared.definition.DefinitionFault.TheVariants as fault

-- of the bytes, the tokens or the tree
abbrev pub text_sentence : TextFault → List ℕ
text_sentence text.TooLong = codes "the text has more than 1,048,576 bytes"
text_sentence (text.NotUtf8 at) = codes "this byte is not valid UTF-8"
text_sentence (text.BadByte at) = codes "nothing that a text is made of begins with this character"
text_sentence (text.TextOpen at) = codes "no quotation mark closes the text that begins here"
text_sentence (text.BadNumber at) = codes "this is not written as a number is"
text_sentence (text.NumberRange at) = codes "this number has more than 34 digits, or is too large or too small"
text_sentence (text.Unexpected at) = codes "this cannot follow what stands before it"
text_sentence (text.Depth at) = codes "more than 16 delimiters are open"
text_sentence (text.EndEarly at) = codes "the text ends before it is complete"
text_sentence (text.After at) = codes "the text is complete, and something follows"

-- of a slot that is empty
abbrev pub missing_sentence : SlotName → List ℕ
missing_sentence slot.Datum = codes "the datum is missing: DATUM or ENSEMBLE, or VDATUM where heights are meant"
missing_sentence slot.Cs = codes "the coordinate system is missing: CS"
missing_sentence slot.Axis = codes "an axis is missing: AXIS"
missing_sentence slot.Base = codes "the base system is missing: BASEGEOGCRS or BASEGEODCRS"
missing_sentence slot.Conversion = codes "the conversion is missing: CONVERSION"
missing_sentence slot.First = codes "the horizontal system is missing"
missing_sentence slot.Second = codes "the vertical system is missing: VERTCRS"
missing_sentence slot.Ellipsoid = codes "the ellipsoid is missing: ELLIPSOID"
missing_sentence slot.Member = codes "a member is missing: MEMBER"
missing_sentence slot.Accuracy = codes "the accuracy is missing: ENSEMBLEACCURACY"
missing_sentence slot.Radius = codes "the semi-major axis is missing, a number"
missing_sentence slot.Flattening = codes "the inverse flattening is missing, a number"
missing_sentence slot.Longitude = codes "the longitude is missing, a number"
missing_sentence slot.Unit = codes "the unit is missing: ANGLEUNIT or UNIT"
missing_sentence slot.Method = codes "the method is missing: METHOD"
missing_sentence slot.Value = codes "the value is missing"
missing_sentence slot.Factor = codes "the conversion factor is missing, a number"
missing_sentence slot.Dimension = codes "the dimension is missing, a number"
missing_sentence slot.Direction = codes "the direction is missing, a word such as north or up"
missing_sentence slot.West = codes "the western longitude is missing, a number"
missing_sentence slot.North = codes "the northern latitude is missing, a number"
missing_sentence slot.East = codes "the eastern longitude is missing, a number"
missing_sentence slot.High = codes "the greatest height is missing, a number"
missing_sentence slot.Code = codes "the code is missing, a number or a text in quotation marks"
missing_sentence _ = codes "an argument is missing"

-- of the arguments of a node
abbrev pub slot_sentence : SlotFault → List ℕ
slot_sentence (argument.NotHere at) = codes "nothing of this kind can stand here"
slot_sentence (argument.NotCount at) = codes "this has to be a whole number from 0 to 4,294,967,295"
slot_sentence (argument.WordUnknown at) = codes "this is none of the words that can stand here"
slot_sentence (argument.Missing s at) = missing_sentence s

-- of a condition that fails
abbrev pub condition_sentence : Condition → List ℕ
condition_sentence condition.C1 = codes "there are not as many axes as the dimension says"
condition_sentence condition.C2 = codes "this system cannot have a coordinate system of this kind and dimension"
condition_sentence condition.C3 = codes "an axis has no unit, and there is no unit for all axes"
condition_sentence condition.C4 = codes "either no axis has an ORDER, or the first has ORDER[1], the second ORDER[2], and so on"
condition_sentence condition.C5 = codes "a unit does not fit its axis"
condition_sentence condition.C6 = codes "a compound has a horizontal system of 2 axes, and then a vertical one"
condition_sentence condition.C7 = codes "a semi-major axis or a conversion factor is not above 0, or an inverse flattening is negative"
condition_sentence condition.C8 = codes "a MERIDIAN stands only after north or south"

-- of a text that spells no reference system
abbrev pub unspelled_sentence : Unspelled → List ℕ
unspelled_sentence (refused.Text f) = text_sentence f
unspelled_sentence (refused.Slot f) = slot_sentence f
unspelled_sentence (refused.Broken c at) = condition_sentence c

-- for a text that is not a definition
abbrev pub sentence : DefinitionFault → List ℕ
sentence (fault.Read f) = unspelled_sentence f
sentence fault.NoIdentifier = codes "the system has no ID of its own"
sentence fault.CanonicalTooLong = codes "the canonical text has more than 65,536 bytes"
sentence fault.NotCanonical = codes "this is not the canonical text of what it spells"
sentence fault.Memory = codes "out of memory"
