-- The words of a fault of a file, as in its line on standard error.
use Rattle.std.specs.Prelude.{ℕ, ◌++◌, List, Option, Some, None, codes, decimal}
use Rattle.wkt_crs.specs.Definition.{fault_name}
use Rattle.reg_file.specs.declared.fault.FileFault.{FileFault}
use Rattle.reg_file.specs.declared.fault.FileFault.TheVariants as bad
use Rattle.reg_file.specs.Names.{file_name}
use Rattle.reg_engine.specs.declared.fault.InputFault.{InputFault}
use Rattle.reg_engine.specs.declared.fault.InputFault.TheVariants as file
use Rattle.reg_engine.specs.Names.{input_name, input_place}

-- of a definition in the file, the name of its own fault too
abbrev pub bad_name : FileFault → List ℕ
bad_name (bad.Definition own) = codes "Definition" ++ codes " " ++ fault_name own
bad_name f = file_name f

abbrev pub full_name : InputFault → List ℕ
full_name (file.BadFile f place) = bad_name f
full_name f = input_name f

abbrev pub at_place : List ℕ → Option ℕ → List ℕ
at_place name (Some place) = name ++ codes " at " ++ decimal place
at_place name None = name

-- the name, and the place if it has one
abbrev pub words_of : InputFault → List ℕ
words_of f = at_place (full_name f) (input_place f)
