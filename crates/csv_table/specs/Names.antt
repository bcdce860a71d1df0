-- Names of offices, as the rows of a file give them.
use Rattle.std.specs.Prelude.{Bool, List, [], ◌&&◌, not}
use Rattle.std.specs.Bool.{beq}
use Rattle.std.specs.List.{list_all}
use Rattle.std.specs.Str.{bytes_eq}
use Rattle.csv_table.specs.declared.offices.names.Name.{Name}

-- whether two rows agree: one office has one name, and one name is that of one office
abbrev pub agree : Name → Name → Bool
agree n m = beq (bytes_eq n.office.items m.office.items) (bytes_eq n.name.items m.name.items)

-- whether the name of a row stands for its office: it is not empty, and all rows agree with it
abbrev pub stands : List Name → Name → Bool
stands names n = not (bytes_eq n.name.items []) && list_all (agree n) names
