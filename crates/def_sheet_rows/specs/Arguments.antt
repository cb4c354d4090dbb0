-- The arguments of an add, from the entry of a sheet.
use Rattle.def_terms.specs.Terms.{Arguments}
use Rattle.def_sheets.specs.declared.Entry.{Entry}

-- an add of the job that an entry of a sheet tells of
abbrev pub arguments_of : Entry → Arguments
arguments_of e = record { name = e.name; count = e.count; names = e.names; class = e.class; grower = e.grower }
