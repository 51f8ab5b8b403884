-- The group of the console.
use Rattle.std.specs.Prelude.{codes}
use Rattle.group_terms.specs.Names.{Name}

-- its name
abbrev pub console_name : Name
console_name = codes "console"
