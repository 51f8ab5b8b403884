-- Keys from which no further key follows.
use Rattle.std.specs.Prelude.{List, Contains}
use Rattle.group_terms.specs.declared.keys.KeyName.{KeyName}
use Rattle.group_terms.specs.declared.keys.Wrap.{Wrap}

-- each key is among these that is given under one of them
abbrev pub IsClosed : List Wrap → List KeyName → Type 0
IsClosed pairs names = (pair : Wrap) → Contains pairs pair → Contains names pair.by → Contains names pair.gives
