-- The attributes of a policy: whatever their order, each rule is met by one of them, and each of them meets a rule.
use Rattle.std.specs.Prelude.{ℕ, zero, suc, ◌==◌, List, [], ◌∷◌, ◌++◌, length, slice_index_or, Option, None, Some, if◌then◌else◌}
use Rattle.std.specs.List.{position}
use Rattle.group_terms.specs.declared.wires.WireWhat.TheVariants.{Kind, Value}
use Rattle.gd_wire.specs.Readings.{Reading, ◌>>=◌, ◌>>◌, give, here, check, number, octets}
use Rattle.gd_wire.specs.Attributes.{attribute_type, no_more_attributes}
use Rattle.sa_wire.specs.declared.attributes.Found.{Found}
use Rattle.sa_wire.specs.declared.rules.Rule.{Rule}
use Rattle.sa_wire.specs.Rules.{has_rule, rule_for, takes, without}

-- after the type, in the short form, a number that the rule takes
unfoldable pub taken_number : ℕ → Rule → Reading Found
taken_number kind rule = do
  at ← here
  value ← number
  check (takes rule value) Value at
  give (record { kind = kind; number = value; at = at })

-- and in the long form, where the rule takes that, 4 octets; their number is not kept
unfoldable pub taken_octets : ℕ → Rule → ℕ → Reading Found
taken_octets kind rule type_at = do
  check rule.long (Kind kind) type_at
  size ← number
  check (size == 4) (Kind kind) type_at
  at ← here
  octets 4
  give (record { kind = kind; number = 0; at = at })

-- An attribute for which one of these rules is there. A fault of the kind or the form is at the type, one of a number at that.
unfoldable pub due_attribute : List Rule → Reading Found
due_attribute rules = do
  at ← here
  type ← attribute_type
  check (has_rule type.kind rules) (Kind type.kind) at
  if type.is_short then taken_number type.kind (rule_for type.kind rules) else taken_octets type.kind (rule_for type.kind rules) at

-- attributes up to the end, one for each of these rules, whose number comes first; before them some were found already
unfoldable pub attributes_after : List Found → ℕ → List Rule → Reading (List Found)
attributes_after found zero rules = do
  no_more_attributes
  give found
attributes_after found (suc more) rules = do
  next ← due_attribute rules
  attributes_after (found ++ next ∷ []) more (without next.kind rules)

-- an attribute for each of these rules, in any order, and no other
abbrev pub attributes : List Rule → Reading (List Found)
attributes rules = attributes_after [] (length rules) rules

-- no attribute
abbrev pub no_attribute : Found
no_attribute = record { kind = 0; number = 0; at = 0 }

-- the attribute at this place of a list, or no attribute where the list has no such place
abbrev pub found_at : Option ℕ → List Found → Found
found_at None found = no_attribute
found_at (Some place) found = slice_index_or found place no_attribute

-- the attribute of a kind, of which one was found
abbrev pub found_of : ℕ → List Found → Found
found_of kind found = found_at (position (λ (attribute : Found). attribute.kind == kind) found) found
