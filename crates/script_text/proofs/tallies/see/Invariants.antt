use Rattle.std.proofs.Common.{◌≡◌, drop}
use Rattle.std.specs.List.{fold}
use Rattle.indexmap.specs.IndexSet.{insert_key}
use Rattle.group_model.specs.declared.entries.Standing.{Standing}
use Rattle.group_terms.specs.Names.{same_name}
use Rattle.script_text.specs.Summary.{members_seen}
use Rattle.script_text.proofs.tallies.see.Given as goal

abbrev pub invariant-loop-standing : goal.invariant-loop-standing
invariant-loop-standing l =
    fold (λ more (standing : Standing). insert_key same_name more standing.member) l.members.keys (drop l.standing-index l.standings) ≡ members_seen l.standings
