use Rattle.std.proofs.Common.{◌∙◌, Option, map, string_bytes, is_some, sym, ap, subst}
use Rattle.std.specs.Prelude.{IfSome}
use Rattle.clap.specs.Matches.{found_of}
use Rattle.command_words.specs.declared.commands.Command.{Command}
use Rattle.command_words.specs.Commands.{IsWithin, command_of}
use Rattle.command_words.proofs.AcceptedLemmas.{says_so, some_command}
use Rattle.command_words.proofs.matches.take_words.Goals as goal

pub unwrap-requires : goal.unwrap-requires
unwrap-requires c =
    let words = map string_bytes c.args.words.now in
    let asked = some_command (command_of words) c.requires in
    ap is_some (c.command_in-command.ensures.command ∙ says_so words asked.0 (found_of c.in-Ok.matches) asked.1 c.in-Ok.ensures.found)

pub returns-in-Ok : goal.returns-in-Ok
returns-in-Ok c =
    let words = map string_bytes c.args.words.now in
    let asked = some_command (command_of words) c.requires in
    let said = says_so words asked.0 (found_of c.in-Ok.matches) asked.1 c.in-Ok.ensures.found in
    let given = c.command_in-command.ensures in
    record {
      command = asked.1 ∙ sym said ∙ sym given.command ∙ c.unwrap.ensures;
      within = subst (λ (command : Option Command). IfSome command IsWithin) c.unwrap.ensures given.within;
    }
