use Rattle.std.proofs.Common.{◌≡◌, true, map, string_bytes, sym, subst}
use Rattle.std.proofs.lemmas.Result.{IfErr-weaker, IfOk-weaker}
use Rattle.clap.specs.Matches.{found_of}
use Rattle.clap.specs.Simple.{App, HasMatchesOf, app_of, matches_of}
use Rattle.clap.specs.Takes.{takes}
use Rattle.clap.specs.Values.{kind_of}
use Rattle.clap.specs.Walk.{rows_of}
use Rattle.clap.specs.declared.error.kind.ErrorKind.TheVariants.{OutOfMemory}
use Rattle.command_words.specs.Private.Program.{program}
use Rattle.command_words.proofs.AcceptedLemmas.{found_as}
use Rattle.command_words.proofs.matches.matches_in.Goals as goal

pub returns : goal.returns
returns c =
    let app = app_of c.in_ok-asked.asked in
    let is : app ≡ program = c.in_ok-asked.ensures in
    let words = map string_bytes c.args.words.now in
    let parse = c.try_get_matches_from in
    record {
      found = IfOk-weaker parse.result (HasMatchesOf app words) (λ matches. rows_of (found_of matches) ≡ matches_of program words)
          (λ matches h. found_as app words matches is h) parse.ensures.matches;
      refused = IfErr-weaker parse.result (λ error. takes app words ≡ true → kind_of error ≡ OutOfMemory)
          (λ error. takes program words ≡ true → kind_of error ≡ OutOfMemory)
          (λ error h taken. h (subst (λ (app : App). takes app words ≡ true) (sym is) taken)) parse.ensures.passes;
    }
