use Rattle.std.proofs.Common.{◌≡◌, ◌∙◌, ℕ, refl, sym, subst, ⊎_elim}
use Rattle.command_words.specs.declared.commands.Opening.{Opening}
use Rattle.command_words.specs.declared.commands.Opening.TheVariants.{New, Open}
use Rattle.group_steps.specs.Devices.{devices, keying}
use Rattle.console_run.specs.Promises.{Promises, PromisesBy, streams_of}
use Rattle.console_run.specs.Names.{console_name}
use Rattle.console_run.proofs.SoakLemmas.{soak_is_of_lines}
use Rattle.console_run.proofs.SoakRunLemmas.{nothing, nothing_came, soak_promises}
use Rattle.console_run.proofs.consoles.console.Goals as goal

pub returns-in-Soak-clause-run : goal.returns-in-Soak-clause-run
returns-in-Soak-clause-run g c =
    let on = devices g.D.Disk g.G.Signer g.V.Verifier c.args.verifier.now in
    let by = keying c.args.signer (g.R.Draws.block_at c.args.draws) (g.P.Draws.block_at c.args.peers.now) console_name in
    let place = g.R.Draws.place_of c.args.draws in
    let members_place = g.P.Draws.place_of c.args.peers.now in
    let command = c.in-Some.command in
    let number = c.in-Soak.number in
    let had = g.S.Source.shows c.args.script.now in
    let was = g.K.Sink.shows c.args.out.now in
    let now = g.K.Sink.shows c.run_soak.new.out in
    let ran = c.run_soak.result in
    let streams = streams_of nothing had had was now in (
      nothing,
      subst (λ asked. Promises on by asked streams place members_place ran.ending ran.history c.args.disk ran.disk) c.in-Some.ensures.command (record {
        came = nothing_came had;
        promised = subst (λ (opening : Opening). PromisesBy on by opening streams command place members_place ran.ending ran.history c.args.disk ran.disk)
            (sym c.in-Soak.is)
            (soak_promises on by (c.a_run_keeps_its_promises.ensures c.args.verifier.now by) number command place members_place had was now ran.ending ran.history
            c.args.disk ran.disk (soak_is_of_lines number) (c.run_soak.ensures.runs command (sym c.in-Some.ensures.command)));
      }),
    )

pub returns-in-New-clause-run : goal.returns-in-New-clause-run
returns-in-New-clause-run g c =
    let on = devices g.D.Disk g.G.Signer g.V.Verifier c.args.verifier.now in
    let by = keying c.args.signer (g.R.Draws.block_at c.args.draws) (g.P.Draws.block_at c.args.peers.now) console_name in
    let place = g.R.Draws.place_of c.args.draws in
    let members_place = g.P.Draws.place_of c.args.peers.now in
    let command = c.in-Some.command in
    let ran = c.run_words.ensures.runs command (sym c.in-Some.ensures.command) in
    let had = g.S.Source.shows c.args.script.now in
    let left = g.S.Source.shows c.run_words.new.script in
    let was = g.K.Sink.shows c.args.out.now in
    let now = g.K.Sink.shows c.run_words.new.out in
    let ending = c.run_words.result.ending in
    let entries = c.run_words.result.history in
    let disk = c.run_words.result.disk in
    let streams = streams_of ran.given had left was now in
    let run = c.a_run_keeps_its_promises.ensures c.args.verifier.now by command place members_place had left was now ending entries c.args.disk disk ran in (
      ran.given,
      subst (λ asked. Promises on by asked streams place members_place ending entries c.args.disk disk) c.in-Some.ensures.command (record {
        came = ran.came;
        promised = ⊎_elim
            (λ (new : (depth : ℕ) × (command.opening ≡ New depth)).
            subst (λ (opening : Opening). PromisesBy on by opening streams command place members_place ending entries c.args.disk disk) (sym new.1) run)
            (λ (opens : command.opening ≡ Open).
            subst (λ (opening : Opening). PromisesBy on by opening streams command place members_place ending entries c.args.disk disk) (sym opens) run)
            c.in-New.is;
      }),
    )

pub returns-in_default-clause-run : goal.returns-in_default-clause-run
returns-in_default-clause-run g c =
    let on = devices g.D.Disk g.G.Signer g.V.Verifier c.args.verifier.now in
    let by = keying c.args.signer (g.R.Draws.block_at c.args.draws) (g.P.Draws.block_at c.args.peers.now) console_name in
    let had = g.S.Source.shows c.args.script.now in
    let was = g.K.Sink.shows c.args.out.now in
    let now = g.K.Sink.shows c.end_without_group.new.out in
    let place = g.R.Draws.place_of c.args.draws in
    let members_place = g.P.Draws.place_of c.args.peers.now in
    let end = c.end_without_group in
    let streams = streams_of nothing had had was now in (
      nothing,
      subst (λ asked. Promises on by asked streams place members_place end.result.ending end.result.history c.args.disk end.result.disk)
          (sym c.in_default.is ∙ c.read_words.ensures.command)
          (record {
            came = nothing_came had;
            promised = record {
              none_taken = refl;
              source = refl;
              disk = end.ensures.disk;
              nothing = end.ensures.history;
              last = end.ensures.ends;
            };
          }),
    )
