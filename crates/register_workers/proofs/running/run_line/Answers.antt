use Rattle.std.proofs.Common.{◌⊎◌, None, length, rules, subst}
use Rattle.group_model.specs.declared.entries.Asked.TheVariants as requests
use Rattle.register_workers.specs.Lines.{CanSend, Ends, HasPull}
use Rattle.register_workers.specs.declared.lines.BlockAsk.TheVariants as asks
use Rattle.register_workers.specs.declared.lines.BlockLine.{BlockLine}
use Rattle.register_workers.proofs.LineLemmas.{line_asked, line_looked, line_ran}
use Rattle.register_workers.proofs.running.run_line.Goals as goal

pub returns-in-Now : goal.returns-in-Now
returns-in-Now g c =
    line_looked (length c.args.floor.now.desk.now.terms.start) c.args.pass.now c.args.reader.now c.now.new.pass c.args.line.now c.now.result c.in-Now.is
    c.now.ensures.board c.now.ensures.seen c.now.ensures.pair

pub send-requires-clause-ready : goal.send-requires-clause-ready
send-requires-clause-ready g c =
    let ready = subst (λ asked. CanSend asked c.args.line.now) c.in-Join.is c.requires.ready in
    let has : HasPull (record c.args.line.now { seen = None }) = record { pull = ready.pull; sent = ready.sent } in search (rules, has)

pub returns-in-Join : goal.returns-in-Join
returns-in-Join g c =
    line_ran (length c.args.floor.now.desk.now.terms.start) _ _ _ _ c.args.line.now c.send.result c.send.new.line (asks.Join c.in-Join.member)
    (λ same. cc) c.in-Join.is c.send.ensures

pub send-requires-in-Again-clause-ready : goal.send-requires-in-Again-clause-ready
send-requires-in-Again-clause-ready g c =
    let ready = subst (λ asked. CanSend asked c.args.line.now) c.in-Again.is c.requires.ready in
    let has : HasPull (record c.args.line.now { seen = None }) = record { pull = ready.pull; sent = ready.sent } in search (rules, has)

pub returns-in-Again : goal.returns-in-Again
returns-in-Again g c =
    line_ran (length c.args.floor.now.desk.now.terms.start) _ _ _ _ c.args.line.now c.send-in-Again.result c.send-in-Again.new.line (asks.Again c.in-Again.member)
    (λ same. cc) c.in-Again.is c.send-in-Again.ensures

pub returns-in-Leave : goal.returns-in-Leave
returns-in-Leave g c =
    let line : BlockLine = record c.args.line.now { seen = None } in
    line_asked (length c.args.floor.now.desk.now.terms.start) _ _ _ _ c.args.line.now c.ask_once.result (requests.Leave c.in-Leave.member)
    (asks.Leave c.in-Leave.member) (λ turns. Ends line turns line ⊎ ⊥) (λ same. cc) c.in-Leave.is (λ turns once. once) (c.ask_once.ensures line)

pub returns-in-Batch : goal.returns-in-Batch
returns-in-Batch g c =
    let line : BlockLine = record c.args.line.now { seen = None } in
    line_asked (length c.args.floor.now.desk.now.terms.start) _ _ _ _ c.args.line.now c.ask_once-in-Batch.result requests.Batch asks.Batch
    (λ turns. Ends line turns line ⊎ ⊥) (λ same. cc) c.in-Batch.is (λ turns once. once) (c.ask_once-in-Batch.ensures line)
