use Rattle.std.proofs.Common.{ℕ, List, sym, subst}
use Rattle.group_model.specs.declared.entries.Answer.{Answer}
use Rattle.group_model.specs.declared.entries.Asked.TheVariants.{Serve}
use Rattle.server_steps.specs.Serves.{Serves}
use Rattle.register_workers.specs.Private.Requests.{asked_of}
use Rattle.register_workers.specs.declared.requests.Request.{Request}
use Rattle.register_workers.proofs.requests.served.Goals as goal

pub returns-in-Serve : goal.returns-in-Serve
returns-in-Serve g c =
    let m = c.in-Serve.member in
    let old = c.args.server.now in
    let new = c.serve.new.self in
    subst (λ (request : Request). Serves g.D.Disk g.G.Signer g.R.Draws (asked_of request) c.answer_served.result old new) (sym c.in-Serve.is)
    (subst (λ (x : List ℕ × Answer). Serves g.D.Disk g.G.Signer g.R.Draws (Serve m x.0) x.1 old new)
    (λ i. (c.as_slice.ensures i, sym c.answer_served.ensures i)) (c.serve.ensures m))
