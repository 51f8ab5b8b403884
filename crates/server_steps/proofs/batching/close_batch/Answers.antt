use Rattle.std.proofs.Common.{◌≡◌, ◌∙◌, ◌++◌, ◌∷◌, ◌<◌, ◌^◌, [], Ok, Err, sym, ap, subst, rules}
use Rattle.std.specs.Prelude.{IfSome}
use Rattle.group_terms.specs.Changes.{joiners}
use Rattle.group_model.specs.Servers.{Server, coming_batch}
use Rattle.group_model.specs.declared.entries.Answer.{Answer}
use Rattle.group_model.specs.declared.entries.Answer.TheVariants.{Batched, Refused}
use Rattle.group_model.specs.declared.entries.Asked.TheVariants.{Batch}
use Rattle.group_model.specs.declared.entries.Output.{Output}
use Rattle.gcks_core.specs.Views.{View}
use Rattle.pull_sessions.specs.Sessions.{Sessions}
use Rattle.server_steps.specs.Fourths.{settled}
use Rattle.server_steps.specs.Joining.{JoinsHaveSessions}
use Rattle.server_steps.specs.Private.Told.{AreRepliesTo}
use Rattle.server_steps.specs.Serves.{Serves}
use Rattle.server_steps.specs.Views.{server_of}
use Rattle.server_steps.proofs.BatchLemmas.{Prepares, answered_err, is_in_doubt, is_refused, is_stored, lacks_memory, with_replies}
use Rattle.server_steps.proofs.PairLemmas.{Fits, pair_fits}
use Rattle.server_steps.proofs.ReplyLemmas.{Told, names_told_to}
use Rattle.server_steps.proofs.SessionLemmas.{all_datagrams}
use Rattle.server_steps.proofs.WaitLemmas.{batch_sound}
use Rattle.server_steps.proofs.batching.close_batch.Goals as goal

-- ---- it was refused

pub returns-in_err-prepared-clause-serves : goal.returns-in_err-prepared-clause-serves
returns-in_err-prepared-clause-serves g c rule_list =
    let old = c.args.core.now in
    let mid = c.prepare.new.self in
    let sessions : Sessions = c.args.sessions.now in
    let why = c.in_err-prepared.field-0.0 in
    let refused = c.in_err-prepared.ensures in
    answered_err g.D.Disk g.G.Signer g.R.Draws
    (λ (answer : Answer). Serves g.D.Disk g.G.Signer g.R.Draws Batch answer (server_of old rule_list sessions) (server_of mid rule_list sessions))
    c.from_residual.result why c.from_residual.ensures.1
    (is_refused g.D.Disk g.G.Signer g.R.Draws rule_list sessions old mid refused.rest refused.blocks why refused.step)

pub returns-in_err-prepared-clause-sound : goal.returns-in_err-prepared-clause-sound
returns-in_err-prepared-clause-sound g c =
    let V = View g.row.D.Denot g.row.G.Denot g.row.R.Denot in
    subst (λ (core : V). JoinsHaveSessions core.queue c.args.sessions.now.sas) (sym c.in_err-prepared.ensures.rest) c.requires

-- ---- out of memory for the replies

pub returns-in-Err-clause-serves : goal.returns-in-Err-clause-serves
returns-in-Err-clause-serves g c rule_list =
    let ready = c.in_ok-prepared.ensures in
    lacks_memory g.D.Disk g.G.Signer g.R.Draws rule_list c.args.sessions.now c.args.core.now c.prepare.new.self ready.rest ready.blocks c.in_ok-prepared.prepared.values
    ready.step

pub returns-in-Err-clause-sound : goal.returns-in-Err-clause-sound
returns-in-Err-clause-sound g c =
    let V = View g.row.D.Denot g.row.G.Denot g.row.R.Denot in
    subst (λ (core : V). JoinsHaveSessions core.queue c.args.sessions.now.sas) (sym c.in_ok-prepared.ensures.rest) c.requires

-- ---- it was stored

pub settle_sessions-requires : goal.settle_sessions-requires
settle_sessions-requires g c = all_datagrams c.in-Ok.replies.kept c.in-Ok.replies.sent c.in-Ok.ensures.kept

pub returns-clause-serves : goal.returns-clause-serves
returns-clause-serves g c rule_list =
    let V = View g.row.D.Denot g.row.G.Denot g.row.R.Denot in
    let old : V = c.args.core.now in
    let mid : V = c.prepare.new.self in
    let new : V = c.commit.new.self in
    let sessions : Sessions = c.args.sessions.now in
    let ready = c.in_ok-prepared.prepared in
    let prepared = c.in_ok-prepared.ensures in
    let stored = c.in_ok-output.ensures in
    let replies = c.in-Ok.replies.sent in
    let are = subst (λ (told : Told). AreRepliesTo sessions.sas told replies) c.told.ensures c.in-Ok.ensures.sent in
    let joins : JoinsHaveSessions mid.queue sessions.sas = subst (λ (core : V). JoinsHaveSessions core.queue sessions.sas) (sym prepared.rest) c.requires in
    let same : record mid { draws = old.draws } ≡ old = ap (λ (core : V). record core { draws = old.draws }) prepared.rest in
    let prepares : Prepares g.D.Disk g.G.Signer g.R.Draws (record mid { draws = old.draws }) (Ok ready.values) mid =
    subst (λ (core : V). Prepares g.D.Disk g.G.Signer g.R.Draws core (Ok ready.values) mid) (sym same) prepared.step in
    let output : c.put_out.result ≡ with_replies ready.output replies = c.put_out.ensures ∙ (λ i. with_replies (stored.output i) replies) in
    let settles = c.settle_sessions.ensures replies c.in-Ok.ensures.kept in
    subst (λ (x : Output × Sessions). Serves g.D.Disk g.G.Signer g.R.Draws Batch (Batched x.0) (server_of old rule_list sessions) (server_of new rule_list x.1))
    (λ i. (sym output i, sym settles i))
    (subst (λ (core : V). Serves g.D.Disk g.G.Signer g.R.Draws Batch (Batched (with_replies ready.output replies))
    (server_of core rule_list sessions) (server_of new rule_list (settled sessions replies))) same
    (is_stored g.D.Disk g.G.Signer g.R.Draws rule_list sessions mid new old.draws prepared.blocks ready prepares prepared.fit (g.met.D.Disk.counts_now new.disk)
    stored.disk.keeps stored.same stored.any_moment replies are joins prepared.ready stored.step stored.stored stored.durable
    (stored.disk.no_fault (λ is. cc is))))

pub returns-clause-sound : goal.returns-clause-sound
returns-clause-sound g c =
    let V = View g.row.D.Denot g.row.G.Denot g.row.R.Denot in
    let old : V = c.args.core.now in
    let sessions : Sessions = c.args.sessions.now in
    let replies = c.in-Ok.replies.sent in
    let some = c.prove_at_rest.ensures.some in
    let prepared = c.in_ok-prepared.ensures in
    let drawn = prepared.step some.0 some.1 in
    let stored = c.in_ok-output.ensures.step drawn.0 drawn.2 in
    let are = subst (λ (told : Told). AreRepliesTo sessions.sas told replies) c.told.ensures c.in-Ok.ensures.sent in
    let to = sym (names_told_to sessions.sas c.in_ok-prepared.prepared.output.told replies are) ∙ (prepared.ready drawn.0 drawn.2).joiners_are
    ∙ ap (λ (core : V). joiners core.queue) prepared.rest in
    batch_sound replies old.queue c.commit.new.self.queue sessions c.settle_sessions.new.sessions to
    (stored.2.queue ∙ ap (λ (server : Server). server.queue) stored.1) (c.settle_sessions.ensures replies c.in-Ok.ensures.kept) c.requires

pub returns-clause-fits : goal.returns-clause-fits
returns-clause-fits g c =
    let mid = c.prepare.new.self in
    let output = c.in_ok-output.output in
    let some = c.prove_at_rest.ensures.some in
    let drawn = c.in_ok-prepared.ensures.step some.0 some.1 in
    let puts_out = c.in_ok-output.ensures.puts_out drawn.0 drawn.2 in
    let small : output.sequence < 2 ^ 32 = search rules in
    subst (λ (output : Output). IfSome output.pushes Fits) (sym c.put_out.ensures)
    (pair_fits g.G.Signer mid.signer mid.head.depth mid.head.spi (drawn.0.list ++ coming_batch drawn.0 c.in_ok-prepared.prepared.values ∷ []) output.pushes
    output.sequence small puts_out.sequence puts_out.pushes)

-- ---- that failed, and it is in doubt

pub returns-in_err-output-clause-serves : goal.returns-in_err-output-clause-serves
returns-in_err-output-clause-serves g c rule_list =
    let V = View g.row.D.Denot g.row.G.Denot g.row.R.Denot in
    let old : V = c.args.core.now in
    let mid : V = c.prepare.new.self in
    let new : V = c.commit.new.self in
    let sessions : Sessions = c.args.sessions.now in
    let ready = c.in_ok-prepared.prepared in
    let prepared = c.in_ok-prepared.ensures in
    let failed = c.in_err-output.ensures in
    let why = c.in_err-output.field-0.0 in
    let same : record mid { draws = old.draws } ≡ old = ap (λ (core : V). record core { draws = old.draws }) prepared.rest in
    let prepares : Prepares g.D.Disk g.G.Signer g.R.Draws (record mid { draws = old.draws }) (Ok ready.values) mid =
    subst (λ (core : V). Prepares g.D.Disk g.G.Signer g.R.Draws core (Ok ready.values) mid) (sym same) prepared.step in
    answered_err g.D.Disk g.G.Signer g.R.Draws
    (λ (answer : Answer). Serves g.D.Disk g.G.Signer g.R.Draws Batch answer (server_of old rule_list sessions) (server_of new rule_list sessions))
    c.from_residual-in_err-output.result why c.from_residual-in_err-output.ensures.1
    (subst (λ (core : V). Serves g.D.Disk g.G.Signer g.R.Draws Batch (Refused why) (server_of core rule_list sessions) (server_of new rule_list sessions)) same
    (is_in_doubt g.D.Disk g.G.Signer g.R.Draws rule_list sessions mid new old.draws prepared.blocks ready prepares prepared.fit
    (g.met.D.Disk.counts_now new.disk) failed.disk.keeps failed.same failed.any_moment why failed.step failed.doubt (failed.disk.cause (ap Err failed.no_other))))

pub returns-in_err-output-clause-sound : goal.returns-in_err-output-clause-sound
returns-in_err-output-clause-sound g c =
    let V = View g.row.D.Denot g.row.G.Denot g.row.R.Denot in
    let waits = ap (λ (core : V). core.queue) c.in_err-output.ensures.rest ∙ ap (λ (core : V). core.queue) c.in_ok-prepared.ensures.rest in
    subst (λ queue. JoinsHaveSessions queue c.args.sessions.now.sas) (sym waits) c.requires
