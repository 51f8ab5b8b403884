use Rattle.std.proofs.Common.{ap, refl, subst}
use Rattle.std.proofs.lemmas.Result.{IfOk-weaker}
use Rattle.group_run.specs.Mails.{mail_since}
use Rattle.group_run.specs.Private.Kept.{members_at}
use Rattle.group_run.specs.Views.{View}
use Rattle.group_run.proofs.BeginLemmas.{on_err_always}
use Rattle.group_run.proofs.KeptLemmas.{kept_peers}
use Rattle.group_run.proofs.StartLemmas.{IsBegun, all_ok, apart_of, begun_as, can_run, few_lines, handed_of, handed_peers, has_handed, have_lent, stops_beginning, stops_handing, stops_unmarked}
use Rattle.server_steps.specs.Reflects.{IsServerOf}
use Rattle.group_run.proofs.runs.GroupRun.begin_block.Goals as goal

pub returns-in_err-mark-clause-err : goal.returns-in_err-mark-clause-err
returns-in_err-mark-clause-err g c =
    on_err_always c.from_residual.result
    (stops_unmarked g.D.Disk g.G.Signer g.R.Draws (g.P.Draws.block_at c.args.draws.now) c.args.group.now c.args.asks.now c.args.self.now c.in_err-mark.ensures.err)

pub returns-in_err-handed-clause-err : goal.returns-in_err-handed-clause-err
returns-in_err-handed-clause-err g c =
    on_err_always c.from_residual-in_err-handed.result
    (stops_beginning g.D.Disk g.G.Signer g.R.Draws (g.P.Draws.block_at c.args.draws.now) c.args.group.now c.args.asks.now c.args.self.now
    (record { marks = c.in_ok-mark.ensures.ok; server = c.in_ok-mark.ensures.server }) c.in_err-handed.ensures.err)

pub hand_over-requires-clause-apart : goal.hand_over-requires-clause-apart
hand_over-requires-clause-apart g c =
    let begun : IsBegun g.D.Disk g.G.Signer g.R.Draws (g.P.Draws.block_at c.args.draws.now) c.args.group.now c.args.asks.now c.args.self.now c.mark.new.self
    c.in_ok-handed.handed c.begin_lines.new.self =
    record {
      marked = record { marks = c.in_ok-mark.ensures.ok; server = c.in_ok-mark.ensures.server };
      prepares = c.in_ok-handed.ensures.ok;
      sent = c.in_ok-handed.ensures.sent;
    } in
    let is = begun_as g.D.Disk g.G.Signer g.R.Draws (g.P.Draws.block_at c.args.draws.now) c.args.group.now c.args.asks.now c.args.self.now
    c.as_slice.ensures c.self-2.view_is begun in
    apart_of c.args.asks.now c.as_slice.result.now
    (handed_of g.D.Disk g.G.Signer g.R.Draws (g.P.Draws.block_at c.args.draws.now) c.args.group.now c.args.asks.now c.args.self.now is
    (subst (λ server. IsServerOf g.D.Disk g.R.Draws server c.self.invariant.host)
    (ap (λ (held : View g.row.D.Denot g.row.G.Denot g.row.R.Denot). held.server) c.self.view_is) c.self.invariant.is_on))
    c.requires.apart

pub invariant_of-self : goal.invariant_of-self
invariant_of-self g c =
    kept_peers g.D.Disk g.R.Draws
    (handed_peers c.hand_over.result c.as_slice.result.now c.self-2.inside.members.all c.hand_over.new.members.all c.hand_over.ensures.all c.hand_over.ensures.err)
    c.self-2.invariant

pub returns-clause-ok : goal.returns-clause-ok
returns-clause-ok g c =
    let begun : IsBegun g.D.Disk g.G.Signer g.R.Draws (g.P.Draws.block_at c.args.draws.now) c.args.group.now c.args.asks.now c.args.self.now c.mark.new.self
    c.in_ok-handed.handed c.begin_lines.new.self =
    record {
      marked = record { marks = c.in_ok-mark.ensures.ok; server = c.in_ok-mark.ensures.server };
      prepares = c.in_ok-handed.ensures.ok;
      sent = c.in_ok-handed.ensures.sent;
    } in
    let is = begun_as g.D.Disk g.G.Signer g.R.Draws (g.P.Draws.block_at c.args.draws.now) c.args.group.now c.args.asks.now c.args.self.now
    c.as_slice.ensures c.self-2.view_is begun in
    let of = handed_of g.D.Disk g.G.Signer g.R.Draws (g.P.Draws.block_at c.args.draws.now) c.args.group.now c.args.asks.now c.args.self.now is
    (subst (λ server. IsServerOf g.D.Disk g.R.Draws server c.self.invariant.host)
    (ap (λ (held : View g.row.D.Denot g.row.G.Denot g.row.R.Denot). held.server) c.self.view_is) c.self.invariant.is_on) in
    let run = c.self-2.inside in
    let mail = mail_since run.entries.items run.unread.place run.unread.taken in
    all_ok c.hand_over.result c.hand_over.ensures.handed c.hand_over.ensures.ready c.hand_over.ensures.all
    (λ lines are ready all.
    has_handed g.D.Disk g.G.Signer g.R.Draws (g.P.Draws.block_at c.args.draws.now) c.args.group.now c.args.asks.now c.args.self.now is refl refl lines
    (can_run (members_at run.members run.entries.items run.unread) c.args.asks.now c.as_slice.result.now lines of c.requires.apart (are mail) ready is.sent
    c.prove_once.ensures)
    (have_lent c.as_slice.result.now run.members c.hand_over.new.members mail all c.hand_over.ensures.place))

pub returns-clause-few : goal.returns-clause-few
returns-clause-few g c =
    let begun : IsBegun g.D.Disk g.G.Signer g.R.Draws (g.P.Draws.block_at c.args.draws.now) c.args.group.now c.args.asks.now c.args.self.now c.mark.new.self
    c.in_ok-handed.handed c.begin_lines.new.self =
    record {
      marked = record { marks = c.in_ok-mark.ensures.ok; server = c.in_ok-mark.ensures.server };
      prepares = c.in_ok-handed.ensures.ok;
      sent = c.in_ok-handed.ensures.sent;
    } in
    let is = begun_as g.D.Disk g.G.Signer g.R.Draws (g.P.Draws.block_at c.args.draws.now) c.args.group.now c.args.asks.now c.args.self.now
    c.as_slice.ensures c.self-2.view_is begun in
    let of = handed_of g.D.Disk g.G.Signer g.R.Draws (g.P.Draws.block_at c.args.draws.now) c.args.group.now c.args.asks.now c.args.self.now is
    (subst (λ server. IsServerOf g.D.Disk g.R.Draws server c.self.invariant.host)
    (ap (λ (held : View g.row.D.Denot g.row.G.Denot g.row.R.Denot). held.server) c.self.view_is) c.self.invariant.is_on) in
    let run = c.self-2.inside in
    let mail = mail_since run.entries.items run.unread.place run.unread.taken in
    IfOk-weaker c.hand_over.result _ _
    (λ lines are. few_lines (members_at run.members run.entries.items run.unread) c.args.asks.now c.as_slice.result.now lines of (are mail) c.requires.asks)
    c.hand_over.ensures.handed

pub returns-clause-err : goal.returns-clause-err
returns-clause-err g c =
    let begun : IsBegun g.D.Disk g.G.Signer g.R.Draws (g.P.Draws.block_at c.args.draws.now) c.args.group.now c.args.asks.now c.args.self.now c.mark.new.self
    c.in_ok-handed.handed c.begin_lines.new.self =
    record {
      marked = record { marks = c.in_ok-mark.ensures.ok; server = c.in_ok-mark.ensures.server };
      prepares = c.in_ok-handed.ensures.ok;
      sent = c.in_ok-handed.ensures.sent;
    } in
    let is = begun_as g.D.Disk g.G.Signer g.R.Draws (g.P.Draws.block_at c.args.draws.now) c.args.group.now c.args.asks.now c.args.self.now
    c.as_slice.ensures c.self-2.view_is begun in
    on_err_always c.hand_over.result
    (stops_handing g.D.Disk g.G.Signer g.R.Draws (g.P.Draws.block_at c.args.draws.now) c.args.group.now c.args.asks.now c.args.self.now is refl refl)
