use Rattle.std.proofs.Common.{ap}
use Rattle.group_model.specs.Servers.{opened_server}
use Rattle.gcks_core.specs.Views.{View}
use Rattle.server_steps.proofs.BesideLemmas.{on_err}
use Rattle.server_steps.proofs.ReopenLemmas.{hands_on, opens_again, opens_not_again}
use Rattle.server_steps.proofs.opening.reopen.Goals as goal

pub returns-clause-serves : goal.returns-clause-serves
returns-clause-serves g c rules sessions =
    let V = View g.row.D.Denot g.row.G.Denot g.row.R.Denot in
    let old : V = c.args.core.now in
    let new : V = c.reopen.new.self in
    let opens = c.in_ok-resent.ensures in
    let read = opens.read in
    opens_again g.D.Disk g.G.Signer g.R.Draws old new rules sessions c.a_file_has_one_group.ensures.one read.0 c.in_ok-resent.resent (record {
      head = record { fits = c.prove_head_fits.ensures.fits; octets = c.prove_head_fits.ensures.octets };
      stands = read.1;
      was_there = read.2;
      pair = read.3;
      only = opens.durable (λ is. cc is);
      moments = opens.reads.any_moment;
      same_file = opens.reads.same;
      unfaulted = opens.reads.reports.no_fault (λ is. cc is);
      keeps = opens.reads.reports.keeps;
    }) opens.rest

pub returns-in_err-resent-clause-serves : goal.returns-in_err-resent-clause-serves
returns-in_err-resent-clause-serves g c rules sessions =
    let V = View g.row.D.Denot g.row.G.Denot g.row.R.Denot in
    let old : V = c.args.core.now in
    let new : V = c.reopen.new.self in
    let refused = c.in_err-resent.ensures in
    hands_on g.D.Disk g.G.Signer g.R.Draws old new rules sessions c.from_residual.result c.in_err-resent.field-0.0 c.from_residual.ensures.1
    (opens_not_again g.D.Disk g.G.Signer g.R.Draws old new rules sessions c.a_file_has_one_group.ensures.or_none c.in_err-resent.field-0.0 (record {
      no_other = refused.no_other;
      broken = λ file is at said. refused.broken file is at (cc said);
      cause = λ said. refused.reads.reports.cause (cc said);
      unfaulted = λ other. refused.reads.reports.no_fault (λ is. other (cc is));
      moments = refused.reads.any_moment;
      same_file = refused.reads.same;
      keeps = refused.reads.reports.keeps;
    })
    (g.met.D.Disk.counts_now new.disk) refused.refused (ap (λ (core : V). core.head) refused.err) refused.rest)

pub returns-clause-nothing_waits : goal.returns-clause-nothing_waits
returns-clause-nothing_waits g c = c.in_ok-resent.ensures.read.1.queue

pub returns-clause-fits : goal.returns-clause-fits
returns-clause-fits g c =
    let new = c.reopen.new.self in
    let read = c.in_ok-resent.ensures.read in
    c.prove_last_pair_fits.ensures c.args.core.now.signer (opened_server new.head.depth new.head.limit read.0 (g.R.Draws.place_of c.args.core.now.draws))
    new.head.spi
    c.in_ok-resent.resent read.1 read.3

pub returns-in_err-resent-clause-waits : goal.returns-in_err-resent-clause-waits
returns-in_err-resent-clause-waits g c =
    let V = View g.row.D.Denot g.row.G.Denot g.row.R.Denot in
    on_err c.from_residual.result (ap (λ (core : V). core.queue) c.in_err-resent.ensures.err)
