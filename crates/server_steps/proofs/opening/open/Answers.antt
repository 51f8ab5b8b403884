use Rattle.std.proofs.Common.{ap}
use Rattle.group_model.specs.Servers.{opened_server}
use Rattle.server_steps.proofs.OpenLemmas.{begins, begins_not}
use Rattle.server_steps.proofs.BesideLemmas.{if_error}
use Rattle.server_steps.proofs.opening.open.Goals as goal

pub returns-clause-ok : goal.returns-clause-ok
returns-clause-ok g c name limit phases =
    let opened = c.in_ok-opened.opened in
    let opens = c.in_ok-opened.ensures in
    let read = opens.read in
    begins g.D.Disk g.G.Signer g.R.Draws c.args.parts name limit phases opened.core read.0 opened.resent (g.met.D.Disk.only_now opened.core.disk) (record {
      head = record { fits = c.prove_head_fits.ensures.fits; octets = c.prove_head_fits.ensures.octets };
      stands = read.1;
      was_there = read.2;
      pair = read.3;
      only = opens.durable;
      moments = opens.reads.any_moment;
      same_file = opens.reads.same;
      unfaulted = opens.reads.reports.no_fault (λ none. none);
      keeps = opens.reads.reports.keeps;
    }) opens.others.0 (λ k. ap (λ at. g.R.Draws.block_at at k) opens.others.1)

pub returns-clause-fits : goal.returns-clause-fits
returns-clause-fits g c =
    let opened = c.in_ok-opened.opened in
    let read = c.in_ok-opened.ensures.read in
    let head = opened.core.head in
    c.prove_last_pair_fits.ensures c.args.parts.signer (opened_server head.depth head.limit read.0 (g.R.Draws.place_of c.args.parts.draws))
    head.spi opened.resent read.1
    read.3

pub returns-in_err-opened-clause-err : goal.returns-in_err-opened-clause-err
returns-in_err-opened-clause-err g c =
    let back = c.in_err-opened.field-0.0.parts in
    let not = c.in_err-opened.ensures in
    if_error _ _ _ c.from_residual.ensures.1
    (λ name limit phases. begins_not g.D.Disk g.G.Signer g.R.Draws c.args.parts name limit phases c.in_err-opened.field-0.0.refusal back
    (g.met.D.Disk.only_now back.disk) not.reads.reports.cause not.broken not.only not.no_other not.reads.reports.no_fault not.reads.any_moment not.reads.same
    not.reads.reports.keeps not.parts)

pub returns-clause-nothing_waits : goal.returns-clause-nothing_waits
returns-clause-nothing_waits g c = c.in_ok-opened.ensures.read.1.queue
