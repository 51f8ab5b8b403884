use Rattle.std.proofs.Common.{◌∙◌, ap}
use Rattle.gd_disk.specs.Moments.{shown}
use Rattle.gcks_core.specs.Views.{View}
use Rattle.gcks_core.proofs.OpenLemmas.{said_none}
use Rattle.gcks_core.proofs.ReopenLemmas.{found_again, read_anew}
use Rattle.gcks_core.proofs.cores.Core.reopen.Goals as goal

pub returns-in-Ok-clause-found : goal.returns-in-Ok-clause-found
returns-in-Ok-clause-found g c =
    let read = c.in-Ok.ensures in
    let found = c.in-Ok.found in
    found_again g.D.Disk g.G.Signer g.R.Draws c.self.view_is c.read_again.new.store.disk read.reads.same found.head found.tree
    c.new-self-inside.result c.new-self-inside.ensures read.found.0 read.found.1 read.found.2.file found.resent read.found.3
    c.a_file_has_one_group.ensures.one

pub returns-in-Ok-clause-read : goal.returns-in-Ok-clause-read
returns-in-Ok-clause-read g c =
    let read = c.in-Ok.ensures in
    let found = c.in-Ok.found in
    read_anew g.D.Disk g.G.Signer g.R.Draws c.self.view_is c.read_again.new.store.disk read.reads.same found.head found.tree
    c.new-self-inside.result c.new-self-inside.ensures read.found.0 read.found.1 read.found.2.file found.resent read.found.3

pub returns-in-Err-clause-broken : goal.returns-in-Err-clause-broken
returns-in-Err-clause-broken g c file is at said =
    let refused = c.in-Err.ensures in
    let says = c.refusal_of.ensures in
    let shows = ap (λ (core : View g.row.D.Denot g.row.G.Denot g.row.R.Denot). shown g.D.Disk core.disk) c.self.view_is in
    refused.broken at (said_none c.in-Err.why c.refusal_of.result refused.no_other says.fault says.none says.memory at (cc said)) file (shows ∙ is)
