use Rattle.std.proofs.Common.{◌∙◌, drop, map, refl, ap}
use Rattle.register_workers.specs.declared.lines.BlockLine.{BlockLine}
use Rattle.group_run.specs.Views.{View}
use Rattle.group_run.proofs.EndLemmas.{are_left, ends_so, marked_so, shown_then, stops_left, stops_looking, stops_marked, stops_rest, stops_still}
use Rattle.group_run.proofs.KeptLemmas.{kept_peers, named_as}
use Rattle.group_run.proofs.ReadLemmas.{on_err}
use Rattle.group_run.proofs.ReachLemmas.{on_err_then, on_ok_then}
use Rattle.group_run.proofs.runs.GroupRun.end_block.Goals as goal

pub returns-in_err-lefts-clause-err : goal.returns-in_err-lefts-clause-err
returns-in_err-lefts-clause-err g c =
    on_err _ _ (stops_still g.D.Disk g.G.Signer g.R.Draws (drop c.args.first c.args.self.now.entries) c.args.lines.now c.args.self.now
    c.args.self.now c.args.short refl refl)

pub invariant_of-self : goal.invariant_of-self
invariant_of-self g c = kept_peers g.D.Disk g.R.Draws (named_as c.take_back.ensures.peers) c.self.invariant

pub returns-in_err-mark-clause-err : goal.returns-in_err-mark-clause-err
returns-in_err-mark-clause-err g c =
    let server = λ (held : View g.row.D.Denot g.row.G.Denot g.row.R.Denot). held.server in
    let entries = λ (held : View g.row.D.Denot g.row.G.Denot g.row.R.Denot). held.entries in
    on_err _ _ (stops_still g.D.Disk g.G.Signer g.R.Draws (drop c.args.first c.args.self.now.entries) c.args.lines.now c.args.self.now
    c.mark.new.self c.args.short (ap server c.in_err-mark.ensures.err ∙ ap server c.self.view_is)
    (ap entries c.in_err-mark.ensures.err ∙ ap entries c.self.view_is))

pub returns-then-short-clause-err : goal.returns-then-short-clause-err
returns-then-short-clause-err g c =
    let so = marked_so g.D.Disk g.R.Draws c.args.lines.now c.args.first c.in_ok-lefts.lefts c.self.inside.server c.self.inside.members c.take_back.new.members
    c.self.inside.entries.items c.self.inside.unread c.args.self.now c.mark.new.self c.self.view_is c.requires.rest c.take_back.ensures.place
    c.take_back.ensures.peers c.take_back.ensures.all c.self.invariant.host c.self.invariant.is_on c.in_ok-mark.ensures.ok c.in_ok-mark.ensures.server
    c.items.result.now c.items.ensures c.in_ok-lefts.ensures in
    stops_marked g.D.Disk g.G.Signer g.R.Draws (drop c.args.first c.args.self.now.entries) c.args.lines.now c.in_ok-lefts.lefts c.args.self.now c.mark.new.self so c.args.short

pub read_all_left-requires : goal.read_all_left-requires
read_all_left-requires g c =
    let so = marked_so g.D.Disk g.R.Draws c.args.lines.now c.args.first c.in_ok-lefts.lefts c.self.inside.server c.self.inside.members c.take_back.new.members
    c.self.inside.entries.items c.self.inside.unread c.args.self.now c.mark.new.self c.self.view_is c.requires.rest c.take_back.ensures.place
    c.take_back.ensures.peers c.take_back.ensures.all c.self.invariant.host c.self.invariant.is_on c.in_ok-mark.ensures.ok c.in_ok-mark.ensures.server
    c.items.result.now c.items.ensures c.in_ok-lefts.ensures in
    are_left g.D.Disk g.G.Signer g.R.Draws (drop c.args.first c.args.self.now.entries) c.args.lines.now c.in_ok-lefts.lefts c.args.self.now c.mark.new.self so c.requires.to_peers

pub returns-in_err-read_all_left-clause-err : goal.returns-in_err-read_all_left-clause-err
returns-in_err-read_all_left-clause-err g c =
    let so = marked_so g.D.Disk g.R.Draws c.args.lines.now c.args.first c.in_ok-lefts.lefts c.self.inside.server c.self.inside.members c.take_back.new.members
    c.self.inside.entries.items c.self.inside.unread c.args.self.now c.mark.new.self c.self.view_is c.requires.rest c.take_back.ensures.place
    c.take_back.ensures.peers c.take_back.ensures.all c.self.invariant.host c.self.invariant.is_on c.in_ok-mark.ensures.ok c.in_ok-mark.ensures.server
    c.items.result.now c.items.ensures c.in_ok-lefts.ensures in
    on_err _ _ (stops_left g.D.Disk g.G.Signer g.R.Draws (drop c.args.first c.args.self.now.entries) c.args.lines.now c.in_ok-lefts.lefts c.args.self.now c.mark.new.self so
    c.read_all_left.new.self c.args.short c.if-short.false c.in_err-read_all_left.ensures.err)

pub returns-in_err-read_the_rest-clause-err : goal.returns-in_err-read_the_rest-clause-err
returns-in_err-read_the_rest-clause-err g c =
    let so = marked_so g.D.Disk g.R.Draws c.args.lines.now c.args.first c.in_ok-lefts.lefts c.self.inside.server c.self.inside.members c.take_back.new.members
    c.self.inside.entries.items c.self.inside.unread c.args.self.now c.mark.new.self c.self.view_is c.requires.rest c.take_back.ensures.place
    c.take_back.ensures.peers c.take_back.ensures.all c.self.invariant.host c.self.invariant.is_on c.in_ok-mark.ensures.ok c.in_ok-mark.ensures.server
    c.items.result.now c.items.ensures c.in_ok-lefts.ensures in
    on_err _ _ (stops_rest g.D.Disk g.G.Signer g.R.Draws (drop c.args.first c.args.self.now.entries) c.args.lines.now c.in_ok-lefts.lefts c.args.self.now c.mark.new.self so
    c.read_all_left.new.self c.in_ok-read_all_left.ensures.ok c.read_all_left.ensures.goes_on c.args.short c.if-short.false c.read_the_rest.new.self
    c.in_err-read_the_rest.ensures.err)

pub note_looks-requires : goal.note_looks-requires
note_looks-requires g c =
    let so = marked_so g.D.Disk g.R.Draws c.args.lines.now c.args.first c.in_ok-lefts.lefts c.self.inside.server c.self.inside.members c.take_back.new.members
    c.self.inside.entries.items c.self.inside.unread c.args.self.now c.mark.new.self c.self.view_is c.requires.rest c.take_back.ensures.place
    c.take_back.ensures.peers c.take_back.ensures.all c.self.invariant.host c.self.invariant.is_on c.in_ok-mark.ensures.ok c.in_ok-mark.ensures.server
    c.items.result.now c.items.ensures c.in_ok-lefts.ensures in
    shown_then g.D.Disk g.G.Signer g.R.Draws (drop c.args.first c.args.self.now.entries) c.args.lines.now c.in_ok-lefts.lefts c.args.self.now c.mark.new.self so
    c.read_all_left.new.self c.in_ok-read_all_left.ensures.ok c.read_all_left.ensures.goes_on c.args.short c.if-short.false c.read_the_rest.new.self
    c.in_ok-read_the_rest.ensures.ok c.as_slice.result.now
    (ap (map (λ (line : BlockLine). line.seen)) c.as_slice.ensures ∙ c.take_back.ensures.seen) c.requires.shown

pub returns-clause-ok : goal.returns-clause-ok
returns-clause-ok g c =
    let so = marked_so g.D.Disk g.R.Draws c.args.lines.now c.args.first c.in_ok-lefts.lefts c.self.inside.server c.self.inside.members c.take_back.new.members
    c.self.inside.entries.items c.self.inside.unread c.args.self.now c.mark.new.self c.self.view_is c.requires.rest c.take_back.ensures.place
    c.take_back.ensures.peers c.take_back.ensures.all c.self.invariant.host c.self.invariant.is_on c.in_ok-mark.ensures.ok c.in_ok-mark.ensures.server
    c.items.result.now c.items.ensures c.in_ok-lefts.ensures in
    on_ok_then c.note_looks.result c.note_looks.ensures.ok
    (ends_so g.D.Disk g.G.Signer g.R.Draws (drop c.args.first c.args.self.now.entries) c.args.lines.now c.in_ok-lefts.lefts c.args.self.now c.mark.new.self so
    c.read_all_left.new.self c.in_ok-read_all_left.ensures.ok c.read_all_left.ensures.goes_on c.args.short c.if-short.false c.read_the_rest.new.self
    c.in_ok-read_the_rest.ensures.ok c.as_slice.result.now
    (ap (map (λ (line : BlockLine). line.seen)) c.as_slice.ensures ∙ c.take_back.ensures.seen) c.note_looks.new.self)

pub returns-clause-err : goal.returns-clause-err
returns-clause-err g c =
    let so = marked_so g.D.Disk g.R.Draws c.args.lines.now c.args.first c.in_ok-lefts.lefts c.self.inside.server c.self.inside.members c.take_back.new.members
    c.self.inside.entries.items c.self.inside.unread c.args.self.now c.mark.new.self c.self.view_is c.requires.rest c.take_back.ensures.place
    c.take_back.ensures.peers c.take_back.ensures.all c.self.invariant.host c.self.invariant.is_on c.in_ok-mark.ensures.ok c.in_ok-mark.ensures.server
    c.items.result.now c.items.ensures c.in_ok-lefts.ensures in
    on_err_then c.note_looks.result c.note_looks.ensures.err
    (stops_looking g.D.Disk g.G.Signer g.R.Draws (drop c.args.first c.args.self.now.entries) c.args.lines.now c.in_ok-lefts.lefts c.args.self.now c.mark.new.self so
    c.read_all_left.new.self c.in_ok-read_all_left.ensures.ok c.read_all_left.ensures.goes_on c.args.short c.if-short.false c.read_the_rest.new.self
    c.in_ok-read_the_rest.ensures.ok c.as_slice.result.now
    (ap (map (λ (line : BlockLine). line.seen)) c.as_slice.ensures ∙ c.take_back.ensures.seen) c.note_looks.new.self)
