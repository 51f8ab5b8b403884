use Rattle.std.proofs.Common.{◌∙◌, ◌++◌, ◌∷◌, [], inl, refl, sym, ap, subst}
use Rattle.gd_disk.specs.MomentLaws.{shown_before}
use Rattle.group_model.specs.Places.{Fits}
use Rattle.group_model.specs.Servers.{coming_batch}
use Rattle.gcks_core.specs.Views.{View}
use Rattle.gcks_core.proofs.CommitLemmas.{file_in_doubt, has_there, is_group_outside, knows_there, moments_outside}
use Rattle.gcks_core.proofs.CommitLemmas.{puts_out_there, storable_now_there, storable_there, storing_step}
use Rattle.gcks_core.proofs.cores.Core.commit.Goals as goal

pub store_batch-requires : goal.store_batch-requires
store_batch-requires g c =
    let core = c.self.inside in
    let known = c.self.invariant in
    let goes = ap (λ (view : View g.row.D.Denot g.row.G.Denot g.row.R.Denot). view.needs_reopen) c.self.view_is ∙ c.requires.«open» in
    let storable = storable_now_there c.self.view_is c.requires.ready known.list known.group in
    record { group = (core.head, known.list, core.queue, known.group, known.at_end goes, storable) }

pub invariant_of-self : goal.invariant_of-self
invariant_of-self g c =
    let core = c.self.inside in
    let known = c.self.invariant in
    let goes = ap (λ (view : View g.row.D.Denot g.row.G.Denot g.row.R.Denot). view.needs_reopen) c.self.view_is ∙ c.requires.«open» in
    let storable = storable_now_there c.self.view_is c.requires.ready known.list known.group in
    let holders = c.store_batch.new.tree.holders in
    record {
      list = known.list ++ record { changes = core.queue; values = c.args.prepared.values } ∷ [];
      group = c.in-Ok.ensures.group core.head known.list core.queue known.group storable;
      limited = known.limited;
      fits = subst (Fits holders) (sym c.clear.ensures) (c.a_batch_that_fits_has_few_changes.ensures.none holders);
      at_end = λ still. c.in-Ok.ensures.at_end core.head known.list core.queue (known.at_end goes) storable;
    }

pub returns-in-Ok-clause-step : goal.returns-in-Ok-clause-step
returns-in-Ok-clause-step g c server stands =
    storing_step c.self.view_is c.requires.ready server stands c.in-Ok.output c.store_batch.new.store.disk c.store_batch.new.tree
    c.clear.new.self c.clear.ensures c.in-Ok.ensures.group

pub returns-in-Ok-clause-puts_out : goal.returns-in-Ok-clause-puts_out
returns-in-Ok-clause-puts_out g c server stands =
    puts_out_there c.self.view_is c.requires.ready server stands c.in-Ok.output c.in-Ok.ensures.output

pub returns-in-Ok-clause-stored : goal.returns-in-Ok-clause-stored
returns-in-Ok-clause-stored g c server stands on_disk file is =
    let goes = ap (λ (view : View g.row.D.Denot g.row.G.Denot g.row.R.Denot). view.needs_reopen) c.self.view_is ∙ c.requires.«open» in
    let at_end = c.self.invariant.at_end goes in
    let storable = storable_there c.self.view_is c.requires.ready server stands in
    let before = knows_there c.self.view_is c.requires.ready server stands g.D.Disk c.requires.«open» on_disk in
    let after = c.in-Ok.ensures.at_end c.self.inside.head server.list server.queue
    (record { open_still = at_end.open_still; walked = at_end.walked; file = before }) storable in
    (server.list ++ coming_batch server c.args.prepared.values ∷ [], inl refl, after.file file is)

pub returns-in-Ok-clause-durable : goal.returns-in-Ok-clause-durable
returns-in-Ok-clause-durable g c server stands file is is_file left may =
    let storable = storable_there c.self.view_is c.requires.ready server stands in
    let has = has_there c.self.view_is c.requires.ready server stands g.D.Disk c.requires.«open» file is is_file in
    is_group_outside c.self.view_is c.requires.ready server stands
    (coming_batch server c.args.prepared.values) left (c.in-Ok.ensures.durable c.self.inside.head server.list server.queue has storable left may)

pub returns-in-Ok-clause-any_moment : goal.returns-in-Ok-clause-any_moment
returns-in-Ok-clause-any_moment g c server stands file is is_file =
    let storable = storable_there c.self.view_is c.requires.ready server stands in
    let has = has_there c.self.view_is c.requires.ready server stands g.D.Disk c.requires.«open» file is is_file in
    moments_outside c.self.view_is c.requires.ready server stands g.D.Disk c.store_batch.new.store.disk (coming_batch server c.args.prepared.values)
    (c.store_batch.ensures.any_moment c.self.inside.head server.list server.queue has storable)

pub returns-in-Err-clause-any_moment : goal.returns-in-Err-clause-any_moment
returns-in-Err-clause-any_moment g c server stands file is is_file =
    let storable = storable_there c.self.view_is c.requires.ready server stands in
    let has = has_there c.self.view_is c.requires.ready server stands g.D.Disk c.requires.«open» file is is_file in
    moments_outside c.self.view_is c.requires.ready server stands g.D.Disk c.store_batch.new.store.disk (coming_batch server c.args.prepared.values)
    (c.store_batch.ensures.any_moment c.self.inside.head server.list server.queue has storable)

pub returns-in-Err-clause-doubt : goal.returns-in-Err-clause-doubt
returns-in-Err-clause-doubt g c server stands on_disk file is =
    let storable = storable_there c.self.view_is c.requires.ready server stands in
    let before = knows_there c.self.view_is c.requires.ready server stands g.D.Disk c.requires.«open» on_disk in
    let was = shown_before g.D.Disk c.self.inside.store.disk c.store_batch.new.store.disk c.store_batch.ensures.disk.keeps file is in
    file_in_doubt c.self.inside.head server (coming_batch server c.args.prepared.values) file
    (c.in-Err.ensures.in_doubt c.self.inside.head server.list server.queue (was.0, was.1, before was.0 was.1) storable file is)
