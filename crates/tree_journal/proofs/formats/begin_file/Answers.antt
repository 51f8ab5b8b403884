use Rattle.std.proofs.Common.{[], ◌∷◌, refl}
use Rattle.tree_journal.proofs.BeginMoments.{after_name}
use Rattle.tree_journal.proofs.formats.begin_file.Goals as goal

pub returns-in_err-write_gated-clause-moments : goal.returns-in_err-write_gated-clause-moments
returns-in_err-write_gated-clause-moments g c file is =
    let there = c.in_ok-shut_file.ensures.octets file is in
    after_name g.D.Disk c.args.disk.now c.shut_file.new.disk c.write_gated.new.disk (c.shut_file.ensures.any_moment file is)
    (c.write_gated.ensures.any_moment [] 0 [] (record { text = there; place = refl }) (c.in_ok-shut_file.ensures.durable (0 ∷ []) there))

pub returns-clause-octets : goal.returns-clause-octets
returns-clause-octets g c file is = c.in_ok-write_gated.ensures.done (0 ∷ []) (c.in_ok-shut_file.ensures.octets file is)

pub returns-clause-moments : goal.returns-clause-moments
returns-clause-moments g c file is =
    let there = c.in_ok-shut_file.ensures.octets file is in
    after_name g.D.Disk c.args.disk.now c.shut_file.new.disk c.write_gated.new.disk (c.shut_file.ensures.any_moment file is)
    (c.write_gated.ensures.any_moment [] 0 [] (record { text = there; place = refl }) (c.in_ok-shut_file.ensures.durable (0 ∷ []) there))
