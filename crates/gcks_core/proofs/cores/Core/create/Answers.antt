use Rattle.std.proofs.Common.{ℕ, List, [], refl, sym, subst}
use Rattle.std.specs.Prelude.{IsSome}
use Rattle.group_model.specs.Places.{Fits}
use Rattle.tree_store.specs.Groups.{MakesGroup}
use Rattle.gcks_core.specs.Openings.{head_of}
use Rattle.gcks_core.proofs.MakeLemmas.{made_at_end, not_made, stands_opened}
use Rattle.gcks_core.proofs.ReopenLemmas.{nothing_waits}
use Rattle.gcks_core.proofs.cores.Core.create.Goals as goal

pub returns-in_default-clause-moments : goal.returns-in_default-clause-moments
returns-in_default-clause-moments g c file is =
    let laws = c.a_crash_may_leave_nothing_or_all.ensures in
    not_made g.D.Disk laws.nothing_written laws.nothing_cut c.args.parts.disk _ (g.met.D.Disk.only_now c.args.parts.disk)

pub invariant_of-result : goal.invariant_of-result
invariant_of-result g c =
    let group = c.args.group.now in
    let head = head_of group c.draw.result in
    let made = c.in-Ok-create.ensures in
    record {
      list = [];
      group = c.in-Ok.ensures head refl;
      limited = c.requires.limited;
      fits = subst (Fits c.in-Ok.tree.holders) (sym c.new.ensures) (nothing_waits c.in-Ok.tree.holders);
      at_end = λ _.
          made_at_end g.D.Disk c.args.parts.disk c.in-Ok-create.store head made.disk.keeps made.made made.began.1 (subst IsSome (sym made.began.2) refl);
    }

pub returns-in-Ok-create-clause-server : goal.returns-in-Ok-create-clause-server
returns-in-Ok-create-clause-server g c =
    stands_opened g.R.Draws _ [] (c.in-Ok.ensures (head_of c.args.group.now c.draw.result) refl) refl c.new.ensures _ c.draw.ensures.place

pub returns-in-Ok-create-clause-moments : goal.returns-in-Ok-create-clause-moments
returns-in-Ok-create-clause-moments g c file is =
    subst (λ (spi : List ℕ). MakesGroup g.D.Disk (head_of c.args.group.now spi) c.args.parts.disk c.in-Ok-create.store.disk) c.draw.ensures.block
    (c.in-Ok-create.ensures.moments file is)
