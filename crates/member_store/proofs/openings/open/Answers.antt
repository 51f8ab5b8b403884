use Rattle.std.proofs.Common.{◌∙◌, ap, subst}
use Rattle.member_store.specs.Stores.{Store, root_of}
use Rattle.member_store.proofs.OpeningLemmas.{Promised, has_opening}
use Rattle.member_store.proofs.openings.open.Goals as goal

pub returns : goal.returns
returns g c = λ traffic epoch.
    let store : Store = record {
      spi = c.args.spi.now;
      path = c.args.path.now;
      traffic = traffic;
      traffic_epoch = epoch;
      sequence = c.args.last;
    } in
    has_opening g.V.Verifier c.args.verifier.now store c.args.datagram.now c.open_push.result c.open_push.new.room
    (subst (λ key. Promised g.V.Verifier c.args.verifier.now store c.args.datagram.now c.open_push.result c.open_push.new.room key.value)
    (c.root_of-root.ensures ∙ ap root_of c.keys.ensures.keys)
    (record {
      header = c.open_push.ensures.header;
      other_spi = c.open_push.ensures.other_spi;
      opened = c.open_push.ensures.opened;
      malformed = c.open_push.ensures.malformed;
      bad_signature = c.open_push.ensures.bad_signature;
      stale = c.open_push.ensures.stale;
      ok = c.open_push.ensures.ok;
      refused = c.open_push.ensures.refused;
    }))
