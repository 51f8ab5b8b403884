use Rattle.std.proofs.Common.{subst, sym}
use Rattle.gd_cipher.specs.Bytes.{AreBytes}
use Rattle.group_terms.specs.Octets.{AreOctets}
use Rattle.pull_sessions.specs.Fits.{SessionFits}
use Rattle.pull_sessions.specs.declared.sas.Session.{Session}
use Rattle.pull_sessions.proofs.HeaderLemmas.{Laws, first_message_in}
use Rattle.pull_sessions.proofs.sessions.Sessions.hold_first.Goals as goal

pub put-requires : goal.put-requires
put-requires c =
    let laws : Laws = record { text = c.a_header_has_one_text.ensures; fits = c.what_is_read_can_be_written.ensures.header } in
    let octets = subst AreOctets c.as_slice.ensures c.prove_are_octets.ensures in
    let read = first_message_in laws c.args.datagram octets c.requires.first.sa.phase c.args.first c.requires.first.read in
    subst SessionFits (sym c.begin-session.ensures) (record {
      message = read.fits;
      ni = c.prove_nonce_fits.ensures;
      nr = c.prove_nonce_fits-2.ensures;
      iv = subst (λ (session : Session). AreBytes 16 session.iv) c.begin-session.ensures c.prove_block_fits.ensures;
      last = read.at;
    })
