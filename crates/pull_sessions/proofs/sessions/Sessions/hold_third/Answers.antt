use Rattle.std.proofs.Common.{◌≡◌, ◌∙◌, Some, ap, subst, sym}
use Rattle.gd_cipher.specs.Bytes.{AreBytes}
use Rattle.group_terms.specs.Octets.{AreOctets}
use Rattle.pull_sessions.specs.Builds.{session_after_third}
use Rattle.pull_sessions.specs.Fits.{SessionFits}
use Rattle.pull_sessions.specs.Sessions.{Sessions, session_of, with_session}
use Rattle.pull_sessions.specs.declared.sas.Session.{Session}
use Rattle.pull_sessions.proofs.HeaderLemmas.{Laws, third_message_in}
use Rattle.pull_sessions.proofs.SaLemmas.{has_it, taken_and_put}
use Rattle.pull_sessions.proofs.sessions.Sessions.hold_third.Goals as goal

pub put-requires : goal.put-requires
put-requires c =
    let laws : Laws = record { text = c.a_header_has_one_text.ensures; fits = c.what_is_read_can_be_written.ensures.header } in
    let octets = subst AreOctets c.as_slice.ensures c.prove_are_octets.ensures in
    let m = c.args.member.now in
    let third = c.requires.third in
    let had = third.session in
    let was : session_of c.args.self.now.sas m ≡ Some c.in-Some.session =
    ap (λ (sessions : Sessions). session_of sessions.sas m) (sym c.self.view_is) ∙ sym c.take.ensures.had ∙ c.in-Some.is in
    let same : c.in-Some.session ≡ had = has_it c.args.self.now.sas m third.sa had c.in-Some.session third.has was in
    let read = third_message_in laws c.args.datagram octets third.sa.phase had.message had.iv had.ni had.nr c.args.third third.read in
    let old = c.take.ensures.fits c.in-Some.session c.in-Some.is in
    subst SessionFits (sym c.take_third-after.ensures) (record {
      message = old.message;
      ni = old.ni;
      nr = old.nr;
      iv = subst (λ (session : Session). AreBytes 16 session.iv) c.take_third-after.ensures c.prove_block_fits.ensures;
      last = read.at ∙ ap (λ (session : Session). session.message) (sym same);
    })

pub returns-in-Some : goal.returns-in-Some
returns-in-Some c sa session has =
    let old = c.args.self.now in
    let m = c.args.member.now in
    let was : session_of old.sas m ≡ Some c.in-Some.session =
    ap (λ (sessions : Sessions). session_of sessions.sas m) (sym c.self.view_is) ∙ sym c.take.ensures.had ∙ c.in-Some.is in
    taken_and_put old m c.self.inside.limit c.self.inside.sas c.take.new.self c.put.new.self c.take_third-after.result c.self.view_is c.take.ensures.none c.put.ensures
    ∙ ap (with_session old m)
    (c.take_third-after.ensures ∙ ap (λ (session : Session). session_after_third session c.args.third c.args.datagram c.args.kept) (has_it old.sas m sa session c.in-Some.session has was))
