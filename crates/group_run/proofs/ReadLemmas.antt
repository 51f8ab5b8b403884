-- How members read what is on its way to them.
use Rattle.std.proofs.Common.{◌≡◌, ◌∙◌, ℕ, ◌+◌, true, List, ◌∷◌, Some, sym, ap, subst}
use Rattle.std.specs.List.{All}
use Rattle.std.specs.Prelude.{OnErr, Result, Ok, Err}
use Rattle.std.proofs.lemmas.List.Elements.{All-head, All-tail}
use Rattle.group_terms.specs.Names.{Name}
use Rattle.group_model.specs.declared.entries.Entry.{Entry}
use Rattle.group_peers.specs.Peers.{is_peer}
use Rattle.group_peers.specs.declared.members.Peer.{Peer}
use Rattle.member_steps.specs.Acts.{Agrees, IsIgnoring, Ignores}
use Rattle.member_steps.specs.Mails.{TakesMail}
use Rattle.member_steps.specs.Members.{Mail, Members}
use Rattle.member_steps.specs.Steps.{IsKeeping}
use Rattle.group_model.specs.declared.entries.Answer.{Answer}
use Rattle.member_steps.specs.Views.{View as MemberView, members_with}
use Rattle.member_steps.specs.declared.came.Came.{Came}
use Rattle.group_run.specs.Mails.{first_of, mail_since}
use Rattle.group_run.specs.Private.Kept.{GoesToPeer, IsReadable, IsWithin, members_at}
use Rattle.group_run.specs.Private.Reading.{AreReading}
use Rattle.group_run.specs.declared.reading.Read.{Read}
use Rattle.group_run.specs.declared.reading.Read.TheVariants.{Ended, Sends}
use Rattle.group_run.specs.declared.unread.Unread.{Unread}
use Rattle.group_run.proofs.KeptLemmas.{KeepsPeers, as_peers, mail_of_more}
use Rattle.group_run.proofs.MailLemmas.{after_one, rest_of, within_one}
use Rattle.group_run.proofs.MemberLemmas.{AreSame, has_agreed, has_kept, ignored_same, ignores_more, keeps_same}

-- what holds anyway holds of an error
pub on_err : {A E : Type 0} (answer : Result A E) (P : Type 0) → P → OnErr answer P
on_err (Ok done) P is = tt
on_err (Err why) P is = is

-- members that ignored some are the same
pub same_names : (start now : Members) → Ignores start now → (all : List Peer) → AreSame now.all all → (name : Name)
    → is_peer all name ≡ is_peer start.all name
same_names start now ignores all same name =
    same.names name ∙ ap (λ all. is_peer all name) (ignored_same ignores.0 start now ignores.1).all

-- where it is known what was read, and of which entries
pub reads_at : (read is : Read) (old new : MemberView) (before after : Unread) (was entries : List Entry) → was ≡ entries → read ≡ is
    → AreReading read (members_at old was before) (members_at new was after) → AreReading is (members_at old entries before) (members_at new entries after)
reads_at read is old new before after was entries same kind reads =
    subst (λ (read : Read). AreReading read (members_at old entries before) (members_at new entries after)) kind
    (subst (λ entries. AreReading read (members_at old entries before) (members_at new entries after)) same reads)

-- and where it is known what came of which octets
pub came_as : (m : Name) (given octets : List ℕ) (later : List Mail) (old : MemberView) (came is : Came) (new : MemberView) → given ≡ octets → came ≡ is
    → TakesMail m given later old (Ok came) new → TakesMail m octets later old (Ok is) new
came_as m given octets later old came is new same kind takes =
    subst (λ (came : Came). TakesMail m octets later old (Ok came) new) kind (subst (λ octets. TakesMail m octets later old (Ok came) new) same takes)

module _ (entries : List Entry) (start : Members) (members : MemberView) (at unread : Unread) (m : Name) (datagram : List ℕ)
    (ignores : Ignores start (members_at members entries at)) (readable : IsReadable members.all entries at)
    (is_first : Some (m, datagram) ≡ first_of (mail_since entries at.place at.taken))
    (same : mail_since entries unread.place unread.taken ≡ mail_since entries at.place at.taken) (within : IsWithin entries unread) where
  is_now : Some (m, datagram) ≡ first_of (mail_since entries unread.place unread.taken)
  is_now = is_first ∙ ap first_of (sym same)

  whole : mail_since entries at.place at.taken ≡ (m, datagram) ∷ mail_since entries unread.place (unread.taken + 1)
  whole = sym same ∙ rest_of entries unread (m, datagram) is_now

  to_peers : All (GoesToPeer members.all) ((m, datagram) ∷ mail_since entries unread.place (unread.taken + 1))
  to_peers = subst (All (GoesToPeer members.all)) whole readable.to_peers

  pub peer_here : is_peer members.all m ≡ true
  peer_here = All-head (GoesToPeer members.all) (m, datagram) (mail_since entries unread.place (unread.taken + 1)) to_peers

  -- the cursor stays where memory was short
  pub readable_still : (all : List Peer) → all ≡ members.all → IsReadable all entries unread
  readable_still all is =
      subst (λ all. IsReadable all entries unread) (sym is)
      (record { within = within; to_peers = subst (All (GoesToPeer members.all)) (sym same) readable.to_peers })

  readable_on : (all : List Peer) → KeepsPeers members.all all → IsReadable all entries (after_one unread)
  readable_on all keeps = record {
    within = within_one entries unread (m, datagram) is_now within;
    to_peers = mail_of_more keeps (mail_since entries unread.place (unread.taken + 1))
        (All-tail (GoesToPeer members.all) (m, datagram) (mail_since entries unread.place (unread.taken + 1)) to_peers);
  }

  module _ (next : MemberView) where
    -- it is ignored
    module _ (step : IsIgnoring (members_with members ((m, datagram) ∷ mail_since entries unread.place (unread.taken + 1)))
        (members_with next (mail_since entries unread.place (unread.taken + 1)))) where
      pub ignored_on : Ignores start (members_at next entries (after_one unread))
      ignored_on =
          ignores_more ignores
          (subst (λ (old : Members). IsIgnoring old (members_with next (mail_since entries unread.place (unread.taken + 1)))) (sym (ap (members_with members) whole)) step)

      pub ignored_readable : IsReadable next.all entries (after_one unread)
      ignored_readable = readable_on next.all (as_peers (ap (λ (members : Members). members.all) step.now))

    -- the member answers it
    module _ (third : List ℕ) (step : Agrees m third (members_with members ((m, datagram) ∷ mail_since entries unread.place (unread.taken + 1)))
        (members_with next (mail_since entries unread.place (unread.taken + 1)))) where
      pub sends_read : AreReading (Sends m) start (members_at next entries (after_one unread))
      sends_read = (
        members_at members entries at,
        ignores,
        third,
        subst (λ (old : Members). Agrees m third old (members_with next (mail_since entries unread.place (unread.taken + 1)))) (sym (ap (members_with members) whole)) step,
      )

      pub sends_readable : IsReadable next.all entries (after_one unread)
      sends_readable = readable_on next.all (keeps_same (has_agreed step).same)

      pub sends_peers : (name : Name) → is_peer next.all name ≡ is_peer start.all name
      sends_peers name = same_names start (members_at members entries at) ignores next.all (has_agreed step).same name

    -- it goes missing, or the member takes its keys
    module _ (answer : Answer) (step : IsKeeping m (members_with members ((m, datagram) ∷ mail_since entries unread.place (unread.taken + 1))) answer
        (members_with next (mail_since entries unread.place (unread.taken + 1)))) where
      pub ended_read : AreReading (Ended m answer) start (members_at next entries (after_one unread))
      ended_read = (
        members_at members entries at,
        ignores,
        subst (λ (old : Members). IsKeeping m old answer (members_with next (mail_since entries unread.place (unread.taken + 1)))) (sym (ap (members_with members) whole)) step,
      )

      pub ended_readable : IsReadable next.all entries (after_one unread)
      ended_readable = readable_on next.all (keeps_same (has_kept step).same)

      pub ended_peers : (name : Name) → is_peer next.all name ≡ is_peer start.all name
      ended_peers name = same_names start (members_at members entries at) ignores next.all (has_kept step).same name
