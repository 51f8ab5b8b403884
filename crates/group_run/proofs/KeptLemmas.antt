-- What is kept once there is one entry more.
use Rattle.std.proofs.Common.{◌≡◌, ◌∙◌, true, List, [], ◌∷◌, ◌++◌, length, None, refl, sym, ap, subst, arith}
use Rattle.std.specs.List.{All}
use Rattle.std.proofs.lemmas.List.{length-append, take-append-le}
use Rattle.std.proofs.lemmas.List.Elements.{All-nil, All-weaker}
use Rattle.gd_disk.specs.declared.disks.Disk.{Ghosts as DiskGhosts}
use Rattle.gd_edges.specs.declared.draws.Draws.{Ghosts as DrawGhosts}
use Rattle.gd_edges.specs.declared.signers.Signer.{Ghosts as SignerGhosts}
use Rattle.group_terms.specs.Names.{Name}
use Rattle.group_model.specs.declared.entries.Answer.{Answer}
use Rattle.group_model.specs.declared.entries.Asked.{Asked}
use Rattle.group_model.specs.declared.entries.Asked.TheVariants.{Serve}
use Rattle.group_model.specs.declared.entries.Entry.{Entry}
use Rattle.group_peers.specs.Peers.{is_peer}
use Rattle.group_peers.specs.declared.members.Peer.{Peer}
use Rattle.member_steps.specs.Members.{Mail}
use Rattle.pull_sessions.specs.declared.sas.Sa.{Sa}
use Rattle.sent_pushes.specs.declared.notes.Note.{Note}
use Rattle.server_steps.specs.Entries.{noted as noted_entry}
use Rattle.server_steps.specs.Sent.{pair_by}
use Rattle.server_steps.specs.Serves.{Serves}
use Rattle.server_steps.specs.Views.{View as ServerView}
use Rattle.sym_closure.specs.Knowledge.{Known, Knows}
use Rattle.group_run.specs.Mails.{mail_since}
use Rattle.group_run.specs.Private.Boards.{IsShown}
use Rattle.group_run.specs.Private.Kept.{GoesToPeer, IsKept, IsOwn, IsReadable}
use Rattle.group_run.specs.Private.Noted.{AreNoted, WereSent}
use Rattle.group_run.specs.Private.Sends.{IsSent}
use Rattle.group_run.specs.declared.boards.Board.{Board}
use Rattle.group_run.specs.declared.unread.Unread.{Unread}
use Rattle.group_steps.specs.Shows.{pairs_shown}
use Rattle.group_run.proofs.AddLemmas.{IsAdded}
use Rattle.group_run.proofs.MailLemmas.{IsUnsent, nothing_unread, readable_after}
use Rattle.group_run.proofs.SentLemmas.{noted_still, sent_same}
use Rattle.group_run.proofs.ServedLemmas.{AsksBy, own_after, to_peers}

-- what is known stays known
abbrev pub StaysKnown : Type 0
StaysKnown = (known : Known) (entries more : List Entry) → Knows known entries → Knows known (entries ++ more)

-- who is a peer stays one
pub record KeepsPeers (old new : List Peer) : Type 0 where
  pub each : (name : Name) → is_peer old name ≡ true → is_peer new name ≡ true

pub same_peers : (peers : List Peer) → KeepsPeers peers peers
same_peers peers = record { each = λ name is. is }

pub keeps_then : {old mid new : List Peer} → KeepsPeers old mid → KeepsPeers mid new → KeepsPeers old new
keeps_then first second = record { each = λ name is. second.each name (first.each name is) }

pub named_as : {old new : List Peer} → ((name : Name) → is_peer new name ≡ is_peer old name) → KeepsPeers old new
named_as same = record { each = λ name is. same name ∙ is }

pub as_peers : {old new : List Peer} → new ≡ old → KeepsPeers old new
as_peers {old} is = subst (KeepsPeers old) (sym is) (same_peers old)

pub mail_of_more : {old new : List Peer} → KeepsPeers old new → (mail : List Mail) → All (GoesToPeer old) mail → All (GoesToPeer new) mail
mail_of_more {old} {new} keeps mail all = All-weaker (GoesToPeer old) (GoesToPeer new) (λ one. keeps.each one.0) mail all

own_of_more : {old new : List Peer} → KeepsPeers old new → (sas : List Sa) → All (IsOwn old) sas → All (IsOwn new) sas
own_of_more {old} {new} keeps sas all = All-weaker (IsOwn old) (IsOwn new) (λ (sa : Sa). keeps.each sa.phase.member) sas all

pub readable_by : {peers now : List Peer} {unread : Unread} {entries : List Entry} → KeepsPeers peers now → IsReadable peers entries unread
    → IsReadable now entries unread
readable_by {unread = unread} {entries = entries} keeps readable =
    record { within = readable.within; to_peers = mail_of_more keeps (mail_since entries unread.place unread.taken) readable.to_peers }

-- what a board shows of a history it shows of a longer one
pub shown_more : (board : Board) (entries more : List Entry) → IsShown board entries → IsShown board (entries ++ more)
shown_more board entries more shown = record {
  publishes = shown.publishes;
  reads = shown.reads;
  within = omega (arith, shown.within, length-append entries more);
  published = shown.published ∙ ap pairs_shown (sym (take-append-le board.upto entries more shown.within));
}

module _ {D R : Type 0} (d : DiskGhosts D) (draws : DrawGhosts R) where
  module _ {G : Type 0} (g : SignerGhosts G) (stays_known : StaysKnown) {old new : ServerView D G R} {peers now : List Peer} {unread : Unread} {sent : Known}
      {notes : List Note} {board : Board} {before after : List Entry} {request : Asked} {answer : Answer} (is : IsAdded request answer (draws.place_of old.core.draws) before after)
      (done : Serves d g draws request answer old new) (keeps : KeepsPeers peers now) (asks : AsksBy now request) where
    -- the server served the request, and the pushes of the entry were noted
    pub kept_served : {more : List Note} → AreNoted more (before ++ noted_entry request answer (draws.place_of old.core.draws) ∷ [])
        → WereSent more (before ++ noted_entry request answer (draws.place_of old.core.draws) ∷ []) → IsKept d draws old peers unread sent notes board before
        → IsKept d draws new now unread sent more board after
    kept_served {more} noted sent_before kept =
        let made = done.each kept.host kept.is_on in
        let entry = noted_entry request answer (draws.place_of old.core.draws) in
        let own = own_of_more keeps kept.host.sessions.sas kept.own in
        record {
          host = made.0;
          is_on = made.2;
          own = own_after d g old.core.signer (draws.block_at old.core.draws) kept.host answer entry.outside made.0 now request asks made.1.answered own;
          mail = readable_after unread kept.mail.within is now (mail_of_more keeps (mail_since before unread.place unread.taken) kept.mail.to_peers)
              (to_peers d g old.core.signer (draws.block_at old.core.draws) kept.host answer entry.outside made.0 now request asks made.1.answered own);
          knows = subst (Knows sent) (sym is.whole) (stays_known sent before (entry ∷ []) kept.knows);
          noted = subst (AreNoted more) (sym is.whole) noted;
          sent_before = subst (WereSent more) (sym is.whole) sent_before;
          shown = subst (IsShown board) (sym is.whole) (shown_more board before (entry ∷ []) kept.shown);
        }

    -- it sent none
    pub kept_silent : pair_by answer ≡ None → IsKept d draws old peers unread sent notes board before → IsKept d draws new now unread sent notes board after
    kept_silent none kept =
        kept_served (noted_still notes before (noted_entry request answer (draws.place_of old.core.draws)) none kept.noted)
        (sent_same notes before (noted_entry request answer (draws.place_of old.core.draws)) kept.sent_before) kept

    -- the pushes of the entry were noted where there was room for them
    pub kept_noted : {reserved more : List Note} {looked : List Entry} → reserved ≡ notes → looked ≡ before
        → ((entries : List Entry) (entry : Entry) → entry.answer ≡ answer → length entries ≡ length looked → AreNoted reserved entries
        → AreNoted more (entries ++ entry ∷ []))
        → ((entries : List Entry) (entry : Entry) → entry.answer ≡ answer → length entries ≡ length looked → WereSent reserved entries
        → WereSent more (entries ++ entry ∷ []))
        → IsKept d draws old peers unread sent notes board before → IsKept d draws new now unread sent more board after
    kept_noted same looked noted sent_before kept =
        let entry = noted_entry request answer (draws.place_of old.core.draws) in
        kept_served
        (noted before entry refl (ap length (sym looked)) (subst (λ notes. AreNoted notes before) (sym same) kept.noted))
        (sent_before before entry refl (ap length (sym looked)) (subst (λ notes. WereSent notes before) (sym same) kept.sent_before))
        kept

  -- the server stays; what is on its way then goes to peers
  pub kept_acted : StaysKnown → {G : Type 0} {server : ServerView D G R} {peers now : List Peer} {unread next : Unread} {sent : Known} {notes : List Note} {board : Board}
      {before after : List Entry} {request : Asked} {answer : Answer} → IsAdded request answer (draws.place_of server.core.draws) before after
      → KeepsPeers peers now → IsUnsent request answer → pair_by answer ≡ None → IsReadable now before next
      → IsKept d draws server peers unread sent notes board before → IsKept d draws server now next sent notes board after
  kept_acted stays_known {server = server} {now = now} {next = next} {sent = sent} {notes = notes} {board = board} {before = before} {request = request} {answer = answer} is keeps unsent none
      readable kept =
      let entry = noted_entry request answer (draws.place_of server.core.draws) in
      record {
        host = kept.host;
        is_on = kept.is_on;
        own = own_of_more keeps kept.host.sessions.sas kept.own;
        mail = readable_after next readable.within is now readable.to_peers
            (subst (All (GoesToPeer now)) (sym unsent.none) (All-nil (GoesToPeer now)));
        knows = subst (Knows sent) (sym is.whole) (stays_known sent before (entry ∷ []) kept.knows);
        noted = subst (AreNoted notes) (sym is.whole) (noted_still notes before entry none kept.noted);
        sent_before = subst (WereSent notes) (sym is.whole) (sent_same notes before entry kept.sent_before);
        shown = subst (IsShown board) (sym is.whole) (shown_more board before (entry ∷ []) kept.shown);
      }

  module _ {G : Type 0} {server : ServerView D G R} {peers : List Peer} {unread : Unread} {sent : Known} {notes : List Note} {board : Board}
      {entries : List Entry} where
    -- other members, of the same names, read some
    pub kept_read : {now : List Peer} {next : Unread} → KeepsPeers peers now → IsReadable now entries next
        → IsKept d draws server peers unread sent notes board entries → IsKept d draws server now next sent notes board entries
    kept_read keeps readable kept = record {
      host = kept.host;
      is_on = kept.is_on;
      own = own_of_more keeps kept.host.sessions.sas kept.own;
      mail = readable;
      knows = kept.knows;
      noted = kept.noted;
      sent_before = kept.sent_before;
      shown = kept.shown;
    }

    pub kept_peers : {now : List Peer} → KeepsPeers peers now → IsKept d draws server peers unread sent notes board entries
        → IsKept d draws server now unread sent notes board entries
    kept_peers keeps kept = kept_read keeps (readable_by keeps kept.mail) kept

    -- something else is known of what was sent
    pub kept_known : {new : Known} → Knows new entries → IsKept d draws server peers unread sent notes board entries
        → IsKept d draws server peers unread new notes board entries
    kept_known knows kept = record {
      host = kept.host;
      is_on = kept.is_on;
      own = kept.own;
      mail = kept.mail;
      knows = knows;
      noted = kept.noted;
      sent_before = kept.sent_before;
      shown = kept.shown;
    }

    -- something else was published
    pub kept_shown : {new : Board} → IsShown new entries → IsKept d draws server peers unread sent notes board entries
        → IsKept d draws server peers unread sent notes new entries
    kept_shown shown kept = record {
      host = kept.host;
      is_on = kept.is_on;
      own = kept.own;
      mail = kept.mail;
      knows = kept.knows;
      noted = kept.noted;
      sent_before = kept.sent_before;
      shown = shown;
    }

    -- by the same entries, and the same notes
    pub kept_as : {same : List Entry} → same ≡ entries → IsKept d draws server peers unread sent notes board entries
        → IsKept d draws server peers unread sent notes board same
    kept_as is kept = subst (IsKept d draws server peers unread sent notes board) (sym is) kept

    pub kept_by : {same : List Note} → same ≡ notes → IsKept d draws server peers unread sent notes board entries
        → IsKept d draws server peers unread sent same board entries
    kept_by is kept = subst (λ notes. IsKept d draws server peers unread sent notes board entries) (sym is) kept

    -- nothing is on its way any more
    pub kept_at_rest : IsKept d draws server peers unread sent notes board entries
        → IsKept d draws server peers (record { place = length entries; taken = 0 }) sent notes board entries
    kept_at_rest kept =
        kept_read (same_peers peers)
        (record {
          within = record { place = omega arith; taken = omega arith };
          to_peers = subst (All (GoesToPeer peers)) (sym (nothing_unread entries)) (All-nil (GoesToPeer peers));
        }) kept

-- before the first entry
pub none_noted : (notes : List Note) → notes ≡ [] → AreNoted notes []
none_noted notes none = subst (λ notes. AreNoted notes []) (sym none) (λ number. refl)

pub none_sent : (notes : List Note) → notes ≡ [] → WereSent notes []
none_sent notes none = subst (λ notes. WereSent notes []) (sym none) (λ k number less. absurd (omega arith))

-- a member's datagram was served
module _ {D G R : Type 0} (d : DiskGhosts D) (g : SignerGhosts G) (draws : DrawGhosts R) (stays_known : StaysKnown) {old new : ServerView D G R}
    {peers : List Peer} {unread : Unread} {known : Known} {notes : List Note} {board : Board} {before after : List Entry} {m : Name} where
  pub kept_sent : is_peer peers m ≡ true → (sent : IsSent d g draws peers m old new before after)
      → IsKept d draws old peers unread known notes board before → IsKept d draws new peers unread known notes board after
  kept_sent peer sent kept =
      kept_silent d draws g stays_known {request = Serve m sent.datagram} (record { whole = sent.added }) sent.serves (same_peers peers) peer sent.no_push kept
