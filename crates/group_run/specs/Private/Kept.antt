-- What a group that runs keeps.
use Rattle.std.specs.Prelude.{◌≡◌, ◌≤◌, true, List, All, drop, length}
use Rattle.std.specs.List.{flat_map}
use Rattle.gd_disk.specs.declared.disks.Disk.{Ghosts as DiskGhosts}
use Rattle.gd_edges.specs.declared.draws.Draws.{Ghosts as DrawGhosts}
use Rattle.group_model.specs.declared.entries.Entry.{Entry}
use Rattle.group_peers.specs.Peers.{is_peer}
use Rattle.group_peers.specs.declared.members.Peer.{Peer}
use Rattle.group_run.specs.Mails.{mail_in, mail_since}
use Rattle.group_run.specs.Private.Boards.{IsShown}
use Rattle.group_run.specs.Private.Noted.{AreNoted, WereSent}
use Rattle.group_run.specs.declared.boards.Board.{Board}
use Rattle.group_run.specs.declared.unread.Unread.{Unread}
use Rattle.member_steps.specs.Members.{Mail, Members}
use Rattle.member_steps.specs.Views.{View as MemberView, members_with}
use Rattle.pull_sessions.specs.declared.sas.Sa.{Sa}
use Rattle.sent_pushes.specs.declared.notes.Note.{Note}
use Rattle.server_steps.specs.Hosts.{Host}
use Rattle.server_steps.specs.Reflects.{IsServerOf}
use Rattle.server_steps.specs.Views.{View as ServerView}
use Rattle.sym_closure.specs.Knowledge.{Known, Knows}

-- ---- what is on its way

-- the members, with what is on its way to them
abbrev pub members_at : MemberView → List Entry → Unread → Members
members_at view entries unread = members_with view (mail_since entries unread.place unread.taken)

-- no more was passed over than was sent
pub record IsWithin (entries : List Entry) (unread : Unread) : Type 0 where
  pub place : unread.place ≤ length entries
  pub taken : unread.taken ≤ length (flat_map mail_in (drop unread.place entries))

-- a datagram on its way goes to a peer
abbrev pub GoesToPeer : List Peer → Mail → Type 0
GoesToPeer peers mail = is_peer peers mail.0 ≡ true

-- what is on its way goes to peers
pub record IsReadable (peers : List Peer) (entries : List Entry) (unread : Unread) : Type 0 where
  pub within : IsWithin entries unread
  pub to_peers : All (GoesToPeer peers) (mail_since entries unread.place unread.taken)

-- ---- all of it

-- an SA is that of a peer
abbrev pub IsOwn : List Peer → Sa → Type 0
IsOwn peers sa = is_peer peers sa.phase.member ≡ true

-- The server is that of a host, whose SAs are of peers, and what is on its way goes to peers. What was sent is known of a beginning of the history. Each push
-- of it is noted, and no other. The board shows a beginning of the history.
pub record IsKept {D G R : Type 0} (d : DiskGhosts D) (draws : DrawGhosts R) (server : ServerView D G R) (peers : List Peer) (unread : Unread) (sent : Known)
    (notes : List Note) (board : Board) (entries : List Entry) : Type 0 where
  pub host : Host D
  pub is_on : IsServerOf d draws server host
  pub own : All (IsOwn peers) host.sessions.sas
  pub mail : IsReadable peers entries unread
  pub knows : Knows sent entries
  pub noted : AreNoted notes entries
  pub sent_before : WereSent notes entries
  pub shown : IsShown board entries
