-- Members as those see them who keep them, apart from what is on its way to them.
use Rattle.std.specs.Prelude.{ℕ, List}
use Rattle.group_peers.specs.declared.members.Peer.{Peer}
use Rattle.member_steps.specs.Members.{Mail, Members}

-- those who were ever used, the place of the next block that is drawn for them, and for how many more of them there is room
pub record View : Type 0 where
  pub all : List Peer
  pub place : ℕ
  pub spare : ℕ

-- with these datagrams on their way to them
abbrev pub members_with : View → List Mail → Members
members_with view mail = record { all = view.all; mail = mail; place = view.place }
