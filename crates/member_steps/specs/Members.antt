-- The members of a group, between two requests.
use Rattle.std.specs.Prelude.{ℕ, List, [], ◌++◌}
use Rattle.group_terms.specs.Names.{Name}
use Rattle.group_peers.specs.declared.members.Peer.{Peer}

-- a datagram of the server that is on its way: to whom, and its octets
abbrev pub Mail : Type 0
Mail = Name × List ℕ

-- those who were ever used, in the order of the first time; the datagrams that are on their way to them, in the order in which they come unless one overtakes
-- others; and the place of the next block that is drawn for them
pub record Members : Type 0 where
  pub all : List Peer
  pub mail : List Mail
  pub place : ℕ

-- before the first use there is no member, and nothing is on its way
abbrev pub nobody : ℕ → Members
nobody place = record { all = []; mail = []; place = place }

-- with these members
abbrev pub with_all : Members → List Peer → Members
with_all members all = record members { all = all }

-- with these datagrams on their way after those that are
abbrev pub with_mail : Members → List Mail → Members
with_mail members mail = record members { mail = members.mail ++ mail }

-- with these alone on their way
abbrev pub with_mail_left : Members → List Mail → Members
with_mail_left members mail = record members { mail = mail }
