-- A run of a group, between two requests: what hosts it, and its members.
use Rattle.std.specs.Prelude.{ℕ}
use Rattle.group_terms.specs.Names.{Name}
use Rattle.member_steps.specs.Members.{Members, nobody}
use Rattle.server_steps.specs.Hosts.{Host, no_host}

-- what hosts the group, and its members
pub record Run (D : Type 0) : Type 0 where
  pub host : Host D
  pub members : Members

-- a host with some members
abbrev pub run_of : {D : Type 0} → Host D → Members → Run D
run_of host members = record { host = host; members = members }

-- the same host with other members
abbrev pub with_members : {D : Type 0} → Run D → Members → Run D
with_members run members = record run { members = members }

-- What there is before a group is opened: the disk; the name and the limit of a group that would be made; the places of the server's next block and of the
-- members'; and how many SAs there may be.
pub record Outset (D : Type 0) : Type 0 where
  pub disk : D
  pub name : Name
  pub limit : ℕ
  pub place : ℕ
  pub members_place : ℕ
  pub phases : ℕ

-- with these
abbrev pub outset_of : {D : Type 0} → D → Name → ℕ → ℕ → ℕ → ℕ → Outset D
outset_of disk name limit place members_place phases =
    record { disk = disk; name = name; limit = limit; place = place; members_place = members_place; phases = phases }

-- a run then, in which nobody was used
abbrev pub no_run : {D : Type 0} → Outset D → Run D
no_run outset = record {
  host = no_host outset.disk outset.name outset.limit outset.place outset.phases;
  members = nobody outset.members_place;
}
