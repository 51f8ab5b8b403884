-- What hosts a group: its key server on its disk, between two requests.
use Rattle.std.specs.Prelude.{ℕ, List, []}
use Rattle.group_terms.specs.Names.{Name}
use Rattle.group_terms.specs.declared.patterns.Rule.{Rule}
use Rattle.group_model.specs.Servers.{Server, opened_server}
use Rattle.group_records.specs.declared.heads.Head.{Head}
use Rattle.pull_sessions.specs.Sessions.{Sessions}

-- the disk; the head of the group's journal; the server; the rules of who may join; and the phase 1 SAs with their sessions
pub record Host (D : Type 0) : Type 0 where
  pub disk : D
  pub head : Head
  pub server : Server
  pub rules : List Rule
  pub sessions : Sessions

-- no SA; at most this many may be introduced
abbrev pub no_sessions : ℕ → Sessions
no_sessions phases = record { limit = phases; sas = [] }

-- Before a group is opened: the disk, the name and the limit of a group that would be made, the place of the next block, and how many SAs there may be.
abbrev pub no_host : {D : Type 0} → D → Name → ℕ → ℕ → ℕ → Host D
no_host disk name limit place phases = record {
  disk = disk;
  head = record { depth = 0; name = name; spi = []; limit = limit };
  server = opened_server 0 limit [] place;
  rules = [];
  sessions = no_sessions phases;
}

-- with another server
abbrev pub with_server : {D : Type 0} → Host D → Server → Host D
with_server host server = record host { server = server }

-- with what was done to the disk
abbrev pub with_disk : {D : Type 0} → Host D → D → Host D
with_disk host disk = record host { disk = disk }

-- with other rules
abbrev pub with_rules : {D : Type 0} → Host D → List Rule → Host D
with_rules host rules = record host { rules = rules }

-- with other sessions
abbrev pub with_sessions : {D : Type 0} → Host D → Sessions → Host D
with_sessions host sessions = record host { sessions = sessions }
