-- A key server as its callers see it.
use Rattle.std.specs.Prelude.{List}
use Rattle.group_terms.specs.declared.patterns.Rule.{Rule}
use Rattle.gcks_core.specs.Views.{View as CoreView}
use Rattle.pull_sessions.specs.Sessions.{Sessions}

-- its core; the rules of who may join; and the phase 1 SAs with their sessions
pub record View (D G R : Type 0) : Type 0 where
  pub core : CoreView D G R
  pub rules : List Rule
  pub sessions : Sessions

-- a core, beside which these rules and sessions are
abbrev pub server_of : {D G R : Type 0} → CoreView D G R → List Rule → Sessions → View D G R
server_of core rules sessions = record { core = core; rules = rules; sessions = sessions }
