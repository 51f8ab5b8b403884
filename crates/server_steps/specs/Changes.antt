-- Requests to a server that touch neither its disk nor its draws.
use Rattle.std.specs.Prelude.{◌≡◌, ◌⊎◌, ◌+◌, true, [], ◌∷◌, ◌++◌, length, if◌then◌else◌}
use Rattle.group_terms.specs.Names.{Name}
use Rattle.group_terms.specs.declared.changes.Change.TheVariants.{Out}
use Rattle.group_terms.specs.declared.patterns.Rule.{Rule}
use Rattle.group_model.specs.Answers.{answer_to_leave}
use Rattle.group_model.specs.Seen.{seen_group}
use Rattle.group_model.specs.Servers.{Server, halted, members_now, present_batches, with_change}
use Rattle.group_model.specs.declared.entries.Answer.{Answer}
use Rattle.group_model.specs.declared.entries.Answer.TheVariants.{Done, RuleNumber, Shown, Refused}
use Rattle.group_model.specs.declared.entries.Outside.{Outside}
use Rattle.group_model.specs.declared.entries.Refusal.TheVariants.{NeedsReopen, NoMemory}
use Rattle.server_steps.specs.Hosts.{Host, with_rules, with_server}
use Rattle.server_steps.specs.Outsides.{Becomes, Says, quiet}

-- who has which leaf, unless it has to be opened again
abbrev pub shown_group : Server → Answer
shown_group server = if server.needs_reopen then Refused NeedsReopen else Shown (seen_group server.depth (present_batches server))

module _ {D : Type 0} where
  -- One more rule comes after all others, and its number is the answer, unless memory runs out; also where the group has to be opened again.
  abbrev pub IsAddingRule : Rule → Host D → Answer → Outside → Host D → Type 0
  IsAddingRule rule host answer outside next =
      Becomes (RuleNumber (length host.rules + 1)) (with_rules host (host.rules ++ rule ∷ [])) host answer outside next
      ⊎ Says (Refused NoMemory) host answer outside next

  -- a member whose leave is granted waits
  abbrev pub after_leave : Host D → Name → Answer → Host D
  after_leave host m Done = with_server host (with_change host.server (Out m))
  after_leave host m answer = host

  -- a leave is answered, and where it is granted, the member waits to go out
  pub record IsLeaving (m : Name) (host : Host D) (answer : Answer) (outside : Outside) (next : Host D) : Type 0 where
    pub answers : answer ≡ answer_to_leave host.server.needs_reopen host.server.depth (members_now host.server) host.server.queue m
    pub beside : outside ≡ quiet host
    pub now : next ≡ after_leave host m answer

  -- from now on it has to be opened again
  pub record IsHalting (host : Host D) (answer : Answer) (outside : Outside) (next : Host D) : Type 0 where
    pub answers : answer ≡ Done
    pub beside : outside ≡ quiet host
    pub now : next ≡ with_server host (halted host.server)

  -- the group is shown, unless it has to be opened again, and nothing changes
  abbrev pub IsShowing : Host D → Answer → Outside → Host D → Type 0
  IsShowing host answer outside next = Says (shown_group host.server) host answer outside next

  -- no push is given to any member, since it has to be opened again
  pub record IsNoDelivery (host : Host D) (answer : Answer) (outside : Outside) (next : Host D) : Type 0 where
    pub stopped : host.server.needs_reopen ≡ true
    pub says : Says (Refused NeedsReopen) host answer outside next
