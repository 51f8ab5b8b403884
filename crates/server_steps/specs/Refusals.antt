-- Why a message of a pull is refused that was read without a fault, and what a server answers where its sessions refuse.
use Rattle.std.specs.Prelude.{◌==◌, ◌&&◌, Bool, List, Option, None, Some, if◌then◌else◌}
use Rattle.std.specs.Str.{bytes_eq}
use Rattle.group_terms.specs.Changes.{is_pending}
use Rattle.group_terms.specs.Names.{Name}
use Rattle.group_terms.specs.declared.patterns.Rule.{Rule}
use Rattle.group_model.specs.Places.{is_member}
use Rattle.group_model.specs.Servers.{Server, members_now, refusal_to_join}
use Rattle.group_model.specs.declared.entries.Refusal.{Refusal}
use Rattle.group_model.specs.declared.entries.Refusal.TheVariants as refusals
use Rattle.group_policy.specs.Judgements.{judgement}
use Rattle.group_policy.specs.declared.verdicts.Verdict.{Verdict}
use Rattle.group_policy.specs.declared.verdicts.Verdict.TheVariants.{Allowed, Denied}
use Rattle.pull_msgs.specs.Texts.{key_id_type}
use Rattle.pull_msgs.specs.declared.messages.First.{First}
use Rattle.pull_sessions.specs.declared.refusals.SessionRefusal.{SessionRefusal}
use Rattle.pull_sessions.specs.declared.refusals.SessionRefusal.TheVariants as causes

-- the same reason, as the server's
abbrev pub refusal_of : SessionRefusal → Refusal
refusal_of (causes.Malformed message at) = refusals.Malformed message at
refusal_of causes.UnknownPeer = refusals.UnknownPeer
refusal_of causes.WrongStep = refusals.WrongStep
refusal_of (causes.BadHash carried expected) = refusals.BadHash carried expected
refusal_of causes.PhaseTaken = refusals.PhaseTaken
refusal_of (causes.PhaseFull held) = refusals.PhaseFull held
refusal_of causes.NoMemory = refusals.NoMemory

-- who is denied is refused; for who is allowed this later reason counts, if there is one
abbrev pub unless_denied : Verdict → Option Refusal → Option Refusal
unless_denied (Allowed rule) later = later
unless_denied (Denied rule) later = Some (refusals.Denied rule)

-- a change of the member waits
abbrev pub why_pending : Server → Name → Option Refusal
why_pending server m = if is_pending server.queue m then Some refusals.AlreadyPending else None

-- whether the identification of a first message is the name of the group, as octets of a key id (RFC 2407 section 4.6.2.1)
abbrev pub names_group : Name → First → Bool
names_group group first = first.id_type == key_id_type && bytes_eq first.id group

-- The first reason that holds against a first message: another group, the policy, a change that waits.
abbrev pub refusal_to_first : Name → List Rule → Server → Name → First → Option Refusal
refusal_to_first group rules server m first =
    if names_group group first then unless_denied (judgement rules m) (why_pending server m) else Some refusals.WrongGroup

-- The first reason that holds against a third message: the policy, a change that waits; and of who is no member, no room in the tree or in the batch.
abbrev pub refusal_to_third : List Rule → Server → Name → Option Refusal
refusal_to_third rules server m =
    unless_denied (judgement rules m) (if is_member (members_now server) m then why_pending server m else refusal_to_join server m)
