-- Why messages are refused, by what the core of a server has.
use Rattle.std.proofs.Common.{◌≡◌, ◌∙◌, Bool, true, false, List, Option, None, Some, refl, sym, ap}
use Rattle.std.specs.Prelude.{if◌then◌else◌}
use Rattle.gd_edges.specs.declared.draws.Draws.{Ghosts as DrawGhosts}
use Rattle.group_terms.specs.Changes.{is_pending}
use Rattle.group_terms.specs.Names.{Name}
use Rattle.group_terms.specs.declared.patterns.Rule.{Rule}
use Rattle.group_values.specs.Values.{batches_made}
use Rattle.group_model.specs.Places.{holders_of, is_member}
use Rattle.group_model.specs.Refusals.{why_no_join}
use Rattle.group_model.specs.Servers.{Server, members_now, refusal_to_join}
use Rattle.group_model.specs.declared.entries.Refusal.{Refusal}
use Rattle.group_model.specs.declared.entries.Refusal.TheVariants.{AlreadyPending, WrongGroup}
use Rattle.group_policy.specs.Judgements.{judgement}
use Rattle.group_policy.specs.declared.verdicts.Verdict.{Verdict}
use Rattle.group_policy.specs.declared.verdicts.Verdict.TheVariants.{Allowed, Denied}
use Rattle.gcks_core.specs.Stands.{Stands}
use Rattle.gcks_core.specs.Views.{View}
use Rattle.pull_msgs.specs.declared.messages.First.{First}
use Rattle.server_steps.specs.Refusals.{names_group, refusal_to_first, refusal_to_third, unless_denied, why_pending}

-- against who is allowed the later reason counts
allowed_later : (verdict : Verdict) (later : Option Refusal) → unless_denied verdict later ≡ None → later ≡ None
allowed_later (Allowed rule) later is = is
allowed_later (Denied rule) later is = absurd (cc)

idle_where : (pending : Bool) → (if pending then Some AlreadyPending else None) ≡ None → pending ≡ false
idle_where true is = absurd (cc)
idle_where false is = refl

module _ {D G R : Type 0} {draws : DrawGhosts R} {core : View D G R} {server : Server} (stands : Stands draws core server) where
  pub same_holders : core.tree.holders ≡ members_now server
  same_holders = stands.tree.holders ∙ ap (λ depth. holders_of depth (batches_made server.list)) stands.tree_depth

  pub same_member : (m : Name) → is_member core.tree.holders m ≡ is_member (members_now server) m
  same_member m = ap (λ holders. is_member holders m) same_holders

  pub same_pending : (m : Name) → is_pending core.queue m ≡ is_pending server.queue m
  same_pending m = ap (λ queue. is_pending queue m) stands.queue

  pub same_no_join : (m : Name) → why_no_join core.needs_reopen core.tree.depth core.tree.holders core.queue m ≡ refusal_to_join server m
  same_no_join m = λ i. why_no_join (stands.needs_reopen i) (stands.tree_depth i) (same_holders i) (stands.queue i) m

  -- there is no reason against a first message
  pub idle_of : (group : Name) (rules : List Rule) (m : Name) (first : First) → refusal_to_first group rules server m first ≡ None → is_pending core.queue m ≡ false
  idle_of group rules m first none = same_pending m ∙ by (names_group group first) none
    where
      by : (named : Bool) → (if named then unless_denied (judgement rules m) (why_pending server m) else Some WrongGroup) ≡ None → is_pending server.queue m ≡ false
      by true none = idle_where (is_pending server.queue m) (allowed_later (judgement rules m) (why_pending server m) none)
      by false none = absurd (cc)

  -- and none against the third one of somebody who is no member
  pub granted_of : (rules : List Rule) (m : Name) → refusal_to_third rules server m ≡ None → is_member core.tree.holders m ≡ false
      → why_no_join core.needs_reopen core.tree.depth core.tree.holders core.queue m ≡ None
  granted_of rules m none stranger =
      same_no_join m
      ∙ (ap (λ b. if b then why_pending server m else refusal_to_join server m) (sym (sym (same_member m) ∙ stranger))
      ∙ allowed_later (judgement rules m) (if is_member (members_now server) m then why_pending server m else refusal_to_join server m) none)
