-- The stores of members follow what they are told and given, by the laws on histories.
use Rattle.std.proofs.Common.{ℕ, List}
use Rattle.group_terms.specs.Names.{Name}
use Rattle.group_model.specs.declared.entries.Answer.{Answer}
use Rattle.group_model.specs.declared.entries.Entry.{Entry}
use Rattle.group_steps.specs.Moments.{IsTrueMoment, MomentsEndHistories}
use Rattle.group_steps.specs.Runs.{Outset, Run, no_run}
use Rattle.law_member_roots.specs.Groups.{Checks}
use Rattle.member_store.specs.Stores.{Store}
use Rattle.law_store_steps.specs.Follow.{IsGivenPush, IsTrueHistory, MembershipPushesAreTaken, OthersAreRefused, RepliesAreKept, StoresAreOfTheGroup}
use Rattle.law_store_steps.specs.Follow.{TrafficPushesAreTaken}
use Rattle.group_steps.specs.Devices.{Devices, Keying}
use Rattle.group_steps.specs.Steps.{IsHistory}
use Rattle.console_run.specs.Following.{IsGivenAt, KeepsReplies, StoresFollow}

module _ {D G V : Type 0} (on : Devices D G V) (by : Keying G)
    (ends : MomentsEndHistories on by)
    (outset : Outset D) (entries : List Entry) (after : Run D)
    (history : IsHistory on by (no_run outset) entries after) where
  pub keeps_replies : RepliesAreKept on by
      → KeepsReplies on by (no_run outset) entries after
  keeps_replies kept front mid m answer outside next moment ours step =
      kept outset front mid m answer outside next (ends (no_run outset) entries after front mid history moment) ours step

  -- a moment up to which all read true ends such a history
  true_history : (front : List Entry) (mid : Run D) → IsTrueMoment on by (no_run outset) entries after front mid
      → IsTrueHistory on by front mid
  true_history front mid is = record {
    outset = outset;
    history = ends (no_run outset) entries after front mid history is.moment;
    reads = is.reads;
  }

  given : (front : List Entry) (mid : Run D) (m : Name) (store : Store) (number : ℕ) (answer : Answer) (next : Run D)
      → IsGivenAt on by (no_run outset) entries after front mid m store number answer next
      → IsGivenPush on by front mid m store number answer next
  given front mid m store number answer next is = record {
    history = true_history front mid is.moment;
    had = is.had;
    ours = is.ours;
    sent = is.sent;
    outside = is.outside;
    step = is.step;
  }

  module _ (membership : MembershipPushesAreTaken on by)
      (traffic : TrafficPushesAreTaken on by)
      (others : OthersAreRefused on by)
      (each : StoresAreOfTheGroup on by) where
    pub stores_follow : Checks on.signers by.signer on.verifiers on.verifier → StoresFollow on by (no_run outset) entries after
    stores_follow checks = record {
      membership = λ front mid m store answer next is. membership front mid m store answer next checks (given front mid m store _ answer next is);
      traffic = λ front mid m store answer next is. traffic front mid m store answer next checks (given front mid m store _ answer next is);
      refused = λ front mid m store number answer next apart is.
          others front mid m store number answer next checks apart (given front mid m store number answer next is);
      of_group = λ front mid is apart. each front mid (true_history front mid is) checks apart;
    }
