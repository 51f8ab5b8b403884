-- Along a history whose openings read true each push that was sent is one of the group, and so is each store.
use Rattle.std.proofs.Common.{◌≡◌, ◌∙◌, List, [], ◌∷◌, ◌++◌, refl, sym, subst}
use Rattle.std.proofs.lemmas.List.{append_assoc}
use Rattle.std.proofs.lemmas.List.Elements.{All-nil}
use Rattle.group_model.specs.declared.entries.Entry.{Entry}
use Rattle.group_peers.specs.declared.members.Peer.{Peer}
use Rattle.member_steps.specs.Members.{Members}
use Rattle.group_steps.specs.ChainLaws.{along_keeps, along_on, along_too}
use Rattle.group_steps.specs.Chains.{Along}
use Rattle.group_steps.specs.Devices.{Devices, Keying}
use Rattle.group_steps.specs.Kinds.{EachStepIsOfAKind}
use Rattle.group_steps.specs.Mails.{MailIsOfTheGroup}
use Rattle.group_steps.specs.Moments.{MomentsEndHistories}
use Rattle.group_steps.specs.Runs.{Run, no_run, with_members}
use Rattle.group_steps.specs.Steps.{AreRunSteps, IsHistory, IsRunStep}
use Rattle.group_steps.specs.TrueSteps.{AreTrueSteps}
use Rattle.law_store_steps.specs.Follow.{IsTrueHistory, OpenedGroupsHaveKeys}
use Rattle.law_store_steps.specs.Stores.{AreStores, IsPeerOf}
use Rattle.law_store_steps.proofs.ActLemmas.{all_after}
use Rattle.law_store_steps.proofs.FirstLemmas.{IsFirst, first_of, head_first, members_first}
use Rattle.law_store_steps.proofs.GrowLemmas.{Grows, IsAtHead, grows_kind, grows_none, grows_on, head_still}
use Rattle.law_store_steps.proofs.MailLemmas.{TellsLaws, tells}
use Rattle.law_store_steps.proofs.PushLemmas.{Sends, sends_first, sends_kind}
use Rattle.law_store_steps.proofs.SentLemmas.{AreSent, IsPushAt, sent_by, sent_more}
use Rattle.law_store_steps.proofs.StepLemmas.{AreOurs, Laws, ours, ours_step}

module _ {D G V : Type 0} (on : Devices D G V) (by : Keying G) (kinds : EachStepIsOfAKind on by) (after : Run D) where
  -- a step between two runs that grow to that at the end; a pair that it sends is that of the last batch
  record IsStepTo (before : List Entry) (run : Run D) (entry : Entry) (next : Run D) : Type 0 where
    step : IsRunStep on by before run entry next
    grows : Grows run.host after.host
    rest : Grows next.host after.host
    sends : Sends on.signers by.signer entry.answer next.host

  -- one entry more was made, whose run grows to that at the end
  more_sent : (before : List Entry) (entry : Entry) (next : Run D) → AreSent on.signers by.signer after.host before → Grows next.host after.host
      → Sends on.signers by.signer entry.answer next.host → AreSent on.signers by.signer after.host (before ++ entry ∷ [])
  more_sent before entry next sent grows sends =
      sent_more on.signers by.signer after.host.server.depth after.host.head.spi after.host.server.list before entry sent
      (sent_by on.signers by.signer next.host after.host grows entry.answer sends)

  -- true steps after the first request are such steps
  steps_to : (first : Entry) (before : List Entry) (run : Run D) (entries : List Entry) → IsAtHead run.host
      → AreTrueSteps on by (first ∷ before) run entries after
      → Grows run.host after.host × Along IsStepTo (first ∷ before) run entries after
  steps_to first before run [] at steps =
      (subst (λ (given : Run D). Grows run.host given.host) (sym steps) (grows_none run.host), steps)
  steps_to first before run (entry ∷ entries) at steps =
      let next = steps.0 in
      let kind = kinds first before run entry next steps.1.0 in
      let grows = grows_kind on by run.host entry next.host at kind steps.1.1 in
      let rest = steps_to first (before ++ entry ∷ []) next entries (head_still run.host next.host at grows) steps.2 in
      let all = grows_on run.host next.host after.host grows rest.0 in
      let step : IsStepTo (first ∷ before) run entry next = record {
        step = steps.1.0;
        grows = all;
        rest = rest.0;
        sends = sends_kind on by run.host entry next.host kind;
      } in
      (all, (next, step, rest.1))

  -- a history begins with an opening, and goes on by such steps
  begin : (entry : Entry) (entries : List Entry) (history : IsTrueHistory on by (entry ∷ entries) after)
      → AreSent on.signers by.signer after.host (entry ∷ []) × Along IsStepTo (entry ∷ []) history.reads.0 entries after
  begin entry entries history =
      let start = no_run history.outset in
      let next = history.reads.0 in
      let step = history.reads.1.0 in
      let first : IsFirst on.disks on.signers by.signer by.block start.host entry.answer entry.outside next.host =
      first_of on by [] (with_members start step.acted) entry.answer entry.outside next entry.asked history.history.begins.0 step.answered.answered in
      let at = head_first on.disks on.signers by.signer by.block start.host entry.answer entry.outside next.host refl first in
      let rest = steps_to entry [] next entries at history.reads.2 in (
        more_sent [] entry next (All-nil (IsPushAt on.signers by.signer after.host.server.depth after.host.head.spi after.host.server.list)) rest.0
            (sends_first on.signers by.signer on.disks by.block start.host entry.answer entry.outside next.host first),
        rest.1,
      )

  -- ---- pushes

  keeps_sent : (before : List Entry) (run : Run D) (entry : Entry) (next : Run D) → AreSent on.signers by.signer after.host before
      → IsStepTo before run entry next → AreSent on.signers by.signer after.host (before ++ entry ∷ [])
  keeps_sent before run entry next sent step = more_sent before entry next sent step.rest step.sends

  pub sent_after : (entries : List Entry) → IsTrueHistory on by entries after → AreSent on.signers by.signer after.host entries
  sent_after [] history = All-nil (IsPushAt on.signers by.signer after.host.server.depth after.host.head.spi after.host.server.list)
  sent_after (entry ∷ entries) history =
      let first = begin entry entries history in
      along_keeps IsStepTo (λ before run. AreSent on.signers by.signer after.host before) keeps_sent (entry ∷ []) history.reads.0 entries after first.0 first.1

  -- ---- stores

  module _ (laws : Laws on.signers by.signer on.verifiers on.verifier after.host.server.depth after.host.head.spi after.host.server.list)
      (moments : MomentsEndHistories on by) (have : OpenedGroupsHaveKeys on by) (mail : MailIsOfTheGroup on by) (told : TellsLaws) where
    abbrev Ours : List Peer → Type 0
    Ours = AreOurs on by after.host laws

    module _ (entries : List Entry) (history : IsTrueHistory on by entries after) where
      abbrev start : Run D
      start = no_run history.outset

      -- each moment is the end of a history
      ends_at : (front : List Entry) (run : Run D) (later : List Entry) → entries ≡ front ++ later → AreRunSteps on by [] start front run
          → Along IsStepTo front run later after → IsHistory on by start front run
      ends_at front run later is so_far steps =
          moments start entries after front run history.history (record {
            later = later;
            is = is;
            so_far = so_far;
            goes_on = along_too IsStepTo (IsRunStep on by) (λ before run entry next step. step.step) front run later after steps;
          })

      -- so far all pushes are of the group at the end, and all stores
      stores_from : (front : List Entry) (run : Run D) (later : List Entry) → entries ≡ front ++ later → AreRunSteps on by [] start front run
          → Along IsStepTo front run later after → AreSent on.signers by.signer after.host front → Ours run.members.all → AreStores after
      stores_from front run [] is so_far steps sent all = subst (λ (given : Run D). Ours given.members.all) (sym steps) all
      stores_from front run (entry ∷ later) is so_far steps sent all =
          let next = steps.0 in
          let step = steps.1 in
          let now = ends_at front run (entry ∷ later) is so_far steps in
          stores_from (front ++ entry ∷ []) next later (is ∙ sym (append_assoc front (entry ∷ []) later))
          (along_on (IsRunStep on by) [] front (entry ∷ []) start run next so_far (next, step.step, refl)) steps.2
          (keeps_sent front run entry next sent step)
          (ours_step on by after.host laws front run entry next all sent step.grows step.step
          (λ m fourth. (tells told on by have mail history.outset front run step.step.acted m entry.answer next.members now step.step.acts fourth).1))

    no_members : Ours []
    no_members = All-nil (IsPeerOf after.host.server.depth after.host.head.spi after.host.server.list)

    pub stores_after : (entries : List Entry) → IsTrueHistory on by entries after → AreStores after
    stores_after [] history = subst (λ (given : Run D). Ours given.members.all) (sym history.reads) no_members
    stores_after (entry ∷ entries) history =
        let run = start (entry ∷ entries) history in
        let next = history.reads.0 in
        let step = history.reads.1.0 in
        let first = begin entry entries history in
        let acted : Ours step.acted.all =
        all_after (IsPeerOf after.host.server.depth after.host.head.spi after.host.server.list) (ours on by after.host laws) by.members_block by.group
        run.members step.acted no_members step.acts in
        let stays =
        members_first on by [] (with_members run step.acted) entry.answer entry.outside next entry.asked history.history.begins.0 step.answered.answered in
        stores_from (entry ∷ entries) history (entry ∷ []) next entries refl (next, step, refl) first.1 first.0
        (subst (λ (members : Members). Ours members.all) (sym stays) acted)
