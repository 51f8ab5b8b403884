-- The turns that workers take to run a block of lines are steps of the run, between which members act. After the last one members have what their lines have.
use Rattle.std.proofs.Common.{◌≡◌, ◌∙◌, zero, Bool, true, false, List, [], ◌∷◌, ◌++◌, length}
use Rattle.std.proofs.Common.{append-nil, true≢false, refl, sym, subst}
use Rattle.std.proofs.lemmas.List.{append_assoc}
use Rattle.gd_disk.specs.declared.disks.Disk.{Ghosts as DiskGhosts}
use Rattle.gd_edges.specs.declared.signers.Signer.{Ghosts as SignerGhosts}
use Rattle.group_model.specs.declared.entries.Entry.{Entry}
use Rattle.group_peers.specs.Peers.{AreOnce}
use Rattle.group_steps.specs.Chains.{Along}
use Rattle.group_steps.specs.Devices.{Keying}
use Rattle.group_steps.specs.Runs.{Run, run_of}
use Rattle.member_steps.specs.Acts.{Acts}
use Rattle.member_steps.specs.Members.{Members}
use Rattle.register_workers.specs.Own.{HaveOwnTurns}
use Rattle.register_workers.specs.declared.lines.BlockAsk.{BlockAsk}
use Rattle.register_workers.specs.declared.lines.BlockLine.{BlockLine}
use Rattle.server_steps.specs.Hosts.{Host}
use Rattle.server_steps.specs.Steps.{AreServed}
use Rattle.group_run.specs.Blocks.{AreHanded, IsTurn, taken_back}
use Rattle.group_run.proofs.HeldLemmas.{held_by, held_first}
use Rattle.group_run.proofs.LossLemmas.{ends}
use Rattle.group_run.proofs.ReadyLemmas.{IsReadied, readied}

-- The turns are steps, from the members that there were. Then, where memory did not run out for a line, they may act so that they have what their lines have.
pub record TurnsOf {D G : Type 0} (d : DiskGhosts D) (g : SignerGhosts G) (by : Keying G) (short : Bool) (before turns : List Entry) (news : List BlockLine)
    (present : Members) (host after : Host D) : Type 0 where
  pub mid : Run D
  pub is_after : mid.host ≡ after
  pub steps : Along (IsTurn d g by) before (run_of host present) turns mid
  pub acted : Members
  pub acts : Acts by.members_block by.group mid.members acted
  pub back : short ≡ false → acted ≡ taken_back news turns present

module _ {D G : Type 0} (d : DiskGhosts D) (g : SignerGhosts G) (by : Keying G) where
  module _ (present : Members) (once : AreOnce present.all) (asks : List BlockAsk) (lines news : List BlockLine) (handed : AreHanded present asks lines)
      (as_many : length news ≡ length lines) (turns : List Entry) (short : Bool) (have : HaveOwnTurns short lines news turns) where
    along : (before front later : List Entry) → turns ≡ front ++ later → (host after : Host D) → AreServed d g by.signer by.block host later after
        → Along (IsTurn d g by) before (run_of host (held_by news front present)) later (run_of after (held_by news turns present))
    along before front [] are host after same = λ i. run_of (same i) (held_by news (whole i) present)
      where
        whole : turns ≡ front
        whole = are ∙ append-nil front
    along before front (turn ∷ later) are host after served = (
      run_of served.0 (held_by news (front ++ turn ∷ []) present),
      record {
        acted = ready.acted;
        acts = ready.acts;
        ready = ready.ready;
        served = record {
          answered = record { served = served.1.answered; gets = sym ready.now };
          keeps = served.1.keeps;
          counts = served.1.counts;
        };
      },
      along (before ++ turn ∷ []) (front ++ turn ∷ []) later (are ∙ sym (append_assoc front (turn ∷ []) later)) served.0 after served.2,
    )
      where
        ready : IsReadied by.members_block by.group present news front turn turn.asked
        ready = readied by.members_block by.group present news once asks lines handed as_many short turns have front turn later are

  pub turns_are_steps : (present : Members) → present.mail ≡ [] → AreOnce present.all → (asks : List BlockAsk) (lines news : List BlockLine)
      → AreHanded present asks lines → length news ≡ length lines → (short : Bool) (turns before : List Entry) → HaveOwnTurns short lines news turns
      → (host after : Host D) → AreServed d g by.signer by.block host turns after → TurnsOf d g by short before turns news present host after
  turns_are_steps present unsent once asks lines news handed as_many short turns before have host after served = by_memory short have
    where
      mid : Run D
      mid = run_of after (held_by news turns present)

      steps : (short : Bool) → HaveOwnTurns short lines news turns → Along (IsTurn d g by) before (run_of host present) turns mid
      steps short have =
          subst (λ members. Along (IsTurn d g by) before (run_of host members) turns mid) (held_first news present unsent)
          (along present once asks lines news handed as_many turns short have before [] turns refl host after served)

      by_memory : (short : Bool) → HaveOwnTurns short lines news turns → TurnsOf d g by short before turns news present host after
      by_memory false have = record {
        mid = mid;
        is_after = refl;
        steps = steps false have;
        acted = taken_back news turns present;
        acts = ends present asks lines news handed as_many turns have by.members_block by.group once;
        back = λ memory. refl;
      }
      by_memory true have = record {
        mid = mid;
        is_after = refl;
        steps = steps true have;
        acted = mid.members;
        acts = (zero, refl);
        back = λ memory. absurd (true≢false memory);
      }
