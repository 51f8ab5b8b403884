-- What a server does are steps of a run, whoever its members are.
use Rattle.std.proofs.Common.{◌≡◌, ℕ, false, List, [], ◌∷◌, ◌++◌, refl, sym, ap}
use Rattle.std.proofs.lemmas.Bool.{false≢true}
use Rattle.std.proofs.lemmas.List.Elements.{All-head, All-tail}
use Rattle.gd_disk.specs.declared.disks.Disk.{Ghosts as DiskGhosts}
use Rattle.gd_edges.specs.declared.signers.Signer.{Ghosts as SignerGhosts}
use Rattle.group_model.specs.declared.entries.Answer.{Answer}
use Rattle.group_model.specs.declared.entries.Asked.{Asked}
use Rattle.group_model.specs.declared.entries.Asked.TheVariants.{Again, Begin, Create, Deliver, Derive, Introduce, Keep, Key, Lose, Serve, Now, Together, Together2}
use Rattle.group_model.specs.declared.entries.Entry.{Entry}
use Rattle.group_model.specs.declared.entries.Outside.{Outside}
use Rattle.server_steps.specs.Hosts.{Host}
use Rattle.server_steps.specs.Steps.{IsServed}
use Rattle.member_steps.specs.Acts.{IsReady}
use Rattle.member_steps.specs.Members.{Members}
use Rattle.group_steps.specs.Devices.{Devices, Keying}
use Rattle.group_steps.specs.Gets.{get}
use Rattle.group_steps.specs.Runs.{Run, run_of}
use Rattle.group_steps.specs.Served.{ServedAreRunSteps, ServedReachMembers, is_of_pulls}
use Rattle.group_steps.specs.Steps.{IsAnswered}

-- an entry that is not of pulls
abbrev IsOther : Entry → Type 0
IsOther entry = is_of_pulls entry.asked ≡ false

-- of such a request members need nothing
ready_for : (asked : Asked) (members : Members) → is_of_pulls asked ≡ false → IsReady asked members
ready_for (Introduce phase) members other = absurd (false≢true (sym other))
ready_for (Serve m datagram) members other = absurd (false≢true (sym other))
ready_for asked members other = tt

module _ {D G : Type 0} (d : DiskGhosts D) (g : SignerGhosts G) (signer : G) (block : ℕ → List ℕ) where
  pub reach : ServedReachMembers d g signer block
  reach host members [] after same = (members, ap (λ (given : Host D). run_of given members) same)
  reach host members (entry ∷ entries) after steps =
      let next = steps.0 in
      let later = get entry.asked entry.answer members in
      let rest = reach next later entries after steps.2 in (rest.0, (run_of next later, steps.1, refl, rest.1))

module _ {D G V : Type 0} (on : Devices D G V) (by : Keying G) where
  answered : (before : List Entry) (asked : Asked) (run : Run D) (answer : Answer) (outside : Outside) (next : Run D)
      → IsServed on.disks on.signers by.signer by.block asked run.host answer outside next.host → next.members ≡ get asked answer run.members
      → IsAnswered on by before asked run answer outside next
  answered before (Create depth) run answer outside next served gets = absurd served
  answered before Begin run answer outside next served gets = absurd served
  answered before (Lose m) run answer outside next served gets = absurd served
  answered before (Again m) run answer outside next served gets = absurd served
  answered before (Keep m) run answer outside next served gets = absurd served
  answered before (Deliver m number) run answer outside next served gets = absurd served
  answered before (Key m) run answer outside next served gets = absurd served
  answered before (Derive epoch members) run answer outside next served gets = absurd served
  answered before Now run answer outside next served gets = absurd served
  answered before (Together lines) run answer outside next served gets = absurd served
  answered before Together2 run answer outside next served gets = absurd served
  answered before asked run answer outside next served gets = record { served = served; gets = gets }

  pub run_steps : ServedAreRunSteps on by
  run_steps before run [] after others same = same
  run_steps before run (entry ∷ entries) after others steps =
      let next = steps.0 in (
        next,
        record {
          acted = run.members;
          acts = (0, refl);
          ready = ready_for entry.asked run.members (All-head IsOther entry entries others);
          answered = record {
            answered = answered before entry.asked run entry.answer entry.outside next steps.1.answered steps.2;
            keeps = steps.1.keeps;
            counts = steps.1.counts;
          };
        },
        run_steps (before ++ entry ∷ []) next entries after (All-tail IsOther entry entries others) steps.3,
      )
