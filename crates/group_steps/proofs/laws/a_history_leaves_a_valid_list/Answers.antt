use Rattle.group_steps.specs.Devices.{devices}
use Rattle.group_steps.proofs.SoundLemmas.{valid_list}
use Rattle.group_steps.proofs.laws.a_history_leaves_a_valid_list.Goals as goal

pub returns : goal.returns
returns g c = record {
  valid = λ verifier by.
      valid_list c.laws_hold.ensures (devices g.D.Disk g.G.Signer g.V.Verifier verifier) by (c.messages_are_of_the_group.ensures by.signer by.block);
}
