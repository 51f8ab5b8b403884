use Rattle.group_steps.specs.Devices.{devices}
use Rattle.law_store_steps.proofs.OpenedLemmas.{opened_have_keys}
use Rattle.law_store_steps.proofs.laws.an_opened_group_has_keys.Goals as goal

pub returns : goal.returns
returns g c verifier by =
    opened_have_keys (devices g.D.Disk g.G.Signer g.V.Verifier verifier) by (c.each_step_is_of_a_kind.ensures verifier by)
    (c.a_history_leaves_a_valid_list.ensures.valid verifier by)
