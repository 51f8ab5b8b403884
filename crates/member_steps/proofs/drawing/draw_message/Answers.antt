use Rattle.std.proofs.Common.{◌≡◌, length, rules, take}
use Rattle.member_steps.proofs.FitLemmas.{message_fits}
use Rattle.member_steps.proofs.drawing.draw_message.Goals as goal

pub returns-clause-fits : goal.returns-clause-fits
returns-clause-fits g c =
    let long : length c.number_of-message.result ≡ 4 = search rules in
    message_fits c.number_of-message.result (take 4 c.draw.result) c.number_of-message.ensures long c.prove_are_octets.ensures
