-- The path that was taken is that which was read.
use Rattle.std.proofs.Common.{◌≡◌, ◌∙◌, sym, ap, subst}
use Rattle.group_terms.specs.declared.paths.Keyed.{Keyed}
use Rattle.kd_wire.specs.Texts.{IsPath}
use Rattle.pull_msgs.specs.Pulls.{fourth_awaited}
use Rattle.pull_msgs.specs.Readings.{root_made}
use Rattle.pull_msgs.proofs.PathLemmas.{said_path}
use Rattle.pull_msgs.proofs.SentLemmas.{what_was_taken}
use Rattle.pull_msgs.proofs.laws.a_taken_reply_is_a_path.Goals as goal

pub returns : goal.returns
returns c phase message iv ni nr spi datagram keyed answered =
    let found = what_was_taken _ _ phase (fourth_awaited message iv ni nr spi) datagram keyed answered in
    let same : keyed.path ≡ found.read.said.path = ap (λ (keyed : Keyed). keyed.path) found.gives in
    let path = said_path c.a_body_has_one_of_three_forms.ensures spi found.text found.head.next found.read found.reads in
    (subst IsPath (sym same) path, ap (λ (keyed : Keyed). keyed.epoch) found.gives ∙ ap root_made (sym same))
