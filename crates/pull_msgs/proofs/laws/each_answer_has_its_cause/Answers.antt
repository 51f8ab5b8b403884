use Rattle.pull_msgs.specs.Pulls.{first_awaited, second_awaited, third_awaited, fourth_awaited}
use Rattle.pull_msgs.proofs.CauseLemmas.{has_causes}
use Rattle.pull_msgs.proofs.laws.each_answer_has_its_cause.Goals as goal

pub returns-clause-first : goal.returns-clause-first
returns-clause-first c phase datagram answer is = has_causes c.a_text_is_opened_in_one_way.ensures _ _ phase (first_awaited phase) datagram answer is

pub returns-clause-second : goal.returns-clause-second
returns-clause-second c phase message iv ni datagram answer is =
    has_causes c.a_text_is_opened_in_one_way.ensures _ _ phase (second_awaited message iv ni) datagram answer is

pub returns-clause-third : goal.returns-clause-third
returns-clause-third c phase message iv ni nr datagram answer is =
    has_causes c.a_text_is_opened_in_one_way.ensures _ _ phase (third_awaited message iv ni nr) datagram answer is

pub returns-clause-fourth : goal.returns-clause-fourth
returns-clause-fourth c phase message iv ni nr spi datagram answer is =
    has_causes c.a_text_is_opened_in_one_way.ensures _ _ phase (fourth_awaited message iv ni nr spi) datagram answer is
