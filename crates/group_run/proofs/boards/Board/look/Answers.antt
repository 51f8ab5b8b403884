use Rattle.std.proofs.Common.{◌≡◌, ◌∙◌, ap, subst}
use Rattle.epoch_board.specs.Pairs.{StartsWith, last_pair}
use Rattle.group_run.proofs.boards.Board.look.Goals as goal

pub returns-clause-pair : goal.returns-clause-pair
returns-clause-pair c =
    let saw = c.now-seen.new.pass.seen in
    let published = c.catch_up.new.self.publisher.published in
    let same = c.a_look_between_meetings_is_exact.ensures published saw
    (subst (StartsWith saw) c.meet.ensures.seen c.now-seen.ensures.seen)
    (subst (λ all. StartsWith all saw) (c.meet-2.ensures.seen ∙ c.meet.ensures.publisher.1) c.meet-2.ensures.before) in
    c.now-seen.ensures.pair ∙ ap last_pair (same ∙ c.catch_up.ensures.all)
