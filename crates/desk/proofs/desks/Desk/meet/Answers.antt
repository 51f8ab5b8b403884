use Rattle.std.proofs.Common.{ap, ◌∙◌}
use Rattle.desk.proofs.desks.Desk.meet.Goals as goal

pub invariant_of-to : goal.invariant_of-to
invariant_of-to g c = let heard = c.tell.ensures.to in let was = c.to.invariant in record {
  rest = heard.rests;
  player = record { share = was.player.share; one = heard.shares_stay ∙ was.player.one; count = was.player.count };
  terms = was.terms;
  told = heard.terms_stay ∙ was.told;
  within = was.within;
}

pub invariant_of-from : goal.invariant_of-from
invariant_of-from g c = let same = c.tell.ensures.from.1 in let was = c.from.invariant in record {
  rest = record { idle = ap (λ m. m.0.phase) same ∙ was.rest.idle; empty = ap (λ m. m.1) same ∙ was.rest.empty };
  player = record { share = was.player.share; one = ap (λ m. m.0.shares) same ∙ was.player.one; count = was.player.count };
  terms = was.terms;
  told = ap (λ m. m.0.terms) same ∙ was.told;
  within = was.within;
}
