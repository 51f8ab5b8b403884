use Rattle.std.proofs.Common.{arith, ◌≡◌, ◌+◌, [], ◌∷◌, ◌++◌, length, Some, ap, subst, sym, ◌∙◌, length-append}
use Rattle.desk.specs.declared.views.Terms.{Terms}
use Rattle.desk.specs.Opened.{terms_of}
use Rattle.desk.specs.Plays.{with_call}
use Rattle.desk.specs.Views.{StartsWith, first_mine}
use Rattle.desk.proofs.Keeps.{only_told}
use Rattle.desk.proofs.desks.Desk.turn.Goals as goal

pub invariant_of-pass : goal.invariant_of-pass
invariant_of-pass g c =
    let was = c.pass.invariant in let turned = c.serve-answer.ensures in let share = was.player.share in
    let terms : Terms g.row.K-Entry.Denot g.row.K-Tag.Denot = terms_of g.K.Kept.listed g.K.Kept.tag c.self.inside.table.shared.key in
    let told : c.pass.inside.seat.me.0.terms ≡ Some terms = ap (λ p. p.desk.told) c.pass.view_is ∙ (ap (λ d. d.told) c.requires.desk ∙ sym (ap (λ d. d.id.told) c.self.view_is)) in
    let turns : was.terms.turns ≡ c.self.inside.turns = ap (λ (t : Terms g.row.K-Entry.Denot g.row.K-Tag.Denot). t.turns) (only_told c.pass.inside.seat.me.0.terms terms was.terms told was.told) ∙ c.self.invariant.turns_are in
    let within = was.within in let another = c.if-pass-self.false in let count = was.player.count in
    let longer = length-append share.mine (turned.call ∷ []) in record {
      rest = record { idle = ap (λ m. m.0.phase) turned.is_seat.me_is; empty = ap (λ m. m.1) turned.is_seat.me_is };
      player = record {
        share = record share { mine = share.mine ++ turned.call ∷ [] };
        one = ap (λ m. m.0.shares) turned.is_seat.me_is ∙ ap (with_call turned.call) was.player.one;
        count = omega (arith, longer, count);
      };
      terms = was.terms;
      told = ap (λ m. m.0.terms) turned.is_seat.me_is ∙ was.told;
      within = omega (arith, within, turns, another);
    }

pub returns-clause-ok : goal.returns-clause-ok
returns-clause-ok g c =
    let was = c.pass.invariant in let turned = c.serve-answer.ensures in let share = was.player.share in record {
      before = turned.before;
      call = turned.call;
      goes_on = subst (λ p. StartsWith turned.before p.seen) c.pass.view_is turned.goes_on;
      seen = ap (λ m. m.0.seen) turned.is_seat.me_is;
      related = turned.related;
      mine = ap (λ m. first_mine m.0.shares) turned.is_seat.me_is ∙ (ap (λ shares. first_mine (with_call turned.call shares)) was.player.one ∙ ap (λ mine. mine ++ turned.call ∷ []) (sym (ap first_mine was.player.one) ∙ ap (λ p. p.mine) c.pass.view_is));
      placed = turned.placed ∙ ap (λ d. length d.terms.start + turned.call.place) c.self.view_is;
    }
