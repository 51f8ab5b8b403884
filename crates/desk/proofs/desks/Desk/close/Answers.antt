use Rattle.std.proofs.Common.{arith, ◌++◌, map, All, ap, subst, sym, ◌∙◌}
use Rattle.desk.specs.declared.views.Share.{Share}
use Rattle.desk.specs.Calls.{AreCallsOf}
use Rattle.desk.specs.Opened.{terms_of}
use Rattle.desk.specs.Views.{StartsWith}
use Rattle.desk.proofs.Meetings.{notes}
use Rattle.desk.proofs.desks.Desk.close.Goals as goal

pub split_seat-requires : goal.split_seat-requires
split_seat-requires g c = let seat = c.gather-seat.ensures.seat in let words = c.into_table-table.ensures.sized.0.words in (
  seat.0.table_is,
  omega (arith, words),
  notes g.K.Kept.listed g.K.Kept.spare g.K.Kept.tag (terms_of g.K.Kept.listed g.K.Kept.tag c.into_table-table.result.shared.key) _ _ seat.1.idle,
)

pub returns-clause-ok : goal.returns-clause-ok
returns-clause-ok g c =
    let home = c.take_home-kept.ensures in let all = c.gather-seat.ensures.all in let cut = c.split_seat.ensures.2 in let history = g.K.Kept.listed c.take_home-kept.result in record {
      news = home.news;
      history_is = home.whole ∙ ap (λ t. t.start ++ home.news) (sym c.into_table-table.ensures.terms);
      calls = subst (AreCallsOf home.news) (ap (λ m. map (λ (s : Share g.row.K-Entry.Denot). s.mine) m.0.shares) cut ∙ all.calls) home.calls;
      seen = all.seen history (subst (λ m. StartsWith history m.0.seen) cut home.seen) (subst (λ m. All (StartsWith history) m.0.beside) cut home.beside);
    }
