use Rattle.std.proofs.Common.{◌≡◌, [], ◌∷◌, ◌++◌, ◌+◌, length, ap, sym, ◌∙◌}
use Rattle.std.proofs.lemmas.List.{append_cancel_left}
use Rattle.desk.specs.Seats.{after_turn}
use Rattle.desk.proofs.Steps.{last_is}
use Rattle.desk.proofs.rounds.serve.Goals as goal

pub take-answer-requires-clause-number : goal.take-answer-requires-clause-number
take-answer-requires-clause-number g c = let taken = c.take_out-kept.ensures in
    taken.next ∙ ap (λ begun. begun + c.take_out-kept.result.1) (c.requires.begun ∙ ap g.K.Kept.begun (sym taken.tagged))

pub put_back-place-requires-clause-out : goal.put_back-place-requires-clause-out
put_back-place-requires-clause-out g c = let taken = c.take_out-kept.ensures in let answered = c.take-answer.ensures in record {
  ticket = taken.ticket;
  room = g.K.Kept.spare c.take_out-kept.result.0;
  entry = answered.entry.0;
  serves = ap (λ m. m.0.phase) taken.is_seat.me_is;
  hand = ap (λ m. m.1) taken.is_seat.me_is;
  entered = answered.entry.1 ∙ ap (λ m. m.0.seen ++ answered.entry.0 ∷ []) (sym taken.is_seat.me_is);
  roomy = answered.spare;
  tagged = answered.tag ∙ taken.tagged;
}

pub returns : goal.returns
returns g c =
    let taken = c.take_out-kept.ensures in let answered = c.take-answer.ensures in let back = c.put_back-place.ensures in let entry = answered.entry.0 in
    let entered : g.K.Kept.listed c.take-answer.new.self ≡ c.take_out-kept.new.seat.me.0.seen ++ entry ∷ [] = answered.entry.1 ∙ ap (λ m. m.0.seen ++ entry ∷ []) (sym taken.is_seat.me_is) in
    let same : back.entry ≡ entry = last_is (append_cancel_left c.take_out-kept.new.seat.me.0.seen (back.entry ∷ []) (entry ∷ []) (sym back.entered ∙ entered)) in
    record {
      before = g.K.Kept.listed c.take_out-kept.result.0;
      call = record { place = c.put_back-place.result; entry = entry };
      goes_on = taken.goes_on;
      related = answered.entry.2;
      placed = ap (λ m. length m.0.seen) (sym taken.is_seat.me_is) ∙ back.placed;
      is_seat = record {
        table_stays = back.is_seat.table_stays ∙ taken.is_seat.table_stays;
        same = back.is_seat.same ∙ taken.is_seat.same;
        me_is = back.is_seat.me_is ∙ (λ i. (after_turn (answered.entry.1 i) (record { place = c.put_back-place.result; entry = same i }) (taken.is_seat.me_is i).0, []));
      };
    }
