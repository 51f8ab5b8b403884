use Rattle.std.proofs.Common.{◌≡◌, ◌∙◌, [], ◌∷◌, ◌++◌, sym, ap, subst}
use Rattle.std.proofs.lemmas.List.Elements.{filter_map-append}
use Rattle.group_model.specs.declared.entries.Entry.{Entry}
use Rattle.server_steps.specs.Entries.{noted}
use Rattle.register_workers.specs.Private.Requests.{Tells, asked_of}
use Rattle.register_workers.specs.Private.Seats.{Seated}
use Rattle.group_steps.specs.Shows.{pair_shown, pairs_shown}
use Rattle.register_workers.proofs.SeatLemmas.{since_more}
use Rattle.register_workers.proofs.desk_books.DeskBookKept.take.Goals as goal

pub invariant_of-self : goal.invariant_of-self
invariant_of-self g c =
    let e = c.entry.result in
    let answer = c.served-answer.result in
    let before = c.self.inside.entries.items in
    let is : e ≡ noted (asked_of c.args.event.request) answer (g.R.Draws.place_of c.self.inside.server.core.draws) =
    c.entry.ensures ∙ ap (λ asked. noted asked answer c.draws_at-place.result) c.into_asked.ensures
    ∙ ap (noted (asked_of c.args.event.request) answer) c.draws_at-place.ensures in
    record {
      one_board = c.meet.ensures.publisher.0 ∙ c.publish.ensures.board ∙ c.self.invariant.one_board;
      shown = c.meet.ensures.publisher.1 ∙ c.publish.ensures.pairs e (ap (λ (x : Entry). x.answer) is)
          ∙ ap (λ pairs. pairs ++ pairs_shown (e ∷ [])) c.self.invariant.shown
          ∙ sym (filter_map-append (λ (x : Entry). pair_shown x.answer) before (e ∷ [])) ∙ ap pairs_shown (sym c.add.ensures.items);
      since = since_more g.D.Disk g.G.Signer g.R.Draws g.M.Began.start c.self.inside.server c.served-answer.new.server before c.add.new.self.items
          (asked_of c.args.event.request) answer e c.one_more_is_served.ensures c.self.invariant.since c.served-answer.ensures is c.add.ensures.items;
    }

pub returns-clause-entry : goal.returns-clause-entry
returns-clause-entry g c =
    let e = c.entry.result in
    let before = c.self.inside.entries.items in
    let same : before ≡ c.args.self.now.entries = ap (λ (v : Seated g.row.D.Denot g.row.G.Denot g.row.R.Denot). v.entries) c.self.view_is in (
      e,
      c.add.ensures.items ∙ ap (λ front. front ++ e ∷ []) same,
      (
        ap (λ (x : Entry). x.asked) c.entry.ensures ∙ c.into_asked.ensures,
        subst (λ answer. Tells answer c.told_by-told.result) (sym (ap (λ (x : Entry). x.answer) c.entry.ensures)) c.told_by-told.ensures,
        c.meet.ensures.board,
        c.meet.ensures.seen ∙ c.publish.ensures.pairs e (ap (λ (x : Entry). x.answer) c.entry.ensures)
            ∙ ap (λ pairs. pairs ++ pairs_shown (e ∷ [])) c.self.invariant.shown
            ∙ sym (filter_map-append (λ (x : Entry). pair_shown x.answer) before (e ∷ [])) ∙ ap (λ front. pairs_shown (front ++ e ∷ [])) same,
        c.meet.ensures.before,
      ),
    )
