use Rattle.std.proofs.Common.{subst, sym, take}
use Rattle.std.proofs.lemmas.List.{take_all}
use Rattle.group_run.specs.Private.Noted.{AreNoted, WereSent}
use Rattle.group_run.specs.Private.Turned.{PushesFit, IsNoOpening}
use Rattle.group_run.proofs.NoteLemmas.{here, later, room_here, room_later, take_is, taken}
use Rattle.group_run.proofs.sending.note_turns.Goals as goal

pub note_turn-requires-clause-room : goal.note_turn-requires-clause-room
note_turn-requires-clause-room c =
    room_here c.args.entries.now c.index-entries-place.result c.loop-place.place c.loop-place-test.true c.index-entries-place.is c.loop-place.pushes.spare
    c.loop-place.invariant.room

pub note_turn-requires-clause-fits : goal.note_turn-requires-clause-fits
note_turn-requires-clause-fits c =
    here c.args.entries.now c.index-entries-place.result c.loop-place.place c.loop-place-test.true c.index-entries-place.is PushesFit
    c.loop-place.invariant.fits

pub note_turn-requires-clause-no_opening : goal.note_turn-requires-clause-no_opening
note_turn-requires-clause-no_opening c =
    here c.args.entries.now c.index-entries-place.result c.loop-place.place c.loop-place-test.true c.index-entries-place.is IsNoOpening
    c.loop-place.invariant.no_opening

pub loop-place-preserved : goal.loop-place-preserved
loop-place-preserved c =
    let entries = c.args.entries.now in
    let entry = c.index-entries-place.result in
    let place = c.loop-place.place in
    let less = c.loop-place-test.true in
    let is = c.index-entries-place.is in
    let more = sym (take_is entries entry place less is) in
    record {
      fits = later entries entry place less is PushesFit c.loop-place.invariant.fits;
      no_opening = later entries entry place less is IsNoOpening c.loop-place.invariant.no_opening;
      room = room_later entries entry place less is c.loop-place.pushes.spare c.note_turn.new.pushes.spare c.loop-place.invariant.room c.note_turn.ensures.spare;
      noted = λ before. subst (AreNoted c.note_turn.new.pushes.items) more
          (c.note_turn.ensures.noted (take place entries) (taken entries entry place less is) (c.loop-place.invariant.noted before));
      sent = λ before. subst (WereSent c.note_turn.new.pushes.items) more
          (c.note_turn.ensures.sent (take place entries) (taken entries entry place less is) (c.loop-place.invariant.sent before));
    }

pub returns : goal.returns
returns c =
    let all = take_all c.loop-place.place c.args.entries.now c.loop-place-test.false in
    record {
      noted = λ before. subst (AreNoted c.loop-place.pushes.items) all (c.loop-place.invariant.noted before);
      sent = λ before. subst (WereSent c.loop-place.pushes.items) all (c.loop-place.invariant.sent before);
    }
