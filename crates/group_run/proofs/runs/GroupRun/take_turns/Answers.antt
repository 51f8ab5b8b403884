use Rattle.std.proofs.Common.{◌≡◌, ◌∙◌, List, [], append-nil, arith, refl, sym, ap, subst, take, drop, length, false, true, MatchBool, ◌*◌, ◌≤◌}
use Rattle.std.specs.List.{All, count_by}
use Rattle.std.proofs.lemmas.List.{take_all}
use Rattle.std.proofs.lemmas.List.Elements.{All-nil}
use Rattle.group_model.specs.declared.entries.Entry.{Entry}
use Rattle.group_steps.specs.Shows.{pairs_shown}
use Rattle.group_run.specs.Private.Kept.{GoesToPeer, members_at}
use Rattle.group_run.specs.Private.Noted.{AreNoted, WereSent}
use Rattle.group_run.specs.Private.Ran.{AreUntouched, HasTurned, HaveWorked, IsOfPeer, IsSmall}
use Rattle.group_run.specs.Private.Turned.{IsNoOpening, PushesFit, made_batch}
use Rattle.group_run.specs.Views.{View}
use Rattle.member_steps.specs.Views.{members_with}
use Rattle.sym_closure.specs.Knowledge.{Knows}
use Rattle.group_run.proofs.MailLemmas.{nothing_unread_at}
use Rattle.group_run.proofs.TurningLemmas.{Laws, added_turns, few_pushes, had_before, have_ended, nobody_worked, was_ok}
use Rattle.register_workers.specs.declared.lines.BlockLine.{BlockLine}
use Rattle.work_shares.specs.Shares.{rounds}
use Rattle.group_run.proofs.runs.GroupRun.take_turns.Goals as goal

pub note_turns-requires-clause-room : goal.note_turns-requires-clause-room
note_turns-requires-clause-room g c =
    let laws : Laws g.D.Disk g.G.Signer g.R.Draws =
    record { begins = c.nothing_was_served_yet.ensures; own = c.each_line_has_its_own_turns.ensures; few = c.a_block_has_few_turns.ensures } in
    let of_peers = subst (λ (held : View g.row.D.Denot g.row.G.Denot g.row.R.Denot). All (λ (line : BlockLine). IsOfPeer held.members.all line.asked) c.args.lines)
    (sym c.self.view_is) c.requires.peers in
    let ended = have_ended g.D.Disk g.G.Signer g.R.Draws laws c.run_block-book.result.calls c.new-book.result c.run_block-book.result.book c.requires.workers.0
    c.run_block-book.ensures.block
    (λ i. (c.new-book.ensures i).server) (λ i. (c.new-book.ensures i).entries) c.into_parts-server.ensures.server c.into_parts-server.ensures.entries
    of_peers c.requires.apart (subst (All IsSmall) c.items-2.ensures c.prove_small.ensures) c.self.invariant.host c.self.invariant.is_on c.self.invariant.own in
    let left = ended.left in
    let turns : drop (length c.items-first.result.now) c.items-3.result.now ≡ left.since.news =
    ap (λ (first : List Entry). drop (length first) c.items-3.result.now) c.items-first.ensures ∙ ap (drop (length c.self.inside.entries.items)) c.items-3.ensures
    ∙ added_turns c.self.inside.entries.items left.since.news c.into_parts-server.result.2.items left.since.history in
    let room = was_ok c.reserve.result _ c.if-is_err.ensures.value c.reserve.ensures.spare in
    let most = c.most_pushes-most.ensures ∙ ap (λ n. 4 * (c.args.workers * rounds c.args.workers n)) c.len.ensures in
    subst (λ turns. 2 * count_by made_batch turns ≤ c.reserve.new.self.spare) (sym turns)
    (few_pushes left.since.news c.args.workers (rounds c.args.workers (length c.args.lines)) c.most_pushes-most.result c.reserve.new.self.spare left.few most room)

pub note_turns-requires-clause-fits : goal.note_turns-requires-clause-fits
note_turns-requires-clause-fits g c =
    let laws : Laws g.D.Disk g.G.Signer g.R.Draws =
    record { begins = c.nothing_was_served_yet.ensures; own = c.each_line_has_its_own_turns.ensures; few = c.a_block_has_few_turns.ensures } in
    let of_peers = subst (λ (held : View g.row.D.Denot g.row.G.Denot g.row.R.Denot). All (λ (line : BlockLine). IsOfPeer held.members.all line.asked) c.args.lines)
    (sym c.self.view_is) c.requires.peers in
    let ended = have_ended g.D.Disk g.G.Signer g.R.Draws laws c.run_block-book.result.calls c.new-book.result c.run_block-book.result.book c.requires.workers.0
    c.run_block-book.ensures.block
    (λ i. (c.new-book.ensures i).server) (λ i. (c.new-book.ensures i).entries) c.into_parts-server.ensures.server c.into_parts-server.ensures.entries
    of_peers c.requires.apart (subst (All IsSmall) c.items-2.ensures c.prove_small.ensures) c.self.invariant.host c.self.invariant.is_on c.self.invariant.own in
    let left = ended.left in
    let turns : drop (length c.items-first.result.now) c.items-3.result.now ≡ left.since.news =
    ap (λ (first : List Entry). drop (length first) c.items-3.result.now) c.items-first.ensures ∙ ap (drop (length c.self.inside.entries.items)) c.items-3.ensures
    ∙ added_turns c.self.inside.entries.items left.since.news c.into_parts-server.result.2.items left.since.history in
    subst (All PushesFit) (sym turns) ended.fits

pub note_turns-requires-clause-no_opening : goal.note_turns-requires-clause-no_opening
note_turns-requires-clause-no_opening g c =
    let laws : Laws g.D.Disk g.G.Signer g.R.Draws =
    record { begins = c.nothing_was_served_yet.ensures; own = c.each_line_has_its_own_turns.ensures; few = c.a_block_has_few_turns.ensures } in
    let of_peers = subst (λ (held : View g.row.D.Denot g.row.G.Denot g.row.R.Denot). All (λ (line : BlockLine). IsOfPeer held.members.all line.asked) c.args.lines)
    (sym c.self.view_is) c.requires.peers in
    let ended = have_ended g.D.Disk g.G.Signer g.R.Draws laws c.run_block-book.result.calls c.new-book.result c.run_block-book.result.book c.requires.workers.0
    c.run_block-book.ensures.block
    (λ i. (c.new-book.ensures i).server) (λ i. (c.new-book.ensures i).entries) c.into_parts-server.ensures.server c.into_parts-server.ensures.entries
    of_peers c.requires.apart (subst (All IsSmall) c.items-2.ensures c.prove_small.ensures) c.self.invariant.host c.self.invariant.is_on c.self.invariant.own in
    let left = ended.left in
    let turns : drop (length c.items-first.result.now) c.items-3.result.now ≡ left.since.news =
    ap (λ (first : List Entry). drop (length first) c.items-3.result.now) c.items-first.ensures ∙ ap (drop (length c.self.inside.entries.items)) c.items-3.ensures
    ∙ added_turns c.self.inside.entries.items left.since.news c.into_parts-server.result.2.items left.since.history in
    subst (All IsNoOpening) (sym turns) ended.no_opening

pub returns-then-is_empty : goal.returns-then-is_empty
returns-then-is_empty g c =
    let held = c.args.self in
    let begins = c.nothing_was_served_yet.ensures held.server held.entries in
    let none : c.args.lines ≡ [] = c.if-is_empty.ensures.0 refl in
    record {
      since = record { news = []; history = sym (append-nil held.entries); goes_on = begins.goes_on; each = λ host is. (host, refl, is) };
      worked = subst (λ lines. HaveWorked c.args.workers held.entries [] false lines lines) (sym none) (nobody_worked c.args.workers held.entries);
      members = refl;
      to_peers = All-nil (GoesToPeer held.members.all);
      rules = refl;
    }

pub returns-then-is_err : goal.returns-then-is_err
returns-then-is_err g c =
    let held = c.args.self in
    let begins = c.nothing_was_served_yet.ensures held.server held.entries in
    subst (λ (now : View g.row.D.Denot g.row.G.Denot g.row.R.Denot).
    HasTurned g.D.Disk g.G.Signer g.R.Draws c.args.workers true false c.args.lines c.args.lines held now) (sym c.self.view_is) (record {
      since = record { news = []; history = sym (append-nil held.entries); goes_on = begins.goes_on; each = λ host is. (host, refl, is) };
      worked = record { out = refl; none = refl; same = refl };
      members = refl;
      to_peers = All-nil (GoesToPeer held.members.all);
      rules = refl;
    })

pub invariant_of-result-2 : goal.invariant_of-result-2
invariant_of-result-2 g c =
    let run = c.self.inside in
    let kept = c.self.invariant in
    let laws : Laws g.D.Disk g.G.Signer g.R.Draws =
    record { begins = c.nothing_was_served_yet.ensures; own = c.each_line_has_its_own_turns.ensures; few = c.a_block_has_few_turns.ensures } in
    let of_peers = subst (λ (held : View g.row.D.Denot g.row.G.Denot g.row.R.Denot). All (λ (line : BlockLine). IsOfPeer held.members.all line.asked) c.args.lines)
    (sym c.self.view_is) c.requires.peers in
    let ended = have_ended g.D.Disk g.G.Signer g.R.Draws laws c.run_block-book.result.calls c.new-book.result c.run_block-book.result.book c.requires.workers.0
    c.run_block-book.ensures.block
    (λ i. (c.new-book.ensures i).server) (λ i. (c.new-book.ensures i).entries) c.into_parts-server.ensures.server c.into_parts-server.ensures.entries
    of_peers c.requires.apart (subst (All IsSmall) c.items-2.ensures c.prove_small.ensures) c.self.invariant.host c.self.invariant.is_on c.self.invariant.own in
    let left = ended.left in
    let entries = run.entries.items in
    let after = c.into_parts-server.result.2.items in
    let front : take (length c.items-first.result.now) c.items-3.result.now ≡ entries =
    ap (λ (first : List Entry). take (length first) c.items-3.result.now) c.items-first.ensures
    ∙ ap (take (length entries)) c.items-3.ensures ∙ had_before entries left.since.news after left.since.history in
    record {
      host = ended.next;
      is_on = ended.is_on;
      own = ended.own;
      mail = record {
        within = record { place = omega (arith, ap length c.items-upto.ensures); taken = omega arith };
        to_peers = subst (All (GoesToPeer run.members.all)) (sym (nothing_unread_at after c.items-upto.result.now c.items-upto.ensures))
            (All-nil (GoesToPeer run.members.all));
      };
      knows = subst (Knows run.sent) (sym left.since.history) (c.what_is_known_stays_known.ensures run.sent entries left.since.news kept.knows);
      noted = subst (AreNoted c.note_turns.new.pushes.items) c.items-3.ensures
          (c.note_turns.ensures.noted (subst (AreNoted c.reserve.new.self.items) (sym front)
          (subst (λ notes. AreNoted notes entries) (sym c.reserve.ensures.items) kept.noted)));
      sent_before = subst (WereSent c.note_turns.new.pushes.items) c.items-3.ensures
          (c.note_turns.ensures.sent (subst (WereSent c.reserve.new.self.items) (sym front)
          (subst (λ notes. WereSent notes entries) (sym c.reserve.ensures.items) kept.sent_before)));
      shown = record {
        publishes = c.into_parts-server.ensures.board ∙ c.run_block-book.ensures.board;
        reads = c.run_block-book.ensures.reader.0;
        within = omega (arith, ap length c.items-upto.ensures);
        published = c.into_parts-server.ensures.published ∙ c.into_parts-server.ensures.shown
            ∙ ap pairs_shown (sym c.into_parts-server.ensures.entries)
            ∙ ap pairs_shown (sym (ap (λ (looked : List Entry). take (length looked) after) c.items-upto.ensures ∙ take_all (length after) after (omega arith)));
      };
    }

pub returns : goal.returns
returns g c =
    let run = c.self.inside in
    let kept = c.self.invariant in
    let laws : Laws g.D.Disk g.G.Signer g.R.Draws =
    record { begins = c.nothing_was_served_yet.ensures; own = c.each_line_has_its_own_turns.ensures; few = c.a_block_has_few_turns.ensures } in
    let of_peers = subst (λ (held : View g.row.D.Denot g.row.G.Denot g.row.R.Denot). All (λ (line : BlockLine). IsOfPeer held.members.all line.asked) c.args.lines)
    (sym c.self.view_is) c.requires.peers in
    let ended = have_ended g.D.Disk g.G.Signer g.R.Draws laws c.run_block-book.result.calls c.new-book.result c.run_block-book.result.book c.requires.workers.0
    c.run_block-book.ensures.block
    (λ i. (c.new-book.ensures i).server) (λ i. (c.new-book.ensures i).entries) c.into_parts-server.ensures.server c.into_parts-server.ensures.entries
    of_peers c.requires.apart (subst (All IsSmall) c.items-2.ensures c.prove_small.ensures) c.self.invariant.host c.self.invariant.is_on c.self.invariant.own in
    let left = ended.left in
    let after = c.into_parts-server.result.2.items in
    let rest : (members_at run.members run.entries.items run.unread).mail ≡ [] =
    ap (λ (held : View g.row.D.Denot g.row.G.Denot g.row.R.Denot). held.members.mail) c.self.view_is ∙ c.requires.rest in
    let now : View g.row.D.Denot g.row.G.Denot g.row.R.Denot = record {
      server = c.into_parts-server.result.0;
      members = members_at run.members after (record { place = length c.items-upto.result.now; taken = 0 });
      entries = after;
    } in
    let mail = nothing_unread_at after c.items-upto.result.now c.items-upto.ensures ∙ sym rest in
    subst (λ (held : View g.row.D.Denot g.row.G.Denot g.row.R.Denot).
    HasTurned g.D.Disk g.G.Signer g.R.Draws c.args.workers c.run_block-book.result.memory c.is_some.result c.args.lines c.run_block-book.result.lines held now)
    c.self.view_is (record {
      since = left.since;
      worked = subst (λ ran. MatchBool ran (HaveWorked c.args.workers run.entries.items left.since.news c.run_block-book.result.memory c.args.lines c.run_block-book.result.lines)
          (AreUntouched left.since.news c.run_block-book.result.memory c.args.lines c.run_block-book.result.lines)) (sym c.is_some.ensures) left.worked;
      members = λ i. members_with run.members (mail i);
      to_peers = ended.to_peers;
      rules = ended.rules;
    })
