use Rattle.std.proofs.Common.{◌≡◌, ◌∙◌, [], ◌∷◌, ◌++◌, append-nil, arith, refl, sym, ap, subst}
use Rattle.std.specs.List.{All}
use Rattle.std.proofs.lemmas.List.Elements.{All-nil}
use Rattle.group_model.specs.declared.entries.Entry.{Entry}
use Rattle.pull_sessions.specs.Sessions.{Sessions}
use Rattle.group_run.specs.Mails.{mail_in, mail_since}
use Rattle.group_run.specs.Private.Kept.{GoesToPeer, IsKept, IsOwn}
use Rattle.group_run.proofs.KeptLemmas.{none_noted, none_sent, shown_more}
use Rattle.group_run.proofs.opening.opened.Goals as goal

pub invariant_of-result : goal.invariant_of-result
invariant_of-result g c =
    let ready = c.args.ready in
    let nobody = ready.members.all in
    let server = c.args.server in
    let entry = c.entry.result in
    let same : entry.answer ≡ c.args.answer = ap (λ (e : Entry). e.answer) c.entry.ensures in
    let alone : c.add.new.self.items ≡ entry ∷ [] = c.add.ensures.items ∙ ap (λ front. front ++ entry ∷ []) ready.no_entries in
    let silent : mail_since (entry ∷ []) 0 0 ≡ [] = append-nil (mail_in entry) ∙ ap mail_in c.entry.ensures ∙ c.requires.silent in
    let none = ap (λ (sessions : Sessions). sessions.sas) c.requires.host.1.sessions ∙ c.requires.nobody in
    subst (IsKept g.D.Disk g.R.Draws server nobody (record { place = 0; taken = 0 }) c.new-sent.result c.note_pushes.new.pushes.items ready.board) (sym alone) (record {
      host = c.requires.host.0;
      is_on = c.requires.host.1;
      own = subst (All (IsOwn nobody)) (sym none) (All-nil (IsOwn nobody));
      mail = record {
        within = record { place = omega arith; taken = omega arith };
        to_peers = subst (All (GoesToPeer nobody)) (sym silent) (All-nil (GoesToPeer nobody));
      };
      knows = c.new-sent.ensures (entry ∷ []);
      noted = c.note_pushes.ensures.noted [] entry same refl (none_noted ready.pushes.items ready.no_pushes);
      sent_before = c.note_pushes.ensures.sent [] entry same refl (none_sent ready.pushes.items ready.no_pushes);
      shown = shown_more ready.board [] (entry ∷ []) ready.nothing_shown;
    })

pub returns : goal.returns
returns g c =
    let ready = c.args.ready in
    let entry = c.entry.result in
    let alone : c.add.new.self.items ≡ entry ∷ [] = c.add.ensures.items ∙ ap (λ front. front ++ entry ∷ []) ready.no_entries in
    let silent : mail_since c.add.new.self.items 0 0 ≡ [] =
    ap (λ entries. mail_since entries 0 0) alone ∙ append-nil (mail_in entry) ∙ ap mail_in c.entry.ensures ∙ c.requires.silent in
    let whole = alone ∙ ap (λ (e : Entry). e ∷ []) c.entry.ensures in
    λ i. record {
      server = c.args.server;
      members = record { all = ready.nobody i; mail = silent i; place = ready.members.place };
      entries = whole i;
    }
