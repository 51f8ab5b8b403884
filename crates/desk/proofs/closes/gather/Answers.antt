use Rattle.std.proofs.Common.{arith, ◌≡◌, List, [], ◌∷◌, ◌++◌, map, All, Some, ap, subst, sym, refl, ◌∙◌, append_assoc}
use Rattle.std.proofs.lemmas.List.Elements.{All-cons, All-pop}
use Rattle.desk.specs.declared.calls.Call.{Call}
use Rattle.desk.specs.declared.views.Share.{Share}
use Rattle.desk.specs.Opened.{terms_of}
use Rattle.desk.specs.Views.{Holder, StartsWith, first_mine}
use Rattle.desk.proofs.Meetings.{joins}
use Rattle.desk.proofs.closes.gather.Goals as goal

pub join_seat-requires : goal.join_seat-requires
join_seat-requires g c =
    let inv = c.loop-pass.invariant in let words = c.requires.table.words in let pass = c.into_seat.ensures in
    let last : c.loop-pass.passes ≡ c.pop-in-loop-pass.new.self ++ c.in-Some.pass ∷ [] = c.in-Some.ensures.last in
    let own = (All-pop (λ (p : Holder g.row.K-Entry.Denot g.row.K-Tag.Denot). p.desk ≡ record { table = c.args.top.now.table_id; told = Some (terms_of g.K.Kept.listed g.K.Kept.tag c.args.top.now.key) })
    c.loop-pass.passes c.pop-in-loop-pass.new.self (Some c.in-Some.pass) last inv.5).1 in (
      inv.3.table_is,
      sym (ap (λ p. p.desk.table) pass.pass) ∙ ap (λ d. d.table) own,
      pass.seat.rest.empty,
      omega (arith, words),
      joins g.K.Kept.listed g.K.Kept.spare g.K.Kept.tag (terms_of g.K.Kept.listed g.K.Kept.tag c.args.top.now.key) _ _ _ _ inv.4.idle pass.seat.rest.idle,
    )

pub loop-pass-preserved : goal.loop-pass-preserved
loop-pass-preserved g c =
    let inv = c.loop-pass.invariant in let pass = c.into_seat.ensures in let other = c.into_seat.result.me.0 in let seat = c.loop-pass.seat.me.0 in let after = c.join_seat.new.seat.me in
    let last : c.loop-pass.passes ≡ c.pop-in-loop-pass.new.self ++ c.in-Some.pass ∷ [] = c.in-Some.ensures.last in
    let joined = c.join_seat.ensures.2 in let share = pass.seat.player.share in
    let mine : share.mine ≡ c.in-Some.pass.mine = sym (ap first_mine pass.seat.player.one) ∙ sym (ap (λ p. p.mine) pass.pass) in
    let calls : List (Share g.row.K-Entry.Denot) → List (List (Call g.row.K-Entry.Denot)) = λ shares. map (λ (s : Share g.row.K-Entry.Denot). s.mine) shares in (
      c.in-Some.pass ∷ inv.0,
      inv.1 ∙ (ap (λ passes. passes ++ inv.0) last ∙ append_assoc c.pop-in-loop-pass.new.self (c.in-Some.pass ∷ []) inv.0),
      record {
        calls = ap (λ m. calls m.0.shares) joined ∙ (ap (λ shares. calls (shares ++ seat.shares)) pass.seat.player.one ∙ (λ i. mine i ∷ inv.2.calls i));
        seen = λ history starts besides.
            let kept : All (StartsWith history) (seat.beside ++ other.seen ∷ []) = subst (λ m. All (StartsWith history) m.0.beside) joined besides in
            let parts = All-pop (StartsWith history) (seat.beside ++ other.seen ∷ []) seat.beside (Some other.seen) refl kept in
            All-cons (λ (p : Holder g.row.K-Entry.Denot g.row.K-Tag.Denot). StartsWith history p.seen) c.in-Some.pass inv.0 (subst (λ p. StartsWith history p.seen) (sym pass.pass) parts.1)
            (inv.2.seen history (subst (λ m. StartsWith history m.0.seen) joined starts) parts.0);
      },
      record { table_is = c.join_seat.ensures.0 ∙ inv.3.table_is; told = ap (λ m. m.0.terms) joined ∙ inv.3.told },
      record { idle = ap (λ m. m.0.phase) joined ∙ inv.4.idle; empty = ap (λ m. m.1) joined ∙ inv.4.empty },
      (All-pop (λ (p : Holder g.row.K-Entry.Denot g.row.K-Tag.Denot). p.desk ≡ record { table = c.args.top.now.table_id; told = Some (terms_of g.K.Kept.listed g.K.Kept.tag c.args.top.now.key) })
          c.loop-pass.passes c.pop-in-loop-pass.new.self (Some c.in-Some.pass) last inv.5).0,
    )
