use Rattle.std.proofs.Common.{rules, ◌≡◌, Some, None, Option, IsSome, All, ap, subst, sym, ◌∙◌}
use mathlib.Core.Option.{some-injective}
use lib.ListN.{get_elem?}
use Rattle.desk.specs.Opened.{terms_of}
use Rattle.desk.specs.Views.{StartsWith}
use Rattle.desk.proofs.Meetings.{whole}
use Rattle.desk.proofs.closes.take_home.Goals as goal

abbrev kept_or : {K : Type 0} → K → Option K → K
kept_or other None = other
kept_or other (Some kept) = kept

pub unwrap-kept-requires : goal.unwrap-kept-requires
unwrap-kept-requires g c =
    let final = c.close_with-closed.ensures.values.2 in
    let home = (whole g.K.Kept.listed g.K.Kept.spare g.K.Kept.tag (terms_of g.K.Kept.listed g.K.Kept.tag c.args.table.shared.key) final.0 final.1.0 c.args.seat.id c.args.seat.me.0 final.1.1 c.requires.seat.1.idle c.requires.all).0 in
    let found = final.4 0 (Some home.kept) (ap (λ homes. get_elem? homes 0) home.home) in
    let is : Some home.kept ≡ c.take.result = some-injective (Some home.kept) c.take.result (sym found ∙ c.take.ensures.value) in
    subst IsSome is (search rules)

pub returns : goal.returns
returns g c =
    let final = c.close_with-closed.ensures.values.2 in let rule = final.1.0 in
    let both = whole g.K.Kept.listed g.K.Kept.spare g.K.Kept.tag (terms_of g.K.Kept.listed g.K.Kept.tag c.args.table.shared.key) final.0 rule c.args.seat.id c.args.seat.me.0 final.1.1 c.requires.seat.1.idle c.requires.all in
    let home = both.0 in let known = rule.knows c.args.seat.id c.args.seat.me.0 final.1.1 in
    let found = final.4 0 (Some home.kept) (ap (λ homes. get_elem? homes 0) home.home) in
    let is : Some home.kept ≡ Some c.unwrap-kept.result = some-injective (Some home.kept) c.take.result (sym found ∙ c.take.ensures.value) ∙ c.unwrap-kept.ensures in
    let kept : home.kept ≡ c.unwrap-kept.result = ap (kept_or home.kept) is in
    let history = sym home.whole ∙ ap g.K.Kept.listed kept in record {
      news = rule.news;
      whole = sym history;
      calls = both.1;
      seen = subst (λ l. StartsWith l c.args.seat.me.0.seen) history known.seen;
      beside = subst (λ l. All (StartsWith l) c.args.seat.me.0.beside) history known.beside;
      tagged = ap g.K.Kept.tag (sym kept) ∙ home.tagged;
    }
