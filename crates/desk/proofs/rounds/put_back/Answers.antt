use Rattle.std.proofs.Common.{arith, ◌≡◌, ◌-◌, [], ◌∷◌, ◌++◌, length, Some, ap, sym, ◌∙◌}
use Rattle.atomic_table.specs.Table.{rest}
use Rattle.desk.specs.declared.views.Phase.TheVariants.{Idle}
use Rattle.desk.specs.Opened.{terms_of}
use Rattle.desk.specs.Plays.{in_phase, counted_view}
use Rattle.desk.proofs.Steps.{counts, passes_on}
use Rattle.desk.proofs.rounds.put_back.Goals as goal

pub fetch_add-place-requires : goal.fetch_add-place-requires
fetch_add-place-requires g c =
    let out = c.requires.out in let player = c.requires.player.2 in
    let words = c.requires.table.words in let short = c.requires.player.1 in let count = player.count in
    let now : c.exchange-hole.new.seat.me ≡ (c.args.seat.now.me.0, (0, Some c.args.kept) ∷ []) = c.exchange-hole.ensures.3 ∙ ap (λ held. (c.args.seat.now.me.0, (0, Some c.args.kept) ∷ rest held)) out.hand in (
      c.exchange-hole.ensures.0 ∙ c.requires.seat.table_is,
      omega (arith, words),
      counts g.K.Kept.listed g.K.Kept.spare g.K.Kept.tag (terms_of g.K.Kept.listed g.K.Kept.tag c.args.top.now.key) _ _ _ c.args.kept out.ticket out.room out.entry player.share c.requires.table.few c.requires.table.short
          (ap (λ m. m.1) now) (ap (λ m. m.0.phase) now ∙ out.serves) (out.entered ∙ ap (λ m. m.0.seen ++ out.entry ∷ []) (sym now)) (ap (λ m. m.0.terms) now ∙ c.requires.seat.told)
          (ap (λ m. m.0.shares) now ∙ player.one) (omega (arith, short, count)),
    )

pub fetch_add-served-requires : goal.fetch_add-served-requires
fetch_add-served-requires g c =
    let out = c.requires.out in let words = c.requires.table.words in let roomy = out.roomy in
    let now : c.exchange-hole.new.seat.me ≡ (c.args.seat.now.me.0, (0, Some c.args.kept) ∷ []) = c.exchange-hole.ensures.3 ∙ ap (λ held. (c.args.seat.now.me.0, (0, Some c.args.kept) ∷ rest held)) out.hand in
    let done = c.fetch_add-place.ensures.2 c.args.kept out.ticket out.room out.entry (ap (λ m. m.1) now) (ap (λ m. m.0.phase) now ∙ out.serves) (out.entered ∙ ap (λ m. m.0.seen ++ out.entry ∷ []) (sym now)) in (
      c.fetch_add-place.ensures.0 ∙ (c.exchange-hole.ensures.0 ∙ c.requires.seat.table_is),
      omega (arith, words),
      passes_on g.K.Kept.listed g.K.Kept.spare g.K.Kept.tag (terms_of g.K.Kept.listed g.K.Kept.tag c.args.top.now.key) _ _ _ c.args.kept out.ticket (out.room - 1)
          (ap (λ m. m.1) done.0 ∙ ap (λ m. m.1) now) (ap (λ m. m.0.phase) done.0) (sym (ap (λ m. m.0.seen) done.0)) (omega (arith, roomy)) out.tagged,
    )

pub returns : goal.returns
returns g c =
    let out = c.requires.out in let place = c.fetch_add-place.result in
    let now : c.exchange-hole.new.seat.me ≡ (c.args.seat.now.me.0, (0, Some c.args.kept) ∷ []) = c.exchange-hole.ensures.3 ∙ ap (λ held. (c.args.seat.now.me.0, (0, Some c.args.kept) ∷ rest held)) out.hand in
    let done = c.fetch_add-place.ensures.2 c.args.kept out.ticket out.room out.entry (ap (λ m. m.1) now) (ap (λ m. m.0.phase) now ∙ out.serves) (out.entered ∙ ap (λ m. m.0.seen ++ out.entry ∷ []) (sym now)) in
    record {
      entry = out.entry;
      entered = out.entered;
      placed = ap (λ m. length m.0.seen) (sym now) ∙ done.1 (terms_of g.K.Kept.listed g.K.Kept.tag c.args.top.now.key) (ap (λ m. m.0.terms) now ∙ c.requires.seat.told);
      is_seat = record {
        table_stays = c.fetch_add-served.ensures.0 ∙ (c.fetch_add-place.ensures.0 ∙ c.exchange-hole.ensures.0);
        same = c.fetch_add-served.ensures.1 ∙ (c.fetch_add-place.ensures.1 ∙ c.exchange-hole.ensures.1);
        me_is = c.fetch_add-served.ensures.2 ∙ (ap (λ m. (in_phase Idle m.0, rest m.1)) done.0 ∙ ap (λ m. (in_phase Idle (counted_view g.K.Kept.listed place out.ticket out.room out.entry c.args.kept m.0), rest m.1)) now);
      };
    }
