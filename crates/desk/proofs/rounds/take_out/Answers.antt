use Rattle.std.proofs.Common.{arith, ◌≡◌, ℕ, ◌<◌, List, [], ◌∷◌, length, Option, Some, None, ap, subst, sym, ◌∙◌}
use Rattle.atomic_table.specs.Table.{rest}
use Rattle.desk.specs.declared.views.Phase.TheVariants.{Serves}
use Rattle.desk.specs.declared.views.Terms.{Terms}
use Rattle.desk.specs.Opened.{terms_of}
use Rattle.desk.specs.Views.{StartsWith}
use Rattle.desk.proofs.Steps.{reads}
use Rattle.desk.proofs.rounds.take_out.Goals as goal

abbrev first_held : {S : Type 0} → S → List (ℕ × S) → S
first_held other [] = other
first_held other (held ∷ others) = held.1

abbrev some_or : {K : Type 0} → K → Option K → K
some_or other None = other
some_or other (Some kept) = kept

pub exchange-requires : goal.exchange-requires
exchange-requires g c =
    let out = c.wait_for.ensures.1 in
    let hand : c.wait_for.new.seat.me.1 ≡ (0, Some out.kept) ∷ [] = ap (λ m. m.1) out.seat ∙ ap (λ m. (0, Some out.kept) ∷ m.1) c.draw-ticket.ensures.2.me_is in (
      c.wait_for.ensures.2 ∙ (c.draw-ticket.ensures.2.table_stays ∙ c.requires.seat.table_is),
      (Some out.kept, hand ∙ ap (λ held. (0, Some out.kept) ∷ rest held) (sym hand)),
    )

pub load-place-requires : goal.load-place-requires
load-place-requires g c =
    let out = c.wait_for.ensures.1 in let words = c.requires.table.words in let hole = c.exchange.ensures.3 in (
      c.exchange.ensures.0 ∙ (c.wait_for.ensures.2 ∙ (c.draw-ticket.ensures.2.table_stays ∙ c.requires.seat.table_is)),
      omega (arith, words),
      reads g.K.Kept.listed g.K.Kept.spare g.K.Kept.tag (terms_of g.K.Kept.listed g.K.Kept.tag c.args.top.now.key) _ _ _ c.wait_for.ensures.0 (g.K.Kept.spare out.kept)
          (ap (λ m. m.0.phase) hole ∙ ap (λ m. m.0.phase) out.seat) (ap (λ m. m.0.terms) hole ∙ (ap (λ m. m.0.terms) out.seat ∙ (ap (λ m. m.0.terms) c.draw-ticket.ensures.2.me_is ∙ c.requires.seat.told))),
    )

pub returns : goal.returns
returns g c =
    let out = c.wait_for.ensures.1 in let own = c.wait_for.ensures.0 in let drawn = c.draw-ticket.ensures.2 in let hole = c.exchange.ensures.3 in let was = c.args.seat.now.me.0 in
    let terms : Terms g.row.K-Entry.Denot g.row.K-Tag.Denot = terms_of g.K.Kept.listed g.K.Kept.tag c.args.top.now.key in
    let told : c.draw-ticket.new.seat.me.0.terms ≡ Some terms = ap (λ m. m.0.terms) drawn.me_is ∙ c.requires.seat.told in
    let told' : c.wait_for.new.seat.me.0.terms ≡ Some terms = ap (λ m. m.0.terms) out.seat ∙ told in
    let hand : (0, c.exchange.result) ∷ rest c.wait_for.new.seat.me.1 ≡ (0, Some out.kept) ∷ c.draw-ticket.new.seat.me.1 = sym c.exchange.ensures.2 ∙ ap (λ m. m.1) out.seat in
    let same : Some out.kept ≡ Some c.unwrap-kept.result = sym (ap (first_held c.exchange.result) hand) ∙ c.unwrap-kept.ensures in
    let kept : out.kept ≡ c.unwrap-kept.result = ap (some_or out.kept) same in
    let history = ap g.K.Kept.listed kept in record {
      ticket = own;
      is_seat = record {
        table_stays = c.load-place.ensures.0 ∙ (c.exchange.ensures.0 ∙ (c.wait_for.ensures.2 ∙ drawn.table_stays));
        same = c.load-place.ensures.1 ∙ (c.exchange.ensures.1 ∙ (c.wait_for.ensures.3 ∙ drawn.same));
        me_is = c.load-place.ensures.2.0 ∙ (hole ∙ ((λ i. ((out.seat i).0, (0, None) ∷ rest (out.seat i).1)) ∙ ((λ i. (record (drawn.me_is i).0 { phase = Serves own (g.K.Kept.spare out.kept); seen = g.K.Kept.listed out.kept }, (0, None) ∷ (drawn.me_is i).1))
            ∙ (λ i. (record was { phase = Serves own (g.K.Kept.spare (kept i)); seen = g.K.Kept.listed (kept i) }, (0, None) ∷ [])))));
      };
      goes_on = subst (λ m. StartsWith (g.K.Kept.listed c.unwrap-kept.result) m.0.seen) drawn.me_is (subst (λ l. StartsWith l c.draw-ticket.new.seat.me.0.seen) history out.goes_on);
      next = ap (λ l. length l) (sym history) ∙ (sym (ap (λ m. length m.0.seen) out.seat) ∙ (sym (ap (λ m. length m.0.seen) hole) ∙ c.load-place.ensures.2.1 terms (ap (λ m. m.0.terms) hole ∙ told')));
      roomy = subst (λ k. 0 < g.K.Kept.spare k) kept out.roomy;
      tagged = ap g.K.Kept.tag (sym kept) ∙ out.tagged terms told;
    }
