-- Those who come in with a batch, one after the other.
use Rattle.std.proofs.Common.{◌≡◌, ℕ, Bool, false, List, [], ◌∷◌, ◌++◌, Option, None, Some, length, drop, append_assoc, refl, sym, ap, subst, ◌∙◌}
use Rattle.std.proofs.Math.Seq.{drop-append_seam}
use Rattle.std.specs.Prelude.{is_none}
use Rattle.std.specs.List.{cons_option, list_any, position}
use Rattle.std.specs.Option.{option_map}
use Rattle.std.proofs.lemmas.Bool.{or_parts}
use Rattle.std.proofs.lemmas.List.{append-nil}
use Rattle.group_terms.specs.Changes.{joiner, joiners}
use Rattle.group_terms.specs.Names.{Name}
use Rattle.group_terms.specs.declared.changes.Change.{Change}
use Rattle.group_terms.specs.declared.changes.Change.TheVariants.{In, Out}
use Rattle.group_model.specs.Places.{Holders, is_member, placed}
use Rattle.key_tree.specs.declared.marks.Seat.{Seat}
use Rattle.key_tree.specs.Marks.{seated}
use Rattle.key_tree.specs.Private.Seats.{IsLeft, IsTaken, placements, places_of}
use Rattle.tree_leaves.proofs.HolderLemmas.{placed_at, placed_nowhere}
use Rattle.key_tree.proofs.JoinedLemmas.{placements_more}
use Rattle.key_tree.proofs.SeatLemmas.{seated_more}
use Rattle.key_tree.proofs.TakenLemmas.{none_taken_yet}

-- the holders after a name got the lowest free leaf, if there was one
seated_found : (left : Holders) (seats : List Seat) (m : Name) (found : Option ℕ) → position is_none (seated left seats) ≡ found
    → seated left (seats ++ cons_option (option_map (λ i. record { place = i; holder = Some m }) found) []) ≡ placed (seated left seats) m
seated_found left seats m None none = ap (seated left) (append-nil seats) ∙ placed_nowhere (seated left seats) m none
seated_found left seats m (Some i) at = seated_more left seats (record { place = i; holder = Some m }) ∙ placed_at (seated left seats) m i at

pub goes_out : (change : Change) → ((m : Name) → change ≡ In m → ⊥) → joiner change ≡ None
goes_out (Out m) other = refl
goes_out (In m) other = absurd (other m refl)

module _ (before left : Holders) (all start : List Seat) where
  -- those who came so far, and those of these changes
  abbrev Goes : List Change → List Seat → ℕ → Type 0
  Goes changes came from =
      (list_any (is_member before) (joiners changes) ≡ false) × (came ++ placements (seated left came) (joiners changes) ≡ all) × IsTaken before left (seated left came) from (places_of came)

  -- the same of seats that begin with those that were left
  abbrev pub GoesOn : List Change → List Seat → ℕ → Type 0
  GoesOn changes seats from = (seats ≡ start ++ drop (length start) seats) × Goes changes (drop (length start) seats) from

  -- seats that are more by those who came
  with_came : (changes : List Change) (from : ℕ) (new came : List Seat) → new ≡ start ++ came → Goes changes came from → GoesOn changes new from
  with_came changes from new came is h =
      let later : drop (length start) new ≡ came = ap (drop (length start)) is ∙ drop-append_seam start came in
      (is ∙ ap (λ l. start ++ l) (sym later), subst (λ l. Goes changes l from) (sym later) h)

  pub nobody_yet : (free : List Bool) (places : List ℕ) (batch : List Change) (from : ℕ) → IsLeft before left free places → from ≡ 0
      → list_any (is_member before) (joiners batch) ≡ false → placements left (joiners batch) ≡ all → GoesOn batch start from
  nobody_yet free places batch from h first strangers is =
      with_came batch from start [] (sym (append-nil start)) (strangers, is, none_taken_yet before left free places h from first)

  module _ (batch rest : List Change) (seats : List Seat) where
    abbrev came : List Seat
    came = drop (length start) seats

    pub somebody_came : (m : Name) (from next : ℕ) (new : List Seat) → batch ≡ In m ∷ rest
        → (is_member before m ≡ false → IsTaken before left (seated left came) from (places_of came)
        → (new ≡ seats ++ placements (seated left came) (m ∷ []))
        × IsTaken before left (seated left (came ++ placements (seated left came) (m ∷ []))) next (places_of (came ++ placements (seated left came) (m ∷ []))))
        → GoesOn batch seats from → GoesOn rest new next
    somebody_came m from next new is taken h =
        let strangers = or_parts (is_member before m) (list_any (is_member before) (joiners rest)) (ap (λ changes. list_any (is_member before) (joiners changes)) (sym is) ∙ h.1.0) in
        let found : List Seat = placements (seated left came) (m ∷ []) in
        let both = taken strangers.0 h.1.2 in
        let now : seated left (came ++ found) ≡ placed (seated left came) m = seated_found left came m (position is_none (seated left came)) refl in
        with_came rest next new (came ++ found) (both.0 ∙ ap (λ l. l ++ found) h.0 ∙ append_assoc start came found) (
          strangers.1,
          (λ j. (came ++ found) ++ placements (now j) (joiners rest))
              ∙ append_assoc came found (placements (placed (seated left came) m) (joiners rest))
              ∙ ap (λ more. came ++ more) (sym (placements_more (seated left came) m (joiners rest)))
              ∙ ap (λ changes. came ++ placements (seated left came) (joiners changes)) (sym is) ∙ h.1.1,
          both.1,
        )

    pub nobody_came : (change : Change) (from : ℕ) → batch ≡ change ∷ rest → joiner change ≡ None → GoesOn batch seats from → GoesOn rest seats from
    nobody_came change from is none h =
        let same : joiners batch ≡ joiners rest = ap joiners is ∙ ap (λ found. cons_option found (joiners rest)) none in (
          h.0,
          (
            ap (list_any (is_member before)) (sym same) ∙ h.1.0,
            ap (λ names. came ++ placements (seated left came) names) (sym same) ∙ h.1.1,
            h.1.2,
          ),
        )

    pub all_came : (from : ℕ) → batch ≡ [] → GoesOn batch seats from → (seats ≡ start ++ all) × IsTaken before left (seated left all) from (places_of all)
    all_came from is h =
        let whole : came ≡ all = sym (append-nil came) ∙ ap (λ changes. came ++ placements (seated left came) (joiners changes)) (sym is) ∙ h.1.1 in
        (h.0 ∙ ap (λ l. start ++ l) whole, subst (λ l. IsTaken before left (seated left l) from (places_of l)) whole h.1.2)
