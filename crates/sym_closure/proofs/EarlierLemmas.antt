-- What earlier runs gave and sent is part of the same world.
use Rattle.std.proofs.Common.{ℕ, List, ◌++◌, map, take, subst, inl, inr}
use Rattle.std.specs.Prelude.{Contains}
use Rattle.std.specs.List.{flat_map}
use Rattle.std.proofs.lemmas.List.Concat.{flat_map-append}
use Rattle.std.proofs.lemmas.List.Elements.{Contains-append_cases, Contains-append_left, Contains-append_right}
use Rattle.group_terms.specs.Names.{Name}
use Rattle.group_terms.specs.declared.changes.Change.{Change}
use Rattle.group_terms.specs.declared.keys.KeyName.{KeyName}
use Rattle.group_terms.specs.declared.keys.KeyName.TheVariants.{Phase, Traffic}
use Rattle.group_model.specs.Derivations.{held_names, names_to, pairs_in, pairs_sent, replies_in}
use Rattle.group_model.specs.Laws.{Laws}
use Rattle.group_model.specs.declared.entries.Entry.{Entry}
use Rattle.law_key_ways.specs.Laws.{Laws as Ways}
use Rattle.sym_closure.specs.Firsts.{AreAmong}
use Rattle.sym_closure.specs.Serving.{EarlierRunsServeNobodyElse, IsPartOfWorld, OnlyMembersDerive}
use Rattle.sym_closure.specs.Worlds.{holdings, world}
use Rattle.sym_closure.proofs.DerivationLemmas.{CanDerive-among}
use Rattle.sym_closure.proofs.PrefixLemmas.{holdings-take, world-take}
use Rattle.sym_closure.proofs.SecrecyLemmas.{all_in_reach}

-- what both parts of a list have is all that it has
parts_among : {X Y : Type 0} (f : X → List Y) (front later : List X) (all : List Y) → AreAmong (flat_map f front) all → AreAmong (flat_map f later) all
    → AreAmong (flat_map f (front ++ later)) all
parts_among f front later all first second y c =
    elim (Contains-append_cases (flat_map f front) (flat_map f later) y (subst (λ list. Contains list y) (flat_map-append f front later) c)) [
      | inl old ↦ first y old
      | inr new ↦ second y new
    ]

module _ (laws : Laws) (ways : Ways) (depth : ℕ) (batches : List (List Change)) where
  -- from a part of the world only members derive
  only_of : (entries : List Entry) → IsPartOfWorld depth batches entries → OnlyMembersDerive depth batches entries
  only_of entries part epoch names h =
      all_in_reach laws ways depth batches names (Traffic epoch)
      (CanDerive-among (held_names entries names) (holdings depth batches names) (pairs_sent entries) (world depth batches) (Traffic epoch)
      (part.held names) part.sent h)

  module _ (n : ℕ) (earlier entries : List Entry) (early : IsPartOfWorld depth (take n batches) earlier) (part : IsPartOfWorld depth batches entries) where
    abbrev told : List Name → Entry → List KeyName
    told coalition entry = flat_map (names_to coalition) (replies_in entry.answer)

    held_both : (coalition : List Name) → AreAmong (held_names (earlier ++ entries) coalition) (holdings depth batches coalition)
    held_both coalition name c =
        elim (Contains-append_cases (map Phase coalition) (flat_map (told coalition) (earlier ++ entries)) name c) [
          | inl phase ↦ part.held coalition name (Contains-append_left (map Phase coalition) (flat_map (told coalition) entries) name phase)
          | inr given ↦ parts_among (told coalition) earlier entries (holdings depth batches coalition)
              (λ key k. holdings-take laws depth n batches coalition key
              (early.held coalition key (Contains-append_right (map Phase coalition) (flat_map (told coalition) earlier) key k)))
              (λ key k. part.held coalition key (Contains-append_right (map Phase coalition) (flat_map (told coalition) entries) key k)) name given
        ]

    both : IsPartOfWorld depth batches (earlier ++ entries)
    both = record {
      sent = parts_among (λ (entry : Entry). pairs_in entry.answer) earlier entries (world depth batches)
          (λ pair k. world-take laws depth n batches pair (early.sent pair k)) part.sent;
      held = held_both;
    }

pub earlier_too : (laws : Laws) (ways : Ways) → EarlierRunsServeNobodyElse
earlier_too laws ways depth batches entries part n earlier early =
    let all = both laws ways depth batches n earlier entries early part in (all, only_of laws ways depth batches (earlier ++ entries) all)
