-- What a history tells of who derives which traffic key.
use Rattle.std.proofs.Common.{◌≡◌, ℕ, ◌≤◌, Bool, true, false, cond, ltb, leb, ◌&&◌, List, [], ◌∷◌, map, sym, refl, subst, arith}
use Rattle.std.specs.Prelude.{Contains}
use Rattle.std.specs.List.{filter, flat_map, list_any}
use Rattle.std.proofs.lemmas.Bool.{ltb-true, false≢true}
use Rattle.std.proofs.lemmas.List.Elements.{Contains-append_right}
use Rattle.std.proofs.lemmas.Slice.Eq.{bytes_eq-Decides}
use Rattle.group_terms.specs.Names.{Name, same_name}
use Rattle.group_terms.specs.declared.changes.Change.{Change}
use Rattle.group_terms.specs.declared.keys.KeyName.TheVariants.{Traffic, Phase}
use Rattle.group_model.specs.Places.{IsValid}
use Rattle.group_model.specs.Wraps.{wraps_at}
use Rattle.group_model.specs.Derivations.{CanDerive, names_to, replies_in, replies_sent, held_names, pairs_in, pairs_sent}
use Rattle.group_model.specs.declared.entries.Entry.{Entry}
use Rattle.group_model.specs.declared.entries.SymReply.{SymReply}
use Rattle.group_model.specs.Laws.{Laws}
use Rattle.law_key_ways.specs.Laws.{Laws as Ways}
use Rattle.sym_closure.specs.Firsts.{AreAmong}
use Rattle.sym_closure.specs.Worlds.{epochs_of, world, holdings, wraps_since}
use Rattle.sym_closure.specs.Secrecy.{first_epoch}
use Rattle.sym_closure.specs.Serving.{HistoriesServeMembers, OnlyMembersDerive, RepliedMembersDerive, ServesMembers}
use Rattle.sym_closure.proofs.FirstLemmas.{no_item}
use Rattle.sym_closure.proofs.ContainLemmas.{Contains-from_filter, Contains-flat_map, Contains-from_flat_map, passes_in}
use Rattle.sym_closure.proofs.DerivationLemmas.{CanDerive-among}
use Rattle.sym_closure.proofs.MemberLemmas.{members_follow}
use Rattle.sym_closure.proofs.SecrecyLemmas.{all_in_reach}
use Rattle.sym_closure.proofs.ToldLemmas.{Tells, Tells-history}

-- the first of two tests that both pass
and_first : (a b : Bool) → (a && b) ≡ true → a ≡ true
and_first true b h = refl
and_first false b h = absurd (false≢true h)

module _ (laws : Laws) (ways : Ways) (depth : ℕ) (batches : List (List Change)) (valid : IsValid depth batches) (entry : Entry) (entries : List Entry)
    (tells : Tells (first_epoch (entry ∷ entries)) depth batches (entry ∷ entries)) where
  abbrev all : List Entry
  all = entry ∷ entries

  only : OnlyMembersDerive depth batches all
  only epoch names h =
      all_in_reach laws ways depth batches names (Traffic epoch)
      (CanDerive-among (held_names all names) (holdings depth batches names) (pairs_sent all) (world depth batches) (Traffic epoch) (tells.held names) tells.sent h)

  members : RepliedMembersDerive depth batches all
  members reply epoch c begun within through =
      let of = tells.told reply c in
      subst (λ names. CanDerive names (wraps_since depth batches reply.keyed_epoch epoch) (Traffic epoch)) (sym of.names)
      (members_follow ways depth batches of.some valid reply.keyed_epoch epoch reply.member begun within through)

  -- whoever was sent a reply holds its keys
  names_held : (names : List Name) (reply : SymReply) → Contains (replies_sent all) reply → Contains names reply.member → AreAmong reply.names (held_names all names)
  names_held names reply c ours name there =
      let at = Contains-from_flat_map (λ (entry : Entry). replies_in entry.answer) all reply c in
      let to : list_any (same_name reply.member) names ≡ true =
      passes_in (same_name reply.member) names reply.member ours ((bytes_eq-Decides reply.member reply.member).1 refl) in
      let told : Contains (names_to names reply) name = subst (λ b. Contains (cond b reply.names []) name) (sym to) there in
      Contains-append_right (map Phase names) (flat_map (λ (entry : Entry). flat_map (names_to names) (replies_in entry.answer)) all) name
      (Contains-flat_map (λ (entry : Entry). flat_map (names_to names) (replies_in entry.answer)) all at.0 name at.1
      (Contains-flat_map (names_to names) (replies_in at.0.answer) reply name at.2 told))

  -- the encryptions after an epoch were sent, where the history begins no later
  wraps_sent : (from to : ℕ) → first_epoch all ≤ from → AreAmong (wraps_since depth batches from to) (pairs_sent all)
  wraps_sent from to begun wrap c =
      let passes : ℕ → Bool = λ epoch. ltb from epoch && leb epoch to in
      let at = Contains-from_flat_map (wraps_at depth batches) (filter passes (epochs_of batches)) wrap c in
      let within = Contains-from_filter passes (epochs_of batches) at.0 at.1 in
      let after = ltb-true from at.0 (and_first (ltb from at.0) (leb at.0 to) within.1) in
      let one = tells.wraps at.0 within.0 (omega (arith, begun, after)) in
      Contains-flat_map (λ (entry : Entry). pairs_in entry.answer) all one.0 wrap one.1 (one.2 wrap at.2)

  serves_all : ServesMembers depth batches all
  serves_all = record {
    world = record { sent = tells.sent; held = tells.held };
    wraps = tells.wraps;
    only = only;
    members = members;
    by_sent = λ reply epoch c begun within through names ours.
        CanDerive-among reply.names (held_names all names) (wraps_since depth batches reply.keyed_epoch epoch) (pairs_sent all) (Traffic epoch)
        (names_held names reply c ours) (wraps_sent reply.keyed_epoch epoch (tells.told reply c).late) (members reply epoch c begun within through);
  }

-- nothing was asked
serves_none : (laws : Laws) (ways : Ways) (depth : ℕ) → ServesMembers depth [] []
serves_none laws ways depth = record {
  world = record {
    sent = λ pair c. absurd (no_item pair c);
    held = λ coalition name c. c;
  };
  wraps = λ epoch within late. absurd (no_item epoch within);
  only = λ epoch names h.
      all_in_reach laws ways depth [] names (Traffic epoch)
      (CanDerive-among (held_names [] names) (holdings depth [] names) [] (world depth []) (Traffic epoch) (λ name c. c) (λ pair c. absurd (no_item pair c)) h);
  members = λ reply epoch c begun within through. absurd (no_item reply c);
  by_sent = λ reply epoch c begun within through names ours. absurd (no_item reply c);
}

pub serves : (laws : Laws) (ways : Ways) → HistoriesServeMembers
serves laws ways depth batches [] valid leaves = subst (λ batches. ServesMembers depth batches []) (sym leaves) (serves_none laws ways depth)
serves laws ways depth batches (entry ∷ entries) valid leaves =
    serves_all laws ways depth batches valid entry entries
    (subst (λ first. Tells first depth batches (entry ∷ entries)) (sym leaves.1.found) (Tells-history laws depth entry entries leaves.0 batches leaves.1 leaves.2))
