-- What is known of what a history sent: that it lasts while the history grows, and what it answers.
-- The search goes backwards: pairs are kept turned and the walk begins at the goal, for few keys lead to a traffic key. `CanDerive-keeps` gives both
-- directions.
use Rattle.std.proofs.Common.{◌≡◌, ℕ, ◌+◌, ◌<◌, List, [], ◌∷◌, ◌++◌, Bool, cond, map, length, take, drop, get_or, sym, refl, ap, ◌∙◌, subst}
use Rattle.std.proofs.Common.{inl, inr, arith}
use Rattle.std.specs.Prelude.{Contains, Decides}
use Rattle.std.specs.List.{flat_map, list_any}
use Rattle.std.proofs.lemmas.Bool.{cases_Bool}
use Rattle.std.proofs.lemmas.List.{append-nil, length-append, length-drop, map-append, take_all, take_more, take-append-le, get_or-drop}
use Rattle.std.proofs.lemmas.List.Concat.{flat_map-append}
use Rattle.std.proofs.lemmas.List.Elements.{Contains-append_left, Contains-append_right, Contains-append_cases, Contains-push}
use Rattle.std.proofs.lemmas.List.Elements.{Contains-push_cases}
use Rattle.std.proofs.lemmas.Slice.Eq.{bytes_eq-Decides}
use Rattle.group_terms.specs.Names.{Name, same_name}
use Rattle.group_terms.specs.declared.keys.KeyName.{KeyName}
use Rattle.group_terms.specs.declared.keys.KeyName.TheVariants.{Traffic, Phase}
use Rattle.group_terms.specs.declared.keys.Wrap.{Wrap}
use Rattle.group_model.specs.declared.entries.Entry.{Entry}
use Rattle.group_model.specs.declared.entries.SymReply.{SymReply}
use Rattle.group_model.specs.declared.entries.Answer.{Answer}
use Rattle.group_model.specs.declared.entries.Answer.TheVariants.{Batched, Datagram}
use Rattle.group_model.specs.Derivations.{CanDerive, reply_in, replies_in, held_names, names_to, reply_pairs, pairs_in, pairs_sent}
use Rattle.group_model.specs.Replies.{says_of}
use Rattle.sym_closure.specs.Firsts.{AreAmong, HasSame}
use Rattle.sym_closure.specs.Knowledge.{Known, Knows, KnowsAll}
use Rattle.sym_closure.specs.Private.Graphs.{Graph, IsClosure, keys_at, pairs_of, turned}
use Rattle.sym_closure.proofs.ContainLemmas.{Contains-map, Contains-from_map, Contains-flat_map, Contains-from_flat_map, passes_from}
use Rattle.sym_closure.proofs.DerivationLemmas.{CanDerive-among, CanDerive-by, CanDerive-held, CanDerive-keeps, IsDerivation-keeps}
use Rattle.sym_closure.proofs.FirstLemmas.{no_item, only_item, HasSame-trans, HasSame-append}

-- it lasts while the history grows
pub still_knows : (known : Known) (entries more : List Entry) → Knows known entries → Knows known (entries ++ more)
still_knows known entries more knows = record {
  begun = omega (arith, knows.begun, length-append entries more);
  sent = subst (λ front. HasSame (pairs_sent front) known.pairs) (sym (take-append-le known.count entries more knows.begun)) knows.sent;
}

-- pairs the other way round
AreAmong-turned : (pairs others : List Wrap) → AreAmong pairs others → AreAmong (map turned pairs) (map turned others)
AreAmong-turned pairs others h pair c =
    let found = Contains-from_map turned pairs pair c in
    subst (Contains (map turned others)) found.2 (Contains-map turned others found.0 (h found.0 found.1))

turned-turned : (pairs : List Wrap) → map turned (map turned pairs) ≡ pairs
turned-turned [] = refl
turned-turned (pair ∷ pairs) = ap (λ rest. pair ∷ rest) (turned-turned pairs)

-- what was taken in, and what one entry more sent
module _ (history : List Entry) (start place : ℕ) (entry : Entry) (low : place < length (drop start history))
    (is : entry ≡ get_or (drop start history) place entry) (old new : List Wrap) where
  pairs_sent-more : pairs_sent (take (start + (place + 1)) history) ≡ pairs_sent (take (start + place) history) ++ pairs_in entry.answer
  pairs_sent-more =
      let sent = λ (entry : Entry). pairs_in entry.answer in
      let at : get_or history (start + place) entry ≡ entry = sym (is ∙ get_or-drop start history place entry) in
      let within : start + place < length history = omega (arith, low, length-drop start history) in
      let next : start + (place + 1) ≡ start + place + 1 = omega arith in
      ap (λ n. pairs_sent (take n history)) next
      ∙ ap pairs_sent (take_more history (start + place) entry within ∙ ap (λ one. take (start + place) history ++ one ∷ []) at)
      ∙ flat_map-append sent (take (start + place) history) (entry ∷ [])
      ∙ ap (λ more. pairs_sent (take (start + place) history) ++ more) (append-nil (pairs_in entry.answer))

  pub takes_in : HasSame (pairs_sent (take (start + place) history)) (map turned old)
      → HasSame (old ++ map turned (pairs_in entry.answer)) new → HasSame (pairs_sent (take (start + (place + 1)) history)) (map turned new)
  takes_in before more =
      let sent = pairs_sent (take (start + place) history) in
      let added = pairs_in entry.answer in
      let both : map turned (old ++ map turned added) ≡ map turned old ++ added = map-append turned old (map turned added)
      ∙ ap (λ rest. map turned old ++ rest) (turned-turned added) in
      let same : HasSame (map turned old ++ added) (map turned new) =
      subst (λ all. HasSame all (map turned new)) both
      (AreAmong-turned (old ++ map turned added) new more.0, AreAmong-turned new (old ++ map turned added) more.1) in
      subst (λ all. HasSame all (map turned new)) (sym pairs_sent-more)
      (HasSame-trans (sent ++ added) (map turned old ++ added) (map turned new) (HasSame-append sent (map turned old) added before)
      same)

-- the keys of a reply were also sent, under the phase 1 key of its member
replied_pair : (answer : Answer) (reply : SymReply) (pair : Wrap) → Contains (replies_in answer) reply → Contains (reply_pairs reply) pair
    → Contains (pairs_in answer) pair
replied_pair (Batched output) reply pair c k = Contains-append_right output.wraps (flat_map reply_pairs (says_of output.replies)) pair
    (Contains-flat_map reply_pairs (says_of output.replies) reply pair c k)
replied_pair (Datagram octets names) reply pair c k = Contains-flat_map reply_pairs (reply_in names) reply pair c k
replied_pair answer reply pair c k = absurd (no_item reply c)

-- so what members derive from all that they hold, they derive from their phase 1 keys
module _ (entries : List Entry) (members : List Name) where
  told_key : (entry : Entry) (reply : SymReply) (name : KeyName) → Contains entries entry → Contains (replies_in entry.answer) reply
      → Contains (names_to members reply) name → CanDerive (map Phase members) (pairs_sent entries) name
  told_key entry reply name c k h = elim (cases_Bool (list_any (same_name reply.member) members)) [
    | inl ours ↦ (
        let member = passes_from (same_name reply.member) members ours in
        let same : reply.member ≡ member.0 = (bytes_eq-Decides reply.member member.0).0 member.2 in
        let pair : Wrap = record { by = Phase reply.member; gives = name } in
        let told : Contains reply.names name = subst (λ mine. Contains (cond mine reply.names []) name) ours h in
        let sent : Contains (pairs_sent entries) pair = Contains-flat_map (λ (entry : Entry). pairs_in entry.answer) entries entry pair c
        (replied_pair entry.answer reply pair k (Contains-map (λ (name : KeyName). record { by = Phase reply.member; gives = name })
        reply.names name told)) in
        let phase : Contains (map Phase members) (Phase reply.member) =
        subst (λ one. Contains (map Phase members) (Phase one)) (sym same) (Contains-map Phase members member.0 member.1) in
        CanDerive-by (map Phase members) (pairs_sent entries) pair sent
        (CanDerive-held (map Phase members) (pairs_sent entries) (Phase reply.member) phase)
        )
    | inr others ↦ absurd (no_item name (subst (λ mine. Contains (cond mine reply.names []) name) others h))
  ]

  held_key : (name : KeyName) → Contains (held_names entries members) name → CanDerive (map Phase members) (pairs_sent entries) name
  held_key name c =
      let told = λ (entry : Entry). flat_map (names_to members) (replies_in entry.answer) in
      elim (Contains-append_cases (map Phase members) (flat_map told entries) name c) [
        | inl phase ↦ CanDerive-held (map Phase members) (pairs_sent entries) name phase
        | inr replied ↦ (
            let entry = Contains-from_flat_map told entries name replied in
            let reply = Contains-from_flat_map (names_to members) (replies_in entry.0.answer) name entry.2 in
            told_key entry.0 reply.0 name entry.1 reply.1 reply.2
            )
      ]

  CanDerive-phases : (goal : KeyName) → CanDerive (held_names entries members) (pairs_sent entries) goal
      → CanDerive (map Phase members) (pairs_sent entries) goal
  CanDerive-phases goal h =
      CanDerive-keeps (held_names entries members) (pairs_sent entries) (CanDerive (map Phase members) (pairs_sent entries)) held_key
      (λ pair c k. CanDerive-by (map Phase members) (pairs_sent entries) pair c k) goal h

  CanDerive-held_names : (goal : KeyName) → CanDerive (map Phase members) (pairs_sent entries) goal
      → CanDerive (held_names entries members) (pairs_sent entries) goal
  CanDerive-held_names goal h =
      let told = λ (entry : Entry). flat_map (names_to members) (replies_in entry.answer) in
      CanDerive-among (map Phase members) (held_names entries members) (pairs_sent entries) (pairs_sent entries) goal
      (λ name c. Contains-append_left (map Phase members) (flat_map told entries) name c) (λ pair c. c) h

-- the keys that are reached from a goal by the pairs the other way round
module _ (graph : Graph) (sought : KeyName) (order : List ℕ) (closure : IsClosure graph (sought ∷ []) order) where
  -- from each of them it follows
  leads_on : (name : KeyName) → Contains (keys_at graph.keys order) name → (have : List KeyName)
      → CanDerive have (map turned (pairs_of graph)) name → CanDerive have (map turned (pairs_of graph)) sought
  leads_on = IsDerivation-keeps (sought ∷ []) (pairs_of graph)
      (λ name. (have : List KeyName) → CanDerive have (map turned (pairs_of graph)) name
      → CanDerive have (map turned (pairs_of graph)) sought)
      (λ name c have h. subst (CanDerive have (map turned (pairs_of graph))) (sym (only_item sought name c)) h)
      (λ pair c before have h. before have (CanDerive-by have (map turned (pairs_of graph)) (turned pair)
      (Contains-map turned (pairs_of graph) pair c) h))
      (keys_at graph.keys order) closure.derivation

  -- and who derives it holds one of them
  begins_at : (have : List KeyName) → (Contains have sought → ⊥) → CanDerive have (map turned (pairs_of graph)) sought
      → (name : KeyName) × Contains have name × Contains (keys_at graph.keys order) name
  begins_at have other h =
      let names = keys_at graph.keys order in
      CanDerive-keeps have (map turned (pairs_of graph)) (λ key. Contains (names ++ sought ∷ []) key
      → (name : KeyName) × Contains have name × Contains names name)
      (λ key held there. elim (Contains-push_cases names sought key there) [
        | inl reached ↦ (key, held, reached)
        | inr same ↦ absurd (other (subst (Contains have) (sym same) held))
      ])
      (λ pair c before there.
      let found = Contains-from_map turned (pairs_of graph) pair c in
      let by : Contains (names ++ sought ∷ []) found.0.by =
      subst (Contains (names ++ sought ∷ [])) (sym (ap (λ (one : Wrap). one.gives) found.2)) there in
      before (subst (Contains (names ++ sought ∷ [])) (ap (λ (one : Wrap). one.by) found.2) (closure.closed found.0 found.1 by)))
      sought h (Contains-push names sought)

-- whether members derive a traffic key, by all that a history sent
pub answers : (known : Known) (entries : List Entry) → KnowsAll known entries → (graph : Graph) → known.pairs ≡ map turned (pairs_of graph)
    → (epoch : ℕ) (order : List ℕ) → IsClosure graph (Traffic epoch ∷ []) order → (members : List Name) (answer : Bool)
    → Decides answer ((member : Name) × Contains members member × Contains (keys_at graph.keys order) (Phase member))
    → Decides answer (CanDerive (held_names entries members) (pairs_sent entries) (Traffic epoch))
answers known entries knows graph is epoch order closure members answer decides =
    let phases = map Phase members in
    let pairs = map turned (pairs_of graph) in
    let whole : pairs_sent (take known.count entries) ≡ pairs_sent entries =
    ap pairs_sent (take_all known.count entries (omega (arith, knows.whole))) in
    let same : HasSame (pairs_sent entries) pairs = subst (HasSame (pairs_sent entries)) is
    (subst (λ sent. HasSame sent known.pairs) whole knows.knows.sent) in (
      λ h.
          let found = decides.0 h in
          let derived = leads_on graph (Traffic epoch) order closure (Phase found.0) found.2 phases
          (CanDerive-held phases pairs (Phase found.0) (Contains-map Phase members found.0 found.1)) in
          CanDerive-held_names entries members (Traffic epoch)
          (CanDerive-among phases phases pairs (pairs_sent entries) (Traffic epoch) (λ name c. c) same.1 derived),
      λ h.
          let derived = CanDerive-among phases phases (pairs_sent entries) pairs (Traffic epoch) (λ name c. c) same.0
          (CanDerive-phases entries members (Traffic epoch) h) in
          let other : Contains phases (Traffic epoch) → ⊥ =
          λ there. (let found = Contains-from_map Phase members (Traffic epoch) there in cc) in
          let first = begins_at graph (Traffic epoch) order closure phases other derived in
          let member = Contains-from_map Phase members first.0 first.1 in
          decides.1 (member.0, member.1, subst (Contains (keys_at graph.keys order)) (sym member.2) first.2),
    )
