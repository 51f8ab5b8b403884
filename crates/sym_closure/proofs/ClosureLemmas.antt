-- Numbers that are reached, and the keys that have them.
use Rattle.std.proofs.Common.{◌≡◌, ℕ, ◌+◌, ◌<◌, ◌≤◌, List, [], ◌∷◌, ◌++◌, length, take, get_or, sym, ap, ◌∙◌, subst, inl, inr, arith}
use Rattle.std.specs.Prelude.{All, Contains}
use Rattle.std.proofs.lemmas.List.{append_assoc, length-append, map-append, take_more, take-append-le}
use Rattle.std.proofs.lemmas.List.Elements.{All-contains, Contains-append_left, Contains-append_right, Contains-append_cases}
use Rattle.std.proofs.lemmas.List.Elements.{Contains-push_cases, Contains-get_or}
use Rattle.group_terms.specs.declared.keys.KeyName.{KeyName}
use Rattle.group_terms.specs.declared.keys.KeyName.TheVariants.{Traffic}
use Rattle.group_terms.specs.declared.keys.Wrap.{Wrap}
use Rattle.group_model.specs.Derivations.{AreAtHand, IsDerivation, CanDerive}
use Rattle.sym_closure.specs.Firsts.{AreAmong}
use Rattle.sym_closure.specs.Private.Closed.{IsClosed}
use Rattle.sym_closure.specs.Private.Gains.{Gains, GrowsBy}
use Rattle.sym_closure.specs.Private.Graphs.{Graph, IsGraph, key_at, keys_at, given_by, pair_at, pairs_of}
use Rattle.sym_closure.specs.Private.Graphs.{AreReached, FollowFrom, IsClosure, IsComplete}
use Rattle.sym_closure.proofs.ContainLemmas.{Contains-map, Contains-from_map}
use Rattle.sym_closure.proofs.DerivationLemmas.{AreAtHand-then, AreAtHand-each, AreAtHand-held, CanDerive-there}
use Rattle.sym_closure.proofs.FirstLemmas.{firsts_in, firsts_of, only_item}
use Rattle.sym_closure.proofs.GraphLemmas.{Contains-pairs_of, Contains-from_pairs_of, by_below}

-- the keys that have numbers
module _ (keys : List KeyName) where
  key_there : (number : ℕ) → number < length keys → Contains keys (key_at keys number)
  key_there number low = Contains-get_or keys number (Traffic 0) low

  pub keys_there : (order : List ℕ) → All (λ number. number < length keys) order → AreAmong (keys_at keys order) keys
  keys_there order below name c =
      let found = Contains-from_map (key_at keys) order name c in
      subst (Contains keys) found.2 (key_there found.0 (All-contains (λ number. number < length keys) order found.0 below found.1))

module _ (graph : Graph) (is : IsGraph graph) where
  -- who gives a key has a number
  by_there : (pair : Wrap) → Contains (pairs_of graph) pair → Contains graph.keys pair.by
  by_there pair c =
      let found = Contains-from_pairs_of graph pair c in
      subst (Contains graph.keys) (ap (λ (one : Wrap). one.by) found.3)
      (key_there graph.keys found.0 (by_below graph is found.0 found.1 found.2))

  -- where the numbers are complete, the keys are closed
  IsClosed-keys_at : (order : List ℕ) → All (λ number. number < length graph.keys) order → IsComplete graph order
      → IsClosed (pairs_of graph) (keys_at graph.keys order)
  IsClosed-keys_at order below complete pair c k =
      let keys = graph.keys in
      let pair_is = Contains-from_pairs_of graph pair c in
      let number = Contains-from_map (key_at keys) order pair.by k in
      let low = All-contains (λ number. number < length keys) order number.0 below number.1 in
      let same : number.0 ≡ pair_is.0 =
      is.once number.0 pair_is.0 low (by_below graph is pair_is.0 pair_is.1 pair_is.2)
      (number.2 ∙ ap (λ (one : Wrap). one.by) (sym pair_is.3)) in
      subst (Contains (keys_at keys order)) (ap (λ (one : Wrap). one.gives) pair_is.3)
      (Contains-map (key_at keys) order pair_is.1 (complete pair_is.0 pair_is.1 (subst (Contains order) same number.1) pair_is.2))

  -- so they are with keys that are held and have no number, for these give none
  IsClosed-held : (have : List KeyName) (order : List ℕ) → AreReached graph have order
      → IsClosed (pairs_of graph) (keys_at graph.keys order)
      → IsClosed (pairs_of graph) (keys_at graph.keys order ++ have)
  IsClosed-held have order held closed pair c k =
      let names = keys_at graph.keys order in
      let by : Contains names pair.by = elim (Contains-append_cases names have pair.by k) [
        | inl reached ↦ reached
        | inr there ↦ held pair.by there (by_there pair c)
      ] in
      Contains-append_left names have pair.gives (closed pair c by)

-- what can be derived was reached, or is held
pub CanDerive-reached : (graph : Graph) (have : List KeyName) (order : List ℕ) → IsClosure graph have order → (goal : KeyName)
    → CanDerive have (pairs_of graph) goal → Contains (keys_at graph.keys order ++ have) goal
CanDerive-reached graph have order closure goal h =
    let names = keys_at graph.keys order in
    CanDerive-there have (pairs_of graph) (names ++ have) goal (λ name c. Contains-append_right names have name c) closure.closed h

-- one key more of those that are held, which gets in where it has a number
module _ (graph : Graph) (have : List KeyName) (place : ℕ) (key : KeyName) (low : place < length have) (is : key ≡ get_or have place key)
    (old new more : List ℕ) (grown : new ≡ old ++ more) where
  both : keys_at graph.keys new ≡ keys_at graph.keys old ++ keys_at graph.keys more
  both = ap (keys_at graph.keys) grown ∙ map-append (key_at graph.keys) old more

  pub among_more : AreAmong (keys_at graph.keys old) have → AreAmong (keys_at graph.keys more) (key ∷ [])
      → AreAmong (keys_at graph.keys new) have
  among_more before one name c =
      let there = subst (λ all. Contains all name) both c in
      elim (Contains-append_cases (keys_at graph.keys old) (keys_at graph.keys more) name there) [
        | inl earlier ↦ before name earlier
        | inr later ↦ subst (Contains have) (sym is ∙ only_item key name (one name later)) (Contains-get_or have place key low)
      ]

  pub AreReached-more : AreReached graph (take place have) old → (Contains graph.keys key → Contains (keys_at graph.keys new) key)
      → AreReached graph (take (place + 1) have) new
  AreReached-more before one name c k =
      let front : take (place + 1) have ≡ take place have ++ key ∷ [] =
      take_more have place key low ∙ ap (λ at. take place have ++ at ∷ []) (sym is) in
      elim (Contains-push_cases (take place have) key name (subst (λ all. Contains all name) front c)) [
        | inl earlier ↦
            subst (λ all. Contains all name) (sym both)
            (Contains-append_left (keys_at graph.keys old) (keys_at graph.keys more) name (before name earlier k))
        | inr same ↦ subst (Contains (keys_at graph.keys new)) same (one (subst (Contains graph.keys) (sym same) k))
      ]

-- the numbers that were added, up to a place before which all is done
pub record Closes (graph : Graph) (old order : List ℕ) (place : ℕ) : Type 0 where
  pub within : place ≤ length order
  pub grown : GrowsBy (FollowFrom graph old) old order
  pub done : (by gives : ℕ) → Contains (take place order) by → Contains (given_by graph by) gives → Contains order gives

-- one place more
module _ (graph : Graph) (old order new : List ℕ) (place number : ℕ) (before : Closes graph old order place) (low : place < length order)
    (is : number ≡ get_or order place number) (gains : Gains order (given_by graph number) new) where
  -- what is given there is at hand
  given_follow : FollowFrom graph order gains.0
  given_follow =
      let keys = graph.keys in
      let there : Contains order number = subst (Contains order) (sym is) (Contains-get_or order place number low) in
      AreAtHand-each [] (pairs_of graph) (keys_at keys order) (keys_at keys gains.0) (λ name c.
      let found = Contains-from_map (key_at keys) gains.0 name c in
      let given = firsts_of order (given_by graph number) gains.0 gains.2 found.0 found.1 in
      inr (
        pair_at keys number found.0,
        Contains-pairs_of graph number found.0 given,
        Contains-map (key_at keys) order number there,
        found.2,
      ))

  grown_more : GrowsBy (FollowFrom graph old) old new
  grown_more =
      let keys = graph.keys in
      let pairs = pairs_of graph in
      let more = before.grown.0 in
      let earlier : keys_at keys order ≡ keys_at keys old ++ keys_at keys more =
      ap (keys_at keys) before.grown.1 ∙ map-append (key_at keys) old more in
      let Follow : List KeyName → Type 0 = λ earlier. AreAtHand [] pairs earlier (keys_at keys gains.0) in
      let all = AreAtHand-then [] pairs (keys_at keys old) (keys_at keys more) (keys_at keys gains.0) before.grown.2
      (subst Follow earlier given_follow) in (
        more ++ gains.0,
        gains.1 ∙ ap (λ front. front ++ gains.0) before.grown.1 ∙ append_assoc old more gains.0,
        subst (AreAtHand [] pairs (keys_at keys old)) (sym (map-append (key_at keys) more gains.0)) all,
      )

  front : take (place + 1) new ≡ take place order ++ number ∷ []
  front =
      ap (take (place + 1)) gains.1
      ∙ take-append-le (place + 1) order gains.0 (omega (arith, low))
      ∙ take_more order place number low
      ∙ ap (λ one. take place order ++ one ∷ []) (sym is)

  done_more : (by gives : ℕ) → Contains (take (place + 1) new) by → Contains (given_by graph by) gives → Contains new gives
  done_more by gives c k =
      let cases = Contains-push_cases (take place order) number by (subst (λ all. Contains all by) front c) in
      subst (λ all. Contains all gives) (sym gains.1)
      (elim cases [
        | inl earlier ↦ Contains-append_left order gains.0 gives (before.done by gives earlier k)
        | inr here ↦ (
            let given = subst (λ at. Contains (given_by graph at) gives) (sym here) k in
            firsts_in order (given_by graph number) gains.0 gains.2 gives given
            )
      ])

  pub Closes-more : Closes graph old new (place + 1)
  Closes-more = record {
    within = omega (arith, low, ap length gains.1, length-append order gains.0);
    grown = grown_more;
    done = done_more;
  }

-- the numbers of keys that are held, and then those of all that follow, are a closure
pub IsClosure-complete : (graph : Graph) → IsGraph graph → (have : List KeyName) (start order : List ℕ)
    → All (λ number. number < length graph.keys) order → AreAmong (keys_at graph.keys start) have → AreReached graph have start
    → GrowsBy (FollowFrom graph start) start order → IsComplete graph order → IsClosure graph have order
IsClosure-complete graph is have start order below among held grown complete =
    let keys = graph.keys in
    let pairs = pairs_of graph in
    let first = keys_at keys start in
    let later = keys_at keys grown.0 in
    let both : keys_at keys order ≡ first ++ later = ap (keys_at keys) grown.1 ∙ map-append (key_at keys) start grown.0 in
    let at_hand = AreAtHand-each have pairs [] first (λ name c. inl (among name c)) in
    let there : AreReached graph have order =
    λ name c k. subst (λ all. Contains all name) (sym both) (Contains-append_left first later name (held name c k)) in
    record {
      derivation =
          subst (IsDerivation have pairs) (sym both)
          (AreAtHand-then have pairs [] first later at_hand (AreAtHand-held have pairs first later grown.2));
      held = there;
      closed = IsClosed-held graph is have order there (IsClosed-keys_at graph is order below complete);
    }
