-- The members who come in with a batch, and what they are told.
-- A loop that answers some items of a list: the names so far and those of what is left are all names, which also bounds the index.
use Rattle.std.proofs.Common.{◌≡◌, ◌∙◌, ℕ, ◌+◌, ◌*◌, ◌^◌, ◌<◌, ◌≤◌, Bool, true, false, List, [], ◌∷◌, ◌++◌, length, map, get_or, drop, Option, None, Some, refl, sym, ap, subst, arith}
use Rattle.std.specs.List.{All, position}
use Rattle.std.specs.Option.{option_map}
use Rattle.std.specs.Prelude.{MatchBool}
use Rattle.std.proofs.Math.Seq.{get_or-append_seam}
use Rattle.std.proofs.lemmas.List.{append_assoc, at_drop_more, get_or-map, length-append, length-map, map-append}
use Rattle.std.proofs.lemmas.List.Elements.{All-push}
use Rattle.std.proofs.lemmas.List.Quantifiers.{position-Some}
use Rattle.std.proofs.lemmas.Nat.{pow-add}
use Rattle.std.proofs.lemmas.Option.{none-some, same_Some}
use Rattle.gd_edges.specs.declared.signers.Signer.{Ghosts as SignerGhosts}
use Rattle.group_terms.specs.Changes.{joiners}
use Rattle.group_terms.specs.Names.{Name}
use Rattle.group_terms.specs.declared.changes.Change.{Change}
use Rattle.group_terms.specs.declared.changes.Change.TheVariants.{In, Out}
use Rattle.group_terms.specs.declared.keys.Wrap.{Wrap}
use Rattle.group_terms.specs.declared.paths.Keyed.{Keyed}
use Rattle.group_terms.specs.declared.values.BatchValues.{BatchValues}
use Rattle.group_terms.specs.declared.values.Drawn.{Drawn}
use Rattle.group_values.specs.Values.{Kept, KeepsLast, Made, batches_made, ids_of}
use Rattle.group_model.specs.Drawn.{drawn_at}
use Rattle.group_model.specs.Places.{Fits, Holders, holders_of, is_held_by, member_count, place_in}
use Rattle.key_tree.specs.Present.{Present, StandsFor}
use Rattle.group_model.specs.Stayed.{sequence_at, stayed_at}
use Rattle.key_tree.specs.Marks.{IsMarkedFor, installed}
use Rattle.group_model.specs.Wraps.{wraps_at}
use Rattle.group_model.specs.declared.entries.PushPair.{PushPair}
use Rattle.key_tree.specs.declared.marks.Marked.{Marked}
use Rattle.group_keys.specs.Drawn.{AreDrawn}
use Rattle.group_keys.specs.Replies.{IsKeyedOf}
use Rattle.group_records.specs.declared.heads.Head.{Head}
use Rattle.group_records.specs.Records.{IsBatchOf}
use Rattle.group_pushes.specs.Pairs.{IsPairIfStayed, IsPairOf}
use Rattle.tree_store.specs.Groups.{IsDueAfter}
use Rattle.gcks_core.specs.declared.outputs.CoreOutput.{CoreOutput}
use Rattle.gcks_core.specs.Prepares.{IsCoreOutputOf, IsReadyFor}
use Rattle.gcks_core.specs.Private.Cores.{IsGroupOf}
use Rattle.gcks_core.specs.Stored.{stored_after}
use Rattle.gcks_core.proofs.GroupLemmas.{drawn_next}
use Rattle.gcks_core.proofs.ListLemmas.{batches_more, length_batches, length_more}

-- ---- a member's leaf is one of the tree

module _ (depth leaf : ℕ) (holders : Holders) (m : Name) (there : place_in depth holders m ≡ Some leaf) where
  -- it is that of a holder
  leaf_found : (i : ℕ) × (leaf ≡ 2 ^ depth + i) × (i < length holders)
  leaf_found = found (position (is_held_by m) holders) refl there
    where
      found : (at : Option ℕ) → position (is_held_by m) holders ≡ at → option_map (λ i. 2 ^ depth + i) at ≡ Some leaf
          → (i : ℕ) × (leaf ≡ 2 ^ depth + i) × (i < length holders)
      found None at h = absurd (none-some leaf h)
      found (Some i) at h = (i, sym (same_Some (2 ^ depth + i) leaf h), (position-Some (is_held_by m) holders i None at).0)

  pub leaf_from : 2 ^ depth ≤ leaf
  leaf_from = omega (arith, leaf_found.1)

  pub leaf_to : length holders ≡ 2 ^ depth → leaf < 2 ^ (depth + 1)
  leaf_to each =
      let twice : 2 ^ (depth + 1) ≡ 2 ^ depth * 2 = pow-add 2 depth 1 in
      omega (arith, leaf_found.1, leaf_found.2, each, twice)

-- ---- the leaves of a step are those of its joiners, in their order

module _ (tree : Present) (batch : List Change) (limit : ℕ) (marked : Marked) (marked_for : IsMarkedFor tree batch limit marked) (batches : List (List Change))
    (stands : StandsFor tree batches) (names : List Name) (m : Name) (rest : List Name) (so_far : names ++ m ∷ rest ≡ joiners batch) where
  abbrev after : Holders
  after = holders_of tree.depth (batches ++ batch ∷ [])

  abbrev place : Name → Option ℕ
  place n = place_in tree.depth after n

  leaves_are : map Some marked.joined ≡ map place names ++ place m ∷ map place rest
  leaves_are = marked_for.joined batches stands ∙ ap (map place) (sym so_far) ∙ map-append place names (m ∷ rest)

  -- there is one for the next joiner
  leaf_there : length names < length marked.joined
  leaf_there =
      let all : length marked.joined ≡ length (map place names ++ place m ∷ map place rest) = sym (length-map marked.joined Some) ∙ ap length leaves_are in
      let cut : length (map place names ++ place m ∷ map place rest) ≡ length (map place names) + length (place m ∷ map place rest) =
      length-append (map place names) (place m ∷ map place rest) in
      omega (arith, all, cut, length-map names place)

  -- and it is that one's
  pub leaf_is : (d : ℕ) → place m ≡ Some (get_or marked.joined (length names) d)
  leaf_is d =
      let here : get_or (map place names ++ place m ∷ map place rest) (length names) None ≡ place m =
      ap (λ n. get_or (map place names ++ place m ∷ map place rest) n None) (sym (length-map names place))
      ∙ get_or-append_seam (map place names) (place m) (map place rest) None in
      sym here ∙ ap (λ l. get_or l (length names) None) (sym leaves_are) ∙ get_or-map Some marked.joined (length names) d None leaf_there

-- ---- the next change of a batch

module _ (batch : List Change) (at : ℕ) (change : Change) (low : at < length batch) (here : get_or batch at change ≡ change) where
  joiners_from : joiners (drop at batch) ≡ joiners (change ∷ drop (at + 1) batch)
  joiners_from = at_drop_more joiners batch at change low ∙ ap (λ c. joiners (c ∷ drop (at + 1) batch)) here

  pub joiners_in : (m : Name) → change ≡ In m → joiners (drop at batch) ≡ m ∷ joiners (drop (at + 1) batch)
  joiners_in m into = joiners_from ∙ ap (λ c. joiners (c ∷ drop (at + 1) batch)) into

  pub joiners_out : (m : Name) → change ≡ Out m → joiners (drop at batch) ≡ joiners (drop (at + 1) batch)
  joiners_out m out = joiners_from ∙ ap (λ c. joiners (c ∷ drop (at + 1) batch)) out

-- ---- what the joiners of the first changes are told

abbrev pub name_of : Name × Keyed → Name
name_of reply = reply.0

module _ (tree : Present) (kept : Kept) (values : BatchValues) (spi : List ℕ) (batch : List Change) where
  -- with these values for the batch, somebody is told what is so
  abbrev pub IsToldRight : List Made → Name × Keyed → Type 0
  IsToldRight list reply = IsKeyedOf tree.depth spi (list ++ record { changes = batch; values = values } ∷ []) reply.0 reply.1

  -- whatever batches the tree represents, if the values are the ones that were drawn
  abbrev pub IsToldWhere : Name × Keyed → Type 0
  IsToldWhere reply =
      (list : List Made) → StandsFor tree (batches_made list) → KeepsLast kept list
      → AreDrawn tree.depth (list ++ record { changes = batch; values = values } ∷ []) → IsToldRight list reply

  -- they have the names of those joiners, and with the names of the others these are all
  pub record AreTold (at : ℕ) (replies : List (Name × Keyed)) : Type 0 where
    pub names : map name_of replies ++ joiners (drop at batch) ≡ joiners batch
    pub each : (list : List Made) → StandsFor tree (batches_made list) → KeepsLast kept list
        → AreDrawn tree.depth (list ++ record { changes = batch; values = values } ∷ []) → All (IsToldRight list) replies

  module _ (at : ℕ) (replies : List (Name × Keyed)) (told : AreTold at replies) where
    module _ (change : Change) (low : at < length batch) (here : get_or batch at change ≡ change) where
      -- who goes out is told nothing
      pub told_out : (m : Name) → change ≡ Out m → AreTold (at + 1) replies
      told_out m out = record {
        names = ap (λ l. map name_of replies ++ l) (sym (joiners_out batch at change low here m out)) ∙ told.names;
        each = told.each;
      }

      module _ (m : Name) (into : change ≡ In m) where
        pub names_with : map name_of replies ++ m ∷ joiners (drop (at + 1) batch) ≡ joiners batch
        names_with = ap (λ l. map name_of replies ++ l) (sym (joiners_in batch at change low here m into)) ∙ told.names

        pub told_in : (keyed : Keyed) → IsToldWhere (m, keyed) → AreTold (at + 1) (replies ++ (m, keyed) ∷ [])
        told_in keyed is = record {
          names = ap (λ l. l ++ joiners (drop (at + 1) batch)) (map-append name_of replies ((m, keyed) ∷ []))
              ∙ append_assoc (map name_of replies) (m ∷ []) (joiners (drop (at + 1) batch)) ∙ names_with;
          each = λ list stands keeps drawn. All-push (IsToldRight list) replies (m, keyed) (told.each list stands keeps drawn) (is list stands keeps drawn);
        }

-- ---- the loop over a batch's changes, of which the next one is this

module _ (tree : Present) (kept : Kept) (values : BatchValues) (spi : List ℕ) (batch : List Change) (at : ℕ) (replies : List (Name × Keyed))
    (told : AreTold tree kept values spi batch at replies) (items : List Change) (same : items ≡ batch) (low : at < length items) (change : Change)
    (here : change ≡ get_or items at change) (m : Name) where
  low_in : at < length batch
  low_in = subst (λ (l : List Change). at < length l) same low

  here_in : get_or batch at change ≡ change
  here_in = ap (λ (l : List Change). get_or l at change) (sym same) ∙ sym here

  pub next_out : change ≡ Out m → (replies' : List (Name × Keyed)) → replies' ≡ replies → AreTold tree kept values spi batch (at + 1) replies'
  next_out out replies' stay =
      subst (AreTold tree kept values spi batch (at + 1)) (sym stay) (told_out tree kept values spi batch at replies told change low_in here_in m out)

  module _ (into : change ≡ In m) where
    pub next_told : (keyed : Keyed) → IsToldWhere tree kept values spi batch (m, keyed) → (replies' : List (Name × Keyed))
        → replies' ≡ replies ++ (m, keyed) ∷ [] → AreTold tree kept values spi batch (at + 1) replies'
    next_told keyed is replies' more =
        subst (AreTold tree kept values spi batch (at + 1)) (sym more)
        (told_in tree kept values spi batch at replies told change low_in here_in m into keyed is)

    so_far : map name_of replies ++ m ∷ joiners (drop (at + 1) batch) ≡ joiners batch
    so_far = names_with tree kept values spi batch at replies told change low_in here_in m into

    -- its leaf is that of the next joiner
    module _ (limit : ℕ) (marked : Marked) (marked_for : IsMarkedFor tree batch limit marked) (n : ℕ) (count : n ≡ length replies) (leaves : List ℕ)
        (same_leaves : leaves ≡ marked.joined) (leaf : ℕ) (leaf_here : leaf ≡ get_or leaves n leaf) where
      pub next_place : (batches : List (List Change)) → StandsFor tree batches
          → place_in tree.depth (holders_of tree.depth (batches ++ batch ∷ [])) m ≡ Some leaf
      next_place batches stands =
          leaf_is tree batch limit marked marked_for batches stands (map name_of replies) m (joiners (drop (at + 1) batch)) so_far leaf
          ∙ ap (λ (k : ℕ). Some (get_or marked.joined k leaf)) (length-map replies name_of ∙ sym count)
          ∙ ap (λ (l : List ℕ). Some (get_or l n leaf)) (sym same_leaves) ∙ ap Some (sym leaf_here)

      pub next_from : (batches : List (List Change)) → StandsFor tree batches → 2 ^ tree.depth ≤ leaf
      next_from batches stands = leaf_from tree.depth leaf (holders_of tree.depth (batches ++ batch ∷ [])) m (next_place batches stands)

      pub next_to : (batches : List (List Change)) → StandsFor tree batches → length (holders_of tree.depth (batches ++ batch ∷ [])) ≡ 2 ^ tree.depth
          → leaf < 2 ^ (tree.depth + 1)
      next_to batches stands each = leaf_to tree.depth leaf (holders_of tree.depth (batches ++ batch ∷ [])) m (next_place batches stands) each

-- ---- a batch that is made

-- as many values as positions
pub nodes_few : (nodes : List Drawn) (positions : List ℕ) → ids_of nodes ≡ positions → length positions ≤ 1023 → length nodes ≤ 1023
nodes_few nodes positions same few = omega (arith, length-map nodes (λ (node : Drawn). node.id), ap length same, few)

-- nothing is encrypted where nobody stayed
no_wraps : (depth : ℕ) (batches : List (List Change)) (epoch : ℕ) → stayed_at depth batches epoch ≡ false → wraps_at depth batches epoch ≡ []
unfolding wraps_at
no_wraps depth batches epoch nobody = rw nobody refl

module _ {G : Type 0} (g : SignerGhosts G) (signer : G) (depth : ℕ) (spi : List ℕ) (list : List Made) (pushes : Option PushPair) (wraps : List Wrap)
    (some : (pair : PushPair) → pushes ≡ Some pair → wraps ≡ pair.wraps) (none : pushes ≡ None → wraps ≡ []) where
  abbrev stayed : Bool
  stayed = stayed_at depth (batches_made list) (length list)

  abbrev IsPair : Bool → Type 0
  IsPair b = MatchBool b ((sent : PushPair) × (pushes ≡ Some sent) × IsPairOf g signer depth spi list sent) (pushes ≡ None)

  -- what the pair encrypts is what the batch sends
  pub wraps_are : IsPairIfStayed g signer depth spi list pushes → wraps ≡ wraps_at depth (batches_made list) (length list)
  wraps_are pair = by stayed refl pair
    where
      by : (b : Bool) → stayed ≡ b → IsPair b → wraps ≡ wraps_at depth (batches_made list) (length list)
      by true there (sent, is, of_pair) = some sent is ∙ of_pair.wraps
      by false nobody is = none is ∙ sym (no_wraps depth (batches_made list) (length list) nobody)

module _ {G : Type 0} (g : SignerGhosts G) (signer : G) (head : Head) (tree : Present) (batch : List Change) (marked : Marked)
    (values : BatchValues) (list : List Made) (group : IsGroupOf head tree list) (marked_for : IsMarkedFor tree batch head.limit marked) (fits : Fits tree.holders batch)
    (drawn : ids_of values.nodes ≡ marked.drawn) where
  abbrev made : Made
  made = record { changes = batch; values = values }

  abbrev batches : List (List Change)
  batches = batches_made list

  abbrev longer : List (List Change)
  longer = batches ++ batch ∷ []

  abbrev all : List Made
  all = list ++ made ∷ []

  long : length longer ≡ length batches + 1
  long = length-append batches (batch ∷ [])

  more : longer ≡ batches_made all
  more = sym (batches_more list made)

  same_length : length batches + 1 ≡ length all
  same_length = ap (λ n. n + 1) (length_batches list) ∙ sym (length_more list made)

  stands_next : StandsFor (installed tree marked) longer
  stands_next = (marked_for.next batches group.tree).1

  epoch_is : marked.epoch ≡ length batches + 1
  epoch_is = stands_next.epoch ∙ long

  sequence_is : marked.sequence ≡ sequence_at head.depth longer (length batches + 1)
  sequence_is = stands_next.sequence ∙ (λ i. sequence_at (group.depth i) longer (long i))

  pub due_next : IsDueAfter head.depth head.limit batches (stored_after head.depth batches made)
  due_next = record {
    epoch = refl;
    early = subst (λ n. n ≤ head.limit) long (marked_for.next batches group.tree).2;
    carried = record {
      fits = subst (λ holders. Fits holders batch) (group.tree.holders ∙ ap (λ depth. holders_of depth batches) group.depth) fits;
      drawn = drawn ∙ marked_for.drawn batches group.tree ∙ (λ i. drawn_at (group.depth i) longer (epoch_is i));
    };
    sequence = refl;
    numbered = subst (λ n. n ≤ head.limit) (λ i. sequence_at (group.depth i) longer (long i)) (marked_for.next batches group.tree).3;
  }

  pub drawn_all : AreDrawn tree.depth all
  drawn_all = drawn_next head tree list group (stored_after head.depth batches made) due_next

  module _ (text : List ℕ) (output : CoreOutput)
      (read : IsBatchOf text (record { batch = batch; epoch = marked.epoch; sequence = marked.sequence; values = values })) (short : length text ≤ 65536)
      (epoch : output.epoch ≡ marked.epoch) (sequence : output.sequence ≡ marked.sequence) (members : output.members ≡ member_count (installed tree marked).holders)
      (pair : IsPairIfStayed g signer tree.depth head.spi all output.pushes)
      (some : (pair : PushPair) → output.pushes ≡ Some pair → output.wraps ≡ pair.wraps) (none : output.pushes ≡ None → output.wraps ≡ [])
      (joiners_are : map name_of output.told ≡ joiners batch)
      (told : All (λ (reply : Name × Keyed). IsKeyedOf tree.depth head.spi all reply.0 reply.1) output.told) where
    pair_is : IsPairIfStayed g signer head.depth head.spi all output.pushes
    pair_is = subst (λ depth. IsPairIfStayed g signer depth head.spi all output.pushes) group.depth pair

    puts_out : IsCoreOutputOf g signer head.depth head.spi all output
    puts_out = record {
      epoch = epoch ∙ epoch_is ∙ same_length;
      sequence = sequence ∙ sequence_is ∙ (λ i. sequence_at head.depth (more i) (same_length i));
      members = members ∙ ap member_count (stands_next.holders ∙ (λ i. holders_of (group.depth i) (more i)));
      wraps = wraps_are g signer head.depth head.spi all output.pushes output.wraps some none pair_is;
      pushes = pair_is;
    }

    pub is_ready : IsReadyFor g signer head tree batch list (record { values = values; text = text; output = output; marked = marked })
    is_ready = record {
      due = due_next;
      text_is = subst (IsBatchOf text) (λ i. record { batch = batch; epoch = epoch_is i; sequence = sequence_is i; values = values }) read;
      short = short;
      puts_out = puts_out;
      is_marked = marked_for;
      joiners_are = joiners_are;
      replies_are = subst (λ depth. All (λ (reply : Name × Keyed). IsKeyedOf depth head.spi all reply.0 reply.1) output.told) group.depth told;
    }
