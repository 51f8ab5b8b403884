-- A store at a root is given a push under the key of that root.
use Rattle.std.proofs.Common.{◌≡◌, ◌∙◌, ap, arith, refl, subst, sym, ℕ, suc, ◌+◌, ◌≤◌, true, false, List, [], length, map, Some}
use Rattle.std.specs.Prelude.{Result, Ok, Err}
use Rattle.std.specs.List.{All}
use Rattle.std.specs.Option.{option_map, unwrap_or}
use Rattle.std.proofs.lemmas.Bool.{MatchBool-at_false, MatchBool-at_true}
use Rattle.std.proofs.lemmas.List.{length-map}
use Rattle.std.proofs.lemmas.List.Elements.{All-nil}
use Rattle.std.proofs.lemmas.Option.{same_Some}
use Rattle.gd_edges.specs.declared.verifiers.Verifier.{Ghosts as VerifierGhosts}
use Rattle.gd_wire.specs.declared.headers.Header.{Header}
use Rattle.group_terms.specs.Names.{Name}
use Rattle.group_terms.specs.Positions.{halved}
use Rattle.group_terms.specs.declared.changes.Change.{Change}
use Rattle.group_terms.specs.declared.pushes.PushRefusal.{PushRefusal}
use Rattle.group_terms.specs.declared.pushes.PushRefusal.TheVariants.{OtherSpi, Malformed, BadSignature, Stale, NoPath}
use Rattle.group_values.specs.Values.{Made, batches_made}
use Rattle.group_model.specs.Fresh.{node_name, upwards}
use Rattle.group_model.specs.Places.{IsValid, holders_at, is_member, place_in}
use Rattle.group_model.specs.Wraps.{node_wraps}
use Rattle.law_key_ways.specs.Laws.{IsRenewed, Laws}
use Rattle.kd_wire.specs.Spans.{span_arrays}
use Rattle.push_msg.specs.Pushes.{Reads, header_of}
use Rattle.push_msg.specs.Readings.{PushRead}
use Rattle.member_store.specs.declared.answers.Taken.{Taken}
use Rattle.member_store.specs.declared.answers.Taken.TheVariants.{Root, Traffic}
use Rattle.member_store.specs.Steps.{AfterOpening, IsOpening, IsRefused, ReadsPush, TakesBody, TakesRoot, TakesTraffic, TakesTree, kek_of}
use Rattle.member_store.specs.Stores.{Store, has_position, leaf_of, root_epoch, with_keys, with_tree_keys}
use Rattle.member_store.specs.Takings.{keys_given}
use Rattle.law_member_roots.specs.Roots.{HasTrafficOf, IsAtRoot}
use Rattle.law_member_roots.proofs.AtRootLemmas.{epoch_is, kek_is, names, top}
use Rattle.law_member_roots.proofs.NextLemmas.{IsCovered, next_names, next_values}
use Rattle.law_member_roots.specs.Reads.{GivesTraffic, GivesWraps, HasHeaderFor, IsReadAt}
use Rattle.law_member_roots.proofs.ReplyLemmas.{first_id}
use Rattle.law_member_roots.proofs.RootKeyLemmas.{name_of}
use Rattle.law_member_roots.proofs.TakenLemmas.{IsNew, Known, all_new, made_at, none_left, nothing_taken, way_taken}
use Rattle.law_member_roots.proofs.WayLemmas.{way_has}

abbrev head_or : {E : Type 0} → Header → Result Header E → Header
head_or other (Ok head) = head
head_or other (Err why) = other

module _ (ways : Laws) {V : Type 0} (v : VerifierGhosts V) (verifier : V) (depth epoch : ℕ) (spi : List ℕ) (list : List Made) (m : Name) (store : Store)
    (is : IsAtRoot depth spi list epoch m store) where
  abbrev batches : List (List Change)
  batches = batches_made list

  -- it is read with the key that the store has
  pub reads_own : (number : ℕ) (datagram : List ℕ) (own : IsReadAt v verifier spi list epoch number datagram) → ReadsPush v verifier store datagram own.read
  reads_own number datagram own =
      let root : own.root ≡ kek_of store = same_Some _ _ (sym own.is_root ∙ kek_is ways depth epoch spi list m store is) in
      subst (λ spi. Reads datagram spi (kek_of store) (v.kind_of verifier) own.read) (sym is.spi)
      (subst (λ kek. Reads datagram spi kek (v.kind_of verifier) own.read) root own.reads)

  module _ (next : Store) (result : Result Taken PushRefusal) where
    -- ---- under another root's key nothing is read

    pub malformed : (datagram : List ℕ) (opening : Result PushRead PushRefusal) → IsOpening v verifier store datagram opening
        → ((read : PushRead) → ReadsPush v verifier store datagram read → ⊥)
        → ((head : Header) → header_of datagram ≡ Ok head → head.cookies ≡ store.spi)
        → AfterOpening opening store result next → (at : ℕ) × IsRefused store (Malformed at) result next
    malformed datagram (Ok read) opens none own after = absurd (none read opens.0)
    malformed datagram (Err (OtherSpi got kept)) opens none own after = absurd (opens.2 (own opens.0 opens.1))
    malformed datagram (Err (Malformed at)) opens none own after = (at, after)
    malformed datagram (Err BadSignature) opens none own after = absurd (none opens.0 opens.1)
    malformed datagram (Err (Stale last got)) opens none own after = absurd (none opens.0 opens.1)
    malformed datagram (Err (NoPath leaf)) opens none own after = absurd opens

    pub own_header : (datagram : List ℕ) → HasHeaderFor spi datagram → (head : Header) → header_of datagram ≡ Ok head → head.cookies ≡ store.spi
    own_header datagram own head is_head =
        ap (λ (head : Header). head.cookies) (ap (head_or head) (sym is_head ∙ own.is)) ∙ own.for_spi ∙ sym is.spi

    -- ---- the traffic push of its root

    module _ (number : ℕ) (datagram : List ℕ) (gives : GivesTraffic v verifier spi list epoch number datagram)
        (takes : TakesBody gives.is_read.read.body store gives.is_read.read result next) where
      takes_traffic : TakesTraffic store gives.is_read.read gives.traffic result next
      takes_traffic = subst (λ body. TakesBody body store gives.is_read.read result next) gives.body takes

      pub traffic_taken : (result ≡ Ok (Traffic epoch)) × IsAtRoot depth spi list epoch m next × (next.sequence ≡ number) × HasTrafficOf list epoch next
      traffic_taken =
          let at : root_epoch store ≡ epoch = epoch_is ways depth epoch spi list m store is in (
            takes_traffic.is ∙ ap (λ epoch. Ok (Traffic epoch)) at,
            subst (IsAtRoot depth spi list epoch m) (sym takes_traffic.keeps) (record { leaf = is.leaf; names = is.names; values = is.values; spi = is.spi }),
            ap (λ (next : Store). next.sequence) takes_traffic.keeps ∙ gives.is_read.number_is,
            record {
              traffic_epoch = ap (λ (next : Store). next.traffic_epoch) takes_traffic.keeps ∙ at;
              traffic = gives.is_traffic ∙ ap (λ value. Some value) (ap (λ (next : Store). next.traffic) (sym takes_traffic.keeps));
            },
          )

    -- ---- the membership push of the next epoch

    module _ (number : ℕ) (datagram : List ℕ) (gives : GivesWraps v verifier spi list epoch number (node_wraps depth batches (epoch + 1)) datagram)
        (takes : TakesBody gives.is_read.read.body store gives.is_read.read result next) where
      takes_tree : TakesTree store gives.is_read.read (span_arrays gives.span gives.is_read.read.keys) result next
      takes_tree = subst (λ body. TakesBody body store gives.is_read.read result next) gives.body takes

      abbrev own_leaf : ℕ
      own_leaf = leaf_of store.path

      known : Known ways depth epoch own_leaf list store.path (keys_given (span_arrays gives.span gives.is_read.read.keys))
      known = record { names = names ways depth epoch spi list m store is; values = is.values; sealed = gives.given }

      pub left : is_member (holders_at depth batches (epoch + 1)) m ≡ false → IsRefused store (NoPath (leaf_of store.path)) result next
      left gone =
          let nothing = nothing_taken ways depth epoch own_leaf list store.path (keys_given (span_arrays gives.span gives.is_read.read.keys)) known m is.leaf gone
          takes_tree.taken takes_tree.takes_all in
          MatchBool-at_false (TakesRoot store gives.is_read.read.number takes_tree.taken result next) (IsRefused store (NoPath (leaf_of store.path)) result next)
          (ap (λ keys. has_position keys 1) nothing) takes_tree.after

      module _ (some : 1 ≤ depth) (valid : IsValid depth batches) (more : epoch + 1 ≤ length list)
          (member : is_member (holders_at depth batches (epoch + 1)) m ≡ true) where
        within : suc epoch ≤ length batches
        within = omega (arith, more, length-map list (λ (made : Made). made.changes))

        news : All (IsNew depth epoch list) takes_tree.taken
        news = all_new ways depth epoch own_leaf list store.path (keys_given (span_arrays gives.span gives.is_read.read.keys)) known takes_tree.taken []
            (All-nil (IsNew depth epoch list)) takes_tree.takes_all

        covered : (steps : ℕ) → steps ≤ depth → IsRenewed depth batches epoch (halved steps own_leaf) → has_position takes_tree.taken (halved steps own_leaf) ≡ true
        covered = way_taken ways depth epoch own_leaf list store.path (keys_given (span_arrays gives.span gives.is_read.read.keys)) known m some valid within is.leaf
            member takes_tree.taken news
            (none_left ways depth epoch own_leaf list store.path (keys_given (span_arrays gives.span gives.is_read.read.keys)) known takes_tree.taken []
            takes_tree.takes_all)

        has_root : has_position takes_tree.taken 1 ≡ true
        has_root =
            let root = top ways depth epoch spi list m store is in
            subst (λ v. has_position takes_tree.taken v ≡ true) root (covered depth (omega arith) (subst (IsRenewed depth batches epoch) (sym root) refl))

        goes : TakesRoot store gives.is_read.read.number takes_tree.taken result next
        goes =
            MatchBool-at_true (TakesRoot store gives.is_read.read.number takes_tree.taken result next) (IsRefused store (NoPath (leaf_of store.path)) result next)
            has_root takes_tree.after

        next_path : map name_of (with_keys store.path takes_tree.taken) ≡ map (node_name depth batches (epoch + 1)) (upwards depth own_leaf)
        next_path = next_names depth epoch list takes_tree.taken news (upwards depth own_leaf) store.path (names ways depth epoch spi list m store is)
            (way_has depth own_leaf (IsCovered depth epoch list takes_tree.taken news) covered depth 0 (omega arith))

        place : place_in depth (holders_at depth batches (epoch + 1)) m ≡ Some own_leaf
        place = (ways.leaf_kept depth epoch own_leaf batches m some valid within is.leaf member).0

        at_next : IsAtRoot depth spi list (epoch + 1) m (with_tree_keys store gives.is_read.read.number takes_tree.taken)
        at_next = record {
          leaf = place ∙ ap (λ leaf. Some leaf)
              (sym (first_id (made_at depth batches (epoch + 1)) depth own_leaf (with_keys store.path takes_tree.taken) next_path));
          names = next_path ∙ ap (λ found. unwrap_or (option_map (λ leaf. map (node_name depth batches (epoch + 1)) (upwards depth leaf)) found) []) (sym place);
          values = next_values depth epoch list takes_tree.taken news store.path is.values;
          spi = is.spi;
        }

        next_root : IsAtRoot depth spi list (epoch + 1) m next
        next_root = subst (IsAtRoot depth spi list (epoch + 1) m) (sym goes.keeps) at_next

        pub membership_taken : (result ≡ Ok (Root (epoch + 1))) × IsAtRoot depth spi list (epoch + 1) m next × (next.sequence ≡ number)
            × (next.traffic ≡ store.traffic) × (next.traffic_epoch ≡ store.traffic_epoch)
        membership_taken = (
          goes.is ∙ ap (λ epoch. Ok (Root epoch)) (epoch_is ways depth (epoch + 1) spi list m next next_root),
          next_root,
          ap (λ (next : Store). next.sequence) goes.keeps ∙ gives.is_read.number_is,
          ap (λ (next : Store). next.traffic) goes.keeps,
          ap (λ (next : Store). next.traffic_epoch) goes.keeps,
        )
