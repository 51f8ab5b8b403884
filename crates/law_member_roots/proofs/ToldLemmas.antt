-- A store that is made of what a member is told is at its root.
use Rattle.std.proofs.Common.{◌≡◌, ◌∙◌, ap, arith, refl, subst, sym, ℕ, zero, suc, ◌^◌, ◌<◌, ◌≤◌, ◌&&◌, true, false, List, [], ◌++◌, drop, eqb, length, ltb, map, replicate, take, None, Some}
use Rattle.std.specs.List.{list_any, take-map}
use Rattle.std.specs.Option.{option_map, unwrap_or}
use Rattle.std.proofs.lemmas.Bool.{and_right, false≢true, le-ltb, or_from}
use Rattle.std.proofs.lemmas.List.{length-map, length-take-le, take-append-drop, take_all}
use Rattle.group_terms.specs.Names.{Name}
use Rattle.group_terms.specs.Positions.{halved}
use Rattle.group_terms.specs.declared.changes.Change.{Change}
use Rattle.group_terms.specs.declared.paths.Keyed.{Keyed}
use Rattle.group_keys.specs.Replies.{IsKeyedOf}
use Rattle.group_values.specs.Values.{Made, batches_made}
use Rattle.group_model.specs.Fresh.{last_change, node_name, upwards}
use Rattle.group_model.specs.Laws.{HoldersStay, LastChangesStay}
use Rattle.group_model.specs.Places.{holders_at, holders_of, is_held_by, is_member, place_in}
use Rattle.group_model.specs.Stayed.{sequence_at}
use Rattle.law_member_roots.specs.Groups.{IsKeyedGroup}
use Rattle.law_member_roots.specs.Roots.{HasKeysOf, HasTrafficOf, IsAtRoot, IsStoreOf}
use Rattle.law_key_ways.specs.Laws.{Laws as Ways}
use Rattle.member_store.specs.Stores.{IsReply, Store, is_older, root_epoch, store_of}
use Rattle.law_member_roots.proofs.NumberLemmas.{numbers_rise, numbers_stay}
use Rattle.law_member_roots.proofs.ReplyLemmas.{first_id, leads_up}
use Rattle.law_member_roots.proofs.RootKeyLemmas.{made_of, name_of, path_length, root_name}
use Rattle.law_member_roots.proofs.RootLemmas.{root-more, traffic-more}

-- ---- who is a member has a place among the leaves

-- a place among the leaves of a tree, from which the way leads up to the root
pub record HasPlace (depth : ℕ) (batches : List (List Change)) (epoch : ℕ) (m : Name) : Type 0 where
  pub leaf : ℕ
  pub is : place_in depth (holders_at depth batches epoch) m ≡ Some leaf
  pub top : halved depth leaf ≡ 1

has_place : (ways : Ways) (depth epoch : ℕ) (batches : List (List Change)) (m : Name) → is_member (holders_at depth batches epoch) m ≡ true
    → HasPlace depth batches epoch m
has_place ways depth epoch batches m member =
    let found = ways.has_place depth (holders_at depth batches epoch) m member in
    let bounds = ways.leaves depth epoch found.0 batches m found.1 in
    record { leaf = found.0; is = found.1; top = ways.at_root depth found.0 bounds.0 bounds.1 }

-- ---- what a member is told at the last epoch of a list

module _ (depth : ℕ) (rekey : List ℕ) (list : List Made) (m : Name) (keyed : Keyed) (is : IsKeyedOf depth rekey list m keyed)
    (place : HasPlace depth (batches_made list) (length list) m) where
  abbrev batches : List (List Change)
  batches = batches_made list

  names_up : map name_of keyed.path ≡ map (node_name depth batches (length list)) (upwards depth place.leaf)
  names_up =
      is.names ∙ ap (λ found. unwrap_or (option_map (λ leaf. map (node_name depth batches (length list)) (upwards depth leaf)) found) []) place.is

  abbrev made : ℕ → ℕ
  made v = unwrap_or (last_change depth batches (length list) v) 0

  pub told_reply : 1 ≤ depth → depth ≤ 9 → 0 < length list → IsReply keyed
  told_reply some shallow later =
      let long = path_length depth batches (length list) place.leaf keyed.path names_up in
      let root = root_name depth batches (length list) place.leaf keyed.path names_up later place.top in
      record {
        path = record {
          up = leads_up made depth place.leaf keyed.path names_up place.top;
          least = omega (arith, long, some);
          most = omega (arith, long, shallow);
        };
        epoch = is.epoch ∙ sym (ap made_of root);
      }

  pub told_root : IsAtRoot depth rekey list (length list) m (store_of keyed)
  told_root = record {
    leaf = place.is ∙ ap (λ leaf. Some leaf) (sym (first_id made depth place.leaf keyed.path names_up));
    names = is.names;
    values = is.values;
    spi = is.spi;
  }

  pub told_traffic : HasTrafficOf list (length list) (store_of keyed)
  told_traffic = record { traffic_epoch = is.epoch; traffic = is.traffic }

-- ---- and at an epoch before that

-- before the first batch nobody is a member
nobody_first : (n : ℕ) (m : Name) → list_any (is_held_by m) (replicate n None) ≡ false
nobody_first zero m = refl
nobody_first (suc n) m = nobody_first n m

some_epoch : (depth epoch : ℕ) (batches : List (List Change)) (m : Name) → is_member (holders_at depth batches epoch) m ≡ true → 1 ≤ epoch
some_epoch depth zero batches m member = absurd (false≢true (sym (nobody_first (2 ^ depth) m) ∙ member))
some_epoch depth (suc epoch) batches m member = omega arith

-- what a member is told at the last epoch makes a store
pub makes_store : Ways → (depth : ℕ) (rekey : List ℕ) (list : List Made) (m : Name) (keyed : Keyed) → 1 ≤ depth → depth ≤ 9
    → is_member (holders_of depth (batches_made list)) m ≡ true → IsKeyedOf depth rekey list m keyed → IsReply keyed
makes_store ways depth rekey list m keyed some shallow member told =
    let batches = batches_made list in
    let whole : holders_at depth batches (length list) ≡ holders_of depth batches =
    ap (holders_of depth) (take_all (length list) batches (omega (arith, length-map list (λ (made : Made). made.changes)))) in
    let now : is_member (holders_at depth batches (length list)) m ≡ true = ap (λ holders. is_member holders m) whole ∙ member in
    told_reply depth rekey list m keyed told (has_place ways depth (length list) batches m now) some shallow
    (some_epoch depth (length list) batches m now)

-- the number that a member is told
pub told_number : HoldersStay → (depth epoch : ℕ) (rekey : List ℕ) (list : List Made) (m : Name) (keyed : Keyed) → epoch ≤ length list
    → IsKeyedOf depth rekey (take epoch list) m keyed → keyed.sequence ≡ sequence_at depth (batches_made list) epoch
told_number holders_stay depth epoch rekey list m keyed early told =
    told.sequence ∙ ap (sequence_at depth (batches_made (take epoch list))) (length-take-le epoch list early)
    ∙ ap (λ batches. sequence_at depth batches epoch) (sym (take-map (λ (made : Made). made.changes) epoch list))
    ∙ numbers_stay holders_stay depth epoch epoch (batches_made list) (omega arith)

-- and that what it is told is not older than what a store has
pub not_older : HoldersStay → (depth epoch : ℕ) (rekey : List ℕ) (list : List Made) (m : Name) (keyed : Keyed) (store : Store)
    → IsStoreOf depth rekey list m store → epoch ≤ length list → root_epoch store ≤ epoch → IsKeyedOf depth rekey (take epoch list) m keyed
    → is_older store keyed ≡ false
not_older holders_stay depth epoch rekey list m keyed store is early later told =
    let number = told_number holders_stay depth epoch rekey list m keyed early told in
    let rise = numbers_rise holders_stay depth (batches_made list) (root_epoch store) epoch later in
    let at : keyed.epoch ≡ epoch = told.epoch ∙ length-take-le epoch list early in
    or_from (ltb keyed.sequence store.sequence) (eqb keyed.sequence store.sequence && ltb keyed.epoch (root_epoch store))
    (le-ltb keyed.sequence store.sequence (omega (arith, number, rise, is.sequence)))
    (and_right (eqb keyed.sequence store.sequence) (ltb keyed.epoch (root_epoch store)) (le-ltb keyed.epoch (root_epoch store) (omega (arith, at, later))))

module _ (ways : Ways) (holders_stay : HoldersStay) (changes_stay : LastChangesStay) (depth epoch : ℕ) (rekey : List ℕ) (list : List Made)
    (m : Name) (keyed : Keyed) (group : IsKeyedGroup depth rekey list) (early : epoch ≤ length list)
    (member : is_member (holders_at depth (batches_made list) epoch) m ≡ true) (told : IsKeyedOf depth rekey (take epoch list) m keyed) where
  abbrev front : List Made
  front = take epoch list

  some : 1 ≤ epoch
  some = some_epoch depth epoch (batches_made list) m member

  front_length : length front ≡ epoch
  front_length = length-take-le epoch list early

  front_holders : holders_at depth (batches_made front) (length front) ≡ holders_at depth (batches_made list) epoch
  front_holders =
      ap (holders_at depth (batches_made front)) front_length
      ∙ ap (λ batches. holders_at depth batches epoch) (sym (take-map (λ (made : Made). made.changes) epoch list))
      ∙ holders_stay depth epoch epoch (batches_made list) (omega arith)

  place : HasPlace depth (batches_made front) (length front) m
  place = has_place ways depth (length front) (batches_made front) m (ap (λ holders. is_member holders m) front_holders ∙ member)

  pub reply : IsReply keyed
  reply = told_reply depth rekey front m keyed told place group.some group.shallow (omega (arith, front_length, some))

  whole : front ++ drop epoch list ≡ list
  whole = take-append-drop epoch list

  pub keys : HasKeysOf depth rekey list epoch m (store_of keyed)
  keys = record {
    root =
        subst (λ list. IsAtRoot depth rekey list epoch m (store_of keyed)) whole
        (root-more holders_stay changes_stay depth epoch rekey front (drop epoch list) m (store_of keyed) (omega (arith, front_length))
        (subst (λ now. IsAtRoot depth rekey front now m (store_of keyed)) front_length (told_root depth rekey front m keyed told place)));
    traffic =
        subst (λ list. HasTrafficOf list epoch (store_of keyed)) whole
        (traffic-more front (drop epoch list) epoch (store_of keyed)
        (subst (λ now. HasTrafficOf front now (store_of keyed)) front_length (told_traffic depth rekey front m keyed told place)));
    sequence =
        omega (arith, told_number holders_stay depth epoch rekey list m keyed early told);
  }
