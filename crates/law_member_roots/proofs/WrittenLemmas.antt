-- What a member is told can be written.
use Rattle.std.proofs.Common.{◌≡◌, ◌∙◌, arith, refl, subst, sym, ap, ℕ, zero, suc, ◌*◌, ◌<◌, ◌≤◌, List, [], ◌∷◌, length, take}
use Rattle.std.specs.List.{All}
use Rattle.std.proofs.lemmas.List.Elements.{All-cons, All-nil}
use Rattle.group_terms.specs.Names.{Name}
use Rattle.group_terms.specs.Octets.{AreOctets}
use Rattle.group_terms.specs.declared.paths.Keyed.{Keyed}
use Rattle.group_terms.specs.declared.paths.PathKey.{PathKey}
use Rattle.group_keys.specs.Replies.{IsKeyedOf}
use Rattle.group_values.specs.Values.{HasValue, Made, batches_made}
use Rattle.group_model.specs.Laws.{HoldersStay}
use Rattle.kd_wire.specs.Texts.{KeyedFits, LeadsUp, PathKeyFits}
use Rattle.law_member_roots.specs.Groups.{IsKeyedGroup}
use Rattle.law_member_roots.specs.Roots.{HasKeysOf}
use Rattle.member_store.specs.Stores.{IsReply, store_of}
use Rattle.law_member_roots.proofs.FitLemmas.{key_fits, traffic_fits}
use Rattle.law_member_roots.proofs.NumberLemmas.{numbers_rise}

-- ---- the positions of a path

-- twice as many with each key
bound : ℕ → ℕ
bound zero = 1
bound (suc n) = 2 * bound n

some_bound : (n : ℕ) → 1 ≤ bound n
unfolding bound
some_bound zero = omega arith
some_bound (suc n) = omega (arith, some_bound n)

record IsWithin (n : ℕ) (key : PathKey) : Type 0 where
  some : 0 < key.id
  few : key.id < bound n

-- up to the root of a path with so many keys
head_within : (n : ℕ) (key : PathKey) (keys : List PathKey) → LeadsUp (key ∷ keys) → length (key ∷ keys) ≤ n → IsWithin n key
unfolding bound
head_within zero key keys up few = absurd (omega (arith, few))
head_within (suc n) key [] up few = let least = some_bound n in record { some = omega (arith, up); few = omega (arith, up, least) }
head_within (suc n) key (above ∷ keys) up few =
    let later = head_within n above keys up.1 (omega (arith, few)) in
    let half = up.0 in
    let some = later.some in
    let less = later.few in
    record { some = omega (arith, half, some); few = omega (arith, half, less) }

all_within : (n : ℕ) (path : List PathKey) → LeadsUp path → length path ≤ n → All (IsWithin n) path
all_within n [] up few = absurd up
all_within n (key ∷ []) up few = All-cons (IsWithin n) key [] (head_within n key [] up few) (All-nil (IsWithin n))
all_within n (key ∷ above ∷ keys) up few =
    All-cons (IsWithin n) key (above ∷ keys) (head_within n key (above ∷ keys) up few) (all_within n (above ∷ keys) up.1 (omega (arith, few)))

-- ---- what is told

module _ (depth : ℕ) (spi : List ℕ) (list : List Made) (group : IsKeyedGroup depth spi list) where
  keys_fit : (path : List PathKey) → All (HasValue list) path → All (IsWithin 16) path → All PathKeyFits path
  unfolding bound
  keys_fit path values within = λ k d less.
      let small = within k d less in
      let most : bound 16 ≡ 65536 = refl in
      let few = small.few in
      key_fits depth spi list group _ small.some (omega (arith, most, few)) (values k d less)

  pub told_fits : (epoch : ℕ) (m : Name) (keyed : Keyed) → IsKeyedOf depth spi (take epoch list) m keyed → IsReply keyed
      → HasKeysOf depth spi list epoch m (store_of keyed) → KeyedFits keyed
  told_fits epoch m keyed told reply has = record {
    path = reply.path;
    keys = keys_fit keyed.path has.root.values (all_within 16 keyed.path reply.path.up reply.path.most);
    spi = ap length told.spi ∙ group.spi_size;
    small_spi = subst AreOctets (sym told.spi) group.spi_octets;
    traffic = traffic_fits list epoch keyed.traffic group.fit has.traffic.traffic;
  }

  pub told_number_fits : HoldersStay → (epoch : ℕ) (m : Name) (keyed : Keyed) → epoch ≤ length list
      → HasKeysOf depth spi list epoch m (store_of keyed) → keyed.sequence < 4294967296
  told_number_fits holders_stay epoch m keyed early has =
      let last = has.sequence in
      let rises = numbers_rise holders_stay depth (batches_made list) epoch (length list) early in
      omega (arith, last, rises, group.numbers)
