-- The keys from a leaf up to the root.
use Rattle.std.proofs.Common.{◌≡◌, ℕ, zero, suc, ◌+◌, ◌-◌, ◌*◌, ◌/◌, ◌^◌, ◌<◌, ◌≤◌, List, [], ◌∷◌, ◌++◌, length, map, sym, ap, ◌∙◌, subst, arith, append_assoc, add-one, length-append}
use Rattle.std.specs.List.{All}
use Rattle.std.proofs.Math.Pow.{pow_mono}
use Rattle.std.proofs.lemmas.Grind.{pow_more}
use Rattle.std.proofs.lemmas.List.{map-append}
use Rattle.std.proofs.lemmas.List.Elements.{All-push}
use Rattle.group_terms.specs.declared.paths.PathKey.{PathKey}
use Rattle.group_model.specs.Fresh.{upwards}

pub twice : (n : ℕ) → 2 ^ suc n ≡ 2 ^ n * 2
twice n = ap (λ k. 2 ^ k) (sym (add-one n)) ∙ pow_more 2 n

pub some_power : (n : ℕ) → 0 < 2 ^ n
some_power zero = omega arith
some_power (suc n) = omega (arith, some_power n, twice n)

-- a position at most that many steps below the root lies in the tree
within_tree : (depth steps id : ℕ) → steps ≤ depth → id < 2 ^ (steps + 1) → id < 2 ^ (depth + 1)
within_tree depth steps id few low = omega (arith, low, pow_mono {i = steps + 1} {j = depth + 1} (omega (arith, few)))

-- one position more
ids_more : (keys : List PathKey) (key : PathKey) (steps id : ℕ) → key.id ≡ id
    → map (λ (key : PathKey). key.id) (keys ++ key ∷ []) ++ upwards steps (id / 2) ≡ map (λ (key : PathKey). key.id) keys ++ upwards (suc steps) id
ids_more keys key steps id is =
    ap (λ ids. ids ++ upwards steps (id / 2)) (map-append (λ (key : PathKey). key.id) keys (key ∷ []))
    ∙ append_assoc (map (λ (key : PathKey). key.id) keys) (key.id ∷ []) (upwards steps (id / 2))
    ∙ ap (λ v. map (λ (key : PathKey). key.id) keys ++ v ∷ upwards steps (id / 2)) is

-- the keys from a leaf up to before a position, each with a property, and that position: it lies this number of steps up
pub record IsOnTheWay (K : PathKey → Type 0) (depth leaf : ℕ) (path : List PathKey) (steps id : ℕ) : Type 0 where
  pub ids : map (λ (key : PathKey). key.id) path ++ upwards (depth - steps) id ≡ upwards depth leaf
  pub keys : All K path
  pub long : length path ≡ steps
  pub from : 2 ^ (depth - steps) ≤ id
  pub to : id < 2 ^ (depth - steps + 1)

module _ {K : PathKey → Type 0} {depth leaf steps id : ℕ} {path : List PathKey} (way : IsOnTheWay K depth leaf path steps id) where
  -- a position on the way lies in the tree, and is not the root before the last step
  pub in_the_tree : id < 2 ^ (depth + 1)
  in_the_tree = within_tree depth (depth - steps) id (omega arith) way.to

  pub below_root : steps < depth → 1 < id
  below_root more =
      let left : depth - steps ≡ suc (depth - (steps + 1)) = omega (arith, more) in
      omega (arith, subst (λ n. 2 ^ n ≤ id) left way.from, twice (depth - (steps + 1)), some_power (depth - (steps + 1)))

  -- one key more
  pub all_keys : (key : PathKey) → K key → (new : List PathKey) → new ≡ path ++ key ∷ [] → All K new
  all_keys key has new grown = subst (All K) (sym grown) (All-push K path key way.keys has)

  -- one step more, with the key of its position
  pub one_step_up : steps < depth → (key : PathKey) → key.id ≡ id → K key → (new : List PathKey) → new ≡ path ++ key ∷ []
      → (above : ℕ) → above ≡ id / 2 → IsOnTheWay K depth leaf new (steps + 1) above
  one_step_up more key is has new grown above up =
      let rest = depth - (steps + 1) in
      let left : depth - steps ≡ suc rest = omega (arith, more) in
      let from : 2 ^ suc rest ≤ id = subst (λ n. 2 ^ n ≤ id) left way.from in
      let to : id < 2 ^ (suc rest + 1) = subst (λ n. id < 2 ^ (n + 1)) left way.to in
      record {
        ids = (λ i. map (λ (key : PathKey). key.id) (grown i) ++ upwards rest (up i)) ∙ ids_more path key rest id is
            ∙ ap (λ n. map (λ (key : PathKey). key.id) path ++ upwards n id) (sym left) ∙ way.ids;
        keys = all_keys key has new grown;
        long = omega (arith, ap length grown, length-append path (key ∷ []), way.long);
        from = omega (arith, up, from, twice rest);
        to = omega (arith, up, to, pow_more 2 (suc rest), twice rest, pow_more 2 rest);
      }
