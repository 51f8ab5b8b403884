-- What the definitions of a store tell apart: the key under which it opens a push, and why it takes no path.
use Rattle.std.proofs.Common.{◌≡◌, true, false, Bool, ℕ, List, [], ◌∷◌, Result, Ok, Err, ap, refl, arith}
use Rattle.std.specs.Prelude.{MatchBool}
use Rattle.group_terms.specs.declared.paths.PathKey.{PathKey}
use Rattle.group_terms.specs.declared.pushes.PushRefusal.{PushRefusal}
use Rattle.group_terms.specs.declared.pushes.PushRefusal.TheVariants.{BadSignature, NoPath}
use Rattle.kd_wire.specs.declared.updates.UpdateArray.{UpdateArray}
use Rattle.push_msg.specs.Readings.{PushRead}
use Rattle.member_store.specs.declared.answers.Taken.{Taken}
use Rattle.member_store.specs.Steps.{IsRefused, TakesRoot, TakesTree, kek_of}
use Rattle.member_store.specs.Stores.{Store, has_position, leaf_of}

-- of two keys the second one is that of the root
key_of_the_root : (store : Store) (leaf root : PathKey) → kek_of (record store { path = leaf ∷ root ∷ [] }) ≡ root.value
key_of_the_root store leaf root = refl

-- where a push was read, its keys are taken, or there is no path; its signature is no reason
abbrev number_of : Result Taken PushRefusal → ℕ
number_of (Err BadSignature) = 0
number_of (Err why) = 1
number_of (Ok taken) = 2

module _ (store next : Store) (read : PushRead) where
  by_root : (taken : List PathKey) (has : Bool)
      → MatchBool has (TakesRoot store read.number taken (Err BadSignature) next) (IsRefused store (NoPath (leaf_of store.path)) (Err BadSignature) next) → ⊥
  by_root taken true root =
      let same : 0 ≡ 2 = ap number_of root.is in
      absurd (omega (arith, same))
  by_root taken false refused =
      let same : 0 ≡ 1 = ap number_of refused.is in
      absurd (omega (arith, same))

  signature_is_no_reason : (arrays : List UpdateArray) → TakesTree store read arrays (Err BadSignature) next → ⊥
  signature_is_no_reason arrays takes = by_root takes.taken (has_position takes.taken 1) takes.after
