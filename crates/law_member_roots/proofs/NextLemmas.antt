-- A path whose new keys were taken is that of the next root.
use Rattle.std.proofs.Common.{◌≡◌, ◌∙◌, ap, inl, inr, refl, subst, sym, ℕ, ◌+◌, true, false, List, [], ◌∷◌, map, Option, None, Some, eqb}
use Rattle.std.specs.List.{All, find}
use Rattle.std.specs.Option.{unwrap_or}
use Rattle.std.proofs.lemmas.Bool.{cases_Bool, eqb-true, false≢true, or_from}
use Rattle.std.proofs.lemmas.List.Elements.{All-head, All-map, All-tail, All-weaker}
use Rattle.group_terms.specs.declared.changes.Change.{Change}
use Rattle.group_terms.specs.declared.keys.KeyName.TheVariants.{Node}
use Rattle.group_terms.specs.declared.paths.PathKey.{PathKey}
use Rattle.group_values.specs.Values.{HasValue, Made, batches_made}
use Rattle.group_model.specs.Fresh.{is_fresh, node_name}
use Rattle.group_model.specs.Places.{holders_at}
use Rattle.law_key_ways.specs.Laws.{IsRenewed}
use Rattle.member_store.specs.Stores.{has_position, is_at, renewed_by, with_keys}
use Rattle.law_member_roots.proofs.FoundLemmas.{after_first, at_first, found_has, found_passes}
use Rattle.law_member_roots.proofs.ReplyLemmas.{is_empty}
use Rattle.law_member_roots.proofs.RootKeyLemmas.{name_of}
use Rattle.law_member_roots.proofs.TakenLemmas.{IsNew, kept_made, made_at, renewed_made}
use Rattle.law_member_roots.proofs.WayLemmas.{first_id, first_made, later_names}
use Rattle.std.proofs.lemmas.Option.{none-some}

-- where no key of a position is found, none is there
none_there : (v : ℕ) (keys : List PathKey) → find (is_at v) keys ≡ None → has_position keys v ≡ false
none_there v [] is = refl
none_there v (key ∷ keys) is = elim (cases_Bool (is_at v key)) [
  | inl here ↦ absurd (none-some key (sym is ∙ at_first (is_at v) key keys here))
  | inr other ↦ or_from (eqb key.id v) (has_position keys v) other (none_there v keys (sym (after_first (is_at v) key keys other) ∙ is))
]

module _ (depth epoch : ℕ) (list : List Made) (taken : List PathKey) (news : All (IsNew depth epoch list) taken) where
  abbrev batches : List (List Change)
  batches = batches_made list

  abbrev made_then : ℕ → ℕ
  made_then v = made_at depth batches epoch v

  -- a position whose new key was taken, if it has one
  abbrev pub IsCovered : ℕ → Type 0
  IsCovered v = IsRenewed depth batches epoch v → has_position taken v ≡ true

  -- the name of a key at the new epoch
  name_by : (v : ℕ) (key : PathKey) → key.id ≡ v → key.made ≡ made_then v → IsCovered v → (found : Option PathKey) → find (is_at key.id) taken ≡ found
      → name_of (unwrap_or found key) ≡ node_name depth batches (epoch + 1) v
  name_by v key id made covered None is = elim (cases_Bool (is_fresh depth (holders_at depth batches epoch) (holders_at depth batches (epoch + 1)) v)) [
    | inl new ↦ absurd (false≢true (sym (none_there key.id taken is) ∙ ap (has_position taken) id ∙ covered new))
    | inr old ↦ (λ i. Node (id i) ((made ∙ sym (kept_made depth batches epoch v old)) i))
  ]
  name_by v key id made covered (Some new) is =
      let is_new = found_has (is_at key.id) (IsNew depth epoch list) taken new news is in
      let here : new.id ≡ v = eqb-true new.id key.id (found_passes (is_at key.id) taken new is) ∙ id in
      λ i. Node (here i) ((is_new.made ∙ sym (renewed_made depth batches epoch v (subst (IsRenewed depth batches epoch) here is_new.renewed))) i)

  pub next_names : (ids : List ℕ) (path : List PathKey) → map name_of path ≡ map (node_name depth batches epoch) ids → All IsCovered ids
      → map name_of (with_keys path taken) ≡ map (node_name depth batches (epoch + 1)) ids
  next_names [] [] names covered = refl
  next_names (v ∷ ids) [] names covered = absurd (false≢true (sym (ap is_empty names)))
  next_names [] (key ∷ path) names covered = absurd (false≢true (ap is_empty names))
  next_names (v ∷ ids) (key ∷ path) names covered =
      λ i. name_by v key (first_id made_then v ids key path names) (first_made made_then v ids key path names) (All-head IsCovered v ids covered)
      (find (is_at key.id) taken) refl i
      ∷ next_names ids path (later_names made_then v ids key path names) (All-tail IsCovered v ids covered) i

  value_by : (key : PathKey) → HasValue list key → (found : Option PathKey) → find (is_at key.id) taken ≡ found → HasValue list (unwrap_or found key)
  value_by key has None is = has
  value_by key has (Some new) is = (found_has (is_at key.id) (IsNew depth epoch list) taken new news is).value

  pub next_values : (path : List PathKey) → All (HasValue list) path → All (HasValue list) (with_keys path taken)
  next_values path values =
      All-map (HasValue list) (renewed_by taken) path
      (All-weaker (HasValue list) (λ key. HasValue list (renewed_by taken key)) (λ key has. value_by key has (find (is_at key.id) taken) refl) path values)
