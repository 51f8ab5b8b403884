-- A path stays one with new keys.
use Rattle.std.proofs.Common.{◌≡◌, ◌∙◌, ap, refl, subst, sym, ◌≤◌, ◌/◌, List, [], ◌∷◌, Option, None, Some}
use Rattle.std.specs.List.{find}
use Rattle.std.specs.Option.{unwrap_or}
use Rattle.std.proofs.lemmas.Bool.{eqb-true}
use Rattle.std.proofs.lemmas.List.{length-map}
use Rattle.group_terms.specs.declared.paths.PathKey.{PathKey}
use Rattle.kd_wire.specs.Texts.{IsPath, LeadsUp}
use Rattle.member_store.specs.Stores.{is_at, renewed_by, with_keys}
use Rattle.member_store.proofs.FindLemmas.{found_passes}

module _ (new : List PathKey) where
  same_by : (key : PathKey) (found : Option PathKey) → find (is_at key.id) new ≡ found → (unwrap_or found key).id ≡ key.id
  same_by key None is = refl
  same_by key (Some other) is = eqb-true other.id key.id (found_passes (is_at key.id) new other is)

  same_position : (key : PathKey) → (renewed_by new key).id ≡ key.id
  same_position key = same_by key _ refl

  leads_up : (path : List PathKey) → LeadsUp path → LeadsUp (with_keys path new)
  leads_up [] up = up
  leads_up (key ∷ []) up = same_position key ∙ up
  leads_up (key ∷ above ∷ path) up =
      (same_position above ∙ up.0 ∙ ap (λ id. id / 2) (sym (same_position key)), leads_up (above ∷ path) up.1)

  pub stays_path : (path : List PathKey) → IsPath path → IsPath (with_keys path new)
  stays_path path is = record {
    up = leads_up path is.up;
    least = subst (λ n. 2 ≤ n) (sym (length-map path (renewed_by new))) is.least;
    most = subst (λ n. n ≤ 16) (sym (length-map path (renewed_by new))) is.most;
  }
