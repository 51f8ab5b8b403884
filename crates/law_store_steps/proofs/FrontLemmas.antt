-- A list of batches that begins with those of a run: its first epochs are those of the run.
use Rattle.std.proofs.Common.{◌≡◌, ◌∙◌, ap, arith, length-append, subst, sym, ℕ, ◌-◌, ◌≤◌, true, List, ◌++◌, length, take}
use Rattle.std.proofs.Math.Seq.{take-append_seam}
use Rattle.std.proofs.lemmas.List.{length-map, map-append, take-append-le}
use Rattle.gd_edges.specs.declared.signers.Signer.{Ghosts as SignerGhosts}
use Rattle.group_terms.specs.Names.{Name}
use Rattle.group_terms.specs.declared.changes.Change.{Change}
use Rattle.group_terms.specs.declared.paths.Keyed.{Keyed}
use Rattle.group_values.specs.Values.{Made, batches_made}
use Rattle.group_model.specs.Places.{holders_at, holders_of, is_member}
use Rattle.group_model.specs.Stayed.{somebody_stayed, stayed_at}
use Rattle.group_model.specs.declared.entries.PushPair.{PushPair}
use Rattle.group_keys.specs.Replies.{IsKeyedOf}
use Rattle.group_pushes.specs.Pairs.{IsPairOf}
use Rattle.law_member_roots.specs.Groups.{IsPairAt}

module _ (depth : ℕ) (list later : List Made) where
  pub early : length list ≤ length (list ++ later)
  early = omega (arith, length-append list later)

  abbrev as_long : length (batches_made list) ≡ length list
  as_long = length-map list (λ (made : Made). made.changes)

  -- the holders of the first epochs
  holders_early : (epoch : ℕ) → epoch ≤ length list
      → holders_at depth (batches_made (list ++ later)) epoch ≡ holders_at depth (batches_made list) epoch
  holders_early epoch few =
      ap (λ (batches : List (List Change)). holders_of depth (take epoch batches)) (map-append (λ (made : Made). made.changes) list later)
      ∙ ap (holders_of depth)
      (take-append-le epoch (batches_made list) (batches_made later) (subst (λ n. epoch ≤ n) (sym as_long) few))

  pub member_early : (m : Name) (epoch : ℕ) → epoch ≤ length list → is_member (holders_at depth (batches_made list) epoch) m ≡ true
      → is_member (holders_at depth (batches_made (list ++ later)) epoch) m ≡ true
  member_early m epoch few is = subst (λ holders. is_member holders m ≡ true) (sym (holders_early epoch few)) is

  pub keyed_early : (spi : List ℕ) (m : Name) (keyed : Keyed) (epoch : ℕ) → epoch ≤ length list → IsKeyedOf depth spi (take epoch list) m keyed
      → IsKeyedOf depth spi (take epoch (list ++ later)) m keyed
  keyed_early spi m keyed epoch few is =
      subst (λ (given : List Made). IsKeyedOf depth spi given m keyed) (sym (take-append-le epoch list later few)) is

  stayed_early : stayed_at depth (batches_made list) (length list) ≡ true
      → stayed_at depth (batches_made (list ++ later)) (length list) ≡ true
  stayed_early is =
      (λ i. somebody_stayed (holders_early (length list - 1) (omega arith) i) (holders_early (length list) (omega arith) i)) ∙ is

  -- the pair of the last batch of the run
  pub pair_early : {G : Type 0} (g : SignerGhosts G) (signer : G) (spi : List ℕ) (pair : PushPair)
      → stayed_at depth (batches_made list) (length list) ≡ true → IsPairOf g signer depth spi list pair
      → IsPairAt g signer depth spi (list ++ later) (length list) pair
  pair_early g signer spi pair stayed is = record {
    early = early;
    stayed = stayed_early stayed;
    is_pair = subst (λ (given : List Made). IsPairOf g signer depth spi given pair) (sym (take-append_seam list later)) is;
  }
