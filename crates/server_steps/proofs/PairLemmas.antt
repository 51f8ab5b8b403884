-- The numbers of a pair that a core made.
use Rattle.std.proofs.Common.{◌≡◌, ◌∙◌, ℕ, ◌+◌, ◌<◌, ◌^◌, Bool, true, false, List, length, Option, None, Some, sym, ap, subst, arith}
use Rattle.std.specs.Prelude.{IfSome, MatchBool}
use Rattle.std.proofs.lemmas.List.{length-map}
use Rattle.gd_edges.specs.declared.draws.Draws.{Ghosts as DrawGhosts}
use Rattle.gd_edges.specs.declared.signers.Signer.{Ghosts as SignerGhosts}
use Rattle.group_values.specs.Values.{Made, batches_made}
use Rattle.group_model.specs.Stayed.{sequence_at, stayed_at}
use Rattle.group_model.specs.Servers.{Server}
use Rattle.group_model.specs.declared.entries.PushPair.{PushPair}
use Rattle.gcks_core.specs.Stands.{Stands}
use Rattle.gcks_core.specs.Views.{View}
use Rattle.group_pushes.specs.Pairs.{IsPairIfStayed, IsPairOf}

-- both have 32 bits
abbrev pub Fits : PushPair → Type 0
Fits pair = pair.first + 1 < 2 ^ 32

-- where the number of the last push has
pub pair_fits : {G : Type 0} (g : SignerGhosts G) (signer : G) (depth : ℕ) (spi : List ℕ) (list : List Made) (pair : Option PushPair) (sequence : ℕ)
    → sequence < 2 ^ 32 → sequence ≡ sequence_at depth (batches_made list) (length list) → IsPairIfStayed g signer depth spi list pair
    → IfSome pair Fits
pair_fits g signer depth spi list pair sequence small is made = by_stayed (stayed_at depth (batches_made list) (length list)) made
  where
    by_stayed : (b : Bool) → MatchBool b ((sent : PushPair) × (pair ≡ Some sent) × IsPairOf g signer depth spi list sent) (pair ≡ None)
        → IfSome pair Fits
    by_stayed true made =
        let last = made.2.first in
        subst (λ one. IfSome one Fits) (sym made.1) (omega (arith, last, small, is))
    by_stayed false none = subst (λ one. IfSome one Fits) (sym none) tt

-- the same by the number of the last push of a core
pub standing_pair_fits : {D G R S : Type 0} (g : SignerGhosts S) (draws : DrawGhosts R) (core : View D G R) (signer : S) (server : Server) (spi : List ℕ)
    (pair : Option PushPair) → core.tree.sequence < 2 ^ 32 → Stands draws core server → IsPairIfStayed g signer server.depth spi server.list pair
    → IfSome pair Fits
standing_pair_fits g draws core signer server spi pair small stands made =
    pair_fits g signer server.depth spi server.list pair core.tree.sequence small
    (stands.tree.sequence
    ∙ ap (λ depth. sequence_at depth (batches_made server.list) (length (batches_made server.list))) stands.tree_depth
    ∙ ap (sequence_at server.depth (batches_made server.list)) (length-map server.list (λ (one : Made). one.changes)))
    made
