-- What a group drew fits, and so do its epochs and the numbers of its pushes.
use Rattle.std.proofs.Common.{◌≡◌, arith, refl, subst, ℕ, zero, suc, ◌+◌, ◌<◌, ◌≤◌, Bool, true, false, List, [], ◌∷◌, length, Option, None, Some}
use Rattle.std.specs.Prelude.{◌==◌, if◌then◌else◌}
use Rattle.std.specs.List.{All, fold}
use Rattle.std.specs.Option.{option_map}
use Rattle.std.proofs.lemmas.List.Elements.{All-get_or, All-head, All-tail}
use Rattle.std.proofs.lemmas.Option.{get_or_from_slice_get, none-some, option_and_then_some, same_Some, slice_get_within}
use Rattle.gd_edges.specs.declared.signers.Signer.{Ghosts as SignerGhosts}
use Rattle.group_terms.specs.declared.paths.PathKey.{PathKey}
use Rattle.group_terms.specs.declared.values.Drawn.{Drawn}
use Rattle.group_terms.specs.declared.values.NodeValue.{NodeValue}
use Rattle.group_terms.specs.declared.values.TrafficValue.{TrafficValue}
use Rattle.group_values.specs.Values.{HasValue, Made, after_draw, batches_made, made_at, node_value, traffic_value, value_of}
use Rattle.group_model.specs.Laws.{HoldersStay}
use Rattle.group_model.specs.declared.entries.PushPair.{PushPair}
use Rattle.group_pushes.specs.Fits.{MadeFits}
use Rattle.kd_wire.specs.Texts.{PathKeyFits, TrafficFits}
use Rattle.push_msg.specs.Written.{KekFits}
use Rattle.law_member_roots.specs.Groups.{IsKeyedGroup, IsPairAt}
use Rattle.law_member_roots.proofs.NumberLemmas.{last_number, numbers_rise}

-- ---- the values of positions

-- the value of a position that was drawn fits
abbrev DrawnFits : Drawn → Type 0
DrawnFits drawn = KekFits drawn.value

module _ (v : ℕ) where
  fits_by : (here : Bool) (now : Option NodeValue) (node : Drawn) → DrawnFits node → ((value : NodeValue) → now ≡ Some value → KekFits value)
      → (value : NodeValue) → (if here then Some node.value else now) ≡ Some value → KekFits value
  fits_by true now node fits start value is = subst KekFits (same_Some node.value value is) fits
  fits_by false now node fits start value is = start value is

  -- where what was there before fits, so does what is there after these draws
  drawn_fits : (now : Option NodeValue) (nodes : List Drawn) → All DrawnFits nodes → ((value : NodeValue) → now ≡ Some value → KekFits value)
      → (value : NodeValue) → fold (after_draw v) now nodes ≡ Some value → KekFits value
  drawn_fits now [] fit start value is = start value is
  drawn_fits now (node ∷ nodes) fit start value is =
      drawn_fits (after_draw v now node) nodes (All-tail DrawnFits node nodes fit)
      (fits_by (node.id == v) now node (All-head DrawnFits node nodes fit) start) value is

module _ (list : List Made) where
  -- a batch that made an epoch is one of these
  made_fits : (epoch : ℕ) (made : Made) → All MadeFits list → made_at list epoch ≡ Some made → MadeFits made
  made_fits zero made fit is = absurd (none-some made is)
  made_fits (suc epoch) made fit is =
      subst MadeFits (get_or_from_slice_get list epoch made made is) (All-get_or MadeFits list epoch made (slice_get_within list epoch made is) fit)

  made_within : (epoch : ℕ) (made : Made) → made_at list epoch ≡ Some made → epoch ≤ length list
  made_within zero made is = absurd (none-some made is)
  made_within (suc epoch) made is = let within = slice_get_within list epoch made is in omega (arith, within)

  pub node_fits : (v epoch : ℕ) (value : NodeValue) → All MadeFits list → node_value list v epoch ≡ Some value → KekFits value
  node_fits v epoch value fit is =
      option_and_then_some (λ (made : Made). value_of made.values.nodes v) (made_at list epoch) value is
      (λ made at drawn. drawn_fits v None made.values.nodes (made_fits epoch made fit at).nodes (λ value is. absurd (none-some value is)) value drawn)

  node_within : (v epoch : ℕ) (value : NodeValue) → node_value list v epoch ≡ Some value → epoch ≤ length list
  node_within v epoch value is =
      option_and_then_some (λ (made : Made). value_of made.values.nodes v) (made_at list epoch) value is (λ made at drawn. made_within epoch made at)

  traffic_by : (epoch : ℕ) (traffic : TrafficValue) (found : Option Made) → All MadeFits list → made_at list epoch ≡ found
      → option_map (λ (made : Made). made.values.traffic) found ≡ Some traffic → TrafficFits traffic
  traffic_by epoch traffic None fit at is = absurd (none-some traffic is)
  traffic_by epoch traffic (Some made) fit at is = subst TrafficFits (same_Some made.values.traffic traffic is) (made_fits epoch made fit at).traffic

  pub traffic_fits : (epoch : ℕ) (traffic : TrafficValue) → All MadeFits list → traffic_value list epoch ≡ Some traffic → TrafficFits traffic
  traffic_fits epoch traffic fit is = traffic_by epoch traffic (made_at list epoch) fit refl is

-- ---- the keys of a group, and its numbers

module _ (depth : ℕ) (spi : List ℕ) (list : List Made) (group : IsKeyedGroup depth spi list) where
  -- a key of a position with a number of 2 octets can be written
  pub key_fits : (key : PathKey) → 0 < key.id → key.id < 65536 → HasValue list key → PathKeyFits key
  key_fits key some small has =
      let fits = node_fits list key.id key.made key.value group.fit has in
      let within = node_within list key.id key.made key.value has in
      record {
        some = some;
        id = small;
        made = omega (arith, within, group.epochs);
        iv = fits.iv.len;
        octets = fits.key.len;
        small_iv = fits.iv.small;
        small_octets = fits.key.small;
      }

-- the numbers of a pair have 32 bits
pub pair_fits : {G : Type 0} (holders_stay : HoldersStay) (g : SignerGhosts G) (signer : G) (depth : ℕ) (spi : List ℕ) (list : List Made) (epoch : ℕ)
    (pair : PushPair) → IsKeyedGroup depth spi list → IsPairAt g signer depth spi list epoch pair → pair.first + 1 < 4294967296
pair_fits holders_stay g signer depth spi list epoch pair group at =
    let last = last_number holders_stay depth g signer spi list pair epoch at in
    let rises = numbers_rise holders_stay depth (batches_made list) epoch (length list) at.early in
    omega (arith, last, rises, group.numbers)
