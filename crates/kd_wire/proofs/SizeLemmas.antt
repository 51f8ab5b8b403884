-- How many octets are written.
use Rattle.std.proofs.Common.{◌≡◌, ℕ, ◌*◌, List, [], ◌∷◌, ◌++◌, length, length-append, arith}
use Rattle.std.specs.List.{All, flat_map}
use Rattle.std.proofs.lemmas.List.Elements.{All-head, All-tail}
use Rattle.gd_wire.specs.Attributes.{long_text}
use Rattle.group_terms.specs.Octets.{rekey_spi_octets}
use Rattle.group_terms.specs.declared.paths.Keyed.{Keyed}
use Rattle.group_terms.specs.declared.paths.PathKey.{PathKey}
use Rattle.group_terms.specs.declared.values.TrafficValue.{TrafficValue}
use Rattle.kd_wire.specs.declared.sealing.WrapJob.{WrapJob}
use Rattle.kd_wire.specs.Texts.{packet_text, key_text, data_of, traffic_text, path_text, download_text}
use Rattle.kd_wire.specs.Texts.{update_text, updates_text, traffic_kd, update_kd, reply_kd, AreUpdateTexts}
use Rattle.kd_wire.specs.Texts.{PathKeyFits, TrafficFits, Sealed, SealedFits}
use Rattle.kd_wire.specs.Widths.{lkh_key_octets, update_octets, traffic_octets, traffic_kd_octets, update_kd_octets, reply_kd_octets}
use Rattle.kd_wire.proofs.JobLemmas.{jobs_size}

-- pieces of one size, one after the other
same_sizes : {X : Type 0} (P : X → Type 0) (size : ℕ) (piece : X → List ℕ) → ((x : X) → P x → length (piece x) ≡ size)
    → (xs : List X) → All P xs → length (flat_map piece xs) ≡ size * length xs
same_sizes P size piece sized [] all = omega arith
same_sizes P size piece sized (x ∷ xs) all =
    let first = sized x (All-head P x xs all) in
    let rest = same_sizes P size piece sized xs (All-tail P x xs all) in
    let whole = length-append (piece x) (flat_map piece xs) in
    omega arith

-- a key of a path, and a path
abbrev text_of_key : PathKey → List ℕ
text_of_key key = key_text key.id key.made (data_of key.value)

pub path_key_size : (key : PathKey) → PathKeyFits key → length (key_text key.id key.made (data_of key.value)) ≡ lkh_key_octets
path_key_size key fits = omega (arith, fits.iv, fits.octets, length-append key.value.iv key.value.key)

pub path_size : (path : List PathKey) → All PathKeyFits path → length (path_text path) ≡ lkh_key_octets * length path
path_size path fit = same_sizes PathKeyFits lkh_key_octets text_of_key path_key_size path fit

-- an array that gives one key, and several of them
abbrev text_of_update : Sealed → List ℕ
text_of_update update = update_text update.job update.octets

pub update_size : (update : Sealed) → SealedFits update → length (update_text update.job update.octets) ≡ update_octets
update_size update fits = omega (arith, fits.octets)

pub updates_size : (updates : List Sealed) → All SealedFits updates → length (updates_text updates) ≡ update_octets * length updates
updates_size updates fit = same_sizes SealedFits update_octets text_of_update update_size updates fit

-- the packet of a traffic key
pub traffic_size : (traffic : TrafficValue) → TrafficFits traffic → length (traffic_text traffic) ≡ traffic_octets
traffic_size traffic fits =
    let first : List ℕ = long_text 1 traffic.cipher_key in
    let second : List ℕ = long_text 2 traffic.integrity_key in
    omega (arith, fits.cipher_key, fits.integrity_key, fits.spi, length-append first second, length-append traffic.spi (first ++ second))

-- bodies
pub traffic_kd_size : (traffic : TrafficValue) → TrafficFits traffic → length (traffic_kd traffic) ≡ traffic_kd_octets
traffic_kd_size traffic fits = omega (arith, traffic_size traffic fits)

pub update_kd_size : (spi : List ℕ) (jobs : List WrapJob) (text : List ℕ) → length spi ≡ rekey_spi_octets → AreUpdateTexts jobs text
    → length (update_kd spi text) ≡ update_kd_octets (length jobs)
update_kd_size spi jobs text long texts = omega (arith, long, jobs_size jobs text texts, length-append spi text)

pub reply_kd_size : (keyed : Keyed) → length keyed.spi ≡ rekey_spi_octets → All PathKeyFits keyed.path → TrafficFits keyed.traffic
    → length (reply_kd keyed) ≡ reply_kd_octets (length keyed.path)
reply_kd_size keyed long keys traffic =
    let download = download_text keyed.path in
    let first = traffic_size keyed.traffic traffic in
    let whole = length-append (traffic_text keyed.traffic) (packet_text 3 keyed.spi download) in
    omega (arith, long, path_size keyed.path keys, length-append keyed.spi download)
