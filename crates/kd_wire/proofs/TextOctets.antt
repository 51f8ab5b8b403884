-- What is written is octets.
use Rattle.std.proofs.Common.{◌≡◌, ℕ, ◌+◌, List, [], ◌∷◌, ◌++◌, length, arith}
use Rattle.std.specs.List.{All, flat_map}
use Rattle.std.proofs.lemmas.List.Elements.{All-head, All-tail}
use Rattle.byteorder.specs.Endian.{big_bytes}
use Rattle.group_terms.specs.Octets.{IsOctet, AreOctets, rekey_spi_octets}
use Rattle.group_terms.specs.declared.paths.Keyed.{Keyed}
use Rattle.group_terms.specs.declared.paths.PathKey.{PathKey}
use Rattle.group_terms.specs.declared.values.TrafficValue.{TrafficValue}
use Rattle.gd_wire.specs.Attributes.{long_text}
use Rattle.gd_wire.proofs.OctetLemmas.{none, one_more, both}
use Rattle.kd_wire.specs.declared.sealing.WrapJob.{WrapJob}
use Rattle.kd_wire.specs.Texts.{packet_head, packet_text, body_text, key_text, data_of, traffic_text, path_text, download_text, update_text}
use Rattle.kd_wire.specs.Texts.{updates_text, traffic_kd, update_kd, reply_kd, AreUpdateTexts}
use Rattle.kd_wire.specs.Texts.{PathKeyFits, TrafficFits, KeyedFits, Sealed, SealedFits}

module _
    (number_octets : (size number : ℕ) → AreOctets (big_bytes size number))
    (long_octets : (kind : ℕ) (value : List ℕ) → AreOctets value → AreOctets (long_text kind value))
  where
    -- a number, and other octets after it
    front : (size number : ℕ) (more : List ℕ) → AreOctets more → AreOctets (big_bytes size number ++ more)
    front size number more = both (big_bytes size number) more (number_octets size number)

    -- pieces that are octets, one after the other
    pieces : {X : Type 0} (P : X → Type 0) (piece : X → List ℕ) → ((x : X) → P x → AreOctets (piece x))
        → (xs : List X) → All P xs → AreOctets (flat_map piece xs)
    pieces P piece small [] all = none
    pieces P piece small (x ∷ xs) all =
        both (piece x) (flat_map piece xs) (small x (All-head P x xs all)) (pieces P piece small xs (All-tail P x xs all))

    -- a key with its data
    key_octets : (id made : ℕ) (value : List ℕ) → AreOctets value → AreOctets (key_text id made value)
    key_octets id made value small =
        front 2 id (big_bytes 2 768 ++ (big_bytes 4 0 ++ (big_bytes 4 0 ++ (big_bytes 4 made ++ value))))
        (front 2 768 (big_bytes 4 0 ++ (big_bytes 4 0 ++ (big_bytes 4 made ++ value)))
        (front 4 0 (big_bytes 4 0 ++ (big_bytes 4 made ++ value)) (front 4 0 (big_bytes 4 made ++ value) (front 4 made value small))))

    path_key_octets : (key : PathKey) → PathKeyFits key → AreOctets (key_text key.id key.made (data_of key.value))
    path_key_octets key fits = key_octets key.id key.made (data_of key.value) (both key.value.iv key.value.key fits.small_iv fits.small_octets)

    path_octets : (path : List PathKey) → All PathKeyFits path → AreOctets (path_text path)
    path_octets = pieces PathKeyFits (λ (key : PathKey). key_text key.id key.made (data_of key.value)) path_key_octets

    download_octets : (path : List PathKey) → All PathKeyFits path → AreOctets (download_text path)
    download_octets path fit =
        let keys : List ℕ = 0 ∷ path_text path in
        long_octets 1 (1 ∷ big_bytes 2 (length path) ++ keys)
        (front 1 1 (big_bytes 2 (length path) ++ keys) (front 2 (length path) keys (front 1 0 (path_text path) (path_octets path fit))))

    -- an array of one key, and those of jobs
    pub update_octets : (job : WrapJob) (sealed : List ℕ) → AreOctets sealed → AreOctets (update_text job sealed)
    update_octets job sealed small =
        let key : List ℕ = key_text job.gives.id job.gives.made sealed in
        let by : List ℕ = big_bytes 2 0 ++ (big_bytes 4 job.by.made ++ key) in
        long_octets 2 (big_bytes 4 16777472 ++ (big_bytes 2 job.by.id ++ by))
        (front 4 16777472 (big_bytes 2 job.by.id ++ by) (front 2 job.by.id by (front 2 0 (big_bytes 4 job.by.made ++ key)
        (front 4 job.by.made key (key_octets job.gives.id job.gives.made sealed small)))))

    pub updates_octets : (updates : List Sealed) → All SealedFits updates → AreOctets (updates_text updates)
    updates_octets =
        pieces SealedFits (λ (update : Sealed). update_text update.job update.octets)
        (λ update fits. update_octets update.job update.octets fits.small_octets)

    pub jobs_octets : (jobs : List WrapJob) (text : List ℕ) → AreUpdateTexts jobs text → AreOctets text
    jobs_octets [] text same = rw same none
    jobs_octets (job ∷ jobs) text (first, rest, update, others, same) =
        let one : AreOctets first = rw update.is_text (update_octets job update.sealed update.small_octets) in
        rw same (both first rest one (jobs_octets jobs rest others))

    -- packets
    packet_octets : (kind : ℕ) (spi attributes : List ℕ) → IsOctet kind → IsOctet (length spi) → AreOctets spi → AreOctets attributes
        → AreOctets (packet_text kind spi attributes)
    packet_octets kind spi attributes small few spis more =
        let size : ℕ = 5 + length spi + length attributes in
        let text : List ℕ = length spi ∷ spi in
        let sized : AreOctets (big_bytes 2 size ++ text) = front 2 size text (one_more (length spi) spi few spis) in
        let head = one_more kind (0 ∷ big_bytes 2 size ++ text) small (front 1 0 (big_bytes 2 size ++ text) sized) in
        both (packet_head kind spi (length attributes)) attributes head more

    traffic_octets : (traffic : TrafficValue) → TrafficFits traffic → AreOctets (traffic_text traffic)
    traffic_octets traffic fits =
        let first : List ℕ = long_text 1 traffic.cipher_key in
        let second : List ℕ = long_text 2 traffic.integrity_key in
        let cipher_key = long_octets 1 traffic.cipher_key fits.small_cipher_key in
        let integrity_key = long_octets 2 traffic.integrity_key fits.small_integrity_key in
        let keys = both first second cipher_key integrity_key in
        packet_octets 1 traffic.spi (first ++ second) (omega arith) (omega (arith, fits.spi)) fits.small_spi keys

    -- bodies
    body_octets : (count : ℕ) (packets : List ℕ) → AreOctets packets → AreOctets (body_text count packets)
    body_octets count packets small = front 2 count (big_bytes 2 0 ++ packets) (front 2 0 packets small)

    pub traffic_kd_octets : (traffic : TrafficValue) → TrafficFits traffic → AreOctets (traffic_kd traffic)
    traffic_kd_octets traffic fits = body_octets 1 (traffic_text traffic) (traffic_octets traffic fits)

    pub update_kd_octets : (spi arrays : List ℕ) → length spi ≡ rekey_spi_octets → AreOctets spi → AreOctets arrays
        → AreOctets (update_kd spi arrays)
    update_kd_octets spi arrays long small more =
        body_octets 1 (packet_text 3 spi arrays) (packet_octets 3 spi arrays (omega arith) (omega (arith, long)) small more)

    pub reply_kd_octets : (keyed : Keyed) → KeyedFits keyed → AreOctets (reply_kd keyed)
    reply_kd_octets keyed fits =
        let first : List ℕ = traffic_text keyed.traffic in
        let second : List ℕ = packet_text 3 keyed.spi (download_text keyed.path) in
        let keys = download_octets keyed.path fits.keys in
        let path = packet_octets 3 keyed.spi (download_text keyed.path) (omega arith) (omega (arith, fits.spi)) fits.small_spi keys in
        body_octets 2 (first ++ second) (both first second (traffic_octets keyed.traffic fits.traffic) path)
