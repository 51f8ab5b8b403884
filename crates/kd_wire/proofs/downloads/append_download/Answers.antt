use Rattle.std.proofs.Common.{◌≡◌, ◌+◌, ◌*◌, ◌++◌, ℕ, List, ◌∷◌, length, append_assoc, ap, ◌∙◌, arith}
use Rattle.byteorder.specs.Endian.{big_bytes}
use Rattle.kd_wire.proofs.TextLemmas.{one_more}
use Rattle.kd_wire.specs.Private.Heads.{download_head}
use Rattle.kd_wire.specs.Texts.{packet_head, download_text, path_text}
use Rattle.kd_wire.specs.Widths.{lkh_key_octets, download_array_octets}
use Rattle.kd_wire.proofs.downloads.append_download.Goals as goal

pub returns-clause-ok : goal.returns-clause-ok
returns-clause-ok c =
    let old = c.args.out.now in
    let spi = c.args.spi.now in
    let count : ℕ = length c.args.keys.now in
    let keys : List ℕ = path_text c.args.keys.now in
    let packet : List ℕ = packet_head 3 spi (8 + lkh_key_octets * count) in
    let head : List ℕ = download_head count in
    let after_packet = c.append_lkh_head.new.out in
    let after_head = c.append_download_head.new.out in
    let first = c.in_ok-append_lkh_head.ensures.ok in
    let second = one_more old packet after_packet head after_head first c.in_ok-append_download_head.ensures.ok in
    let third = one_more old (packet ++ head) after_head keys c.append_keys.new.out second c.in_ok-append_keys.ensures.ok in
    let long : length keys ≡ lkh_key_octets * count = c.in_ok-append_keys.ensures.size in
    let value : List ℕ = 1 ∷ big_bytes 2 count ++ 0 ∷ keys in
    let told : download_array_octets count ≡ length value = omega (arith, long) in
    let size : 8 + lkh_key_octets * count ≡ length (download_text c.args.keys.now) = omega (arith, long) in
    let download : head ++ keys ≡ download_text c.args.keys.now = ap (λ (n : ℕ). 0 ∷ 1 ∷ big_bytes 2 n ++ value) told in
    third ∙ ap (λ text. old ++ text) (append_assoc packet head keys ∙ (λ i. packet_head 3 spi (size i) ++ download i))
