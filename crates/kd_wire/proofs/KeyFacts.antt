-- What the definitions give where a wrong rule would give something else: a key of another epoch, a path that ends below the root, a packet without its head's
-- octets, traffic keys in the other order, arrays without the root's key.
use Rattle.std.proofs.Common.{◌≡◌, List, ℕ, [], ◌∷◌, ◌++◌, Some, true, false, refl}
use Rattle.gd_wire.specs.Attributes.{long_text}
use Rattle.kd_wire.specs.Arrays.{gives_root}
use Rattle.kd_wire.specs.Keys.{has_handle, is_on_path}
use Rattle.kd_wire.specs.Texts.{packet_head, packet_text, traffic_text}

handle_of_a_later_epoch : has_handle (Some 3) 4 ≡ false
handle_of_a_later_epoch = refl

path_up_to_the_root : is_on_path 0 (Some 3) 1 ≡ true
path_up_to_the_root = refl

path_that_ends_below_the_root : is_on_path 0 (Some 5) 2 ≡ false
path_that_ends_below_the_root = refl

key_beside_its_path : is_on_path 1 (Some 9) 5 ≡ false
key_beside_its_path = refl

size_of_a_packet : packet_head 1 (5 ∷ 6 ∷ 7 ∷ 8 ∷ []) 9 ≡ 1 ∷ 0 ∷ 0 ∷ 18 ∷ 4 ∷ 5 ∷ 6 ∷ 7 ∷ 8 ∷ []
size_of_a_packet = refl

traffic_keys_in_order : (cipher integrity : List ℕ) → traffic_text (record { cipher_key = cipher; integrity_key = integrity; spi = [] }) ≡ packet_text 1 [] (long_text 1 cipher ++ long_text 2 integrity)
traffic_keys_in_order cipher integrity = refl

no_array_gives_the_root : gives_root [] ≡ false
no_array_gives_the_root = refl
