-- Facts of each byte, most of them computed over all bytes.
-- Two tables over `range_with_len 0 256` are equal by `refl`, and `each_byte` gives that for a byte that is a variable. The inverse of the substitution takes
-- some seconds.
use Rattle.std.proofs.Common.{◌≡◌, ℕ, ◌*◌, ◌/◌, ◌<◌, ◌==◌, Bool, true, false, cond, ltb, List, length, Some, None, map, bit_xor, refl, ap, sym, ◌∙◌, get_or, arith}
use Rattle.std.specs.Option.{unwrap_or}
use Rattle.std.proofs.lemmas.Bool.{ltb-true}
use Rattle.std.specs.List.{range_with_len, position, position_or_len}
use Rattle.std.proofs.lemmas.List.FromFn.{get_or-map-range_with_len}
use Rattle.gd_cipher.specs.Fields.{times, times_x, undo_affine, substitute, undo_substitute}

-- two functions that give the same table give the same at each byte
pub each_byte : (f g : ℕ → ℕ) → map f (range_with_len 0 256) ≡ map g (range_with_len 0 256) → (p : ℕ) → p < 256 → f p ≡ g p
each_byte f g same p small =
    sym (get_or-map-range_with_len f 0 256 p p 0 small (omega arith)) ∙ ap (λ table. get_or table p 0) same ∙ get_or-map-range_with_len g 0 256 p p 0 small (omega arith)

substituted_table : map (λ p. undo_substitute (substitute p)) (range_with_len 0 256) ≡ map (λ p. p) (range_with_len 0 256)
substituted_table = refl

pub undo_substitute-substitute : (p : ℕ) → p < 256 → undo_substitute (substitute p) ≡ p
undo_substitute-substitute = each_byte (λ p. undo_substitute (substitute p)) (λ p. p) substituted_table

pub substitute-small : (p : ℕ) → substitute p < 256
substitute-small p = omega arith

-- a place that is found is one of the list's
found-small : (found : Bool) (place many : ℕ) → 0 < many → (found ≡ true → place < many) → unwrap_or (cond found (Some place) None) 0 < many
found-small true place many some below = below refl
found-small false place many some below = some

position-small : (test : ℕ → Bool) (items : List ℕ) → 0 < length items → unwrap_or (position test items) 0 < length items
position-small test items some =
    found-small (ltb (position_or_len test items) (length items)) (position_or_len test items) (length items) some (ltb-true (position_or_len test items) (length items))

pub undo_substitute-small : (p : ℕ) → undo_substitute p < 256
undo_substitute-small p = position-small (λ q. times (undo_affine p) q == 1) (range_with_len 0 256) (omega arith)

times_x-table : map times_x (range_with_len 0 256) ≡ map (λ p. bit_xor (p * 2) (p / 128 * 0x11b)) (range_with_len 0 256)
times_x-table = refl

pub times_x-by_bits : (p : ℕ) → p < 256 → times_x p ≡ bit_xor (p * 2) (p / 128 * 0x11b)
times_x-by_bits = each_byte times_x (λ p. bit_xor (p * 2) (p / 128 * 0x11b)) times_x-table

times_x-small_table : map (λ p. times_x p / 256) (range_with_len 0 256) ≡ map (λ p. 0) (range_with_len 0 256)
times_x-small_table = refl

pub times_x-small : (p : ℕ) → p < 256 → times_x p < 256
times_x-small p small = omega (arith, each_byte (λ q. times_x q / 256) (λ q. 0) times_x-small_table p small)
