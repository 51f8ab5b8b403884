-- Lists of bytes added byte by byte.
use Rattle.std.proofs.Common.{◌≡◌, ℕ, ◌<◌, List, length, get_or, zip, bit_xor, ap, sym, ◌∙◌, arith}
use Rattle.std.proofs.lemmas.List.{length-map, get_or-map, ext_get_or}
use Rattle.std.proofs.lemmas.List.Elements.{All-from_get_or}
use Rattle.std.proofs.lemmas.Slice.Zip.{length-zip, get_or-zip}
use Rattle.std.proofs.lemmas.Nat.{xor_of_8}
use lib.Bits.{xor_assoc, xor_self, xor_zero_r}
use Rattle.gd_cipher.specs.Bytes.{IsByte, AreBytes}
use Rattle.gd_cipher.specs.Blocks.{xor_all}

pub length-xor_all : (these those : List ℕ) → length those ≡ length these → length (xor_all these those) ≡ length these
length-xor_all these those same =
    let a : length (xor_all these those) ≡ length (zip these those) = length-map (zip these those) (λ pair. bit_xor pair.0 pair.1) in
    omega (arith, length-zip these those)

pub get_or-xor_all : (these those : List ℕ) (k : ℕ) → length those ≡ length these → k < length these → get_or (xor_all these those) k 0 ≡ bit_xor (get_or these k 0) (get_or those k 0)
get_or-xor_all these those k same within =
    get_or-map (λ pair. bit_xor pair.0 pair.1) (zip these those) k (0, 0) 0 (omega (arith, length-zip these those))
    ∙ ap (λ pair. bit_xor pair.0 pair.1) (get_or-zip these those k (0, 0) within (omega arith))

-- n bytes, to which as many are added
module _ (n : ℕ) (these those : List ℕ) (first : AreBytes n these) (second : AreBytes n those) where
  same : length those ≡ length these
  same = second.len ∙ sym first.len

  -- sums of bytes are bytes
  pub AreBytes-xor_all : AreBytes n (xor_all these those)
  AreBytes-xor_all = record {
    len = length-xor_all these those same ∙ first.len;
    small = All-from_get_or IsByte (xor_all these those) 0 (λ k within.
        let here : k < length these = omega (arith, length-xor_all these those same) in
        rw (get_or-xor_all these those k same here) (xor_of_8 (get_or these k 0) (get_or those k 0) (first.small k 0 here) (second.small k 0 (omega (arith, same)))));
  }

  -- what was added twice is gone
  pub xor_all_twice : xor_all (xor_all these those) those ≡ these
  xor_all_twice =
      ext_get_or 0 (xor_all (xor_all these those) those) these long (λ k within. let here : k < length these = omega (arith, long) in
      get_or-xor_all (xor_all these those) those k (same ∙ sym once) (omega (arith, once))
      ∙ ap (λ byte. bit_xor byte (get_or those k 0)) (get_or-xor_all these those k same here)
      ∙ xor_assoc (get_or these k 0) (get_or those k 0) (get_or those k 0)
      ∙ ap (bit_xor (get_or these k 0)) (xor_self (get_or those k 0))
      ∙ xor_zero_r (get_or these k 0))
    where
      once : length (xor_all these those) ≡ length these
      once = length-xor_all these those same

      long : length (xor_all (xor_all these those) those) ≡ length these
      long = length-xor_all (xor_all these those) those (same ∙ sym once) ∙ once
