-- Examples of FIPS 197 of 2001 (its appendices C.1 and C.3), so that a wrong constant or step in the definitions does not check.
use Rattle.std.proofs.Common.{◌≡◌, ◌∙◌, List, ℕ, true, [], ◌∷◌, length, ltb, refl, sym, ap, inl, inr}
use Rattle.std.specs.List.{range_with_len, list_all}
use Rattle.std.proofs.lemmas.Bool.{ltb-true}
use Rattle.std.proofs.lemmas.List.Sums.{AllPass-from_list_all}
use Rattle.gd_cipher.specs.Bytes.{AreBytes, IsKey}
use Rattle.gd_cipher.specs.Ciphers.{cipher, decipher}
use Rattle.gd_cipher.proofs.RoundLemmas.{decipher-cipher}

abbrev text : List ℕ
text = 0x00 ∷ 0x11 ∷ 0x22 ∷ 0x33 ∷ 0x44 ∷ 0x55 ∷ 0x66 ∷ 0x77 ∷ 0x88 ∷ 0x99 ∷ 0xaa ∷ 0xbb ∷ 0xcc ∷ 0xdd ∷ 0xee ∷ 0xff ∷ []

abbrev under_128 : List ℕ
under_128 = 0x69 ∷ 0xc4 ∷ 0xe0 ∷ 0xd8 ∷ 0x6a ∷ 0x7b ∷ 0x04 ∷ 0x30 ∷ 0xd8 ∷ 0xcd ∷ 0xb7 ∷ 0x80 ∷ 0x70 ∷ 0xb4 ∷ 0xc5 ∷ 0x5a ∷ []

abbrev under_256 : List ℕ
under_256 = 0x8e ∷ 0xa2 ∷ 0xb7 ∷ 0xca ∷ 0x51 ∷ 0x67 ∷ 0x45 ∷ 0xbf ∷ 0xea ∷ 0xfc ∷ 0x49 ∷ 0x90 ∷ 0x4b ∷ 0x49 ∷ 0x60 ∷ 0x89 ∷ []

cipher_of_16 : cipher (range_with_len 0 16) text ≡ under_128
cipher_of_16 = refl

cipher_of_32 : cipher (range_with_len 0 32) text ≡ under_256
cipher_of_32 = refl

-- What the cipher gives is deciphered to what it was given, so the other two examples hold with these.
bytes_are : (n : ℕ) (bytes : List ℕ) → length bytes ≡ n → list_all (λ byte. ltb byte 256) bytes ≡ true → AreBytes n bytes
bytes_are n bytes len all = record {
  len = len;
  small = λ k d within. ltb-true _ 256 (AllPass-from_list_all (λ byte. ltb byte 256) bytes all k d within);
}

back : (key sealed : List ℕ) → IsKey key → cipher key text ≡ sealed → decipher key sealed ≡ text
back key sealed is_key e = ap (decipher key) (sym e) ∙ decipher-cipher key text is_key (bytes_are 16 text refl refl)

decipher_of_16 : decipher (range_with_len 0 16) under_128 ≡ text
decipher_of_16 = back (range_with_len 0 16) under_128 (inl (bytes_are 16 (range_with_len 0 16) refl refl)) cipher_of_16

decipher_of_32 : decipher (range_with_len 0 32) under_256 ≡ text
decipher_of_32 = back (range_with_len 0 32) under_256 (inr (bytes_are 32 (range_with_len 0 32) refl refl)) cipher_of_32
