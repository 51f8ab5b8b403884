-- The encoded message as it is written, and how large it is.
use Rattle.std.proofs.Common.{◌≡◌, ℕ, zero, suc, ◌+◌, ◌-◌, ◌^◌, ◌<◌, ◌≤◌, List, [], ◌∷◌, ◌++◌, length, get_or, set, take, drop, replicate, refl, ap, ◌∙◌, arith, Bool, true, length-append, length-drop}
use Rattle.std.specs.Prelude.{◌&&◌, nat_lt}
use Rattle.std.proofs.lemmas.Bool.{ltb-true, and_parts}
use Rattle.std.proofs.lemmas.List.{append-nil, drop_all, length-replicate, take_at}
use borrow.Rule.Slice.PartMut.{put_mid, post_of}
use Rattle.big_mod.specs.Numbers.{number_of}
use Rattle.rsa_sign.specs.Messages.{digest_name, encoded}

pub take_same : (count more octet : ℕ) → take count (replicate (count + more) octet) ≡ replicate count octet
take_same zero more octet = refl
take_same (suc count) more octet =
    ap (λ n. take (suc count) (replicate n octet)) (let whole : suc count + more ≡ suc (count + more) = omega arith in whole) ∙
    ap (λ xs. octet ∷ xs) (take_same count more octet)

-- the end over the last octets, and the first two
pub encoded_is : (size count : ℕ) (digest last all : List ℕ) → 54 ≤ size → count ≡ 52 → all ≡ replicate size 0xff → last ≡ 0 ∷ (digest_name ++ digest)
    → set (set (put_mid (size - 52) count all last) 0 0) 1 1 ≡ encoded size digest
encoded_is size count digest last all long few filled is =
    let past : post_of (size - 52) count all ≡ [] = drop_all count (drop (size - 52) all) short in
    let parted : size - 52 ≡ suc (suc (size - 54)) = omega arith in
    let front : take (size - 52) all ≡ 0xff ∷ 0xff ∷ replicate (size - 54) 0xff =
    ap (take (size - 52)) (filled ∙ ap (λ n. replicate n 0xff) (let whole : size ≡ size - 52 + 52 = omega arith in whole)) ∙ take_same (size - 52) 52 0xff ∙
    ap (λ n. replicate n 0xff) parted in
    ap (λ xs. set (set (xs ++ (last ++ post_of (size - 52) count all)) 0 0) 1 1) front ∙
    ap (λ xs. 0 ∷ 1 ∷ (replicate (size - 54) 0xff ++ xs)) (ap (λ xs. last ++ xs) past ∙ append-nil last ∙ is)
  where
    short : length (drop (size - 52) all) ≤ count
    short = omega (arith, length-drop (size - 52) all, ap length filled, length-replicate {A = ℕ} size 0xff)

pub encoded_at : (size : ℕ) (digest last all : List ℕ) → 54 ≤ size → all ≡ replicate size 0xff → last ≡ 0 ∷ (digest_name ++ digest)
    → set (set (put_mid (length all - 52) (length all - (length all - 52)) all last) 0 0) 1 1 ≡ encoded size digest
encoded_at size digest last all long filled is =
    let wide : length all ≡ size = ap length filled ∙ length-replicate {A = ℕ} size 0xff in
    let few : size - (size - 52) ≡ 52 = omega arith in
    ap (λ n. set (set (put_mid (n - 52) (n - (n - 52)) all last) 0 0) 1 1) wide ∙ encoded_is size (size - (size - 52)) digest last all long few filled is

pub last_is : (name digest : List ℕ) → name ≡ digest_name → put_mid 20 32 (put_mid 1 19 (replicate 52 0) name) digest ≡ 0 ∷ (digest_name ++ digest)
last_is name digest is =
    ap (λ xs. put_mid 20 32 (put_mid 1 19 (replicate 52 0) xs) digest) is ∙ ap (λ xs. 0 ∷ (digest_name ++ xs)) (append-nil digest)

pub length-encoded : (size : ℕ) (digest : List ℕ) → 54 ≤ size → length digest ≡ 32 → length (encoded size digest) ≡ size
length-encoded size digest long short =
    let padded : length (replicate (size - 54) 0xff ++ (0 ∷ (digest_name ++ digest))) ≡ size - 54 + length (0 ∷ (digest_name ++ digest)) =
    length-append (replicate (size - 54) 0xff) (0 ∷ (digest_name ++ digest)) ∙ ap (λ n. n + length (0 ∷ (digest_name ++ digest))) (length-replicate {A = ℕ} (size - 54) 0xff) in
    omega (arith, padded, length-append digest_name digest, short)

-- each octet is one
pub small_both : (these those : List ℕ) → ((at : ℕ) → get_or these at 0 < 256) → ((at : ℕ) → get_or those at 0 < 256) → (at : ℕ) → get_or (these ++ those) at 0 < 256
small_both [] those one other at = other at
small_both (a ∷ these) those one other zero = one 0
small_both (a ∷ these) those one other (suc at) = small_both these those (λ k. one (suc k)) other at

pub small_same : (count octet : ℕ) → octet < 256 → (at : ℕ) → get_or (replicate count octet) at 0 < 256
small_same zero octet small at = omega arith
small_same (suc count) octet small zero = small
small_same (suc count) octet small (suc at) = small_same count octet small at

pub small_cons : (octet : ℕ) (octets : List ℕ) → octet < 256 → ((at : ℕ) → get_or octets at 0 < 256) → (at : ℕ) → get_or (octet ∷ octets) at 0 < 256
small_cons octet octets one other zero = one
small_cons octet octets one other (suc at) = other at

pub small_none : (at : ℕ) → get_or {A = ℕ} [] at 0 < 256
small_none at = omega arith

abbrev all_small : List ℕ → Bool
all_small [] = true
all_small (octet ∷ octets) = nat_lt octet 256 && all_small octets

all_below : (octets : List ℕ) → all_small octets ≡ true → (at : ℕ) → get_or octets at 0 < 256
all_below [] is at = omega arith
all_below (octet ∷ octets) is zero = ltb-true octet 256 (and_parts (nat_lt octet 256) (all_small octets) is).0
all_below (octet ∷ octets) is (suc at) = all_below octets (and_parts (nat_lt octet 256) (all_small octets) is).1 at

pub small_name : (at : ℕ) → get_or digest_name at 0 < 256
small_name = all_below digest_name refl

pub small_rest : (size : ℕ) (digest : List ℕ) → ((at : ℕ) → get_or digest at 0 < 256)
    → (at : ℕ) → get_or (1 ∷ (replicate (size - 54) 0xff ++ (0 ∷ (digest_name ++ digest)))) at 0 < 256
small_rest size digest small =
    small_cons 1 (replicate (size - 54) 0xff ++ (0 ∷ (digest_name ++ digest))) (omega arith)
    (small_both (replicate (size - 54) 0xff) (0 ∷ (digest_name ++ digest)) (small_same (size - 54) 0xff (omega arith))
    (small_cons 0 (digest_name ++ digest) (omega arith) (small_both digest_name digest small_name small)))

pub small_message : (size : ℕ) (digest : List ℕ) → ((at : ℕ) → get_or digest at 0 < 256) → (at : ℕ) → get_or (encoded size digest) at 0 < 256
small_message size digest small =
    small_cons 0 (1 ∷ (replicate (size - 54) 0xff ++ (0 ∷ (digest_name ++ digest)))) (omega arith) (small_rest size digest small)

-- the first octet is 0, so the message is below the modulus
pub message_below : (size modulus : ℕ) (digest : List ℕ) → 54 ≤ size → length digest ≡ 32 → ((at : ℕ) → get_or digest at 0 < 256)
    → ((octets : List ℕ) → ((at : ℕ) → get_or octets at 0 < 256) → number_of octets < 256 ^ length octets)
    → 256 ^ (size - 1) ≤ modulus → number_of (encoded size digest) < modulus
message_below size modulus digest long short small room large =
    let rest : number_of (1 ∷ (replicate (size - 54) 0xff ++ (0 ∷ (digest_name ++ digest))))
    < 256 ^ length (1 ∷ (replicate (size - 54) 0xff ++ (0 ∷ (digest_name ++ digest)))) =
    room (1 ∷ (replicate (size - 54) 0xff ++ (0 ∷ (digest_name ++ digest)))) (small_rest size digest small) in
    let count : length (1 ∷ (replicate (size - 54) 0xff ++ (0 ∷ (digest_name ++ digest)))) ≡ size - 1 = omega (arith, length-encoded size digest long short) in
    let worth : 256 ^ length (1 ∷ (replicate (size - 54) 0xff ++ (0 ∷ (digest_name ++ digest)))) ≡ 256 ^ (size - 1) = ap (λ n. 256 ^ n) count in
    omega (arith, rest, worth, large)

-- what was written over the first octets
pub front_of : (f : ℕ → List ℕ) (size old : ℕ) (part rest : List ℕ) → part ≡ f old → old ≡ size → length (f size) ≡ size → take size (part ++ rest) ≡ f size
front_of f size old part rest is same long = ap (λ xs. take size (xs ++ rest)) (is ∙ ap f same) ∙ take_at (f size) rest size long
