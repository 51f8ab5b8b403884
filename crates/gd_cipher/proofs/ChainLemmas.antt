-- Texts block by block.
use Rattle.std.proofs.Common.{◌≡◌, ℕ, zero, suc, ◌+◌, ◌-◌, ◌*◌, ◌/◌, ◌%◌, ◌<◌, ◌≤◌, List, ◌++◌, Option, Some, MutBor, length, take, drop, get_or, sym, ◌∙◌, ap, ap₂, subst, subst₂, refl, arith, add-one, below_none, below_more, append_assoc, append-nil, take-append-drop, length-take-le, length-append, length-drop}
use Rattle.std.proofs.lemmas.List.{take_at, drop_at, drop-drop, take-append-le, drop-append-le, get_or-take, get_or-drop, ext_get_or, take_rest, drop_all}
use Rattle.std.proofs.Math.Seq.{drop-append-add}
use Rattle.std.specs.Option.{MatchOption}
use Rattle.std.specs.Array.{IsFirstChunk}
use borrow.Rule.Slice.PartMut.{put_mid, mid_of}
use Rattle.gd_cipher.specs.Blocks.{xor_all, block_at}
use Rattle.gd_cipher.specs.Ciphers.{cipher, decipher}
use Rattle.gd_cipher.specs.Chains.{IsSealed, IsOpened}

-- after an IV the blocks of a text are one place further on
pub chained_first : (iv text : List ℕ) → length iv ≡ 16 → block_at (iv ++ text) 0 ≡ iv
chained_first iv text long = take_at iv text 16 long

pub chained_next : (iv text : List ℕ) (i : ℕ) → length iv ≡ 16 → block_at (iv ++ text) (suc i) ≡ block_at text i
chained_next iv text i long =
    let place : 16 * suc i ≡ length iv + 16 * i = omega arith in
    ap (λ n. take 16 (drop n (iv ++ text))) place ∙ ap (take 16) (drop-append-add iv text (16 * i))

-- texts whose first blocks are the same have the same block before each of these blocks and after the last one
same_chained : (iv these those : List ℕ) (i : ℕ) → length iv ≡ 16 → ((j : ℕ) → j < i → block_at these j ≡ block_at those j) → block_at (iv ++ these) i ≡ block_at (iv ++ those) i
same_chained iv these those zero long same = chained_first iv these long ∙ sym (chained_first iv those long)
same_chained iv these those (suc i) long same = chained_next iv these i long ∙ same i (omega arith) ∙ sym (chained_next iv those i long)

-- texts of one length that are the same block by block are the same
pub same_from_blocks : (these those : List ℕ) → length these ≡ length those → ((i : ℕ) → 16 * i < length these → block_at these i ≡ block_at those i) → these ≡ those
same_from_blocks these those long same =
    ext_get_or 0 these those long (λ k within.
    sym (in_block these k) ∙ ap (λ block. get_or block (k % 16) 0) (same (k / 16) (omega arith)) ∙ in_block those k)
  where
    in_block : (text : List ℕ) (k : ℕ) → get_or (block_at text (k / 16)) (k % 16) 0 ≡ get_or text k 0
    in_block text k =
        let place : 16 * (k / 16) + k % 16 ≡ k = omega arith in
        get_or-take 16 (drop (16 * (k / 16)) text) (k % 16) 0 (omega arith) ∙ get_or-drop (16 * (k / 16)) text (k % 16) 0 ∙ ap (λ n. get_or text n 0) place

-- a whole block of a text's front
block_front : (front back : List ℕ) (j : ℕ) → 16 * j + 16 ≤ length front → block_at (front ++ back) j ≡ block_at front j
block_front front back j whole =
    ap (take 16) (drop-append-le (16 * j) front back (omega arith))
    ∙ take-append-le 16 (drop (16 * j) front) back (omega (arith, length-drop (16 * j) front))

-- the blocks from the next one on
next_rest : (text : List ℕ) (i : ℕ) → drop 16 (drop (16 * i) text) ≡ drop (16 * (i + 1)) text
next_rest text i = let place : 16 * i + 16 ≡ 16 * (i + 1) = omega arith in drop-drop 16 (16 * i) text ∙ ap (λ n. drop n text) place

-- What the text is where the rest from block i on was given a new first block.
with_block : ℕ → List ℕ → List ℕ → List ℕ
with_block i text block = take (16 * i) text ++ (block ++ drop (16 * (i + 1)) text)

module _ (i : ℕ) (text block : List ℕ) (whole : 16 * (i + 1) ≤ length text) (long : length block ≡ 16) where
  front : length (take (16 * i) text) ≡ 16 * i
  front = length-take-le (16 * i) text (omega arith)

  -- the blocks before it are as they were
  block_before : (j : ℕ) → j < i → block_at (with_block i text block) j ≡ block_at text j
  unfolding with_block
  block_before j below =
      block_front (take (16 * i) text) _ j (omega (arith, front))
      ∙ sym (ap (λ parts. block_at parts j) (sym (take-append-drop (16 * i) text)) ∙ block_front (take (16 * i) text) (drop (16 * i) text) j (omega (arith, front)))

  -- the block itself
  block_here : block_at (with_block i text block) i ≡ block
  unfolding with_block
  block_here = ap (take 16) (drop_at (take (16 * i) text) _ (16 * i) front) ∙ take_at block _ 16 long

  -- the rest after it is as it was
  block_behind : drop (16 * (i + 1)) (with_block i text block) ≡ drop (16 * (i + 1)) text
  unfolding with_block
  block_behind =
      ap (drop (16 * (i + 1))) (sym (append_assoc (take (16 * i) text) block _))
      ∙ drop_at (take (16 * i) text ++ block) _ (16 * (i + 1)) (omega (arith, length-append (take (16 * i) text) block, front))

-- the part of a text from block i on, as a slice, and the text with another part in its place
abbrev part_from : ℕ → List ℕ → List ℕ
part_from i text = mid_of (16 * i) (length text - 16 * i) text

abbrev with_part : ℕ → List ℕ → List ℕ → List ℕ
with_part i text part = put_mid (16 * i) (length text - 16 * i) text part

-- that part begins with block i, and a new first block of it is a new block i
part_first : (i : ℕ) (text : List ℕ) → take 16 (part_from i text) ≡ block_at text i
part_first i text = ap (take 16) (take_rest text (16 * i))

part_written : (i : ℕ) (text block : List ℕ) → with_part i text (block ++ drop 16 (part_from i text)) ≡ with_block i text block
unfolding with_block
part_written i text block =
    ap (λ rest. take (16 * i) text ++ rest)
    (ap (λ rest. (block ++ drop 16 (part_from i text)) ++ rest) (drop_all (length text - 16 * i) (drop (16 * i) text) (omega (arith, length-drop (16 * i) text)))
    ∙ append-nil _ ∙ ap (λ part. block ++ drop 16 part) (take_rest text (16 * i)) ∙ ap (λ rest. block ++ rest) (next_rest text i))

-- where the first 16 bytes of a text are found, they are those
pub first_block : (text : List ℕ) (found : Option (MutBor (List ℕ))) (block : MutBor (List ℕ)) → found ≡ Some block → MatchOption found (length text < 16) (λ y. IsFirstChunk text y.now 16) → block.now ≡ take 16 text
first_block text found block is_found cases =
    let first : IsFirstChunk text block.now 16 = subst (λ chunk. MatchOption chunk (length text < 16) (λ y. IsFirstChunk text y.now 16)) is_found cases in
    first.same

-- A number of blocks of a text are sealed, the rest is as it was, and the block before the next one is known.
pub record SealsTo (i : ℕ) (key iv text now before : List ℕ) : Type 0 where
  pub blocks : (j : ℕ) → j < i → block_at now j ≡ cipher key (xor_all (block_at text j) (block_at (iv ++ now) j))
  pub rest : drop (16 * i) now ≡ drop (16 * i) text
  pub last : before ≡ block_at (iv ++ now) i

-- the same of blocks that are opened
pub record OpensTo (i : ℕ) (key iv sealed now before : List ℕ) : Type 0 where
  pub blocks : (j : ℕ) → j < i → block_at now j ≡ xor_all (decipher key (block_at sealed j)) (block_at (iv ++ sealed) j)
  pub rest : drop (16 * i) now ≡ drop (16 * i) sealed
  pub last : before ≡ block_at (iv ++ sealed) i

-- where the first blocks are sealed and the rest is as it was, the block after them is still that of the text
same_block : (i : ℕ) (text now : List ℕ) → drop (16 * i) now ≡ drop (16 * i) text → block_at now i ≡ block_at text i
same_block i text now rest = ap (take 16) rest

same_behind : (i : ℕ) (text now : List ℕ) → drop (16 * i) now ≡ drop (16 * i) text → drop (16 * (i + 1)) now ≡ drop (16 * (i + 1)) text
same_behind i text now rest = sym (next_rest now i) ∙ ap (drop 16) rest ∙ next_rest text i

-- nothing is sealed yet
pub SealsTo-none : (key iv text : List ℕ) → length iv ≡ 16 → SealsTo 0 key iv text text iv
SealsTo-none key iv text long = record { blocks = below_none _; rest = refl; last = sym (chained_first iv text long) }

-- one block more
SealsTo-more : (i : ℕ) (key iv text now before block : List ℕ) → length iv ≡ 16 → 16 * (i + 1) ≤ length now → length block ≡ 16 → SealsTo i key iv text now before →
    block ≡ cipher key (xor_all (block_at now i) before) → SealsTo (i + 1) key iv text (with_block i now block) block
SealsTo-more i key iv text now before block long whole is_block so_far sealed = record {
  blocks = below_more _ i
      (λ j below. block_before i now block whole is_block j below ∙ so_far.blocks j below ∙ ap (λ chain. cipher key (xor_all (block_at text j) chain)) (chained j (omega arith)))
      (block_here i now block whole is_block ∙ sealed
      ∙ ap₂ (λ plain chain. cipher key (xor_all plain chain)) (same_block i text now so_far.rest) (so_far.last ∙ chained i (omega arith)));
  rest = block_behind i now block whole is_block ∙ same_behind i text now so_far.rest;
  last = sym (rw add-one (chained_next iv (with_block i now block) i long) ∙ block_here i now block whole is_block);
}
  where
    chained : (j : ℕ) → j ≤ i → block_at (iv ++ now) j ≡ block_at (iv ++ with_block i now block) j
    chained j within = same_chained iv now (with_block i now block) j long (λ k below. sym (block_before i now block whole is_block k (omega arith)))

-- the same, where the part of the text from there on was written
pub SealsTo-part : (i : ℕ) (key iv text now before part block : List ℕ) → length iv ≡ 16 → 16 * (i + 1) ≤ length now → length block ≡ 16 → SealsTo i key iv text now before →
    block ≡ cipher key (xor_all (take 16 (part_from i now)) before) → part ≡ block ++ drop 16 (part_from i now) →
    SealsTo (i + 1) key iv text (with_part i now part) block
SealsTo-part i key iv text now before part block long whole is_block so_far sealed written =
    subst (λ next. SealsTo (i + 1) key iv text next block) (sym (ap (with_part i now) written ∙ part_written i now block))
    (SealsTo-more i key iv text now before block long whole is_block so_far (sealed ∙ ap (λ plain. cipher key (xor_all plain before)) (part_first i now)))

-- the whole text is sealed
pub IsSealed-all : (i : ℕ) (key iv text now before : List ℕ) → length now ≡ length text → length text % 16 ≡ 0 → length text / 16 ≤ i → SealsTo i key iv text now before → IsSealed key iv text now
IsSealed-all i key iv text now before same whole all so_far = record { whole = whole; len = same; blocks = λ j within. so_far.blocks j (omega arith) }

-- the same for opening
pub OpensTo-none : (key iv sealed : List ℕ) → length iv ≡ 16 → OpensTo 0 key iv sealed sealed iv
OpensTo-none key iv sealed long = record { blocks = below_none _; rest = refl; last = sym (chained_first iv sealed long) }

OpensTo-more : (i : ℕ) (key iv sealed now before block : List ℕ) → length iv ≡ 16 → 16 * (i + 1) ≤ length now → length block ≡ 16 → OpensTo i key iv sealed now before →
    block ≡ xor_all (decipher key (block_at now i)) before → OpensTo (i + 1) key iv sealed (with_block i now block) (block_at now i)
OpensTo-more i key iv sealed now before block long whole is_block so_far opened = record {
  blocks = below_more _ i
      (λ j below. block_before i now block whole is_block j below ∙ so_far.blocks j below)
      (block_here i now block whole is_block ∙ opened
      ∙ ap₂ (λ plain chain. xor_all (decipher key plain) chain) (same_block i sealed now so_far.rest) so_far.last);
  rest = block_behind i now block whole is_block ∙ same_behind i sealed now so_far.rest;
  last = same_block i sealed now so_far.rest ∙ sym (rw add-one (chained_next iv sealed i long));
}

-- Here the block's length follows from that of the part.
pub OpensTo-part : (i : ℕ) (key iv sealed now before part last : List ℕ) → length iv ≡ 16 → 16 * (i + 1) ≤ length now → OpensTo i key iv sealed now before →
    last ≡ take 16 (part_from i now) → length part ≡ length (part_from i now) →
    part ≡ xor_all (decipher key (take 16 (part_from i now))) before ++ drop 16 (part_from i now) →
    OpensTo (i + 1) key iv sealed (with_part i now part) last
OpensTo-part i key iv sealed now before part last long whole so_far is_last same written =
    subst₂ (λ next last. OpensTo (i + 1) key iv sealed next last)
    (sym (ap (with_part i now) written ∙ part_written i now block)) (sym (is_last ∙ part_first i now))
    (OpensTo-more i key iv sealed now before block long whole is_block so_far (ap (λ sealed_block. xor_all (decipher key sealed_block) before) (part_first i now)))
  where
    block : List ℕ
    block = xor_all (decipher key (take 16 (part_from i now))) before

    is_block : length block ≡ 16
    is_block = omega (arith, same, ap length written, length-append block (drop 16 (part_from i now)), length-drop 16 (part_from i now), ap length (take_rest now (16 * i)), length-drop (16 * i) now)

pub IsOpened-all : (i : ℕ) (key iv sealed now before : List ℕ) → length now ≡ length sealed → length sealed % 16 ≡ 0 → length sealed / 16 ≤ i → OpensTo i key iv sealed now before → IsOpened key iv sealed now
IsOpened-all i key iv sealed now before same whole all so_far = record { whole = ap (λ n. n % 16) same ∙ whole; len = same; blocks = λ j within. so_far.blocks j (omega arith) }
