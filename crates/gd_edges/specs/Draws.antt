-- The blocks that draws give, place by place.
use Rattle.std.specs.Prelude.{ℕ, ◌+◌, ◌*◌, ◌%◌, List, [], ◌∷◌, ◌++◌, length, slice_index_or, replicate}
use Rattle.std.specs.Int.{w32, w64, to_be_bytes}
use Rattle.rand_chacha.specs.ChaCha.{key_of, word_at}

-- blocks that are listed, and the place of the next one
pub record ListedBlocks : Type 0 where
  pub blocks : List (List ℕ)
  pub place : ℕ

-- the listed blocks come again and again
abbrev pub listed_block : List (List ℕ) → ℕ → List ℕ
listed_block blocks k = slice_index_or blocks (k % length blocks) []

-- the words of a cipher's key, and the place of the next block
pub record KeyStream : Type 0 where
  pub key : List ℕ
  pub place : ℕ

-- the octets of the key: the seed, zeros, and the stream
abbrev pub stream_seed : ℕ → ℕ → List ℕ
stream_seed seed stream = to_be_bytes w64 seed ++ replicate 23 0 ++ stream ∷ []

-- the words of the cipher's key for this seed and this stream
abbrev pub stream_key : ℕ → ℕ → List ℕ
stream_key seed stream = key_of (stream_seed seed stream)

-- a word of the key stream of ChaCha20 (RFC 8439 section 2.4), the high octet first
unfoldable pub stream_word : List ℕ → ℕ → List ℕ
stream_word key n = to_be_bytes w32 (word_at 10 key 0 n)

-- four words of it
abbrev pub stream_words : List ℕ → ℕ → List ℕ
stream_words key n = stream_word key n ++ stream_word key (n + 1) ++ stream_word key (n + 2) ++ stream_word key (n + 3)

-- the block that is drawn at a place: the four words of the key stream that come after those of the blocks before it
abbrev pub stream_block : List ℕ → ℕ → List ℕ
stream_block key k = stream_words key (4 * k)
