-- Lists of n bytes: what the steps of a round make of them, and that each step can be undone.
-- `written_out`: a list of 16 elements is written out by `fill_by_all`, so permuting and mixing compute with no match on 16 elements.
use Rattle.std.proofs.Common.{◌≡◌, ℕ, suc, ◌+◌, ◌<◌, ◌≤◌, List, [], ◌∷◌, ◌++◌, map, length, take, drop, slice_index_or, All, refl, sym, ◌∙◌, arith, length-append, length-drop, suc-le-suc}
use Rattle.std.specs.List.{range_with_len}
use Rattle.std.proofs.lemmas.List.{length-map, length-take-le}
use Rattle.std.proofs.lemmas.List.Elements.{All-append, All-cons, All-drop, All-map, All-nil, All-take}
use Rattle.std.proofs.lemmas.List.FromFn.{fill_by_all}
use Rattle.gd_cipher.specs.Bytes.{IsByte, AreBytes}
use Rattle.gd_cipher.specs.Fields.{substitute, undo_substitute}
use Rattle.gd_cipher.specs.Blocks.{sub_bytes, shift_rows, mix_by, mix_columns, mix_column, undo_sub_bytes, undo_shift_rows, undo_mix_columns, row_times}
use Rattle.gd_cipher.proofs.ByteLemmas.{substitute-small, undo_substitute-substitute}
use Rattle.gd_cipher.proofs.MixLemmas.{row_times-small, undo_column}

pub AreBytes-as : (m n : ℕ) (bytes : List ℕ) → m ≡ n → AreBytes m bytes → AreBytes n bytes
AreBytes-as m n bytes same are = record { len = are.len ∙ same; small = are.small }

pub AreBytes-append : (m n : ℕ) (these those : List ℕ) → AreBytes m these → AreBytes n those → AreBytes (m + n) (these ++ those)
AreBytes-append m n these those first second = record {
  len = omega (arith, length-append these those, first.len, second.len);
  small = All-append IsByte these those first.small second.small;
}

pub AreBytes-part : (n from many : ℕ) (bytes : List ℕ) → from + many ≤ n → AreBytes n bytes → AreBytes many (take many (drop from bytes))
AreBytes-part n from many bytes within are = record {
  len = length-take-le many (drop from bytes) (omega (arith, within, are.len, length-drop from bytes));
  small = All-take IsByte many (drop from bytes) (All-drop IsByte from bytes are.small);
}

-- ---- bytes are substituted

first_of : (byte : ℕ) (bytes : List ℕ) → All IsByte (byte ∷ bytes) → byte < 256
first_of byte bytes small = small 0 0 (omega arith)

rest_of : (byte : ℕ) (bytes : List ℕ) → All IsByte (byte ∷ bytes) → All IsByte bytes
rest_of byte bytes small k d within = small (suc k) d (suc-le-suc within)

pub AreBytes-map : (f : ℕ → ℕ) → ((byte : ℕ) → byte < 256 → f byte < 256) → (n : ℕ) (bytes : List ℕ) → AreBytes n bytes → AreBytes n (map f bytes)
AreBytes-map f stays n bytes are = record {
  len = length-map bytes f ∙ are.len;
  small = All-map IsByte f bytes (λ k d within. stays (slice_index_or bytes k d) (are.small k d within));
}

pub AreBytes-substituted : (n : ℕ) (bytes : List ℕ) → AreBytes n bytes → AreBytes n (map substitute bytes)
AreBytes-substituted = AreBytes-map substitute (λ byte small. substitute-small byte)

map_back : (f g : ℕ → ℕ) → ((byte : ℕ) → byte < 256 → g (f byte) ≡ byte) → (bytes : List ℕ) → All IsByte bytes → map g (map f bytes) ≡ bytes
map_back f g back [] small = refl
map_back f g back (byte ∷ bytes) small = λ i. back byte (first_of byte bytes small) i ∷ map_back f g back bytes (rest_of byte bytes small) i

pub sub_bytes-undone : (n : ℕ) (bytes : List ℕ) → AreBytes n bytes → undo_sub_bytes (sub_bytes bytes) ≡ bytes
sub_bytes-undone n bytes are = map_back substitute undo_substitute undo_substitute-substitute bytes are.small

-- ---- rows are shifted and columns mixed

pub written_out : (state : List ℕ) → length state ≡ 16 → map (λ i. slice_index_or state i 0) (range_with_len 0 16) ≡ state
written_out state len = sym (fill_by_all (λ i. slice_index_or state i 0) state 16 0 len (λ k small. refl))

pub shift_rows-undone : (state : List ℕ) → AreBytes 16 state → undo_shift_rows (shift_rows state) ≡ state
shift_rows-undone state are = written_out state are.len

small_before : (a b c d : ℕ) (rest : List ℕ) → a < 256 → b < 256 → c < 256 → d < 256 → All IsByte rest → All IsByte (a ∷ b ∷ c ∷ d ∷ rest)
small_before a b c d rest a_small b_small c_small d_small rest_small =
    All-cons IsByte a (b ∷ c ∷ d ∷ rest) a_small
    (All-cons IsByte b (c ∷ d ∷ rest) b_small (All-cons IsByte c (d ∷ rest) c_small (All-cons IsByte d rest d_small rest_small)))

column-small : (p q r s a b c d : ℕ) (rest : List ℕ) → a < 256 → b < 256 → c < 256 → d < 256 → All IsByte rest → All IsByte (mix_column p q r s a b c d ++ rest)
column-small p q r s a b c d rest a_small b_small c_small d_small rest_small =
    small_before (row_times p q r s a b c d) (row_times s p q r a b c d) (row_times r s p q a b c d) (row_times q r s p a b c d) rest
    (row_times-small p q r s a b c d a_small b_small c_small d_small)
    (row_times-small s p q r a b c d a_small b_small c_small d_small)
    (row_times-small r s p q a b c d a_small b_small c_small d_small)
    (row_times-small q r s p a b c d a_small b_small c_small d_small)
    rest_small

module _ (state : List ℕ) (are : AreBytes 16 state) where
  abbrev byte : ℕ → ℕ
  byte i = slice_index_or state i 0

  byte-small : (i : ℕ) → i < 16 → byte i < 256
  byte-small i within = are.small i 0 (omega (arith, within, are.len))

  -- four bytes of the state in front of others
  abbrev bytes_before : ℕ → ℕ → ℕ → ℕ → List ℕ → List ℕ
  bytes_before i j k l rest = byte i ∷ byte j ∷ byte k ∷ byte l ∷ rest

  moved-small : (i j k l : ℕ) (rest : List ℕ) → i < 16 → j < 16 → k < 16 → l < 16 → All IsByte rest → All IsByte (bytes_before i j k l rest)
  moved-small i j k l rest i_within j_within k_within l_within =
      small_before (byte i) (byte j) (byte k) (byte l) rest (byte-small i i_within) (byte-small j j_within) (byte-small k k_within) (byte-small l l_within)

  pub AreBytes-shift_rows : AreBytes 16 (shift_rows state)
  AreBytes-shift_rows = record {
    len = refl;
    small = moved-small 0 5 10 15 (bytes_before 4 9 14 3 (bytes_before 8 13 2 7 (bytes_before 12 1 6 11 []))) (omega arith) (omega arith) (omega arith) (omega arith)
        (moved-small 4 9 14 3 (bytes_before 8 13 2 7 (bytes_before 12 1 6 11 [])) (omega arith) (omega arith) (omega arith) (omega arith)
        (moved-small 8 13 2 7 (bytes_before 12 1 6 11 []) (omega arith) (omega arith) (omega arith) (omega arith)
        (moved-small 12 1 6 11 [] (omega arith) (omega arith) (omega arith) (omega arith) (All-nil IsByte))));
  }

  pub AreBytes-undo_shift_rows : AreBytes 16 (undo_shift_rows state)
  AreBytes-undo_shift_rows = record {
    len = refl;
    small = moved-small 0 13 10 7 (bytes_before 4 1 14 11 (bytes_before 8 5 2 15 (bytes_before 12 9 6 3 []))) (omega arith) (omega arith) (omega arith) (omega arith)
        (moved-small 4 1 14 11 (bytes_before 8 5 2 15 (bytes_before 12 9 6 3 [])) (omega arith) (omega arith) (omega arith) (omega arith)
        (moved-small 8 5 2 15 (bytes_before 12 9 6 3 []) (omega arith) (omega arith) (omega arith) (omega arith)
        (moved-small 12 9 6 3 [] (omega arith) (omega arith) (omega arith) (omega arith) (All-nil IsByte))));
  }

  module _ (p q r s : ℕ) where
    -- the mixed column of the four bytes from this place on
    abbrev mixed : ℕ → List ℕ
    mixed i = mix_column p q r s (byte i) (byte (i + 1)) (byte (i + 2)) (byte (i + 3))

    mixed-small : (i : ℕ) (rest : List ℕ) → i + 3 < 16 → All IsByte rest → All IsByte (mixed i ++ rest)
    mixed-small i rest within rest_small =
        column-small p q r s (byte i) (byte (i + 1)) (byte (i + 2)) (byte (i + 3)) rest
        (byte-small i (omega (arith, within))) (byte-small (i + 1) (omega (arith, within))) (byte-small (i + 2) (omega (arith, within))) (byte-small (i + 3) within)
        rest_small

    pub AreBytes-mix_by : AreBytes 16 (mix_by p q r s state)
    AreBytes-mix_by = record {
      len = refl;
      small = mixed-small 0 (mixed 4 ++ mixed 8 ++ mixed 12 ++ []) (omega arith)
          (mixed-small 4 (mixed 8 ++ mixed 12 ++ []) (omega arith)
          (mixed-small 8 (mixed 12 ++ []) (omega arith) (mixed-small 12 [] (omega arith) (All-nil IsByte))));
    }

  pub AreBytes-mix_columns : AreBytes 16 (mix_columns state)
  AreBytes-mix_columns = AreBytes-mix_by 2 3 1 1

  abbrev undone : ℕ → ℕ → ℕ → ℕ → List ℕ
  undone a b c d = mix_column 0x0e 0x0b 0x0d 0x09 (row_times 2 3 1 1 a b c d) (row_times 1 2 3 1 a b c d) (row_times 1 1 2 3 a b c d) (row_times 3 1 1 2 a b c d)

  column_undone : (i : ℕ) → i + 3 < 16 → undone (byte i) (byte (i + 1)) (byte (i + 2)) (byte (i + 3)) ≡ byte i ∷ byte (i + 1) ∷ byte (i + 2) ∷ byte (i + 3) ∷ []
  column_undone i within =
      undo_column (byte i) (byte (i + 1)) (byte (i + 2)) (byte (i + 3))
      (byte-small i (omega (arith, within))) (byte-small (i + 1) (omega (arith, within))) (byte-small (i + 2) (omega (arith, within))) (byte-small (i + 3) within)

  pub mix_columns-undone : undo_mix_columns (mix_columns state) ≡ state
  mix_columns-undone =
      (λ i. column_undone 0 (omega arith) i ++ column_undone 4 (omega arith) i ++ column_undone 8 (omega arith) i ++ column_undone 12 (omega arith) i ++ [])
      ∙ written_out state are.len
