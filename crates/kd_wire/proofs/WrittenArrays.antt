-- Update arrays that are written are read again.
-- A walk by places takes the number of octets that are left as its number of steps (`more_updates`, `signature_keys_of`), which suffices.
use Rattle.std.proofs.Common.{◌≡◌, ℕ, zero, suc, ◌+◌, ◌*◌, ◌<◌, ◌%◌, Bool, true, false, List, [], ◌∷◌, ◌++◌, length, Option, None, Some}
use Rattle.std.proofs.Common.{Result, Ok, if◌then◌else◌, refl, sym, ap, ◌∙◌, arith}
use Rattle.std.specs.Prelude.{◌==◌, ◌&&◌, nat_le, not}
use Rattle.std.specs.List.{All, list_any}
use Rattle.std.proofs.lemmas.Bool.{le-leb, eq-eqb}
use Rattle.byteorder.specs.Endian.{big_bytes}
use Rattle.group_terms.specs.declared.paths.PathKey.{PathKey}
use Rattle.group_terms.specs.declared.wires.WireFault.{WireFault}
use Rattle.group_terms.specs.declared.wires.WireWhat.TheVariants.{Reserved, Version, Length, Kind, Value}
use Rattle.gd_wire.specs.declared.attributes.AttributeType.{AttributeType}
use Rattle.gd_wire.specs.Attributes.{long_text}
use Rattle.gd_wire.specs.Readings.{Cursor, Reading, and_then, ◌>>=◌, ◌>>◌, here, give, check, inside, octets_left, ended, number}
use Rattle.gd_wire.specs.Readings.{long_number, due_octet, due_number}
use Rattle.gd_wire.specs.Attributes.{attribute_type, long_value, attribute, next_has_kind, no_more_attributes}
use Rattle.kd_wire.specs.declared.arrays.ArrayKind.{ArrayKind}
use Rattle.kd_wire.specs.declared.arrays.ArrayKind.TheVariants.{Download, Update}
use Rattle.kd_wire.specs.Arrays.{long_type, signature_keys_of, signature_keys, least_keys, most_keys, head_size, array_head, sealer}
use Rattle.kd_wire.specs.Arrays.{update_array, update_attribute, download_array, download}
use Rattle.kd_wire.specs.Keys.{has_handle, given_key, given_keys, path_keys}
use Rattle.kd_wire.specs.Widths.{lkh_key_octets}
use Rattle.kd_wire.specs.Seals.{sealed_under}
use Rattle.kd_wire.specs.Texts.{Sealed, SealedFits, PathKeyFits, IsPath, key_text, key_of, path_text, update_text, download_text}
use Rattle.kd_wire.specs.UpdateTexts.{array_of}
use Rattle.kd_wire.proofs.LoopLemmas.{array_by}
use Rattle.gd_wire.proofs.ReadsLemmas.{cursor, Reads, ReadsAll, and_assoc, reads_all, reads_then, reads_next, reads_made, reads_assoc}
use Rattle.gd_wire.proofs.ReadsLemmas.{reads_here, reads_check, reads_give, reads_number, reads_long_number, reads_due_octet}
use Rattle.gd_wire.proofs.ReadsLemmas.{reads_due_number, reads_inside}
use Rattle.kd_wire.proofs.SizeLemmas.{path_size}
use Rattle.kd_wire.proofs.WrittenKeys.{not_zero, given_reads, AboveFirst, path_reads}

-- ---- no signature keys

-- where the next attribute is of another kind
pub none_of : (most : ℕ) (at_array : Cursor) → next_has_kind 3 at_array ≡ Ok (false, at_array) → signature_keys_of most at_array
    ≡ Ok (tt, at_array)
none_of zero at_array none = refl
none_of (suc more) at_array none =
    ap (λ (read : Result (Bool × Cursor) WireFault). and_then read (λ (is_one : Bool). if is_one then (attribute >> signature_keys_of more)
    else give tt)) none

pub and_false : (a : Bool) → (a && false) ≡ false
and_false true = refl
and_false false = refl

-- ---- heads

pub type_reads : (kind : ℕ) → kind < 65536 → (list_any (λ due. due == kind % 32768) (kind ∷ []) && not (nat_le 32768 kind)) ≡ true
    → kind % 32768 ≡ kind → Reads (long_type (kind ∷ [])) (big_bytes 2 kind) kind
unfolding long_type attribute_type
type_reads kind small due low =
    reads_here _ (big_bytes 2 kind) kind (λ at.
    reads_then attribute_type (λ type. check (list_any (λ due. due == type.kind) (kind ∷ []) && not type.is_short) (Kind type.kind) at
    >> give type.kind) (big_bytes 2 kind) [] (record { kind = kind % 32768; is_short = nat_le 32768 kind }) kind
    (reads_made number (λ type. record { kind = type % 32768; is_short = nat_le 32768 type }) (big_bytes 2 kind) kind
    (reads_number kind small)) (
    reads_check (list_any (λ due. due == kind % 32768) (kind ∷ []) && not (nat_le 32768 kind)) (Kind (kind % 32768)) at _ [] kind due
    (reads_give (kind % 32768) kind low)
    ))

-- the head of an array of this many octets
abbrev pub head_with : ArrayKind → ℕ → ℕ → Reading ℕ
head_with kind length_at size = do
  due_octet 1 Version
  at ← here
  count ← number
  check (nat_le (least_keys kind) count && nat_le count (most_keys kind)) Value at
  check (size == head_size kind + lkh_key_octets * count) Length length_at
  due_octet 0 Reserved
  give count

pub head_reads : (kind : ArrayKind) (length_at size count : ℕ) → count < 65536
    → (nat_le (least_keys kind) count && nat_le count (most_keys kind)) ≡ true
    → (size == head_size kind + lkh_key_octets * count) ≡ true → Reads (head_with kind length_at size) (1 ∷ big_bytes 2 count ++ (0 ∷ []))
    count
head_reads kind length_at size count small due long =
    reads_next (due_octet 1 Version) _ (1 ∷ []) (big_bytes 2 count ++ (0 ∷ [])) tt count (reads_due_octet 1 Version refl) (
    reads_here _ (big_bytes 2 count ++ (0 ∷ [])) count (λ at.
    reads_then number (λ count. check (nat_le (least_keys kind) count && nat_le count (most_keys kind)) Value at
    >> (check (size == head_size kind + lkh_key_octets * count) Length length_at >> (due_octet 0 Reserved >> give count)))
    (big_bytes 2 count) (0 ∷ []) count count (reads_number count small) (
    reads_check (nat_le (least_keys kind) count && nat_le count (most_keys kind)) Value at _ (0 ∷ []) count due (
    reads_check (size == head_size kind + lkh_key_octets * count) Length length_at _ (0 ∷ []) count long (
    reads_made (due_octet 0 Reserved) (λ done. count) (0 ∷ []) tt (reads_due_octet 0 Reserved refl)
    )))))

sealer_reads : (by made : ℕ) → 0 < by → by < 65536 → made < 4294967296 → Reads sealer (big_bytes 2 by ++ big_bytes 2 0 ++ big_bytes 4 made)
    (by, made)
unfolding sealer
sealer_reads by made some small fits =
    reads_here _ (big_bytes 2 by ++ big_bytes 2 0 ++ big_bytes 4 made) (by, made) (λ at.
    reads_then number (λ by. check (not (by == 0)) Value at >> (due_number 0 Reserved >> (long_number >>= λ made. give (by, made))))
    (big_bytes 2 by) (big_bytes 2 0 ++ big_bytes 4 made) by (by, made) (reads_number by small) (
    reads_check (not (by == 0)) Value at _ (big_bytes 2 0 ++ big_bytes 4 made) (by, made) (not_zero by some) (
    reads_next (due_number 0 Reserved) _ (big_bytes 2 0) (big_bytes 4 made) tt (by, made) (reads_due_number 0 Reserved (omega arith) refl) (
    reads_made long_number (λ made. (by, made)) (big_bytes 4 made) made (reads_long_number made fits)
    ))))

-- ---- an array that gives one key

module _ (handle : Option ℕ) (update : Sealed) (fits : SealedFits update) (same : has_handle handle update.job.gives.made ≡ true) where
  abbrev by : ℕ × ℕ
  by = (update.job.by.id, update.job.by.made)

  abbrev key : List ℕ
  key = key_text update.job.gives.id update.job.gives.made update.octets

  abbrev value : List ℕ
  value = 1 ∷ big_bytes 2 1 ++ 0 ∷ big_bytes 2 update.job.by.id ++ big_bytes 2 0 ++ big_bytes 4 update.job.by.made ++ key

  value_long : length value ≡ 60
  value_long = let long = fits.octets in omega arith

  body_reads : (length_at : ℕ) → Reads (head_with Update length_at (length value) >>= λ count. sealer >>= λ by. given_keys count handle
      >>= λ keys. give (array_by by.0 by.1 keys)) value (array_of update)
  body_reads length_at =
      let gives = fits.gives in
      let long : (length value == 60) ≡ true = ap (λ size. size == 60) value_long in
      reads_then (head_with Update length_at (length value)) (λ count. sealer >>= λ by. given_keys count handle
      >>= λ keys. give (array_by by.0 by.1 keys)) (1 ∷ big_bytes 2 1 ++ (0 ∷ []))
      (big_bytes 2 update.job.by.id ++ big_bytes 2 0 ++ big_bytes 4 update.job.by.made ++ key) 1 (array_of update)
      (head_reads Update length_at (length value) 1 (omega arith) refl long) (
      reads_then sealer (λ by. given_keys 1 handle >>= λ keys. give (array_by by.0 by.1 keys))
      (big_bytes 2 update.job.by.id ++ big_bytes 2 0 ++ big_bytes 4 update.job.by.made) key by (array_of update)
      (sealer_reads update.job.by.id update.job.by.made fits.by.some fits.by.id fits.by.made) (
      reads_assoc (given_key handle) (λ key. given_keys zero (Some key.made) >>= λ keys. give (key ∷ keys))
      (λ keys. give (array_by update.job.by.id update.job.by.made keys)) key (array_of update) (
      reads_made (given_key handle) (λ key. array_by update.job.by.id update.job.by.made (key ∷ [])) key (key_of update)
      (given_reads handle update.job.gives.id update.job.gives.made update.octets gives.some gives.id gives.made fits.octets same)
      )))

  array_reads : (length_at : ℕ) → ReadsAll (update_array handle length_at) value (array_of update)
  unfolding update_array array_head
  array_reads length_at = record { reads = λ base at. (reads_all _ value (array_of update) (body_reads length_at)).reads base at }

  pub attribute_reads : Reads (update_attribute handle) (update_text update.job update.octets) (array_of update)
  unfolding update_attribute
  attribute_reads =
      reads_next (long_type (2 ∷ [])) _ (big_bytes 2 2) (big_bytes 2 (length value) ++ value) 2 (array_of update)
      (type_reads 2 (omega arith) refl refl) (
      reads_here _ (big_bytes 2 (length value) ++ value) (array_of update) (λ length_at.
      reads_inside (update_array handle length_at) value (array_of update) (omega (arith, value_long)) (array_reads length_at)
      ))

-- ---- a download array

module _ (path : List PathKey) (fit : All PathKeyFits path) (is_path : IsPath path) where
  abbrev content : List ℕ
  content = 1 ∷ big_bytes 2 (length path) ++ 0 ∷ path_text path

  content_long : length content ≡ 4 + 48 * length path
  content_long = let long = path_size path fit in omega (arith, long)

  above_first : (path : List PathKey) → AboveFirst None path
  above_first [] = tt
  above_first (first ∷ keys) = refl

  download_reads : (length_at : ℕ) → Reads (head_with Download length_at (length content) >>= λ count. path_keys count None) content path
  download_reads length_at =
      let least = is_path.least in
      let most = is_path.most in
      let due : (nat_le 2 (length path) && nat_le (length path) 16) ≡ true =
      (λ i. le-leb 2 (length path) least i && nat_le (length path) 16) ∙ le-leb (length path) 16 most in
      let long : (length content == 4 + 48 * length path) ≡ true = eq-eqb (length content) (4 + 48 * length path) content_long in
      reads_then (head_with Download length_at (length content)) (λ count. path_keys count None) (1 ∷ big_bytes 2 (length path) ++ (0 ∷ []))
      (path_text path) (length path) path
      (head_reads Download length_at (length content) (length path) (omega (arith, most)) due long)
      (path_reads path None fit is_path.up (above_first path))

  download_all : (length_at : ℕ) → ReadsAll (download_array length_at) content path
  unfolding download_array array_head
  download_all length_at = record { reads = λ base at. (reads_all _ content path (download_reads length_at)).reads base at }

  -- the attribute with it, up to the end
  pub download_read : (base at : ℕ) → download (cursor base at (download_text path)) ≡ Ok (path, cursor base (at + (4 + length content)) [])
  unfolding download signature_keys no_more_attributes
  download_read base at =
      let most = is_path.most in
      let small : length content < 65536 = omega (arith, content_long, most) in
      let sized : List ℕ = big_bytes 2 (length content) ++ content in
      let whole : List ℕ = download_text path in
      let to_end : List PathKey → Reading (List PathKey) = λ path. signature_keys >> (no_more_attributes >> give path) in
      let to_value : ℕ → Reading (List PathKey) = λ length_at. long_value >>= λ value. inside value (download_array length_at) >>= to_end in
      let place : at + 2 + length sized ≡ at + (4 + length content) = omega arith in
      ap (λ (read : Result (Unit {0} × Cursor) WireFault). and_then read (λ done. long_type (1 ∷ []) >> (here >>= to_value)))
      (none_of (length whole) (cursor base at whole) (ap (λ (has : Bool). Ok (has, cursor base at whole))
      (and_false (nat_le 2 (length whole)))))
      ∙ ap (λ (read : Result (ℕ × Cursor) WireFault). and_then read (λ done. here >>= to_value))
      ((type_reads 1 (omega arith) refl refl).reads base at sized)
      ∙ sym (and_assoc (long_value (cursor base (at + 2) sized)) (λ value. inside value (download_array (base + (at + 2)))) to_end)
      ∙ ap (λ (read : Result (List PathKey × Cursor) WireFault). and_then read to_end)
      ((reads_all _ sized path (reads_inside (download_array (base + (at + 2))) content path small (download_all (base + (at + 2))))).reads
      base (at + 2))
      ∙ ap (λ place. Ok (path, cursor base place [])) place
