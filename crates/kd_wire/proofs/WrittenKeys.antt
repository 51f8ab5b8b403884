-- Keys that are written are read again.
use Rattle.std.proofs.Common.{◌≡◌, ℕ, suc, ◌/◌, ◌<◌, true, List, [], ◌∷◌, ◌++◌, length, Option, Some, refl, ap, arith}
use Rattle.std.specs.Prelude.{◌==◌, ◌||◌, not}
use Rattle.std.specs.List.{All}
use Rattle.std.proofs.lemmas.Bool.{ne_eqb, eq-eqb}
use Rattle.std.proofs.lemmas.List.Elements.{All-head, All-tail}
use Rattle.byteorder.specs.Endian.{big_bytes}
use Rattle.group_terms.specs.Octets.{iv_octets, key_octets, data_octets}
use Rattle.group_terms.specs.declared.paths.PathKey.{PathKey}
use Rattle.group_terms.specs.declared.wires.WireWhat.TheVariants.{Reserved, Value}
use Rattle.gd_wire.specs.Readings.{Reading, ◌>>=◌, ◌>>◌, here, give, check, octets, number, long_number, due_octet}
use Rattle.kd_wire.specs.declared.updates.UpdateKey.{UpdateKey}
use Rattle.kd_wire.specs.Keys.{key_type, is_above, is_on_path, path_key, path_keys, has_handle, given_key}
use Rattle.kd_wire.specs.Texts.{key_text, data_of, path_text, PathKeyFits, LeadsUp}
use Rattle.gd_wire.proofs.ReadsLemmas.{Reads, reads_then, reads_next, reads_made, reads_give, reads_here, reads_check, reads_octets}
use Rattle.gd_wire.proofs.ReadsLemmas.{reads_number, reads_long_number, reads_due_octet}

type_reads : Reads key_type (3 ∷ 0 ∷ []) tt
unfolding key_type
type_reads = reads_next (due_octet 3 Value) (due_octet 0 Reserved) (3 ∷ []) (0 ∷ []) tt tt (reads_due_octet 3 Value refl)
    (reads_due_octet 0 Reserved refl)

pub not_zero : (id : ℕ) → 0 < id → not (id == 0) ≡ true
not_zero id some = ap not (ne_eqb id 0 (λ e. omega arith))

-- both dates
abbrev dates : List ℕ
dates = big_bytes 4 0 ++ big_bytes 4 0

-- a key that an update gives
module _ (handle : Option ℕ) (id made : ℕ) (sealed : List ℕ) where
  abbrev key : UpdateKey
  key = record { id = id; made = made; sealed = sealed }

  pub given_reads : 0 < id → id < 65536 → made < 4294967296 → length sealed ≡ data_octets → has_handle handle made ≡ true
      → Reads (given_key handle) (key_text id made sealed) key
  unfolding given_key
  given_reads some small fits long same =
      let after_dates : ℕ → ℕ → Reading UpdateKey = λ id made_at. long_number >>= λ made. check (has_handle handle made) Value made_at
      >> (octets data_octets >>= λ sealed. give (record { id = id; made = made; sealed = sealed })) in
      reads_here _ (key_text id made sealed) key (λ at.
      reads_then number (λ id. check (not (id == 0)) Value at >> (key_type >> (octets 8 >> (here >>= after_dates id)))) (big_bytes 2 id)
      (3 ∷ 0 ∷ dates ++ big_bytes 4 made ++ sealed) id key (reads_number id small) (
      reads_check (not (id == 0)) Value at _ (3 ∷ 0 ∷ dates ++ big_bytes 4 made ++ sealed) key (not_zero id some) (
      reads_next key_type _ (3 ∷ 0 ∷ []) (dates ++ big_bytes 4 made ++ sealed) tt key type_reads (
      reads_next (octets 8) _ dates (big_bytes 4 made ++ sealed) dates key (reads_octets 8 dates refl) (
      reads_here _ (big_bytes 4 made ++ sealed) key (λ made_at.
      reads_then long_number (λ made. check (has_handle handle made) Value made_at
      >> (octets data_octets >>= λ sealed. give (record { id = id; made = made; sealed = sealed }))) (big_bytes 4 made) sealed made key
      (reads_long_number made fits) (
      reads_check (has_handle handle made) Value made_at _ sealed key same (
      reads_made (octets data_octets) (λ sealed. record { id = id; made = made; sealed = sealed }) sealed sealed
      (reads_octets data_octets sealed long)
      )))))))
      )

-- ---- the keys of a path

on_path : (more : ℕ) (below : Option ℕ) (id : ℕ) → 0 < id → is_above below id ≡ true → (not (more == 0) || id == 1) ≡ true
    → is_on_path more below id ≡ true
on_path more below id some above last = rw (not_zero id some, above, last) refl

module _ (more : ℕ) (below : Option ℕ) (key : PathKey) where
  abbrev iv : List ℕ
  iv = key.value.iv

  abbrev octets_of : List ℕ
  octets_of = key.value.key

  abbrev made_of : ℕ → ℕ → List ℕ → List ℕ → PathKey
  made_of id made iv key = record { id = id; made = made; value = record { iv = iv; key = key } }

  path_key_reads : PathKeyFits key → is_on_path more below key.id ≡ true
      → Reads (path_key more below) (key_text key.id key.made (data_of key.value)) key
  unfolding path_key
  path_key_reads fits due =
      let both : List ℕ = iv ++ octets_of in
      let after_made : ℕ → ℕ → Reading PathKey = λ id made. octets iv_octets >>= λ iv. octets key_octets
      >>= λ key. give (made_of id made iv key) in
      reads_here _ (key_text key.id key.made both) key (λ at.
      reads_then number (λ id. check (is_on_path more below id) Value at >> (key_type >> (octets 8 >> (long_number >>= after_made id))))
      (big_bytes 2 key.id) (3 ∷ 0 ∷ dates ++ big_bytes 4 key.made ++ both) key.id key
      (reads_number key.id fits.id) (
      reads_check (is_on_path more below key.id) Value at _ (3 ∷ 0 ∷ dates ++ big_bytes 4 key.made ++ both) key due (
      reads_next key_type _ (3 ∷ 0 ∷ []) (dates ++ big_bytes 4 key.made ++ both) tt key type_reads (
      reads_next (octets 8) _ dates (big_bytes 4 key.made ++ both) dates key (reads_octets 8 dates refl) (
      reads_then long_number (after_made key.id) (big_bytes 4 key.made) both key.made key (reads_long_number key.made fits.made) (
      reads_then (octets iv_octets) (λ iv. octets key_octets >>= λ key_. give (made_of key.id key.made iv key_)) iv octets_of iv key
      (reads_octets iv_octets iv fits.iv) (
      reads_made (octets key_octets) (made_of key.id key.made iv) octets_of octets_of (reads_octets key_octets octets_of fits.octets)
      )))))))

-- the first key of a path is above another one, if any
abbrev pub AboveFirst : Option ℕ → List PathKey → Type 0
AboveFirst below [] = Unit {0}
AboveFirst below (key ∷ keys) = is_above below key.id ≡ true

pub path_reads : (path : List PathKey) (below : Option ℕ) → All PathKeyFits path → LeadsUp path → AboveFirst below path
    → Reads (path_keys (length path) below) (path_text path) path
path_reads [] below fit up above = absurd up
path_reads (key ∷ []) below fit up above =
    let fits = All-head PathKeyFits key [] fit in
    let last : (not (0 == 0) || key.id == 1) ≡ true = eq-eqb key.id 1 up in
    reads_then (path_key 0 below) (λ key. path_keys 0 (Some key.id) >>= λ keys. give (key ∷ keys))
    (key_text key.id key.made (data_of key.value)) [] key (key ∷ [])
    (path_key_reads 0 below key fits (on_path 0 below key.id fits.some above last))
    (record { reads = (reads_give (key ∷ []) (key ∷ []) refl).reads })
path_reads (key ∷ next ∷ keys) below fit up above =
    let fits = All-head PathKeyFits key (next ∷ keys) fit in
    let more : ℕ = suc (length keys) in
    let last : (not (more == 0) || key.id == 1) ≡ true = ap (λ none. not none || key.id == 1) (ne_eqb more 0 (λ e. omega arith)) in
    let rest = path_reads (next ∷ keys) (Some key.id) (All-tail PathKeyFits key (next ∷ keys) fit) up.1
    (eq-eqb next.id (key.id / 2) up.0) in
    reads_then (path_key more below) (λ key. path_keys more (Some key.id) >>= λ keys. give (key ∷ keys))
    (key_text key.id key.made (data_of key.value)) (path_text (next ∷ keys)) key (key ∷ next ∷ keys)
    (path_key_reads more below key fits (on_path more below key.id fits.some above last))
    (reads_made (path_keys more (Some key.id)) (λ keys. key ∷ keys) (path_text (next ∷ keys)) (next ∷ keys) rest)
