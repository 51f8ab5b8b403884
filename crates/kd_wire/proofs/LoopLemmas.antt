-- Loops over keys and arrays: what is made of all of them, from what is made of the rest.
use Rattle.std.proofs.Common.{◌≡◌, ℕ, zero, suc, ◌+◌, Bool, true, false, List, [], ◌∷◌, ◌++◌, length, Option, None, Some, Result, Ok}
use Rattle.std.proofs.Common.{if◌then◌else◌, refl, sym, ap, ◌∙◌, append_assoc, arith}
use Rattle.std.specs.Prelude.{◌||◌, ◌==◌, option_map}
use Rattle.std.specs.List.{list_any}
use Rattle.group_terms.specs.declared.paths.PathKey.{PathKey}
use Rattle.group_terms.specs.declared.wires.WireFault.{WireFault}
use Rattle.gd_wire.specs.declared.attributes.Attribute.{Attribute}
use Rattle.gd_wire.specs.Attributes.{attribute, next_has_kind}
use Rattle.gd_wire.specs.Readings.{Cursor, and_then, ◌>>=◌, ◌>>◌, mapped, give}
use Rattle.gd_wire.proofs.ReadingLemmas.{mapped_step, mapped_ok, and_then_ok, same_value}
use Rattle.kd_wire.specs.declared.arrays.Found.{Found}
use Rattle.kd_wire.specs.declared.arrays.Seen.{Seen}
use Rattle.kd_wire.specs.declared.arrays.SeenArray.{SeenArray}
use Rattle.kd_wire.specs.declared.updates.UpdateArray.{UpdateArray}
use Rattle.kd_wire.specs.declared.updates.UpdateKey.{UpdateKey}
use Rattle.kd_wire.specs.Arrays.{signature_keys_of, next_update, PlacedArray, arrays_of, end_after, gives_root, go_on, more_updates}
use Rattle.kd_wire.specs.Keys.{path_key, path_keys, given_key, given_keys}
use Rattle.kd_wire.specs.Seals.{sealed_under, handle_after, is_root, read_or_none, keys_left}
use Rattle.kd_wire.specs.Private.Seen.{handle_of_given, seen_after, with_seen, found_after}

or_assoc : (a b c : Bool) → (a || (b || c)) ≡ ((a || b) || c)
or_assoc true b c = refl
or_assoc false b c = refl

-- ---- signature keys

pub signature_step : (left more : ℕ) (cursor after : Cursor) (passed : Attribute) → left ≡ suc more → next_has_kind 3 cursor
    ≡ Ok (true, cursor)
    → attribute cursor ≡ Ok (passed, after) → signature_keys_of more after ≡ signature_keys_of left cursor
signature_step left more cursor after passed one has is =
    sym (
    ap (λ n. signature_keys_of n cursor) one
    ∙ ap (λ (r : Result (Bool × Cursor) WireFault). and_then r (λ (is_one : Bool). if is_one then (attribute >> signature_keys_of more) else
    give tt)) has
    ∙ ap (λ (r : Result (Attribute × Cursor) WireFault). and_then r (λ (done : Attribute). signature_keys_of more)) is
    )

-- ---- keys

pub path_step : (path : List PathKey) (left more : ℕ) (below : Option ℕ) (cursor after : Cursor) (key : PathKey) → left ≡ suc more
    → path_key more below cursor ≡ Ok (key, after)
    → mapped (λ keys. (path ++ key ∷ []) ++ keys) (path_keys more (Some key.id) after)
    ≡ mapped (λ keys. path ++ keys) (path_keys left below cursor)
path_step path left more below cursor after key one is =
    mapped_step (λ keys. path ++ keys) (λ keys. (path ++ key ∷ []) ++ keys) key (λ keys. sym (append_assoc path (key ∷ []) keys))
    (path_keys more (Some key.id) after)
    ∙ sym (
    ap (λ n. mapped (λ keys. path ++ keys) (path_keys n below cursor)) one
    ∙ ap (λ (r : Result (PathKey × Cursor) WireFault). mapped (λ keys. path ++ keys)
    (and_then r (λ (key : PathKey). path_keys more (Some key.id) >>= λ keys. give (key ∷ keys)))) is
    )

-- what is seen after one more key
abbrev pub with_key : Seen → UpdateKey → Seen
with_key seen key = record { handle = Some key.made; has_root = seen.has_root || key.id == 1 }

pub given_step : (seen : Seen) (left more : ℕ) (cursor after : Cursor) (key : UpdateKey) → left ≡ suc more → given_key seen.handle cursor
    ≡ Ok (key, after)
    → mapped (seen_after (with_key seen key)) (given_keys more (Some key.made) after)
    ≡ mapped (seen_after seen) (given_keys left seen.handle cursor)
given_step seen left more cursor after key one is =
    mapped_step (seen_after seen) (seen_after (with_key seen key)) key (λ keys. λ i. record {
      handle = handle_of_given (Some key.made) keys;
      has_root = or_assoc seen.has_root (key.id == 1) (list_any (λ (key : UpdateKey). key.id == 1) keys) i;
    }) (given_keys more (Some key.made) after)
    ∙ sym (
    ap (λ n. mapped (seen_after seen) (given_keys n seen.handle cursor)) one
    ∙ ap (λ (r : Result (UpdateKey × Cursor) WireFault). mapped (seen_after seen)
    (and_then r (λ (key : UpdateKey). given_keys more (Some key.made) >>= λ keys. give (key ∷ keys)))) is
    )

-- ---- the keys of an array

-- keys without fault are the ones left to be read
pub keys_are_left : (count : ℕ) (handle : Option ℕ) (cursor after : Cursor) (keys : List UpdateKey) → given_keys count handle cursor
    ≡ Ok (keys, after)
    → keys_left count handle cursor ≡ keys
keys_are_left zero handle cursor after keys is = ap (λ read. read.0) (same_value ([], cursor) (keys, after) is)
keys_are_left (suc more) handle cursor after keys is =
    let key = and_then_ok (given_key handle cursor) (λ (key : UpdateKey). given_keys more (Some key.made)
    >>= λ (keys : List UpdateKey). give (key ∷ keys)) keys after is in
    let rest = and_then_ok (given_keys more (Some key.0.made) key.1) (λ (keys : List UpdateKey). give (key.0 ∷ keys)) keys after key.3 in
    ap (λ (r : Result (UpdateKey × Cursor) WireFault). read_or_none r (λ key next. key ∷ keys_left more (Some key.made) next)) key.2
    ∙ ap (λ keys. key.0 ∷ keys) (keys_are_left more (Some key.0.made) key.1 rest.1 rest.0 rest.2)
    ∙ ap (λ read. read.0) (same_value (key.0 ∷ rest.0, rest.1) (keys, after) rest.3)

root_same : (by made : ℕ) (keys : List UpdateKey) → list_any is_root (sealed_under by made keys)
    ≡ list_any (λ (key : UpdateKey). key.id == 1) keys
root_same by made [] = refl
root_same by made (key ∷ keys) = ap (λ later. (key.id == 1) || later) (root_same key.id key.made keys)

pub handle_same : (handle : Option ℕ) (by made : ℕ) (keys : List UpdateKey) → handle_after handle (sealed_under by made keys)
    ≡ handle_of_given handle keys
handle_same handle by made [] = refl
handle_same handle by made (key ∷ keys) = handle_same (Some key.made) key.id key.made keys

abbrev pub array_by : ℕ → ℕ → List UpdateKey → UpdateArray
array_by by made keys = record { by = by; by_made = made; keys = sealed_under by made keys }

pub array_given : (count : ℕ) (handle : Option ℕ) (by made : ℕ) (cursor after : Cursor) (seen : Seen)
    → mapped (seen_after (record { handle = handle; has_root = false })) (given_keys count handle cursor) ≡ Ok (seen, after)
    → mapped (with_seen handle) (and_then (given_keys count handle cursor) (λ (keys : List UpdateKey). give (array_by by made keys)))
    ≡ Ok (record { array = array_by by made (keys_left count handle cursor); seen = seen }, after)
array_given count handle by made cursor after seen is =
    let keys = mapped_ok (seen_after (record { handle = handle; has_root = false })) (given_keys count handle cursor) seen after is in
    ap (λ (r : Result (List UpdateKey × Cursor) WireFault). mapped (with_seen handle)
    (and_then r (λ (keys : List UpdateKey). give (array_by by made keys)))) keys.1
    ∙ (λ i. Ok (
      record {
        array = array_by by made (sym (keys_are_left count handle cursor after keys.0 keys.1) i);
        seen = ((λ j. record { handle = handle_same handle by made keys.0 j; has_root = root_same by made keys.0 j }) ∙ keys.2) i;
      },
      after,
    ))

-- ---- arrays

-- an array that the code has read, and what it has seen of its keys
seen_of : (handle : Option ℕ) (read : Result (Option UpdateArray × Cursor) WireFault) (next : SeenArray) (after : Cursor)
    → ((found : Option UpdateArray) × (read ≡ Ok (found, after)) × (option_map (with_seen handle) found ≡ Some next))
    → (read ≡ Ok (Some next.array, after)) × ((with_seen handle next.array).seen ≡ next.seen)
seen_of handle read next after (None, is, made) = absurd (cc)
seen_of handle read next after (Some array, is, made) =
    let same : with_seen handle array ≡ next = cc in (
      is ∙ ap (λ (seen : SeenArray). Ok (Some seen.array, after)) same,
      ap (λ (seen : SeenArray). (with_seen handle seen.array).seen)
          (sym same) ∙ ap (λ (seen : SeenArray). seen.seen) same,
    )

pub some_seen : (handle : Option ℕ) (read : Result (Option UpdateArray × Cursor) WireFault) (next : SeenArray) (after : Cursor)
    → mapped (option_map (with_seen handle)) read ≡ Ok (Some next, after)
    → (read ≡ Ok (Some next.array, after)) × ((with_seen handle next.array).seen ≡ next.seen)
some_seen handle read next after is = seen_of handle read next after (mapped_ok (option_map (with_seen handle)) read (Some next) after is)

-- what is found after one more array, which ends here
abbrev pub with_array : Found → UpdateArray → ℕ → Found
with_array found array end = record { has_root = found.has_root || list_any is_root array.keys; end = end; arrays = found.arrays + 1 }

found_step : (found : Found) (array : UpdateArray) (end : ℕ) (more : List PlacedArray)
    → found_after found (record { array = array; end = end } ∷ more) ≡ found_after (with_array found array end) more
found_step found array end more =
    let count : found.arrays + suc (length more) ≡ found.arrays + 1 + length more = omega arith in
    λ i. record {
      has_root = or_assoc found.has_root (list_any is_root array.keys) (gives_root (arrays_of more)) i;
      end = end_after end more;
      arrays = count i;
    }

pub update_step : (found : Found) (left more : ℕ) (handle : Option ℕ) (cursor after : Cursor) (array : UpdateArray) → left ≡ suc more
    → next_update handle cursor ≡ Ok (Some array, after)
    → mapped (found_after (with_array found array after.at)) (more_updates more (handle_after handle array.keys) after)
    ≡ mapped (found_after found) (more_updates left handle cursor)
update_step found left more handle cursor after array one is =
    mapped_step (found_after found) (found_after (with_array found array after.at)) (record { array = array; end = after.at })
    (found_step found array after.at)
    (more_updates more (handle_after handle array.keys) after)
    ∙ sym (
    ap (λ n. mapped (found_after found) (more_updates n handle cursor)) one
    ∙ ap (λ (r : Result (Option UpdateArray × Cursor) WireFault). mapped (found_after found)
    (and_then r (λ (next : Option UpdateArray). λ (cursor : Cursor).
    go_on next (λ array. more_updates more (handle_after handle array.keys)
    >>= λ arrays. give (record { array = array; end = cursor.at } ∷ arrays)) cursor))) is
    )
