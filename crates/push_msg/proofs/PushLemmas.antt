-- The payloads of a push that was written are read.
-- The list of payloads is read by one `rw`, an equation for each line, with `unfolding` of the block alone. The text is written with its brackets to the right.
use Rattle.std.proofs.Common.{◌≡◌, ◌≤◌, ◌<◌, ◌+◌, ◌∙◌, ℕ, List, [], ◌∷◌, ◌++◌, length, take, drop, replicate, Result, Ok, Err, refl, ap, sym, arith}
use Rattle.std.proofs.lemmas.List.{drop_at, drop-drop}
use Rattle.gd_wire.specs.declared.chains.Part.{Part}
use Rattle.gd_wire.specs.Bodies.{sequence, sequence_text, signature, body_cursor}
use Rattle.gd_wire.specs.Chains.{payload_text, ends, body_of, named_first}
use Rattle.gd_wire.specs.Readings.{Cursor, from_start, value_of}
use Rattle.gd_wire.proofs.BodyLemmas.{sequence_written, signature_written}
use Rattle.gd_wire.proofs.ChainLaws.{end_written, payload_written, written_body}
use Rattle.group_terms.specs.declared.signatures.SignKind.{SignKind}
use Rattle.push_msg.specs.declared.bodies.OpenBody.{OpenBody}
use Rattle.push_msg.specs.declared.rows.Row.{Row}
use Rattle.push_msg.specs.Readings.{PushRead, push, row, key_download, number_in, signature_in}

module _ (spi : List ℕ) (sign : SignKind) (number : ℕ) (policy_body keys_body signed_by : List ℕ) (which : Row) (body : OpenBody) (zeros : ℕ)
    (few : zeros < 16) (small : number < 4294967296) (policy_fits : length policy_body ≤ 65531) (keys_fit : length keys_body ≤ 65531)
    (some : 1 ≤ length signed_by) (short : length signed_by ≤ 512)
    (is_row : (base : ℕ) (cursor : Cursor) → row spi sign base policy_body cursor ≡ Ok (which, cursor))
    (are_keys : (cursor : Cursor) → key_download which (28 + (0 + 4 + 4 + 4 + length policy_body) + 4) keys_body cursor ≡ Ok (body, cursor)) where
  abbrev end : List ℕ
  end = replicate zeros 0

  abbrev from_signature : List ℕ
  from_signature = payload_text 0 signed_by ++ end

  abbrev from_keys : List ℕ
  from_keys = payload_text 9 keys_body ++ from_signature

  abbrev from_policy : List ℕ
  from_policy = payload_text 17 policy_body ++ from_keys

  abbrev pub text : List ℕ
  text = payload_text 1 (sequence_text number) ++ from_policy

  -- the places of the payloads after the first
  abbrev policy_at : ℕ
  policy_at = 0 + 4 + 4

  abbrev keys_at : ℕ
  keys_at = policy_at + 4 + length policy_body

  abbrev pub signature_at : ℕ
  signature_at = keys_at + 4 + length keys_body

  abbrev part : ℕ → ℕ → ℕ → Part
  part kind at size = record { kind = kind; at = 28 + at; start = at + 4; length = size }

  rest_policy : drop policy_at text ≡ from_policy
  rest_policy = drop_at (payload_text 1 (sequence_text number)) from_policy policy_at refl

  rest_keys : drop keys_at text ≡ from_keys
  rest_keys =
      sym (drop-drop (4 + length policy_body) policy_at text ∙ ap (λ place. drop place text) (omega arith))
      ∙ ap (drop (4 + length policy_body)) rest_policy ∙ drop_at (payload_text 17 policy_body) from_keys (4 + length policy_body) (omega arith)

  rest_signature : drop signature_at text ≡ from_signature
  rest_signature =
      sym (drop-drop (4 + length keys_body) keys_at text ∙ ap (λ place. drop place text) (omega arith))
      ∙ ap (drop (4 + length keys_body)) rest_keys ∙ drop_at (payload_text 9 keys_body) from_signature (4 + length keys_body) (omega arith)

  number_read : number_in text (part 18 0 4) ≡ Ok number
  number_read =
      ap (λ octets. value_of (sequence 30 (from_start 32 octets))) (written_body text 18 1 28 0 (sequence_text number) from_policy refl)
      ∙ sequence_written number 32 30 small

  pub signature_read : signature_in text (part 9 signature_at (length signed_by)) ≡ Ok signed_by
  signature_read =
      ap (λ octets. value_of (signature (28 + signature_at + 2) (from_start (28 + signature_at + 4) octets)))
      (written_body text 9 0 28 signature_at signed_by end rest_signature)
      ∙ signature_written (28 + signature_at + 4) (28 + signature_at + 2) signed_by some short

  pub keys_are : body_of text (part 17 keys_at (length keys_body)) ≡ keys_body
  keys_are = written_body text 17 9 28 keys_at keys_body from_signature rest_keys

  abbrev pub read : PushRead
  read = record { number = number; body = body; keys = keys_body; signed = take signature_at text; signature = signed_by }

  pub push_is_read : value_of (push spi sign text 18 (from_start 28 text)) ≡ Ok read
  unfolding push
  push_is_read =
      let policy_is = written_body text 1 17 28 policy_at policy_body from_keys rest_policy in
      rw (
        payload_written 18 1 28 0 (named_first 18) (sequence_text number) from_policy refl (omega arith),
        number_read,
        payload_written 1 17 28 policy_at (record { kind = 1; at = 28 + 0 }) policy_body from_keys refl policy_fits,
        policy_is,
        is_row (28 + policy_at + 4) (record { base = 28; at = keys_at; left = from_keys }),
        payload_written 17 9 28 keys_at (record { kind = 17; at = 28 + policy_at }) keys_body from_signature refl keys_fit,
        keys_are,
        are_keys (record { base = 28; at = signature_at; left = from_signature }),
        payload_written 9 0 28 signature_at (record { kind = 9; at = 28 + keys_at }) signed_by end refl (omega (arith, short)),
        signature_read,
        end_written zeros (record { kind = 0; at = 28 + signature_at })
            (record { base = 28; at = signature_at + 4 + length signed_by; left = end }) few refl refl,
      ) refl
