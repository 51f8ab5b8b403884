-- The opening of a datagram, of all that is promised of the answer.
use Rattle.std.proofs.Common.{◌≡◌, ◌∙◌, inl, inr, refl, subst, sym, ℕ, ◌<◌, ◌≤◌, true, false, List, []}
use Rattle.std.specs.Prelude.{Result, Ok, Err, IsErr, ◌⊎◌}
use Rattle.std.proofs.lemmas.Bool.{cases_Bool, cases_lt, false≢true}
use Rattle.std.proofs.lemmas.Slice.Eq.{bytes_eq-Decides}
use Rattle.std.specs.Str.{bytes_eq}
use Rattle.gd_edges.specs.declared.verifiers.Verifier.{Ghosts as VerifierGhosts}
use Rattle.gd_wire.specs.declared.headers.Header.{Header}
use Rattle.group_terms.specs.declared.pushes.PushRefusal.{PushRefusal}
use Rattle.group_terms.specs.declared.pushes.PushRefusal.TheVariants.{OtherSpi, Malformed, BadSignature, Stale}
use Rattle.group_terms.specs.declared.values.NodeValue.{NodeValue}
use Rattle.group_terms.specs.declared.wires.WireFault.{WireFault}
use Rattle.push_msg.specs.declared.bodies.OpenPush.{OpenPush}
use Rattle.push_msg.specs.Pushes.{HasFault, Opens, Reads, given_by, header_of, payloads_of}
use Rattle.push_msg.specs.Readings.{PushRead}
use Rattle.member_store.specs.Private.Openings.{HasOpening}
use Rattle.member_store.specs.Steps.{ReadsPush, is_signed, kek_of}
use Rattle.member_store.specs.Stores.{Store}

same_or_other : (xs ys : List ℕ) → (xs ≡ ys) ⊎ (xs ≡ ys → ⊥)
same_or_other xs ys = elim (cases_Bool (bytes_eq xs ys)) [
  | inl is ↦ inl ((bytes_eq-Decides xs ys).0 is)
  | inr fails ↦ inr (λ same. false≢true (sym fails ∙ (bytes_eq-Decides xs ys).1 same))
]

module _ {V : Type 0} (v : VerifierGhosts V) (verifier : V) (store : Store) (datagram : List ℕ) (result : Result OpenPush PushRefusal) (room : List ℕ) where
  -- what is promised of it under this key
  pub record Promised (kek : NodeValue) : Type 0 where
    pub header : (fault : WireFault) → header_of datagram ≡ Err fault → result ≡ Err (Malformed fault.at)
    pub other_spi : (head : Header) → header_of datagram ≡ Ok head → (head.cookies ≡ store.spi → ⊥) → result ≡ Err (OtherSpi head.cookies store.spi)
    pub opened : (head : Header) → header_of datagram ≡ Ok head → head.cookies ≡ store.spi → (text : List ℕ) × Opens datagram store.spi kek head text
    pub malformed : (fault : WireFault) → HasFault datagram store.spi kek (v.kind_of verifier) fault → result ≡ Err (Malformed fault.at)
    pub bad_signature : (read : PushRead) → Reads datagram store.spi kek (v.kind_of verifier) read → is_signed v verifier store datagram read ≡ false → result ≡ Err BadSignature
    pub stale : (read : PushRead) → Reads datagram store.spi kek (v.kind_of verifier) read → is_signed v verifier store datagram read ≡ true
        → read.number ≤ store.sequence → result ≡ Err (Stale store.sequence read.number)
    pub ok : (read : PushRead) → Reads datagram store.spi kek (v.kind_of verifier) read → is_signed v verifier store datagram read ≡ true
        → store.sequence < read.number → (result ≡ Ok (given_by read)) × (room ≡ read.keys)
    pub refused : IsErr result → room ≡ []

  abbrev pub Has : Type 0
  Has = HasOpening v verifier store datagram result room

  is_refused : (why : PushRefusal) → result ≡ Err why → IsErr result
  is_refused why is = subst IsErr (sym is) refl

  module _ (promised : Promised (kek_of store)) where
    -- by its number
    of_signed : (read : PushRead) → ReadsPush v verifier store datagram read → is_signed v verifier store datagram read ≡ true → Has
    of_signed read reads signed = elim (cases_lt store.sequence read.number) [
      | inl greater ↦ (
          let ok = promised.ok read reads signed greater in
          record { opening = Ok read; is_opening = (reads, signed, greater); answers = ok.0; left = ok.1 }
          )
      | inr low ↦ (
          let is = promised.stale read reads signed low in
          record {
            opening = Err (Stale store.sequence read.number);
            is_opening = (read, reads, signed, low, refl, refl);
            answers = is;
            left = promised.refused (is_refused _ is);
          }
          )
    ]

    -- by its signature
    of_read : (read : PushRead) → ReadsPush v verifier store datagram read → Has
    of_read read reads = elim (cases_Bool (is_signed v verifier store datagram read)) [
      | inl signed ↦ of_signed read reads signed
      | inr unsigned ↦ (
          let is = promised.bad_signature read reads unsigned in
          record { opening = Err BadSignature; is_opening = (read, reads, unsigned); answers = is; left = promised.refused (is_refused _ is) }
          )
    ]

    -- by its payloads
    of_payloads : (head : Header) (text : List ℕ) → Opens datagram store.spi (kek_of store) head text
        → (payloads : Result PushRead WireFault) → payloads_of store.spi (v.kind_of verifier) head.next text ≡ payloads → Has
    of_payloads head text opens (Ok read) is = of_read read (record { head = head; text = text; opens = opens; is = is })
    of_payloads head text opens (Err fault) is =
        let has : HasFault datagram store.spi (kek_of store) (v.kind_of verifier) fault =
        record { head = head; text = text; opens = opens; is = is } in
        let refuses = promised.malformed fault has in
        record {
          opening = Err (Malformed fault.at);
          is_opening = (fault, inr has, refl);
          answers = refuses;
          left = promised.refused (is_refused _ refuses);
        }

    -- by its cookies
    of_head : (head : Header) → header_of datagram ≡ Ok head → Has
    of_head head is = elim (same_or_other head.cookies store.spi) [
      | inl same ↦ (let opened = promised.opened head is same in of_payloads head opened.0 opened.1 _ refl)
      | inr other ↦ (
          let refuses = promised.other_spi head is other in
          record {
            opening = Err (OtherSpi head.cookies store.spi);
            is_opening = (head, is, other, refl, refl);
            answers = refuses;
            left = promised.refused (is_refused _ refuses);
          }
          )
    ]

    -- by its header
    of_header : (header : Result Header WireFault) → header_of datagram ≡ header → Has
    of_header (Ok head) is = of_head head is
    of_header (Err fault) is =
        let refuses = promised.header fault is in
        record {
          opening = Err (Malformed fault.at);
          is_opening = (fault, inl is, refl);
          answers = refuses;
          left = promised.refused (is_refused _ refuses);
        }

    pub has_opening : Has
    has_opening = of_header (header_of datagram) refl
