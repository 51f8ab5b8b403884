-- A datagram is opened in one way: where a cause holds, it is the answer.
use Rattle.std.proofs.Common.{◌≡◌, ◌≢◌, ◌∙◌, ap, arith, inl, inr, refl, sym, ℕ, ◌<◌, ◌≤◌, true, false, List}
use Rattle.std.specs.Prelude.{Result, Ok, Err}
use Rattle.std.proofs.lemmas.Bool.{false≢true}
use Rattle.std.specs.Result.{is_ok}
use Rattle.gd_cipher.specs.Chains.{IsOpened}
use Rattle.gd_edges.specs.declared.verifiers.Verifier.{Ghosts as VerifierGhosts}
use Rattle.gd_wire.specs.declared.headers.Header.{Header}
use Rattle.group_terms.specs.declared.pushes.PushRefusal.{PushRefusal}
use Rattle.group_terms.specs.declared.pushes.PushRefusal.TheVariants.{OtherSpi, Malformed, BadSignature, Stale, NoPath}
use Rattle.group_terms.specs.declared.wires.WireFault.{WireFault}
use Rattle.push_msg.specs.Pushes.{HasFault, Opens, header_of, payloads_of}
use Rattle.push_msg.specs.Readings.{PushRead}
use Rattle.member_store.specs.Steps.{HasFirstFault, IsOpening, ReadsPush, is_signed, kek_of}
use Rattle.member_store.specs.Stores.{Store}

-- a sealed text is opened in one way
abbrev pub OpensOnce : Type 0
OpensOnce = (key iv sealed one other : List ℕ) → IsOpened key iv sealed one → IsOpened key iv sealed other → one ≡ other

abbrev value_or : {A E : Type 0} → A → Result A E → A
value_or other (Ok value) = value
value_or other (Err why) = other

abbrev fault_or : {A E : Type 0} → E → Result A E → E
fault_or other (Ok value) = other
fault_or other (Err why) = why

pub ok_err : {A E : Type 0} {result : Result A E} {value : A} {why : E} → result ≡ Ok value → result ≡ Err why → ⊥
ok_err is other = false≢true (sym (ap is_ok other) ∙ ap is_ok is)

module _ (once : OpensOnce) {V : Type 0} (v : VerifierGhosts V) (verifier : V) (store : Store) (datagram : List ℕ) where
  abbrev Opened : Header → List ℕ → Type 0
  Opened head text = Opens datagram store.spi (kek_of store) head text

  same_payloads : (one other : Header) (text more : List ℕ) → Opened one text → Opened other more
      → payloads_of store.spi (v.kind_of verifier) one.next text ≡ payloads_of store.spi (v.kind_of verifier) other.next more
  same_payloads one other text more opens again =
      let heads : one ≡ other = ap (value_or one) (sym opens.has_header ∙ again.has_header) in
      let texts : text ≡ more = once _ _ _ _ _ opens.opened again.opened in
      λ i. payloads_of store.spi (v.kind_of verifier) (heads i).next (texts i)

  pub same_read : (one other : PushRead) → ReadsPush v verifier store datagram one → ReadsPush v verifier store datagram other → one ≡ other
  same_read one other reads again =
      ap (value_or one) (sym reads.is ∙ same_payloads reads.head again.head reads.text again.text reads.opens again.opens ∙ again.is)

  same_fault : (one other : WireFault) → HasFault datagram store.spi (kek_of store) (v.kind_of verifier) one
      → HasFault datagram store.spi (kek_of store) (v.kind_of verifier) other → one ≡ other
  same_fault one other has again =
      ap (fault_or one) (sym has.is ∙ same_payloads has.head again.head has.text again.text has.opens again.opens ∙ again.is)

  read_no_fault : (read : PushRead) (fault : WireFault) → ReadsPush v verifier store datagram read → HasFirstFault v verifier store datagram fault → ⊥
  read_no_fault read fault reads (inl bad) = ok_err reads.opens.has_header bad
  read_no_fault read fault reads (inr has) =
      ok_err reads.is (same_payloads reads.head has.head reads.text has.text reads.opens has.opens ∙ has.is)

  read_no_other : (read : PushRead) (head : Header) → ReadsPush v verifier store datagram read → header_of datagram ≡ Ok head → head.cookies ≢ store.spi → ⊥
  read_no_other read head reads is other =
      other (ap (λ (head : Header). head.cookies) (ap (value_or head) (sym is ∙ reads.opens.has_header)) ∙ reads.opens.for_spi)

  one_fault : (one other : WireFault) → HasFirstFault v verifier store datagram one → HasFirstFault v verifier store datagram other → one ≡ other
  one_fault one other (inl is) (inl again) = ap (fault_or one) (sym is ∙ again)
  one_fault one other (inl is) (inr has) = absurd (ok_err has.opens.has_header is)
  one_fault one other (inr has) (inl is) = absurd (ok_err has.opens.has_header is)
  one_fault one other (inr has) (inr again) = same_fault one other has again

  fault_no_other : (fault : WireFault) (head : Header) → HasFirstFault v verifier store datagram fault → header_of datagram ≡ Ok head → head.cookies ≢ store.spi → ⊥
  fault_no_other fault head (inl bad) is other = ok_err is bad
  fault_no_other fault head (inr has) is other =
      other (ap (λ (head : Header). head.cookies) (ap (value_or head) (sym is ∙ has.opens.has_header)) ∙ has.opens.for_spi)

  abbrev Is : Result PushRead PushRefusal → Type 0
  Is opening = IsOpening v verifier store datagram opening

  signed_of : (one other : PushRead) → ReadsPush v verifier store datagram one → ReadsPush v verifier store datagram other
      → is_signed v verifier store datagram one ≡ is_signed v verifier store datagram other
  signed_of one other reads again = ap (is_signed v verifier store datagram) (same_read one other reads again)

  number_of : (one other : PushRead) → ReadsPush v verifier store datagram one → ReadsPush v verifier store datagram other → one.number ≡ other.number
  number_of one other reads again = ap (λ (read : PushRead). read.number) (same_read one other reads again)

  pub if_fault : (fault : WireFault) → HasFirstFault v verifier store datagram fault → (opening : Result PushRead PushRefusal) → Is opening
      → opening ≡ Err (Malformed fault.at)
  if_fault fault has (Ok read) is = absurd (read_no_fault read fault is.0 has)
  if_fault fault has (Err (OtherSpi got kept)) is = absurd (fault_no_other fault is.0 has is.1 is.2)
  if_fault fault has (Err (Malformed at)) is =
      ap (λ n. Err (Malformed n)) (is.2 ∙ ap (λ (found : WireFault). found.at) (one_fault is.0 fault is.1 has))
  if_fault fault has (Err BadSignature) is = absurd (read_no_fault is.0 fault is.1 has)
  if_fault fault has (Err (Stale last got)) is = absurd (read_no_fault is.0 fault is.1 has)
  if_fault fault has (Err (NoPath leaf)) is = absurd is

  pub if_other : (head : Header) → header_of datagram ≡ Ok head → head.cookies ≢ store.spi → (opening : Result PushRead PushRefusal) → Is opening
      → opening ≡ Err (OtherSpi head.cookies store.spi)
  if_other head is_head other (Ok read) is = absurd (read_no_other read head is.0 is_head other)
  if_other head is_head other (Err (OtherSpi got kept)) is =
      let cookies = is.3 ∙ ap (λ (found : Header). found.cookies) (ap (value_or head) (sym is.1 ∙ is_head)) in
      λ i. Err (OtherSpi (cookies i) (is.4 i))
  if_other head is_head other (Err (Malformed at)) is = absurd (fault_no_other is.0 head is.1 is_head other)
  if_other head is_head other (Err BadSignature) is = absurd (read_no_other is.0 head is.1 is_head other)
  if_other head is_head other (Err (Stale last got)) is = absurd (read_no_other is.0 head is.1 is_head other)
  if_other head is_head other (Err (NoPath leaf)) is = absurd is

  module _ (read : PushRead) (reads : ReadsPush v verifier store datagram read) where
    pub if_unsigned : is_signed v verifier store datagram read ≡ false → (opening : Result PushRead PushRefusal) → Is opening → opening ≡ Err BadSignature
    if_unsigned un (Ok found) is = absurd (false≢true (sym un ∙ signed_of read found reads is.0 ∙ is.1))
    if_unsigned un (Err (OtherSpi got kept)) is = absurd (read_no_other read is.0 reads is.1 is.2)
    if_unsigned un (Err (Malformed at)) is = absurd (read_no_fault read is.0 reads is.1)
    if_unsigned un (Err BadSignature) is = refl
    if_unsigned un (Err (Stale last got)) is = absurd (false≢true (sym un ∙ signed_of read is.0 reads is.1 ∙ is.2))
    if_unsigned un (Err (NoPath leaf)) is = absurd is

    pub if_stale : is_signed v verifier store datagram read ≡ true → read.number ≤ store.sequence → (opening : Result PushRead PushRefusal) → Is opening
        → opening ≡ Err (Stale store.sequence read.number)
    if_stale signed low (Ok found) is = absurd (omega (arith, low, is.2, number_of read found reads is.0))
    if_stale signed low (Err (OtherSpi got kept)) is = absurd (read_no_other read is.0 reads is.1 is.2)
    if_stale signed low (Err (Malformed at)) is = absurd (read_no_fault read is.0 reads is.1)
    if_stale signed low (Err BadSignature) is = absurd (false≢true (sym is.2 ∙ signed_of is.0 read is.1 reads ∙ signed))
    if_stale signed low (Err (Stale last got)) is = λ i. Err (Stale (is.4 i) ((is.5 ∙ number_of is.0 read is.1 reads) i))
    if_stale signed low (Err (NoPath leaf)) is = absurd is

    pub if_taken : is_signed v verifier store datagram read ≡ true → store.sequence < read.number → (opening : Result PushRead PushRefusal) → Is opening
        → opening ≡ Ok read
    if_taken signed greater (Ok found) is = ap Ok (same_read found read is.0 reads)
    if_taken signed greater (Err (OtherSpi got kept)) is = absurd (read_no_other read is.0 reads is.1 is.2)
    if_taken signed greater (Err (Malformed at)) is = absurd (read_no_fault read is.0 reads is.1)
    if_taken signed greater (Err BadSignature) is = absurd (false≢true (sym is.2 ∙ signed_of is.0 read is.1 reads ∙ signed))
    if_taken signed greater (Err (Stale last got)) is = absurd (omega (arith, greater, is.3, number_of is.0 read is.1 reads))
    if_taken signed greater (Err (NoPath leaf)) is = absurd is

  -- one opening for all
  pub one_opening : (one other : Result PushRead PushRefusal) → Is one → Is other → one ≡ other
  one_opening (Ok read) other is again = sym (if_taken read is.0 is.1 is.2 other again)
  one_opening (Err (OtherSpi got kept)) other is again =
      (if_other is.0 is.1 is.2 (Err (OtherSpi got kept)) is) ∙ sym (if_other is.0 is.1 is.2 other again)
  one_opening (Err (Malformed at)) other is again = if_fault is.0 is.1 (Err (Malformed at)) is ∙ sym (if_fault is.0 is.1 other again)
  one_opening (Err BadSignature) other is again = sym (if_unsigned is.0 is.1 is.2 other again)
  one_opening (Err (Stale last got)) other is again =
      if_stale is.0 is.1 is.2 is.3 (Err (Stale last got)) is ∙ sym (if_stale is.0 is.1 is.2 is.3 other again)
  one_opening (Err (NoPath leaf)) other is again = absurd is
