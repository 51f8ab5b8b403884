-- Which push is due next.
use Rattle.std.proofs.Common.{◌≡◌, ◌∙◌, ◌⊎◌, inl, inr, ⊎_elim, ℕ, zero, suc, ◌+◌, ◌<◌, ◌≤◌, max, Bool, true, false, cond, List, [], ◌∷◌, length, get_or}
use Rattle.std.proofs.Common.{Option, None, Some, refl, sym, ap, subst, arith}
use Rattle.std.specs.Prelude.{◌==◌, slice_get}
use Rattle.std.specs.List.{All, Contains, find}
use Rattle.std.specs.Option.{MatchOption, option_and_then, option_map}
use Rattle.std.proofs.lemmas.Bool.{cases_eq, eqb-true}
use Rattle.std.proofs.lemmas.List.Elements.{All-contains, Contains-append_right}
use Rattle.std.proofs.lemmas.Map.Keys.{IsDistinct-tail, apart_from_distinct}
use Rattle.std.proofs.lemmas.Option.{get_or_from_slice_get, none-some, same_Some, slice_get-get_or, slice_get-map, slice_get_past, slice_get_within}
use Rattle.std.proofs.lemmas.List.{length-map}
use Rattle.std.proofs.lemmas.Slice.Eq.{bytes_eq-Decides}
use Rattle.group_terms.specs.Names.{Name, same_name}
use Rattle.group_model.specs.Places.{Holders, is_member}
use Rattle.group_model.specs.declared.entries.Entry.{Entry}
use Rattle.group_peers.specs.Peers.{AreOnce, is_named, names_of, new_peer, store_of}
use Rattle.group_peers.specs.declared.members.Peer.{Peer}
use Rattle.member_store.specs.Stores.{Store}
use Rattle.server_steps.specs.Sent.{SentPush, last_push}
use Rattle.sent_pushes.specs.Notes.{numbers_of, place_of}
use Rattle.sent_pushes.specs.declared.notes.Note.{Note}
use Rattle.group_run.specs.Deliveries.{IsDue, IsFirstDue, NoneIsDue}
use Rattle.group_run.specs.Private.Dues.{IsAfter, IsFirstAt, IsFirstFrom, IsNotedDue, IsWaiting, NobodyWaits, NoneIsAt, NoneIsFrom}
use Rattle.group_run.specs.Private.Noted.{AreNoted, WereSent, push_at}
use Rattle.group_run.specs.declared.deliveries.Delivery.{Delivery}

-- ---- the peer at a place

-- it has this name
pub name_there : (peers : List Peer) (place : ℕ) (peer : Peer) → slice_get peers place ≡ Some peer → get_or (names_of peers) place [] ≡ peer.phase.member
name_there peers place peer is =
    get_or_from_slice_get (names_of peers) place peer.phase.member []
    (slice_get-map (λ (one : Peer). one.phase.member) peers place ∙ ap (option_map (λ (one : Peer). one.phase.member)) is)

-- where no name comes twice, what is found by its name is it
pub store_there : (peers : List Peer) (place : ℕ) (peer : Peer) → AreOnce peers → slice_get peers place ≡ Some peer → store_of peers peer.phase.member ≡ peer.store
store_there [] place peer once is = absurd (none-some peer is)
store_there (first ∷ peers) zero peer once is =
    ap (λ b. option_and_then (λ (one : Peer). one.store) (cond b (Some first) (find (is_named peer.phase.member) peers)))
    ((bytes_eq-Decides peer.phase.member first.phase.member).1 (ap (λ (one : Peer). one.phase.member) (sym (same_Some first peer is))))
    ∙ ap (λ (one : Peer). one.store) (same_Some first peer is)
store_there (first ∷ peers) (suc place) peer once is =
    by_name (same_name peer.phase.member first.phase.member) refl (store_there peers place peer (IsDistinct-tail same_name first.phase.member (names_of peers) once) is)
  where
    within : suc place < length (names_of (first ∷ peers))
    within = omega (arith, length-map peers (λ (one : Peer). one.phase.member), slice_get_within peers place peer is)

    apart : same_name first.phase.member peer.phase.member ≡ false
    apart =
        subst (λ name. same_name first.phase.member name ≡ false) (name_there peers place peer is)
        (apart_from_distinct same_name (names_of (first ∷ peers)) 0 (suc place) [] once (omega arith) within)

    by_name : (b : Bool) → same_name peer.phase.member first.phase.member ≡ b → store_of peers peer.phase.member ≡ peer.store
        → option_and_then (λ (one : Peer). one.store) (cond (same_name peer.phase.member first.phase.member) (Some first) (find (is_named peer.phase.member) peers)) ≡ peer.store
    by_name true same rest =
        absurd (cc (sym apart ∙ (bytes_eq-Decides first.phase.member peer.phase.member).1 (sym ((bytes_eq-Decides peer.phase.member first.phase.member).0 same))))
    by_name false other rest =
        ap (λ b. option_and_then (λ (one : Peer). one.store) (cond b (Some first) (find (is_named peer.phase.member) peers))) other ∙ rest

-- ---- who waits

module _ (holders : Holders) (peers : List Peer) (place : ℕ) where
  pub nobody_past : length peers ≤ place → NobodyWaits holders peers place
  nobody_past past m last waits = none-some waits.peer (sym (slice_get_past peers place past) ∙ waits.is_there)

  pub nobody_out : (m : Name) → m ≡ get_or (names_of peers) place [] → is_member holders m ≡ false → NobodyWaits holders peers place
  nobody_out name is out m last waits =
      absurd (cc (sym waits.member ∙ ap (is_member holders) (sym (is ∙ name_there peers place waits.peer waits.is_there)) ∙ out))

  pub nobody_new : (m : Name) → m ≡ get_or (names_of peers) place [] → AreOnce peers → store_of peers m ≡ None → NobodyWaits holders peers place
  nobody_new name is once none m last waits =
      none-some waits.store (sym none ∙ ap (store_of peers) (is ∙ name_there peers place waits.peer waits.is_there)
      ∙ store_there peers place waits.peer once waits.is_there ∙ waits.has)

  pub waits_there : (m : Name) (store : Store) (last : ℕ) → place < length peers → m ≡ get_or (names_of peers) place [] → AreOnce peers
      → is_member holders m ≡ true → store_of peers m ≡ Some store → last ≡ store.sequence → IsWaiting holders peers place m last
  waits_there m store last within is once member has accepted =
      let peer : Peer = get_or peers place (new_peer (record { member = []; cookies = []; skeyid_a = []; key = []; last = [] })) in
      let there : slice_get peers place ≡ Some peer = slice_get-get_or peers place (new_peer (record { member = []; cookies = []; skeyid_a = []; key = []; last = [] })) within in
      let same : m ≡ peer.phase.member = is ∙ name_there peers place peer there in
      record {
        peer = peer;
        is_there = there;
        named = same;
        member = ap (is_member holders) (sym same) ∙ member;
        store = store;
        has = sym (store_there peers place peer once there) ∙ ap (store_of peers) (sym same) ∙ has;
        accepted = accepted;
      }

  -- it is one member
  one_peer : (m n : Name) (last more : ℕ) → (one : IsWaiting holders peers place m last) → (two : IsWaiting holders peers place n more) → one.peer ≡ two.peer
  one_peer m n last more one two = same_Some one.peer two.peer (sym one.is_there ∙ two.is_there)

  one_name : (m n : Name) (last more : ℕ) → IsWaiting holders peers place m last → IsWaiting holders peers place n more → m ≡ n
  one_name m n last more one two =
      one.named ∙ ap (λ (peer : Peer). peer.phase.member) (one_peer m n last more one two) ∙ sym two.named

  one_last : (m n : Name) (last more : ℕ) → IsWaiting holders peers place m last → IsWaiting holders peers place n more → last ≡ more
  one_last m n last more one two =
      one.accepted
      ∙ ap (λ (store : Store). store.sequence) (same_Some one.store two.store
      (sym one.has ∙ ap (λ (peer : Peer). peer.store) (one_peer m n last more one two) ∙ two.has))
      ∙ sym two.accepted

module _ (holders : Holders) (peers : List Peer) (notes : List Note) where
  -- ---- what is due at a place

  waiting_at : (place : ℕ) (other : Delivery) → (due : IsNotedDue holders peers notes other) → other.place ≡ place
      → IsWaiting holders peers place other.member due.last
  waiting_at place other due at = subst (λ p. IsWaiting holders peers p other.member due.last) at due.waiting

  pub none_at_nobody : (place number : ℕ) → NobodyWaits holders peers place → NoneIsAt holders peers notes place number
  none_at_nobody place number nobody other due at after = nobody other.member due.last (waiting_at place other due at)

  pub none_at_last : (place number : ℕ) (m : Name) (last : ℕ) → IsWaiting holders peers place m last
      → All (λ other. other ≤ max last number) (numbers_of notes) → NoneIsAt holders peers notes place number
  none_at_last place number m last waits all other due at after =
      let low : other.number ≤ max last number =
      All-contains (λ other. other ≤ max last number) (numbers_of notes) other.number all due.has_note in
      let same : last ≡ due.last = one_last holders peers place m other.member last due.last waits (waiting_at place other due at) in
      let greater = due.greater in
      absurd (omega (arith, low, same, greater, after))

  pub first_at : (place number : ℕ) (m : Name) (last next : ℕ) → IsWaiting holders peers place m last → max last number < next
      → Contains (numbers_of notes) next → All (λ other. (other ≤ max last number) ⊎ (next ≤ other)) (numbers_of notes)
      → IsFirstAt holders peers notes place number (record { place = place; member = m; number = next })
  first_at place number m last next waits greater has all = record {
    due = record { last = last; waiting = waits; has_note = has; greater = omega (arith, greater) };
    here = refl;
    after = omega (arith, greater);
    first = λ other due at after.
        let same : last ≡ due.last = one_last holders peers place m other.member last due.last waits (waiting_at place other due at) in
        let more = due.greater in
        let named : m ≡ other.member = one_name holders peers place m other.member last due.last waits (waiting_at place other due at) in
        ⊎_elim
        (λ (low : other.number ≤ max last number). absurd (omega (arith, low, same, more, after)))
        (λ (high : next ≤ other.number).
        ⊎_elim
        (λ (is : next ≡ other.number). inl (λ i. record { place = sym at i; member = named i; number = is i }))
        (λ (apart : next ≡ other.number → ⊥). inr (omega (arith, high, apart)))
        (cases_eq next other.number))
        (All-contains (λ other. (other ≤ max last number) ⊎ (next ≤ other)) (numbers_of notes) other.number all due.has_note);
  }

  -- ---- what is due from a place on

  -- what comes after one place and number is all that comes after another and is due
  pub record Leaves (from number place after : ℕ) : Type 0 where
    pub within : (other : Delivery) → IsAfter place after other → IsAfter from number other
    pub rest : (other : Delivery) → IsNotedDue holders peers notes other → IsAfter from number other → IsAfter place after other

  pub leaves_all : (from number : ℕ) → Leaves from number from number
  leaves_all from number = record { within = λ other after. after; rest = λ other due after. after }

  pub leaves_later : (from number place after : ℕ) → Leaves from number place after → NoneIsAt holders peers notes place after
      → Leaves from number (place + 1) 0
  leaves_later from number place after leaves none = record {
    within = λ other later. leaves.within other (inl (⊎_elim
        (λ (more : place + 1 < other.place). omega (arith, more))
        (λ (here : (place + 1 ≡ other.place) × (0 < other.number)). let is = here.0 in omega (arith, is)) later));
    rest = λ other due later. ⊎_elim
        (λ (more : place < other.place).
        ⊎_elim
        (λ (is : place + 1 ≡ other.place). inr (is, let greater = due.greater in omega (arith, greater)))
        (λ (apart : place + 1 ≡ other.place → ⊥). inl (omega (arith, more, apart)))
        (cases_eq (place + 1) other.place))
        (λ (here : (place ≡ other.place) × (after < other.number)). absurd (none other due (sym here.0) here.1))
        (leaves.rest other due later);
  }

  pub none_from : (from number place after : ℕ) → Leaves from number place after → length peers ≤ place → NoneIsFrom holders peers notes from number
  none_from from number place after leaves past other due later =
      let low : other.place < length peers = slice_get_within peers other.place due.waiting.peer due.waiting.is_there in
      absurd (⊎_elim
      (λ (more : place < other.place). omega (arith, more, low, past))
      (λ (here : (place ≡ other.place) × (after < other.number)). let is = here.0 in omega (arith, is, low, past))
      (leaves.rest other due later))

  pub first_from : (from number place after : ℕ) (delivery : Delivery) → Leaves from number place after
      → IsFirstAt holders peers notes place after delivery → IsFirstFrom holders peers notes from number delivery
  first_from from number place after delivery leaves at = record {
    due = at.due;
    after = leaves.within delivery (inr (sym at.here, at.after));
    first = λ other due later. ⊎_elim
        (λ (more : place < other.place). inr (inl (subst (λ p. p < other.place) (sym at.here) more)))
        (λ (here : (place ≡ other.place) × (after < other.number)). ⊎_elim
        (λ (same : delivery ≡ other). inl same)
        (λ (less : delivery.number < other.number). inr (inr (at.here ∙ here.0, less)))
        (at.first other due (sym here.0) here.1))
        (leaves.rest other due later);
  }

  -- ---- what is noted is what was sent

  found_note : (number : ℕ) (list : List Note) (note : Note) → find (λ (note : Note). note.number == number) list ≡ Some note
      → Contains (numbers_of list) number
  found_note number [] note is = absurd (none-some note is)
  found_note number (first ∷ list) note is = by_test (first.number == number) refl (found_note number list note)
    where
      by_test : (b : Bool) → (first.number == number) ≡ b
          → (find (λ (note : Note). note.number == number) list ≡ Some note → Contains (numbers_of list) number)
          → Contains (numbers_of (first ∷ list)) number
      by_test true same rest = (0, omega arith, eqb-true first.number number same)
      by_test false other rest =
          Contains-append_right (first.number ∷ []) (numbers_of list) number
          (rest (ap (λ b. cond b (Some first) (find (λ (note : Note). note.number == number) list)) (sym other) ∙ is))

  noted_number : (entries : List Entry) (number : ℕ) (push : SentPush) → push_at entries number (place_of notes number) ≡ Some push
      → Contains (numbers_of notes) number
  noted_number entries number push at = by_found (find (λ (note : Note). note.number == number) notes) refl
    where
      by_found : (found : Option Note) → find (λ (note : Note). note.number == number) notes ≡ found → Contains (numbers_of notes) number
      by_found None none = absurd (none-some push
          (ap (λ found. push_at entries number (option_map (λ (note : Note). note.place) found)) (sym none) ∙ at))
      by_found (Some note) is = found_note number notes note is

  module _ (entries : List Entry) (are_noted : AreNoted notes entries) (were_sent : WereSent notes entries) where
    to_due : (delivery : Delivery) → IsNotedDue holders peers notes delivery → IsDue holders peers entries delivery
    to_due delivery due =
        let sent = All-contains (λ number. (push : SentPush) × (last_push entries number ≡ Some push)) (numbers_of notes) delivery.number
        were_sent due.has_note in
        let waits = due.waiting in
        record {
          peer = waits.peer;
          is_there = waits.is_there;
          named = waits.named;
          member = waits.member;
          store = waits.store;
          has = waits.has;
          push = sent.0;
          sent = sent.1;
          greater = subst (λ last. last < delivery.number) waits.accepted due.greater;
        }

    from_due : (delivery : Delivery) → IsDue holders peers entries delivery → IsNotedDue holders peers notes delivery
    from_due delivery due = record {
      last = due.store.sequence;
      waiting = record {
        peer = due.peer;
        is_there = due.is_there;
        named = due.named;
        member = due.member;
        store = due.store;
        has = due.has;
        accepted = refl;
      };
      has_note = noted_number entries delivery.number due.push (are_noted delivery.number ∙ due.sent);
      greater = due.greater;
    }

    -- ---- after the last one, or from the beginning

    -- a due push has a number greater than 0
    begins : (delivery : Delivery) → IsNotedDue holders peers notes delivery → IsAfter 0 0 delivery
    begins delivery due =
        let greater = due.greater in
        ⊎_elim
        (λ (is : 0 ≡ delivery.place). inr (is, omega (arith, greater)))
        (λ (apart : 0 ≡ delivery.place → ⊥). inl (omega (arith, apart)))
        (cases_eq 0 delivery.place)

    first_of_all : (delivery : Delivery) → IsFirstFrom holders peers notes 0 0 delivery → IsFirstDue holders peers entries None delivery
    first_of_all delivery first = record {
      due = to_due delivery first.due;
      after = tt;
      first = λ other due after. first.first other (from_due other due) (begins other (from_due other due));
    }

    none_at_all : NoneIsFrom holders peers notes 0 0 → NoneIsDue holders peers entries None
    none_at_all none other due after = none other (from_due other due) (begins other (from_due other due))

    first_later : (last delivery : Delivery) → IsFirstFrom holders peers notes last.place last.number delivery
        → IsFirstDue holders peers entries (Some last) delivery
    first_later last delivery first = record {
      due = to_due delivery first.due;
      after = first.after;
      first = λ other due after. first.first other (from_due other due) after;
    }

    none_later : (last : Delivery) → NoneIsFrom holders peers notes last.place last.number → NoneIsDue holders peers entries (Some last)
    none_later last none other due after = none other (from_due other due) after

    -- ---- what was found

    pub next_of_all : (result : Option Delivery) → MatchOption result (NoneIsFrom holders peers notes 0 0) (IsFirstFrom holders peers notes 0 0)
        → MatchOption result (NoneIsDue holders peers entries None) (IsFirstDue holders peers entries None)
    next_of_all None none = none_at_all none
    next_of_all (Some delivery) first = first_of_all delivery first

    pub next_later : (last : Delivery) (result : Option Delivery)
        → MatchOption result (NoneIsFrom holders peers notes last.place last.number) (IsFirstFrom holders peers notes last.place last.number)
        → MatchOption result (NoneIsDue holders peers entries (Some last)) (IsFirstDue holders peers entries (Some last))
    next_later last None none = none_later last none
    next_later last (Some delivery) first = first_later last delivery first
