-- What a history sent and told, entry by entry, beside what its batches say.
use Rattle.std.proofs.Common.{◌≡◌, ℕ, ◌+◌, ◌≤◌, List, [], ◌∷◌, ◌++◌, length, map, sym, refl, ap, ◌∙◌, subst, arith, append_assoc, ◌⊎◌, inl, inr}
use Rattle.std.specs.Prelude.{Contains}
use Rattle.std.specs.List.{flat_map}
use Rattle.std.proofs.lemmas.Bool.{cases_lt}
use Rattle.std.proofs.lemmas.List.{append-nil, length-append}
use Rattle.std.proofs.lemmas.List.Concat.{flat_map-append}
use Rattle.std.proofs.lemmas.List.Elements.{Contains-append_left, Contains-append_right, Contains-append_cases}
use Rattle.group_terms.specs.Names.{Name}
use Rattle.group_terms.specs.declared.changes.Change.{Change}
use Rattle.group_terms.specs.declared.keys.KeyName.{KeyName}
use Rattle.group_terms.specs.declared.keys.KeyName.TheVariants.{Phase}
use Rattle.group_terms.specs.declared.keys.Wrap.{Wrap}
use Rattle.group_model.specs.Wraps.{wraps_at}
use Rattle.group_model.specs.Derivations.{replies_in, replies_sent, names_to, held_names, reply_pairs, pairs_in, pairs_resent, pairs_sent, wraps_in}
use Rattle.group_model.specs.Growth.{Adds, AddsAll, Begins, IsReplyOf, SendsLast}
use Rattle.group_model.specs.declared.entries.Answer.{Answer}
use Rattle.group_model.specs.declared.entries.Answer.TheVariants.{Batched, Datagram, Opened}
use Rattle.group_model.specs.declared.entries.Entry.{Entry}
use Rattle.group_model.specs.declared.entries.SymReply.{SymReply}
use Rattle.group_model.specs.Laws.{Laws}
use Rattle.sym_closure.specs.Worlds.{epochs_of, world, told_at, holdings}
use Rattle.sym_closure.specs.Firsts.{AreAmong}
use Rattle.sym_closure.proofs.FirstLemmas.{no_item, Contains-first}
use Rattle.sym_closure.proofs.ContainLemmas.{Contains-range, Contains-from_flat_map, Contains-from_range}
use Rattle.sym_closure.proofs.EpochLemmas.{last_in_world, told_in_world, told_in_holdings}
use Rattle.sym_closure.proofs.ExtendLemmas.{Extends, extends}

-- from the first epoch on: what was sent and told is what the batches say
pub record Tells (first depth : ℕ) (batches : List (List Change)) (entries : List Entry) : Type 0 where
  pub wraps : (epoch : ℕ) → Contains (epochs_of batches) epoch → first ≤ epoch → (entry : Entry) × Contains entries entry × AreAmong (wraps_at depth batches epoch) (pairs_in entry.answer)
  pub sent : (pair : Wrap) → Contains (pairs_sent entries) pair → Contains (world depth batches) pair
  pub held : (coalition : List Name) (name : KeyName) → Contains (held_names entries coalition) name → Contains (holdings depth batches coalition) name
  pub told : (reply : SymReply) → Contains (replies_sent entries) reply → IsReplyOf depth first batches reply

-- all that an answer sends: what it sends for all to see, and what its replies encrypt
pairs_parts : (answer : Answer) → pairs_in answer ≡ wraps_in answer ++ flat_map reply_pairs (replies_in answer)
pairs_parts (Batched output) = refl
pairs_parts (Datagram octets names) = refl
pairs_parts (Opened seen resent) = sym (append-nil (pairs_resent resent))
pairs_parts answer = refl

-- what one entry more adds
module _ {X : Type 0} (f : Entry → List X) (before : List Entry) (entry : Entry) where
  old_or_new : (x : X) → Contains (flat_map f (before ++ entry ∷ [])) x → Contains (flat_map f before) x ⊎ Contains (f entry) x
  old_or_new x c =
      Contains-append_cases (flat_map f before) (f entry) x
      (subst (λ list. Contains list x) (flat_map-append f before (entry ∷ []) ∙ ap (λ new. flat_map f before ++ new) (append-nil (f entry))) c)

module _ (first depth : ℕ) (list : List (List Change)) (answer : Answer) (sends : (wraps_in answer ≡ []) ⊎ SendsLast depth list answer)
    (tells : (reply : SymReply) → Contains (replies_in answer) reply → IsReplyOf depth first list reply) where
  -- what an answer sends is part of the world
  sent_by : (pair : Wrap) → Contains (pairs_in answer) pair → Contains (world depth list) pair
  sent_by pair c = elim (Contains-append_cases (wraps_in answer) (flat_map reply_pairs (replies_in answer)) pair (subst (λ pairs. Contains pairs pair) (pairs_parts answer) c)) [
    | inl wrap ↦ elim sends [
      | inl none ↦ absurd (no_item pair (subst (λ wraps. Contains wraps pair) none wrap))
      | inr last ↦ last_in_world depth list pair (subst (λ wraps. Contains wraps pair) last wrap)
    ]
    | inr told ↦ (
        let of = Contains-from_flat_map reply_pairs (replies_in answer) pair told in
        told_in_world depth first list of.0 (tells of.0 of.1) pair of.2
        )
  ]

  held_by : (coalition : List Name) (name : KeyName) → Contains (flat_map (names_to coalition) (replies_in answer)) name → Contains (holdings depth list coalition) name
  held_by coalition name c =
      let of = Contains-from_flat_map (names_to coalition) (replies_in answer) name c in
      told_in_holdings depth first list of.0 (tells of.0 of.1) coalition name of.2

-- an epoch whose encryptions an entry sent before, or which this one sends
abbrev IsSent : ℕ → ℕ → List (List Change) → List (List Change) → ℕ → Answer → Type 0
IsSent first depth batches list epoch answer = ((first ≤ epoch) × (epoch ≤ length batches)) ⊎ (wraps_at depth list epoch ≡ wraps_in answer)

-- one entry more
Tells-next : (was first depth : ℕ) (batches list : List (List Change)) (before : List Entry) (entry : Entry) → Tells was depth batches before → Extends depth was batches list
    → ((reply : SymReply) → IsReplyOf depth was list reply → IsReplyOf depth first list reply)
    → (wraps_in entry.answer ≡ []) ⊎ SendsLast depth list entry.answer
    → ((reply : SymReply) → Contains (replies_in entry.answer) reply → IsReplyOf depth first list reply)
    → ((epoch : ℕ) → Contains (epochs_of list) epoch → first ≤ epoch → IsSent was depth batches list epoch entry.answer) → Tells first depth list (before ++ entry ∷ [])
Tells-next was first depth batches list before entry h more moved sends tells sent = record {
  wraps = λ epoch within late. elim (sent epoch within late) [
    | inl old ↦ (
        let bounds = Contains-from_range 1 (length list) epoch within in
        let one = h.wraps epoch (Contains-range 1 (length batches) epoch bounds.0 (omega (arith, old.1))) old.0 in
        (one.0, Contains-append_left before (entry ∷ []) one.0 one.1, λ wrap there. one.2 wrap (subst (λ wraps. Contains wraps wrap) (more.encrypts epoch old.1) there))
        )
    | inr new ↦ (
      entry,
      Contains-append_right before (entry ∷ []) entry (Contains-first entry []),
      λ wrap there. subst (λ pairs. Contains pairs wrap) (sym (pairs_parts entry.answer))
          (Contains-append_left (wraps_in entry.answer) (flat_map reply_pairs (replies_in entry.answer)) wrap (subst (λ wraps. Contains wraps wrap) new there)),
    )
  ];
  sent = λ pair c. elim (old_or_new (λ (entry : Entry). pairs_in entry.answer) before entry pair c) [
    | inl old ↦ more.sends pair (h.sent pair old)
    | inr new ↦ sent_by first depth list entry.answer sends tells pair new
  ];
  held = λ coalition name c. elim (Contains-append_cases (map Phase coalition) (flat_map (λ (entry : Entry). flat_map (names_to coalition) (replies_in entry.answer)) (before ++ entry ∷ [])) name c) [
    | inl phase ↦ more.gives coalition name (h.held coalition name (Contains-append_left (map Phase coalition) (flat_map (λ (entry : Entry). flat_map (names_to coalition) (replies_in entry.answer)) before) name phase))
    | inr told ↦ elim (old_or_new (λ (entry : Entry). flat_map (names_to coalition) (replies_in entry.answer)) before entry name told) [
      | inl old ↦ more.gives coalition name (h.held coalition name (Contains-append_right (map Phase coalition) (flat_map (λ (entry : Entry). flat_map (names_to coalition) (replies_in entry.answer)) before) name old))
      | inr new ↦ held_by first depth list entry.answer sends tells coalition name new
    ]
  ];
  told = λ reply c. elim (old_or_new (λ (entry : Entry). replies_in entry.answer) before entry reply c) [
    | inl old ↦ moved reply (more.tells reply (h.told reply old))
    | inr new ↦ tells reply new
  ];
}

-- before anything is sent, from an epoch on that is still to come
Tells-none : (depth : ℕ) (list : List (List Change)) → Tells (length list + 1) depth list []
Tells-none depth list = record {
  wraps = λ epoch within late. (let bounds = Contains-from_range 1 (length list) epoch within in absurd (omega (arith, late, bounds.1)));
  sent = λ pair c. absurd (no_item pair c);
  held = λ coalition name c. Contains-append_left (map Phase coalition) (flat_map (told_at depth list coalition) (epochs_of list)) name (subst (λ names. Contains names name) (append-nil (map Phase coalition)) c);
  told = λ reply c. absurd (no_item reply c);
}

module _ (laws : Laws) (first depth : ℕ) where
  Tells-add : (old new : List (List Change)) (before : List Entry) (entry : Entry) → Tells first depth old before → Adds depth first old new entry.answer → Tells first depth new (before ++ entry ∷ [])
  Tells-add old new before entry h adds = elim adds.grows [
    | inl stays ↦ Tells-next first first depth old new before entry h (extends laws depth first old new (inl stays.0)) (λ reply of. of) stays.1 adds.tells
        (λ epoch within late. inl (late, (let bounds = Contains-from_range 1 (length new) epoch within in omega (arith, bounds.1, ap length stays.0))))
    | inr makes ↦ Tells-next first first depth old new before entry h (extends laws depth first old new (inr (makes.0, makes.1))) (λ reply of. of) (inr makes.2) adds.tells
        (λ epoch within late. elim (cases_lt (length old) epoch) [
          | inr early ↦ inl (late, early)
          | inl after ↦ (
              let bounds = Contains-from_range 1 (length new) epoch within in
              let now : epoch ≡ length new = omega (arith, after, bounds.1, ap length makes.1, length-append old (makes.0 ∷ [])) in
              inr (ap (wraps_at depth new) now ∙ sym makes.2)
              )
        ])
  ]

  Tells-all : (old : List (List Change)) (before entries : List Entry) (new : List (List Change)) → Tells first depth old before → AddsAll depth first old entries new → Tells first depth new (before ++ entries)
  Tells-all old before [] new h adds = subst (λ list. Tells first depth list (before ++ [])) (sym adds) (subst (Tells first depth old) (sym (append-nil before)) h)
  Tells-all old before (entry ∷ entries) new h adds =
      subst (Tells first depth new) (append_assoc before (entry ∷ []) entries)
      (Tells-all adds.0 (before ++ entry ∷ []) entries new (Tells-add old adds.0 before entry h adds.1) adds.2)

-- the opening
Tells-first : (laws : Laws) (depth : ℕ) (list : List (List Change)) (entry : Entry) → Begins depth list entry.answer → Tells (length list) depth list (entry ∷ [])
Tells-first laws depth list entry begins =
    Tells-next (length list + 1) (length list) depth list list [] entry (Tells-none depth list) (extends laws depth (length list + 1) list list (inl refl))
    (λ reply of. record { some = of.some; begun = of.begun; late = omega (arith, of.late); within = of.within; member = of.member; names = of.names })
    (elim begins.sends [ inl last ↦ inr last | inr none ↦ inl none.1 ])
    (λ reply c. absurd (no_item reply (subst (λ replies. Contains replies reply) begins.none_told c)))
    (λ epoch within late. (
    let bounds = Contains-from_range 1 (length list) epoch within in
    let now : epoch ≡ length list = omega (arith, late, bounds.1) in
    elim begins.sends [
      | inl last ↦ inr (ap (wraps_at depth list) now ∙ sym last)
      | inr none ↦ absurd (omega (arith, ap length none.0, now, bounds.0))
    ]
    ))

pub Tells-history : (laws : Laws) (depth : ℕ) (entry : Entry) (entries : List Entry) (start list : List (List Change)) → Begins depth start entry.answer
    → AddsAll depth (length start) start entries list → Tells (length start) depth list (entry ∷ entries)
Tells-history laws depth entry entries start list begins adds =
    Tells-all laws (length start) depth start (entry ∷ []) entries list (Tells-first laws depth start entry begins) adds
