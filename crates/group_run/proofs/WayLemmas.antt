-- Places of what turns left on its way, from the last turn back.
use Rattle.std.proofs.Common.{◌≡◌, ◌∙◌, ℕ, ◌+◌, ◌<◌, Bool, false, ◌||◌, List, [], ◌∷◌, ◌++◌, length, drop, map, refl, sym, ap, subst, arith}
use Rattle.std.proofs.Common.{Some, Result, Ok, Err, OnOk, slice_get, get_or}
use Rattle.std.specs.List.{list_any}
use Rattle.std.specs.Option.{option_and_then, option_map}
use Rattle.std.proofs.lemmas.List.{drop_all, drop_more, map-append, reverse-append}
use Rattle.std.proofs.lemmas.Simd.{map-map}
use Rattle.std.proofs.lemmas.Option.{slice_get-get_or, slice_get_read}
use Rattle.group_terms.specs.Names.{Name}
use Rattle.group_model.specs.declared.entries.Asked.{Asked}
use Rattle.group_model.specs.declared.entries.Asked.TheVariants.{Batch, Serve}
use Rattle.group_model.specs.declared.entries.Entry.{Entry}
use Rattle.group_peers.specs.declared.members.Peer.{Peer}
use Rattle.group_steps.specs.Gets.{mail_by}
use Rattle.member_steps.specs.Members.{Mail, Members}
use Rattle.register_workers.specs.Own.{serves, serves_for}
use Rattle.group_run.specs.Blocks.{Left, left_by, left_of, marks_of}
use Rattle.group_run.specs.Mails.{mail_in, mail_of_answer}
use Rattle.group_run.specs.Private.Lefts.{AreBefore, AreLefts, AreServed, left_at, left_with, lefts_at, marked_left, marked_lefts}
use Rattle.group_run.specs.declared.lefts.LeftAt.{LeftAt}

-- ---- one place more

-- which comes first
one_more : (entries : List Entry) (lefts : List LeftAt) (left : LeftAt) → lefts_at entries (lefts ++ left ∷ []) ≡ left_at entries left ∷ lefts_at entries lefts
one_more entries lefts left = ap (map (left_at entries)) (reverse-append lefts (left ∷ []))

module _ (lost : Bool) (entry : Entry) (place : ℕ) where
  -- what an entry sent from a place on comes before these
  abbrev pub AreFrom : ℕ → List LeftAt → List LeftAt → Type 0
  AreFrom at old new =
      (entries : List Entry) → slice_get entries place ≡ Some entry
      → lefts_at entries new ≡ map Some (map (left_with lost) (drop at (mail_in entry))) ++ lefts_at entries old

  pub from_end : (at : ℕ) (old : List LeftAt) → at ≡ length (mail_in entry) → AreFrom at old old
  from_end at old is entries there =
      ap (λ mail. map Some (map (left_with lost) mail) ++ lefts_at entries old) (sym (drop_all at (mail_in entry) (omega (arith, is))))

  stands : (entries : List Entry) (at : ℕ) (mail : Mail) → slice_get entries place ≡ Some entry → slice_get (mail_in entry) at ≡ Some mail
      → left_at entries (record { place = place; at = at; lost = lost }) ≡ Some (left_with lost mail)
  stands entries at mail there is =
      ap (option_and_then (λ (entry : Entry). option_map (left_with lost) (slice_get (mail_in entry) at))) there ∙ ap (option_map (left_with lost)) is

  -- one datagram more
  from_one : (mail : Mail) (at : ℕ) (old lefts new : List LeftAt) → at < length (mail_in entry)
      → new ≡ lefts ++ record { place = place; at = at; lost = lost } ∷ [] → AreFrom (at + 1) old lefts → AreFrom at old new
  from_one mail at old lefts new less now from entries there =
      let is = slice_get-get_or (mail_in entry) at mail less in
      ap (lefts_at entries) now ∙ one_more entries lefts (record { place = place; at = at; lost = lost })
      ∙ (λ i. stands entries at (get_or (mail_in entry) at mail) there is i ∷ from entries there i)
      ∙ ap (λ mails. map Some (map (left_with lost) mails) ++ lefts_at entries old) (sym (drop_more (mail_in entry) at mail less))

  pub from_more : (at next : ℕ) (old lefts new : List LeftAt) → next ≡ at + 1 → at < length (mail_in entry)
      → new ≡ lefts ++ record { place = place; at = at; lost = lost } ∷ [] → AreFrom next old lefts → AreFrom at old new
  from_more at next old lefts new is less now from =
      from_one ([], []) at old lefts new less now (subst (λ n. AreFrom n old lefts) is from)

-- ---- the turn at a place

pub turn_more : (entries : List Entry) (entry : Entry) (place next : ℕ) → next ≡ place + 1 → place < length entries → entry ≡ get_or entries place entry
    → (slice_get entries place ≡ Some entry) × (drop place entries ≡ entry ∷ drop next entries)
turn_more entries entry place next is less at =
    let there : slice_get entries place ≡ Some entry = slice_get_read entries (length entries) place entry refl less at in
    (there, drop_more entries place entry less ∙ (λ i. sym at i ∷ drop (sym is i) entries))

-- ---- what holds where there was memory

pub on_ok : {E : Type 0} {P Q : Type 0} (result : Result (Unit {0}) E) → OnOk result P → (P → Q) → OnOk result Q
on_ok (Ok done) holds then = then holds
on_ok (Err why) holds then = tt

pub on_any : {E : Type 0} {Q : Type 0} (result : Result (Unit {0}) E) → Q → OnOk result Q
on_any (Ok done) holds = holds
on_any (Err why) holds = tt

-- ---- which of them are marked

pub mails_are : (peers : List Peer) (turns : List Entry)
    → map (λ (left : Left). left.mail) (marked_lefts peers turns) ≡ map (λ (left : Left). left.mail) (left_of turns)
mails_are peers turns = map-map (λ (left : Left). left.mail) (marked_left peers) (left_of turns)

pub marks_are : (members : Members) (turns : List Entry) → map (λ (left : Left). left.own) (marked_lefts members.all turns) ≡ marks_of members turns
marks_are members turns = map-map (λ (left : Left). left.own) (marked_left members.all) (left_of turns)

-- ---- one turn more

module _ (peers : List Peer) (entries : List Entry) (entry : Entry) (later : List Entry) (place : ℕ) (there : slice_get entries place ≡ Some entry)
    (old new : List LeftAt) (are : AreLefts peers entries old later) where
  -- all that it sent is left
  left_all : (lost : Bool) → map (marked_left peers) (left_by entry.asked entry.answer later) ≡ map (left_with lost) (mail_in entry)
      → AreBefore lost entry place old new → AreLefts peers entries new (entry ∷ later)
  left_all lost is before =
      before entries there ∙ ap (λ lefts. map Some (map (left_with lost) (mail_in entry)) ++ lefts) are
      ∙ sym (map-append Some (map (left_with lost) (mail_in entry)) (marked_lefts peers later))
      ∙ ap (λ lefts. map Some (lefts ++ marked_lefts peers later)) (sym is)
      ∙ ap (map Some) (sym (map-append (marked_left peers) (left_by entry.asked entry.answer later) (left_of later)))

  -- it serves nobody
  pub left_other : ((m : Name) (datagram : List ℕ) → entry.asked ≡ Serve m datagram → ⊥) → AreBefore false entry place old new
      → AreLefts peers entries new (entry ∷ later)
  left_other other before = left_all false (by_asked entry.asked other) before
    where
      by_asked : (asked : Asked) → ((m : Name) (datagram : List ℕ) → asked ≡ Serve m datagram → ⊥)
          → map (marked_left peers) (left_by asked entry.answer later) ≡ map (left_with false) (mail_of_answer asked entry.answer)
      by_asked (Serve m datagram) other = absurd (other m datagram refl)
      by_asked Batch other = map-map (marked_left peers) (left_with false) (mail_by entry.answer)
      by_asked asked other = refl

-- ---- who was served

module _ (entry : Entry) (later : List Entry) (names : List Name) (served : AreServed names later) where
  -- nobody is
  pub served_same : ((m : Name) (datagram : List ℕ) → entry.asked ≡ Serve m datagram → ⊥) → AreServed names (entry ∷ later)
  served_same other name = served name ∙ ap (λ b. b || list_any (serves name) later) (sym (by_asked entry.asked other))
    where
      by_asked : (asked : Asked) → ((m : Name) (datagram : List ℕ) → asked ≡ Serve m datagram → ⊥) → serves_for name asked ≡ false
      by_asked (Serve m datagram) other = absurd (other m datagram refl)
      by_asked asked other = refl
