-- The turns of one member in a block, and what becomes of its line by them.
use Rattle.std.proofs.Common.{◌≡◌, ◌∙◌, ◌⊎◌, inl, inr, ℕ, zero, suc, Bool, true, false, cond, MatchBool, List, [], ◌∷◌, ◌++◌, drop, None, Some}
use Rattle.std.proofs.Common.{Ok, true≢false, refl, sym, ap, subst}
use Rattle.std.proofs.lemmas.List.Elements.{filter-append}
use Rattle.std.proofs.lemmas.Slice.Eq.{bytes_eq-Decides}
use Rattle.group_terms.specs.Names.{Name, same_name}
use Rattle.group_model.specs.declared.entries.Answer.{Answer}
use Rattle.group_model.specs.declared.entries.Answer.TheVariants.{Datagram}
use Rattle.group_model.specs.declared.entries.Asked.TheVariants as requests
use Rattle.group_model.specs.declared.entries.Entry.{Entry}
use Rattle.group_peers.specs.declared.members.Peer.{Peer}
use Rattle.group_steps.specs.Gets.{mail_to}
use Rattle.member_pull.specs.Pulls.{IsSecond}
use Rattle.member_pull.specs.Views.{Pull}
use Rattle.register_workers.specs.Lines.{Becomes, Ends, GoesOn, SendsThird}
use Rattle.register_workers.specs.Lines as lines
use Rattle.register_workers.specs.Own.{BecomesBy, BecomesByOwn, IsSender, own_turns, serves}
use Rattle.register_workers.specs.declared.lines.BlockAsk.{BlockAsk}
use Rattle.register_workers.specs.declared.lines.BlockAsk.TheVariants.{Again, Join}
use Rattle.register_workers.specs.declared.lines.BlockLine.{BlockLine}
use Rattle.group_run.specs.Blocks.{is_for}
use Rattle.group_run.proofs.ServedLemmas.{same_itself}

-- ---- names

pub same_is : (m n : Name) → same_name m n ≡ true → m ≡ n
same_is m n same = (bytes_eq-Decides m n).0 same

-- names that differ do so both ways
pub turned : (m n : Name) → same_name m n ≡ false → same_name n m ≡ false
turned m n other = by_name (same_name n m) refl
  where
    by_name : (b : Bool) → same_name n m ≡ b → same_name n m ≡ false
    by_name true same = absurd (true≢false (sym (ap (same_name m) (same_is n m same) ∙ same_itself m) ∙ other))
    by_name false is = is

-- ---- lists

pub nil_not : {A : Type 0} (x : A) (xs : List A) → x ∷ xs ≡ [] → ⊥
nil_not {A} x xs is = true≢false (ap some is)
  where
    some : List A → Bool
    some [] = false
    some (x ∷ xs) = true

pub same_head : {A : Type 0} (x y : A) (xs ys : List A) → x ∷ xs ≡ y ∷ ys → x ≡ y
same_head {A} x y xs ys is = ap first is
  where
    first : List A → A
    first [] = x
    first (z ∷ zs) = z

pub same_rest : {A : Type 0} (x y : A) (xs ys : List A) → x ∷ xs ≡ y ∷ ys → xs ≡ ys
same_rest x y xs ys is = ap (drop (suc zero)) is

pub none_after : {A : Type 0} (xs ys : List A) (y : A) → xs ++ y ∷ ys ≡ [] → ⊥
none_after [] ys y is = nil_not y ys is
none_after (x ∷ xs) ys y is = nil_not x (xs ++ y ∷ ys) is

-- the place of one turn among one, and among two
pub where_one : {A : Type 0} (xs ys : List A) (y first : A) → xs ++ y ∷ ys ≡ first ∷ [] → (xs ≡ []) × (y ≡ first)
where_one [] ys y first is = (refl, same_head y first ys [] is)
where_one (x ∷ xs) ys y first is = absurd (none_after xs ys y (same_rest x first (xs ++ y ∷ ys) [] is))

pub where_two : {A : Type 0} (xs ys : List A) (y first second : A) → xs ++ y ∷ ys ≡ first ∷ second ∷ []
    → ((xs ≡ []) × (y ≡ first)) ⊎ ((xs ≡ first ∷ []) × (y ≡ second))
where_two [] ys y first second is = inl (refl, same_head y first ys (second ∷ []) is)
where_two (x ∷ xs) ys y first second is =
    let rest = where_one xs ys y second (same_rest x first (xs ++ y ∷ ys) (second ∷ []) is) in
    inr (λ i. same_head x first (xs ++ y ∷ ys) (second ∷ []) is i ∷ rest.0 i, rest.1)

-- whether there are two
abbrev pub two_in : List Entry → Bool
two_in [] = false
two_in (first ∷ []) = false
two_in (first ∷ second ∷ more) = true

-- ---- turns of a member

pub own_after : (m : Name) (front : List Entry) (turn : Entry) (later : List Entry) → serves m turn ≡ true
    → own_turns m (front ++ turn ∷ later) ≡ own_turns m front ++ turn ∷ own_turns m later
own_after m front turn later own =
    filter-append (serves m) front (turn ∷ later)
    ∙ ap (λ b. own_turns m front ++ cond b (turn ∷ own_turns m later) (own_turns m later)) own

-- a turn of another one is none
pub not_own : (m : Name) (front : List Entry) (turn : Entry) → serves m turn ≡ false → own_turns m (front ++ turn ∷ []) ≡ own_turns m front ++ []
not_own m front turn other = filter-append (serves m) front (turn ∷ []) ∙ ap (λ b. own_turns m front ++ cond b (turn ∷ []) []) other

-- ---- what becomes of a line

-- its member sent once
pub record SentOnce (m : Name) (line : BlockLine) (own : List Entry) : Type 0 where
  pub turn : Entry
  pub are : own ≡ turn ∷ []
  pub datagram : List ℕ
  pub has : line.sent ≡ Some datagram
  pub asked : turn.asked ≡ requests.Serve m datagram

-- and then agreed to the answer
pub record SentTwice (m : Name) (line : BlockLine) (own : List Entry) (new : BlockLine) : Type 0 where
  pub first : Entry
  pub second : Entry
  pub are : own ≡ first ∷ second ∷ []
  pub datagram : List ℕ
  pub has : line.sent ≡ Some datagram
  pub asked : first.asked ≡ requests.Serve m datagram
  pub octets : List ℕ
  pub answered : mail_to m first.answer ≡ (m, octets) ∷ []
  pub comes : line.lose ≡ false
  pub third : List ℕ
  pub pull : Pull
  pub has_pull : line.pull ≡ Some pull
  pub after : Pull
  pub takes : IsSecond pull octets (Ok third) after
  pub new_pull : new.pull ≡ Some after
  pub new_sent : new.sent ≡ Some third
  pub asks_third : second.asked ≡ requests.Serve m third
  pub same_ask : new.asked ≡ line.asked

-- it has what it had
pub record IsStill (line new : BlockLine) : Type 0 where
  pub pull : new.pull ≡ line.pull
  pub sent : new.sent ≡ line.sent
  pub same_ask : new.asked ≡ line.asked

-- all cases
pub record Cases (short : Bool) (m : Name) (line : BlockLine) (own : List Entry) (new : BlockLine) : Type 0 where
  pub sent : (own ≡ []) ⊎ (SentOnce m line own ⊎ SentTwice m line own new)
  pub still : short ≡ false → two_in own ≡ false → IsStill line new
  pub same_ask : new.asked ≡ line.asked

module _ (m : Name) (line : BlockLine) (own : List Entry) (new : BlockLine) where
  -- its member sends, and that is all, or it agrees to the answer, too
  by_sending : lines.Sends m line own new → (SentOnce m line own × IsStill line new) ⊎ SentTwice m line own new
  by_sending sends = by_answer sends.asks.turn.answer refl sends.asks.goes_on
    where
      once : sends.asks.later ≡ [] → SentOnce m line own
      once none = record {
        turn = sends.asks.turn;
        are = sends.asks.are ∙ ap (λ later. sends.asks.turn ∷ later) none;
        datagram = sends.datagram;
        has = sends.has;
        asked = sends.asks.asked;
      }

      as_it_is : Ends line sends.asks.later new → (SentOnce m line own × IsStill line new) ⊎ SentTwice m line own new
      as_it_is ends =
          inl (
            once ends.last,
            record {
              pull = ap (λ (line : BlockLine). line.pull) ends.now;
              sent = ap (λ (line : BlockLine). line.sent) ends.now;
              same_ask = ap (λ (line : BlockLine). line.asked) ends.now;
            },
          )

      lost : Ends (record line { lose = false }) sends.asks.later new → (SentOnce m line own × IsStill line new) ⊎ SentTwice m line own new
      lost ends =
          inl (
            once ends.last,
            record {
              pull = ap (λ (line : BlockLine). line.pull) ends.now;
              sent = ap (λ (line : BlockLine). line.sent) ends.now;
              same_ask = ap (λ (line : BlockLine). line.asked) ends.now;
            },
          )

      twice : (octets : List ℕ) → mail_to m sends.asks.turn.answer ≡ (m, octets) ∷ [] → line.lose ≡ false
          → SendsThird m octets line sends.asks.later new → SentTwice m line own new
      twice octets is comes third = record {
        first = sends.asks.turn;
        second = third.turn;
        are = sends.asks.are ∙ ap (λ later. sends.asks.turn ∷ later) third.is_turn;
        datagram = sends.datagram;
        has = sends.has;
        asked = sends.asks.asked;
        octets = octets;
        answered = is;
        comes = comes;
        third = third.third;
        pull = third.agrees.pull;
        has_pull = third.agrees.has;
        after = third.agrees.after;
        takes = third.agrees.takes;
        new_pull = ap (λ (line : BlockLine). line.pull) third.agrees.now;
        new_sent = ap (λ (line : BlockLine). line.sent) third.agrees.now;
        asks_third = third.asked;
        same_ask = ap (λ (line : BlockLine). line.asked) third.agrees.now;
      }

      by_loss : (octets : List ℕ) → mail_to m sends.asks.turn.answer ≡ (m, octets) ∷ [] → (lose : Bool) → line.lose ≡ lose
          → MatchBool lose (Ends (record line { lose = false }) sends.asks.later new)
          ((lines.PassesOver line octets × Ends line sends.asks.later new) ⊎ SendsThird m octets line sends.asks.later new)
          → (SentOnce m line own × IsStill line new) ⊎ SentTwice m line own new
      by_loss octets is true loses ends = lost ends
      by_loss octets is false loses (inl passes) = as_it_is passes.1
      by_loss octets is false loses (inr third) = inr (twice octets is loses third)

      by_answer : (answer : Answer) → sends.asks.turn.answer ≡ answer → GoesOn m answer line sends.asks.later new
          → (SentOnce m line own × IsStill line new) ⊎ SentTwice m line own new
      by_answer (Datagram octets names) is comes = by_loss octets (ap (mail_to m) is) line.lose refl comes
      by_answer answer is ends = as_it_is ends

  two_not : (turn : Entry) → own ≡ turn ∷ [] → two_in own ≡ false
  two_not turn are = ap two_in are

  whole : lines.Sends m line own new → Cases false m line own new
  whole sends = by_case (by_sending sends)
    where
      by_case : (SentOnce m line own × IsStill line new) ⊎ SentTwice m line own new → Cases false m line own new
      by_case (inl once) = record { sent = inr (inl once.0); still = λ memory few. once.1; same_ask = once.1.same_ask }
      by_case (inr twice) = record {
        sent = inr (inr twice);
        still = λ memory few. absurd (true≢false (sym (ap two_in twice.are) ∙ few));
        same_ask = twice.same_ask;
      }

  -- or memory ran out
  in_part : (lines.Sends m line own new ⊎ (Ends line own new ⊎ lines.StopsBetween m line own new)) → Cases true m line own new
  in_part (inl sends) = record { sent = (whole sends).sent; still = λ memory few. absurd (true≢false memory); same_ask = (whole sends).same_ask }
  in_part (inr (inl ends)) = record {
    sent = inl ends.last;
    still = λ memory few. absurd (true≢false memory);
    same_ask = ap (λ (line : BlockLine). line.asked) ends.now;
  }
  in_part (inr (inr stops)) = record {
    sent = inr (inl (record { turn = stops.turn; are = stops.is_turn; datagram = stops.datagram; has = stops.has; asked = stops.asked }));
    still = λ memory few. absurd (true≢false memory);
    same_ask = by_now stops.now;
  }
    where
      by_now : (new ≡ line) ⊎ ((second : List ℕ) × (third : List ℕ) × lines.Agrees line second third new) → new.asked ≡ line.asked
      by_now (inl is) = ap (λ (line : BlockLine). line.asked) is
      by_now (inr agrees) = ap (λ (line : BlockLine). line.asked) agrees.2.now

  by_ask : (asked : BlockAsk) → IsSender asked m → (short : Bool) → Becomes short asked line own new → Cases short m line own new
  by_ask asked (inl join) short becomes = by_memory short (subst (λ asked. Becomes short asked line own new) join becomes)
    where
      by_memory : (short : Bool) → Becomes short (Join m) line own new → Cases short m line own new
      by_memory true stops = in_part stops
      by_memory false turns = whole turns.0
  by_ask asked (inr again) short becomes = by_memory short (subst (λ asked. Becomes short asked line own new) again becomes)
    where
      by_memory : (short : Bool) → Becomes short (Again m) line own new → Cases short m line own new
      by_memory true stops = in_part stops
      by_memory false turns = whole turns.0

-- ---- lines of a peer

-- it sends in one
pub sender_of : (asked : BlockAsk) (peer : Peer) → is_for asked peer ≡ true → IsSender asked peer.phase.member
sender_of (Join m) peer is = inl (ap Join (same_is m peer.phase.member is))
sender_of (Again m) peer is = inr (ap Again (same_is m peer.phase.member is))
sender_of asked peer is = absurd (true≢false (sym is))

pub for_sender : (asked : BlockAsk) (peer : Peer) → IsSender asked peer.phase.member → is_for asked peer ≡ true
for_sender asked peer (inl join) = ap (λ asked. is_for asked peer) join ∙ same_itself peer.phase.member
for_sender asked peer (inr again) = ap (λ asked. is_for asked peer) again ∙ same_itself peer.phase.member

-- what becomes of it
pub cases_of : (short : Bool) (m : Name) (line : BlockLine) (turns : List Entry) (new : BlockLine) → IsSender line.asked m → BecomesByOwn short line turns new
    → Cases short m (record line { seen = None }) (own_turns m turns) new
cases_of short m line turns new (inl join) becomes =
    by_ask m (record line { seen = None }) (own_turns m turns) new line.asked (inl join) short (subst (λ asked. BecomesBy short asked line turns new) join becomes)
cases_of short m line turns new (inr again) becomes =
    by_ask m (record line { seen = None }) (own_turns m turns) new line.asked (inr again) short (subst (λ asked. BecomesBy short asked line turns new) again becomes)

-- a line stays what it was
pub same_ask : (short : Bool) (line : BlockLine) (turns : List Entry) (new : BlockLine) → BecomesByOwn short line turns new → new.asked ≡ line.asked
same_ask short line turns new becomes = by_kind line.asked refl becomes
  where
    by_kind : (asked : BlockAsk) → line.asked ≡ asked → BecomesBy short asked line turns new → new.asked ≡ line.asked
    by_kind (Join m) is becomes = (by_ask m (record line { seen = None }) (own_turns m turns) new line.asked (inl is) short becomes).same_ask
    by_kind (Again m) is becomes = (by_ask m (record line { seen = None }) (own_turns m turns) new line.asked (inr is) short becomes).same_ask
    by_kind asked is becomes = ap (λ (line : BlockLine). line.asked) becomes
