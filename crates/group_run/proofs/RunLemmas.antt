-- Lines of a block after its turns.
use Rattle.std.proofs.Common.{◌≡◌, ◌⊎◌, inl, inr, ⊎_elim, ℕ, suc, Bool, true, false, MatchBool, List, [], ◌∷◌, ◌++◌, None, Some, length}
use Rattle.std.proofs.Common.{refl, sym, ap, subst}
use Rattle.std.specs.Prelude.{slice_get}
use Rattle.std.specs.List.{All, IsDistinct, flat_map}
use Rattle.std.proofs.lemmas.List.Elements.{All-cons, All-head, All-nil, All-tail}
use Rattle.group_terms.specs.Names.{Name, same_name}
use Rattle.group_model.specs.declared.entries.Answer.{Answer}
use Rattle.group_model.specs.declared.entries.Answer.TheVariants.{Datagram}
use Rattle.group_model.specs.declared.entries.Entry.{Entry}
use Rattle.group_run.specs.Places.{AreAsked}
use Rattle.group_run.specs.Private.Lendings.{asks_of}
use Rattle.group_run.proofs.OwnTurnLemmas.{same_ask}
use Rattle.register_workers.specs.Lines.{Agrees, Becomes, CanSend, Comes, Ends, GoesOn, HasPull, IsReady, PassesOver, SendsThird, Sends, StopsAfterFirst, StopsBetween, Turns}
use Rattle.register_workers.specs.Own.{AreApart, BecomesBy, BecomesByOwn, named_by, names_in, own_turns}
use Rattle.register_workers.specs.declared.lines.BlockAsk.{BlockAsk}
use Rattle.register_workers.specs.declared.lines.BlockAsk.TheVariants.{Again, Batch, Join, Leave, Now}
use Rattle.register_workers.specs.declared.lines.BlockLine.{BlockLine}

-- ---- a line still has a pull and a datagram

ends_has : {line new : BlockLine} {turns : List Entry} → HasPull line → Ends line turns new → HasPull new
ends_has has ends = subst HasPull (sym ends.now) has

agrees_has : {line new : BlockLine} {second third : List ℕ} → Agrees line second third new → HasPull new
agrees_has agrees = subst HasPull (sym agrees.now) (record { pull = refl; sent = refl })

comes_has : (m : Name) (datagram : List ℕ) (line : BlockLine) (turns : List Entry) (new : BlockLine) → HasPull line → Comes m datagram line turns new
    → HasPull new
comes_has m datagram line turns new has =
    elim line.lose as (λ b. MatchBool b (Ends (record line { lose = false }) turns new)
    ((PassesOver line datagram × Ends line turns new) ⊎ SendsThird m datagram line turns new) → HasPull new) [
      | true ↦ λ ends. ends_has (record { pull = has.pull; sent = has.sent }) ends
      | false ↦ λ comes. ⊎_elim (λ (over : PassesOver line datagram × Ends line turns new). ends_has has over.1)
          (λ (third : SendsThird m datagram line turns new). agrees_has third.agrees) comes
    ]

goes_has : (m : Name) (answer : Answer) (line : BlockLine) (turns : List Entry) (new : BlockLine) → HasPull line → GoesOn m answer line turns new → HasPull new
goes_has m (Datagram octets names) line turns new has comes = comes_has m octets line turns new has comes
goes_has m answer line turns new has ends = ends_has has ends

sends_has : {m : Name} {line new : BlockLine} {turns : List Entry} → HasPull line → Sends m line turns new → HasPull new
sends_has {m} {line} {new} has sends = goes_has m sends.asks.turn.answer line sends.asks.later new has sends.asks.goes_on

between_has : {m : Name} {line new : BlockLine} {turns : List Entry} → HasPull line → StopsBetween m line turns new → HasPull new
between_has {line = line} {new = new} has stops =
    ⊎_elim (λ (same : new ≡ line). subst HasPull (sym same) has)
    (λ (agrees : (second : List ℕ) × (third : List ℕ) × Agrees line second third new). agrees_has agrees.2) stops.now

-- where its member sends
whole_has : (asked : BlockAsk) (m : Name) → (asked ≡ Join m) ⊎ (asked ≡ Again m) → (line : BlockLine) (turns : List Entry) (new : BlockLine)
    → HasPull line → Turns asked line turns new → HasPull new
whole_has asked m (inl is) line turns new has sends = sends_has {m = m} has (subst (λ asked. Turns asked line turns new) is sends)
whole_has asked m (inr is) line turns new has sends = sends_has {m = m} has (subst (λ asked. Turns asked line turns new) is sends)

after_first_has : (asked : BlockAsk) (m : Name) → (asked ≡ Join m) ⊎ (asked ≡ Again m) → (line : BlockLine) (turns : List Entry) (new : BlockLine)
    → HasPull line → StopsAfterFirst asked line turns new → HasPull new
after_first_has asked m (inl is) line turns new has stops = between_has {m = m} has (subst (λ asked. StopsAfterFirst asked line turns new) is stops)
after_first_has asked m (inr is) line turns new has stops = between_has {m = m} has (subst (λ asked. StopsAfterFirst asked line turns new) is stops)

becomes_has : (short : Bool) (asked : BlockAsk) (m : Name) → (asked ≡ Join m) ⊎ (asked ≡ Again m) → (line : BlockLine) (turns : List Entry) (new : BlockLine)
    → HasPull line → Becomes short asked line turns new → HasPull new
becomes_has true asked m sender line turns new has stops =
    ⊎_elim (λ (sends : Turns asked line turns new). whole_has asked m sender line turns new has sends)
    (⊎_elim (λ (ends : Ends line turns new). ends_has has ends)
    (λ (between : StopsAfterFirst asked line turns new). after_first_has asked m sender line turns new has between)) stops
becomes_has false asked m sender line turns new has becomes = whole_has asked m sender line turns new has becomes.0

-- a line that workers could run is one after they ran it
pub ready_still : (short : Bool) (line : BlockLine) (turns : List Entry) (new : BlockLine) → IsReady line → BecomesByOwn short line turns new → IsReady new
ready_still short line turns new ready becomes =
    subst (λ asked. CanSend asked new) (sym (same_ask short line turns new becomes)) (by_ask line.asked refl ready becomes)
  where
    by_ask : (asked : BlockAsk) → line.asked ≡ asked → CanSend asked line → BecomesBy short asked line turns new → CanSend asked new
    by_ask (Join m) is ready becomes =
        becomes_has short line.asked m (inl is) (record line { seen = None }) (own_turns m turns) new (record { pull = ready.pull; sent = ready.sent }) becomes
    by_ask (Again m) is ready becomes =
        becomes_has short line.asked m (inr is) (record line { seen = None }) (own_turns m turns) new (record { pull = ready.pull; sent = ready.sent }) becomes
    by_ask (Leave m) is ready becomes = tt
    by_ask Batch is ready becomes = tt
    by_ask Now is ready becomes = tt

pub all_ready : (short : Bool) (lines news : List BlockLine) (turns : List Entry) → length news ≡ length lines → All IsReady lines
    → ((i : ℕ) (line new : BlockLine) → slice_get lines i ≡ Some line → slice_get news i ≡ Some new → BecomesByOwn short line turns new) → All IsReady news
all_ready short lines [] turns many ready own = All-nil IsReady
all_ready short [] (new ∷ news) turns many ready own = absurd (cc many)
all_ready short (line ∷ lines) (new ∷ news) turns many ready own =
    All-cons IsReady new news (ready_still short line turns new (All-head IsReady line lines ready) (own 0 line new refl refl))
    (all_ready short lines news turns (cc many) (All-tail IsReady line lines ready) (λ i line new is is_new. own (suc i) line new is is_new))

-- ---- what they ask

pub asks_still : (short : Bool) (lines news : List BlockLine) (turns : List Entry) → length news ≡ length lines
    → ((i : ℕ) (line new : BlockLine) → slice_get lines i ≡ Some line → slice_get news i ≡ Some new → BecomesByOwn short line turns new)
    → asks_of news ≡ asks_of lines
asks_still short [] [] turns many own = refl
asks_still short (line ∷ lines) [] turns many own = absurd (cc many)
asks_still short [] (new ∷ news) turns many own = absurd (cc many)
asks_still short (line ∷ lines) (new ∷ news) turns many own = λ i.
    same_ask short line turns new (own 0 line new refl refl) i
    ∷ asks_still short lines news turns (cc many) (λ i line new is is_new. own (suc i) line new is is_new) i

pub names_asked : (lines : List BlockLine) → flat_map named_by (asks_of lines) ≡ names_in lines
names_asked [] = refl
names_asked (line ∷ lines) = ap (λ rest. named_by line.asked ++ rest) (names_asked lines)

pub asked_apart : (lines : List BlockLine) (asks : List BlockAsk) → asks ≡ asks_of lines → AreApart lines → AreAsked asks
asked_apart lines asks is apart = subst AreAsked (sym is) (subst (IsDistinct same_name) (sym (names_asked lines)) apart)
