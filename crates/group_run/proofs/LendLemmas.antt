-- What members lend to the lines of a block, and have back.
use Rattle.std.proofs.Common.{◌≡◌, ◌∙◌, ℕ, ◌+◌, ◌<◌, ◌||◌, Bool, true, false, cond, unwrap_or, List, [], ◌∷◌, ◌++◌, drop, get_or, length, map, Option, None, Some, IsSome, refl, sym, ap, subst, add-one, drop-cons, true≢false}
use Rattle.std.specs.Prelude.{All}
use Rattle.std.specs.List.{AllByRecursion, IsDistinct, flat_map, fold}
use Rattle.std.specs.Option.{option_and_then, option_map}
use Rattle.std.proofs.lemmas.List.{append-nil, append_assoc, map-id}
use Rattle.std.proofs.lemmas.List.Elements.{All-cons, All-head, All-nil, All-push, All-tail}
use Rattle.std.proofs.lemmas.Slice.Eq.{bytes_eq-Decides}
use Rattle.group_terms.specs.Names.{Name, same_name}
use Rattle.group_peers.specs.Lent.{after_lending}
use Rattle.group_peers.specs.Peers.{is_named, is_peer, loses, peer_of}
use Rattle.group_peers.specs.declared.members.Peer.{Peer}
use Rattle.member_steps.specs.Members.{Mail, Members}
use Rattle.member_steps.specs.Views.{View as MemberView, members_with}
use Rattle.register_workers.specs.Lines.{IsReady}
use Rattle.register_workers.specs.Own.{named_by}
use Rattle.register_workers.specs.declared.lines.BlockAsk.{BlockAsk}
use Rattle.register_workers.specs.declared.lines.BlockAsk.TheVariants.{Again, Batch, Join, Leave, Now}
use Rattle.register_workers.specs.declared.lines.BlockLine.{BlockLine}
use Rattle.group_run.specs.Blocks.{AreHanded, HasNothing, HasOf, IsHanded, is_for, took}
use Rattle.group_run.specs.Private.Lendings.{all_lending, all_with, asks_of, lending, line_with}
use Rattle.group_run.specs.Places.{AreAsked}
use Rattle.group_run.specs.Private.Places.{HasSent}

-- ---- lists

-- what is left at a place begins with what is there
pub left_at : {X : Type 0} (items : List X) (i : ℕ) (default : X) → i < length items → drop i items ≡ get_or items i default ∷ drop (i + 1) items
left_at items i default within = drop-cons items i default within ∙ ap (λ n. get_or items i default ∷ drop n items) (sym (add-one i))

pub left_with : {X : Type 0} (items : List X) (i : ℕ) (item : X) → i < length items → item ≡ get_or items i item → drop i items ≡ item ∷ drop (i + 1) items
left_with items i item within is = left_at items i item within ∙ ap (λ item. item ∷ drop (i + 1) items) (sym is)

map_same : {X : Type 0} (f g : X → X) → ((x : X) → f x ≡ g x) → (items : List X) → map f items ≡ map g items
map_same f g same items = λ i. map (λ item. same item i) items

map_twice : {X : Type 0} (f g : X → X) (items : List X) → map g (map f items) ≡ map (λ item. g (f item)) items
map_twice f g [] = refl
map_twice f g (item ∷ items) = λ i. g (f item) ∷ map_twice f g items i

each_so : {X : Type 0} (P Q : X → Type 0) → ((x : X) → P x → Q x) → (items : List X) → AllByRecursion P items → AllByRecursion Q items
each_so P Q so [] all = tt
each_so P Q so (item ∷ items) all = (so item all.0, each_so P Q so items all.1)

always : {X : Type 0} (P : X → Type 0) → ((x : X) → P x) → (items : List X) → AllByRecursion P items
always P each [] = tt
always P each (item ∷ items) = (each item, always P each items)

-- ---- a line in which nobody sends

module _ (P : BlockAsk → Type 0) (leave : (m : Name) → P (Leave m)) (batch : P Batch) (now : P Now) where
  no_sender : (ask : BlockAsk) → ((m : Name) → ask ≡ Join m → ⊥) → ((m : Name) → ask ≡ Again m → ⊥) → P ask
  no_sender (Join m) no_join no_again = absurd (no_join m refl)
  no_sender (Again m) no_join no_again = absurd (no_again m refl)
  no_sender (Leave m) no_join no_again = leave m
  no_sender Batch no_join no_again = batch
  no_sender Now no_join no_again = now

-- it is for no peer
pub for_nobody : (ask : BlockAsk) → ((m : Name) → ask ≡ Join m → ⊥) → ((m : Name) → ask ≡ Again m → ⊥) → (change : Peer → Peer) (peers : List Peer)
    → peers ≡ map (λ (peer : Peer). cond (is_for ask peer) (change peer) peer) peers
for_nobody ask no_join no_again change peers =
    no_sender (λ ask. peers ≡ map (λ (peer : Peer). cond (is_for ask peer) (change peer) peer) peers) (λ m. sym (map-id peers)) (sym (map-id peers)) (sym (map-id peers))
    ask no_join no_again

nothing : (ask : BlockAsk) → HasNothing (line_with ask None)
nothing ask = record { pull = refl; sent = refl; loses = refl }

-- nothing is handed to it
pub nothing_handed : (members : Members) (ask : BlockAsk) (line : BlockLine) → ((m : Name) → ask ≡ Join m → ⊥) → ((m : Name) → ask ≡ Again m → ⊥)
    → line ≡ line_with ask None → IsHanded members ask line
nothing_handed members ask line no_join no_again is =
    subst (IsHanded members ask) (sym is)
    (no_sender (λ ask. IsHanded members ask (line_with ask None)) (λ m. record { asked = refl; has = nothing (Leave m) })
    (record { asked = refl; has = nothing Batch }) (record { asked = refl; has = nothing Now }) ask no_join no_again)

-- and it needs nothing
pub nothing_ready : (ask : BlockAsk) (line : BlockLine) → ((m : Name) → ask ≡ Join m → ⊥) → ((m : Name) → ask ≡ Again m → ⊥) → line ≡ line_with ask None
    → IsReady line
nothing_ready ask line no_join no_again is =
    subst IsReady (sym is) (no_sender (λ ask. IsReady (line_with ask None)) (λ m. tt) tt tt ask no_join no_again)

-- ---- lines of other members

-- for whom a line is has another name
abbrev IsOther : BlockAsk → Name → Type 0
IsOther ask name = (peer : Peer) → is_for ask peer ≡ true → is_named name peer ≡ false

other_name : (m name : Name) → same_name m name ≡ false → (peer : Peer) → is_named m peer ≡ true → is_named name peer ≡ false
other_name m name other peer here = by_name (is_named name peer) refl
  where
    by_name : (b : Bool) → is_named name peer ≡ b → b ≡ false
    by_name false is = refl
    by_name true is =
        let one : m ≡ peer.phase.member = (bytes_eq-Decides m peer.phase.member).0 here in
        let two : name ≡ peer.phase.member = (bytes_eq-Decides name peer.phase.member).0 is in
        absurd (true≢false (sym ((bytes_eq-Decides m name).1 (one ∙ sym two)) ∙ other))

-- where no name is there twice, the names after a line are others
others : (ask : BlockAsk) (names : List Name) → IsDistinct same_name (named_by ask ++ names) → AllByRecursion (IsOther ask) names
unfolding IsDistinct
others (Join m) names apart = each_so _ (IsOther (Join m)) (other_name m) names apart.0
others (Again m) names apart = each_so _ (IsOther (Again m)) (other_name m) names apart.0
others (Leave m) names apart = always (IsOther (Leave m)) (λ name peer is. absurd (true≢false (sym is))) names
others Batch names apart = always (IsOther Batch) (λ name peer is. absurd (true≢false (sym is))) names
others Now names apart = always (IsOther Now) (λ name peer is. absurd (true≢false (sym is))) names

pub rest_apart : (ask : BlockAsk) (names : List Name) → IsDistinct same_name (named_by ask ++ names) → IsDistinct same_name names
unfolding IsDistinct
rest_apart (Join m) names apart = apart.1
rest_apart (Again m) names apart = apart.1
rest_apart (Leave m) names apart = apart.1
rest_apart Batch names apart = apart
rest_apart Now names apart = apart

-- no line is for this peer
abbrev AreFree : List BlockAsk → Peer → Type 0
AreFree [] peer = Unit {0}
AreFree (ask ∷ asks) peer = (is_for ask peer ≡ false) × AreFree asks peer

free : (asks : List BlockAsk) (peer : Peer) → AllByRecursion (λ name. is_named name peer ≡ false) (flat_map named_by asks) → AreFree asks peer
free [] peer all = tt
free (Join m ∷ asks) peer all = (all.0, free asks peer all.1)
free (Again m ∷ asks) peer all = (all.0, free asks peer all.1)
free (Leave m ∷ asks) peer all = (refl, free asks peer all.1)
free (Batch ∷ asks) peer all = (refl, free asks peer all)
free (Now ∷ asks) peer all = (refl, free asks peer all)

-- for whom the first line is, the others are not
free_after : (ask : BlockAsk) (asks : List BlockAsk) (peer : Peer) → AreAsked (ask ∷ asks) → is_for ask peer ≡ true → AreFree asks peer
free_after ask asks peer apart here =
    free asks peer
    (each_so (IsOther ask) (λ name. is_named name peer ≡ false) (λ name other. other peer here) (flat_map named_by asks)
    (others ask (flat_map named_by asks) apart))

-- for whom a line is depends on the name alone
for_same : (ask : BlockAsk) (peer after : Peer) → after.phase ≡ peer.phase → is_for ask after ≡ is_for ask peer
for_same (Join m) peer after same = λ i. same_name m (same i).member
for_same (Again m) peer after same = λ i. same_name m (same i).member
for_same (Leave m) peer after same = refl
for_same Batch peer after same = refl
for_same Now peer after same = refl

free_same : (asks : List BlockAsk) (peer after : Peer) → after.phase ≡ peer.phase → AreFree asks peer → AreFree asks after
free_same [] peer after same all = tt
free_same (ask ∷ asks) peer after same all = (for_same ask peer after same ∙ all.0, free_same asks peer after same all.1)

pub lending_phase : (asks : List BlockAsk) (peer : Peer) → (lending asks peer).phase ≡ peer.phase
lending_phase [] peer = refl
lending_phase (ask ∷ asks) peer = by_first (is_for ask peer) (lending_phase asks peer)
  where
    by_first : (b : Bool) → (lending asks peer).phase ≡ peer.phase → (cond b (after_lending peer) (lending asks peer)).phase ≡ peer.phase
    by_first true rest = refl
    by_first false rest = rest

lending_loses : (asks : List BlockAsk) (peer : Peer) → (lending asks peer).loses ≡ peer.loses
lending_loses [] peer = refl
lending_loses (ask ∷ asks) peer = by_first (is_for ask peer) (lending_loses asks peer)
  where
    by_first : (b : Bool) → (lending asks peer).loses ≡ peer.loses → (cond b (after_lending peer) (lending asks peer)).loses ≡ peer.loses
    by_first true rest = refl
    by_first false rest = rest

-- whether the next datagram to it goes missing is as before
pub lent_loses : (asks : List BlockAsk) (m : Name) (peers : List Peer) → loses (all_lending asks peers) m ≡ loses peers m
lent_loses asks m [] = refl
lent_loses asks m (peer ∷ peers) =
    ap (λ b. unwrap_or (option_map (λ (peer : Peer). peer.loses) (cond b (Some (lending asks peer)) (peer_of (all_lending asks peers) m))) false)
    (λ i. same_name m (lending_phase asks peer i).member)
    ∙ by_first (is_named m peer) (lent_loses asks m peers)
  where
    by_first : (b : Bool) → loses (all_lending asks peers) m ≡ loses peers m
        → unwrap_or (option_map (λ (peer : Peer). peer.loses) (cond b (Some (lending asks peer)) (peer_of (all_lending asks peers) m))) false
        ≡ unwrap_or (option_map (λ (peer : Peer). peer.loses) (cond b (Some peer) (peer_of peers m))) false
    by_first true rest = lending_loses asks peer
    by_first false rest = rest

-- ---- what is lent

-- who lent lends nothing more
lent_once : (asks : List BlockAsk) (peer : Peer) → lending asks (after_lending peer) ≡ after_lending peer
lent_once [] peer = refl
lent_once (ask ∷ asks) peer = by_first (is_for ask (after_lending peer)) (lent_once asks peer)
  where
    by_first : (b : Bool) → lending asks (after_lending peer) ≡ after_lending peer
        → cond b (after_lending (after_lending peer)) (lending asks (after_lending peer)) ≡ after_lending peer
    by_first true rest = refl
    by_first false rest = rest

lending_on : (ask : BlockAsk) (asks : List BlockAsk) (peer : Peer) → lending asks (lending (ask ∷ []) peer) ≡ lending (ask ∷ asks) peer
lending_on ask asks peer = by_first (is_for ask peer)
  where
    by_first : (b : Bool) → lending asks (cond b (after_lending peer) peer) ≡ cond b (after_lending peer) (lending asks peer)
    by_first true = lent_once asks peer
    by_first false = refl

all_lending_on : (ask : BlockAsk) (asks : List BlockAsk) (peers : List Peer)
    → all_lending asks (all_lending (ask ∷ []) peers) ≡ all_lending (ask ∷ asks) peers
all_lending_on ask asks peers =
    map_twice (lending (ask ∷ [])) (lending asks) peers
    ∙ map_same (λ peer. lending asks (lending (ask ∷ []) peer)) (lending (ask ∷ asks)) (lending_on ask asks) peers

-- another one is found as before
found_as : (ask : BlockAsk) (m : Name) → IsOther ask m → (peers : List Peer) → peer_of (all_lending (ask ∷ []) peers) m ≡ peer_of peers m
found_as ask m other [] = refl
found_as ask m other (peer ∷ peers) = by_first (is_for ask peer) refl (found_as ask m other peers)
  where
    by_first : (b : Bool) → is_for ask peer ≡ b → peer_of (all_lending (ask ∷ []) peers) m ≡ peer_of peers m
        → peer_of (cond b (after_lending peer) peer ∷ all_lending (ask ∷ []) peers) m ≡ peer_of (peer ∷ peers) m
    by_first true here rest =
        ap (λ b. cond b (Some (after_lending peer)) (peer_of (all_lending (ask ∷ []) peers) m)) (other peer here) ∙ rest
        ∙ sym (ap (λ b. cond b (Some peer) (peer_of peers m)) (other peer here))
    by_first false not_here rest = ap (cond (is_named m peer) (Some peer)) rest

still_sent : (ask : BlockAsk) (peers : List Peer) (asks : List BlockAsk) → AllByRecursion (IsOther ask) (flat_map named_by asks) → All (HasSent peers) asks
    → All (HasSent (all_lending (ask ∷ []) peers)) asks
still_sent ask peers [] other sent = All-nil (HasSent (all_lending (ask ∷ []) peers))
still_sent ask peers (first ∷ asks) other sent =
    let one = by_first first (flat_map named_by asks) other (All-head (HasSent peers) first asks sent) in
    All-cons (HasSent (all_lending (ask ∷ []) peers)) first asks one.0 (still_sent ask peers asks one.1 (All-tail (HasSent peers) first asks sent))
  where
    as_before : (m : Name) → IsOther ask m → IsSome (option_and_then (λ (peer : Peer). peer.sent) (peer_of peers m))
        → IsSome (option_and_then (λ (peer : Peer). peer.sent) (peer_of (all_lending (ask ∷ []) peers) m))
    as_before m other = subst (λ (found : Option Peer). IsSome (option_and_then (λ (peer : Peer). peer.sent) found)) (sym (found_as ask m other peers))

    by_first : (first : BlockAsk) (names : List Name) → AllByRecursion (IsOther ask) (named_by first ++ names) → HasSent peers first
        → HasSent (all_lending (ask ∷ []) peers) first × AllByRecursion (IsOther ask) names
    by_first (Join m) names other sent = (as_before m other.0 sent, other.1)
    by_first (Again m) names other sent = (as_before m other.0 sent, other.1)
    by_first (Leave m) names other sent = (tt, other.1)
    by_first Batch names other sent = (tt, other)
    by_first Now names other sent = (tt, other)

-- what is handed to other lines was there before
module _ (ask : BlockAsk) (old new : Members) (lent : new.all ≡ all_lending (ask ∷ []) old.all) where
  has_before : (m : Name) (line : BlockLine) → IsOther ask m → HasOf m new line → HasOf m old line
  has_before m line other has = record {
    peer = has.peer;
    is_there = sym (found_as ask m other old.all) ∙ ap (λ peers. peer_of peers m) (sym lent) ∙ has.is_there;
    pull = has.pull;
    sent = has.sent;
    loses = has.loses;
  }

  handed_before : (first : BlockAsk) (names : List Name) (line : BlockLine) → AllByRecursion (IsOther ask) (named_by first ++ names)
      → IsHanded new first line → IsHanded old first line × AllByRecursion (IsOther ask) names
  handed_before (Join m) names line other is = (record { asked = is.asked; has = has_before m line other.0 is.has }, other.1)
  handed_before (Again m) names line other is = (record { asked = is.asked; has = has_before m line other.0 is.has }, other.1)
  handed_before (Leave m) names line other is = (record { asked = is.asked; has = is.has }, other.1)
  handed_before Batch names line other is = (record { asked = is.asked; has = is.has }, other)
  handed_before Now names line other is = (record { asked = is.asked; has = is.has }, other)

  all_handed_before : (asks : List BlockAsk) (lines : List BlockLine) → AllByRecursion (IsOther ask) (flat_map named_by asks) → AreHanded new asks lines
      → AreHanded old asks lines
  all_handed_before [] [] other are = tt
  all_handed_before [] (line ∷ lines) other are = are
  all_handed_before (first ∷ asks) [] other are = are
  all_handed_before (first ∷ asks) (line ∷ lines) other are =
      let one = handed_before first (flat_map named_by asks) line other are.0 in
      (one.0, all_handed_before asks lines one.1 are.1)

-- ---- lines that are handed over one after the other

-- These lines were made of what was asked, and this is left.
pub record IsHanding (asks : List BlockAsk) (start now : MemberView) (left : List BlockAsk) (lines : List BlockLine) : Type 0 where
  pub sent : All (HasSent now.all) left
  pub apart : AreAsked left
  pub handed : (mail : List Mail) (later : List BlockLine) → AreHanded (members_with now mail) left later → AreHanded (members_with start mail) asks (lines ++ later)
  pub ready : All IsReady lines
  pub all : all_lending left now.all ≡ all_lending asks start.all

pub handing_on : (asks : List BlockAsk) (start now next : MemberView) (ask : BlockAsk) (left : List BlockAsk) (lines : List BlockLine) (line : BlockLine)
    → IsHanding asks start now (ask ∷ left) lines → ((mail : List Mail) → IsHanded (members_with now mail) ask line) → IsReady line
    → next.all ≡ all_lending (ask ∷ []) now.all → IsHanding asks start next left (lines ++ line ∷ [])
handing_on asks start now next ask left lines line was is ready lent =
    let other = others ask (flat_map named_by left) was.apart in
    record {
      sent = subst (λ peers. All (HasSent peers) left) (sym lent) (still_sent ask now.all left other (All-tail (HasSent now.all) ask left was.sent));
      apart = rest_apart ask (flat_map named_by left) was.apart;
      handed = λ mail later are.
          subst (AreHanded (members_with start mail) asks) (sym (append_assoc lines (line ∷ []) later))
          (was.handed mail (line ∷ later) (is mail, all_handed_before ask (members_with now mail) (members_with next mail) lent left later other are));
      ready = All-push IsReady lines line was.ready ready;
      all = ap (all_lending left) lent ∙ all_lending_on ask left now.all ∙ was.all;
    }

pub all_are_handed : (asks : List BlockAsk) (start now : MemberView) (left : List BlockAsk) (lines : List BlockLine) → IsHanding asks start now left lines → left ≡ []
    → (mail : List Mail) → AreHanded (members_with start mail) asks lines
all_are_handed asks start now left lines was none mail =
    subst (AreHanded (members_with start mail) asks) (append-nil lines)
    (was.handed mail [] (subst (λ left. AreHanded (members_with now mail) left []) (sym none) tt))

pub all_have_lent : (asks : List BlockAsk) (start now : MemberView) (left : List BlockAsk) (lines : List BlockLine) → IsHanding asks start now left lines → left ≡ []
    → now.all ≡ all_lending asks start.all
all_have_lent asks start now left lines was none = sym (map-id now.all) ∙ ap (λ left. all_lending left now.all) (sym none) ∙ was.all

-- ---- what members have back

abbrev takes : List BlockLine → Peer → Peer
takes [] peer = peer
takes (line ∷ lines) peer = takes lines (took (line ∷ []) peer)

abbrev has_back : BlockLine → Peer → Peer
has_back line peer = record peer { pull = line.pull; sent = line.sent; loses = line.lose }

takes_all : (lines : List BlockLine) (peers : List Peer) → fold all_with peers lines ≡ map (takes lines) peers
takes_all [] peers = sym (map-id peers)
takes_all (line ∷ lines) peers = takes_all lines (all_with peers line) ∙ map_twice (took (line ∷ [])) (takes lines) peers

takes_nothing : (lines : List BlockLine) (peer : Peer) → AreFree (asks_of lines) peer → takes lines peer ≡ peer
takes_nothing [] peer are = refl
takes_nothing (line ∷ lines) peer are = ap (λ b. takes lines (cond b (has_back line peer) peer)) are.0 ∙ takes_nothing lines peer are.1

-- a peer that lent has back what its line has
takes_lent : (lines : List BlockLine) (peer : Peer) → AreAsked (asks_of lines) → takes lines (lending (asks_of lines) peer) ≡ took lines peer
takes_lent [] peer apart = refl
takes_lent (line ∷ lines) peer apart =
    by_first (is_for line.asked peer) refl (takes_lent lines peer (rest_apart line.asked (flat_map named_by (asks_of lines)) apart))
  where
    by_first : (b : Bool) → is_for line.asked peer ≡ b → takes lines (lending (asks_of lines) peer) ≡ took lines peer
        → takes lines (took (line ∷ []) (cond b (after_lending peer) (lending (asks_of lines) peer))) ≡ cond b (has_back line peer) (took lines peer)
    by_first true here rest =
        ap (λ b. takes lines (cond b (has_back line peer) (after_lending peer))) (for_same line.asked peer (after_lending peer) refl ∙ here)
        ∙ takes_nothing lines (has_back line peer)
        (free_same (asks_of lines) peer (has_back line peer) refl (free_after line.asked (asks_of lines) peer apart here))
    by_first false not_here rest =
        let left = lending (asks_of lines) peer in
        ap (λ b. takes lines (cond b (has_back line left) left)) (for_same line.asked peer left (lending_phase (asks_of lines) peer) ∙ not_here) ∙ rest

pub all_took : (lines : List BlockLine) (peers : List Peer) → AreAsked (asks_of lines)
    → fold all_with (all_lending (asks_of lines) peers) lines ≡ map (took lines) peers
all_took lines peers apart =
    takes_all lines (all_lending (asks_of lines) peers) ∙ map_twice (lending (asks_of lines)) (takes lines) peers
    ∙ map_same (λ peer. takes lines (lending (asks_of lines) peer)) (took lines) (λ peer. takes_lent lines peer apart) peers

-- who they are stays
named_once : (line : BlockLine) (name : Name) (peer : Peer) → is_named name (took (line ∷ []) peer) ≡ is_named name peer
named_once line name peer = by_first (is_for line.asked peer)
  where
    by_first : (b : Bool) → is_named name (cond b (has_back line peer) peer) ≡ is_named name peer
    by_first true = refl
    by_first false = refl

named_all : (line : BlockLine) (name : Name) (peers : List Peer) → is_peer (all_with peers line) name ≡ is_peer peers name
named_all line name [] = refl
named_all line name (peer ∷ peers) = λ i. named_once line name peer i || named_all line name peers i

pub named_still : (lines : List BlockLine) (name : Name) (peers : List Peer) → is_peer (fold all_with peers lines) name ≡ is_peer peers name
named_still [] name peers = refl
named_still (line ∷ lines) name peers = named_still lines name (all_with peers line) ∙ named_all line name peers
