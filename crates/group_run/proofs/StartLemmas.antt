-- A block begins: what its lines have, and where memory runs out.
use Rattle.std.proofs.Common.{◌≡◌, ◌∙◌, inl, inr, ℕ, suc, ◌≤◌, ◌||◌, Bool, true, false, List, [], ◌∷◌, ◌++◌, length, Option, None, Some, IsSome, arith}
use Rattle.std.proofs.Common.{Result, Ok, Err, IfOk, OnErr, if◌then◌else◌, true≢false, refl, sym, ap, subst}
use Rattle.std.specs.List.{All, AllByRecursion, IsDistinct, flat_map}
use Rattle.std.proofs.lemmas.List.{append-nil}
use Rattle.std.proofs.lemmas.List.Elements.{All-cons, All-head, All-nil, All-tail}
use Rattle.gd_disk.specs.declared.disks.Disk.{Ghosts as DiskGhosts}
use Rattle.gd_edges.specs.declared.draws.Draws.{Ghosts as DrawGhosts}
use Rattle.gd_edges.specs.declared.signers.Signer.{Ghosts as SignerGhosts}
use Rattle.group_terms.specs.Names.{Name, same_name}
use Rattle.group_model.specs.declared.entries.Asked.TheVariants as requests
use Rattle.group_peers.specs.Peers.{AreOnce, is_peer, sent_by}
use Rattle.group_peers.specs.declared.members.Peer.{Peer}
use Rattle.group_steps.specs.Devices.{Keying, keying}
use Rattle.group_steps.specs.Runs.{run_of}
use Rattle.member_steps.specs.Members.{Mail, Members}
use Rattle.member_steps.specs.Views.{View as MemberView, members_with}
use Rattle.register_workers.specs.Lines.{IsReady}
use Rattle.register_workers.specs.Own.{AreApart, named_by, names_in}
use Rattle.register_workers.specs.declared.lines.BlockAsk.{BlockAsk}
use Rattle.register_workers.specs.declared.lines.BlockAsk.TheVariants.{Again, Batch, Join, Leave, Now}
use Rattle.register_workers.specs.declared.lines.BlockLine.{BlockLine}
use Rattle.server_steps.specs.Hosts.{Host}
use Rattle.server_steps.specs.Reflects.{IsServerOf}
use Rattle.group_run.specs.Blocks.{AreHanded, HasBegun, Marks, Point, PreparesAll, StopsBefore, StopsInLines, StopsShort}
use Rattle.group_run.specs.Private.Begun.{CanRun, HasHanded, lent}
use Rattle.group_run.specs.Private.Lendings.{all_lending}
use Rattle.group_run.specs.Places.{AreAsked, IsAt, IsServedAt, Reaches, ReachesServed, keys_of}
use Rattle.group_run.specs.Private.Places.{HasSent}
use Rattle.group_run.specs.Private.Ran.{IsOfPeer}
use Rattle.group_run.specs.Views.{View}
use Rattle.group_run.proofs.KeptLemmas.{KeepsPeers, as_peers, named_as}
use Rattle.group_run.proofs.LendLemmas.{lending_phase, rest_apart}
use Rattle.group_run.proofs.MemberLemmas.{sender_peer}

-- ---- some of what was asked

-- These are some of those, in their order.
abbrev pub AreOf : List BlockAsk → List BlockAsk → Type 0
AreOf [] handed = handed ≡ []
AreOf (ask ∷ asks) handed =
    (is_handed : Bool) × (others : List BlockAsk) × (handed ≡ (if is_handed then ask ∷ others else others)) × AreOf asks others

pub few_of : (asks handed : List BlockAsk) → AreOf asks handed → length handed ≤ length asks
few_of [] handed none = let is = ap length none in omega (arith, is)
few_of (ask ∷ asks) handed are = by_first are.0 are.2 (few_of asks are.1 are.3)
  where
    by_first : (b : Bool) → handed ≡ (if b then ask ∷ are.1 else are.1) → length are.1 ≤ length asks → length handed ≤ suc (length asks)
    by_first true is few = let as_many = ap length is in omega (arith, few, as_many)
    by_first false is few = let as_many = ap length is in omega (arith, few, as_many)

module _ (P : Name → Type 0) where
  all_more : (ask : BlockAsk) (names more : List Name) → (AllByRecursion P names → AllByRecursion P more) → AllByRecursion P (named_by ask ++ names)
      → AllByRecursion P (named_by ask ++ more)
  all_more (Join m) names more so all = (all.0, so all.1)
  all_more (Again m) names more so all = (all.0, so all.1)
  all_more (Leave m) names more so all = (all.0, so all.1)
  all_more Batch names more so all = so all
  all_more Now names more so all = so all

  all_less : (ask : BlockAsk) (names : List Name) → AllByRecursion P (named_by ask ++ names) → AllByRecursion P names
  all_less (Join m) names all = all.1
  all_less (Again m) names all = all.1
  all_less (Leave m) names all = all.1
  all_less Batch names all = all
  all_less Now names all = all

  -- what holds of all names holds of these
  named_of : (asks handed : List BlockAsk) → AreOf asks handed → AllByRecursion P (flat_map named_by asks) → AllByRecursion P (flat_map named_by handed)
  named_of [] handed none all = subst (λ handed. AllByRecursion P (flat_map named_by handed)) (sym none) tt
  named_of (ask ∷ asks) handed are all =
      subst (λ handed. AllByRecursion P (flat_map named_by handed)) (sym are.2) (by_first are.0 (named_of asks are.1 are.3))
    where
      by_first : (b : Bool) → (AllByRecursion P (flat_map named_by asks) → AllByRecursion P (flat_map named_by are.1))
          → AllByRecursion P (flat_map named_by (if b then ask ∷ are.1 else are.1))
      by_first true so = all_more ask (flat_map named_by asks) (flat_map named_by are.1) so all
      by_first false so = so (all_less ask (flat_map named_by asks) all)

-- other names than this one
abbrev AreOthers : Name → List Name → Type 0
AreOthers m names = AllByRecursion (λ name. same_name m name ≡ false) names

apart_more : (ask : BlockAsk) (names more : List Name) → ((m : Name) → AreOthers m names → AreOthers m more)
    → (IsDistinct same_name names → IsDistinct same_name more) → IsDistinct same_name (named_by ask ++ names) → IsDistinct same_name (named_by ask ++ more)
unfolding IsDistinct
apart_more (Join m) names more others so apart = (others m apart.0, so apart.1)
apart_more (Again m) names more others so apart = (others m apart.0, so apart.1)
apart_more (Leave m) names more others so apart = (others m apart.0, so apart.1)
apart_more Batch names more others so apart = so apart
apart_more Now names more others so apart = so apart

none_apart : IsDistinct same_name []
unfolding IsDistinct
none_apart = tt

-- where no member is named twice, none of these is
pub apart_of : (asks handed : List BlockAsk) → AreOf asks handed → AreAsked asks → AreAsked handed
apart_of [] handed none apart = subst AreAsked (sym none) none_apart
apart_of (ask ∷ asks) handed are apart = subst AreAsked (sym are.2) (by_first are.0 (apart_of asks are.1 are.3))
  where
    by_first : (b : Bool) → (AreAsked asks → AreAsked are.1) → AreAsked (if b then ask ∷ are.1 else are.1)
    by_first true so =
        apart_more ask (flat_map named_by asks) (flat_map named_by are.1) (λ m. named_of (λ name. same_name m name ≡ false) asks are.1 are.3) so apart
    by_first false so = so (rest_apart ask (flat_map named_by asks) apart)

-- ---- lines of what was asked

names_handed : (members : Members) (asks : List BlockAsk) (lines : List BlockLine) → AreHanded members asks lines → names_in lines ≡ flat_map named_by asks
names_handed members [] [] are = refl
names_handed members [] (line ∷ lines) are = absurd are
names_handed members (ask ∷ asks) [] are = absurd are
names_handed members (ask ∷ asks) (line ∷ lines) are = λ i. named_by (are.0.asked i) ++ names_handed members asks lines are.1 i

pub apart_lines : (members : Members) (asks : List BlockAsk) (lines : List BlockLine) → AreHanded members asks lines → AreAsked asks → AreApart lines
apart_lines members asks lines are apart = subst (IsDistinct same_name) (sym (names_handed members asks lines are)) apart

pub as_many_lines : (members : Members) (asks : List BlockAsk) (lines : List BlockLine) → AreHanded members asks lines → length lines ≡ length asks
as_many_lines members [] [] are = refl
as_many_lines members [] (line ∷ lines) are = absurd are
as_many_lines members (ask ∷ asks) [] are = absurd are
as_many_lines members (ask ∷ asks) (line ∷ lines) are = λ i. suc (as_many_lines members asks lines are.1 i)

-- who has sent something is a peer
sent_peer : (peers : List Peer) (m : Name) → IsSome (sent_by peers m) → is_peer peers m ≡ true
sent_peer peers m some = by_sent (sent_by peers m) refl some
  where
    by_sent : (last : Option (List ℕ)) → sent_by peers m ≡ last → IsSome last → is_peer peers m ≡ true
    by_sent (Some datagram) is some = sender_peer peers m datagram is
    by_sent None is some = absurd (true≢false (sym some))

sender_of_peer : (peers : List Peer) (ask : BlockAsk) → HasSent peers ask → IsOfPeer peers ask
sender_of_peer peers (Join m) some = sent_peer peers m some
sender_of_peer peers (Again m) some = sent_peer peers m some
sender_of_peer peers (Leave m) some = tt
sender_of_peer peers Batch some = tt
sender_of_peer peers Now some = tt

pub lines_of_peers : (members : Members) (asks : List BlockAsk) (lines : List BlockLine) → AreHanded members asks lines → All (HasSent members.all) asks
    → All (λ (line : BlockLine). IsOfPeer members.all line.asked) lines
lines_of_peers members [] [] are sent = All-nil (λ (line : BlockLine). IsOfPeer members.all line.asked)
lines_of_peers members [] (line ∷ lines) are sent = absurd are
lines_of_peers members (ask ∷ asks) [] are sent = absurd are
lines_of_peers members (ask ∷ asks) (line ∷ lines) are sent =
    All-cons (λ (line : BlockLine). IsOfPeer members.all line.asked) line lines
    (subst (IsOfPeer members.all) (sym are.0.asked) (sender_of_peer members.all ask (All-head (HasSent members.all) ask asks sent)))
    (lines_of_peers members asks lines are.1 (All-tail (HasSent members.all) ask asks sent))

-- who lends stays a peer
pub lending_named : (asks : List BlockAsk) (name : Name) (peers : List Peer) → is_peer (all_lending asks peers) name ≡ is_peer peers name
lending_named asks name [] = refl
lending_named asks name (peer ∷ peers) = λ i. same_name name (lending_phase asks peer i).member || lending_named asks name peers i

pub lending_peers : (asks : List BlockAsk) (peers : List Peer) {now : List Peer} → now ≡ all_lending asks peers → KeepsPeers peers now
lending_peers asks peers {now} is = subst (KeepsPeers peers) (sym is) (named_as (λ name. lending_named asks name peers))

-- lines that may run, on members as they were before they lent
pub can_run : (members : Members) (asks handed : List BlockAsk) (lines : List BlockLine) → AreOf asks handed → AreAsked asks → AreHanded members handed lines
    → All IsReady lines → All (HasSent members.all) handed → AreOnce members.all → CanRun members handed lines
can_run members asks handed lines are apart is ready sent once = record {
  handed_over = is;
  ready = ready;
  apart = apart_lines members handed lines is (apart_of asks handed are apart);
  of_peers = lines_of_peers members handed lines is sent;
  once = once;
}

pub few_lines : (members : Members) (asks handed : List BlockAsk) (lines : List BlockLine) → AreOf asks handed → AreHanded members handed lines
    → length asks ≤ 512 → length lines ≤ 512
few_lines members asks handed lines are is few =
    let less = few_of asks handed are in
    let as_many = as_many_lines members handed lines is in
    omega (arith, few, less, as_many)

-- ---- places in a run

-- all lines were prepared, and then memory ran out
pub stops_begun : {D G : Type 0} (d : DiskGhosts D) (g : SignerGhosts G) (by : Keying G) (workers : ℕ) (asks handed : List BlockAsk) {old ready next : Point D}
    → HasBegun d g by workers asks handed old ready → next ≡ ready → StopsBefore d g by workers asks old next
stops_begun d g by workers asks handed {ready = ready} begun is = record {
  begun = begun.begun;
  begins = begun.begins;
  stops = record { front = asks; later = []; are = sym (append-nil asks); handed = handed; ready = ready; prepares = begun.prepares; last = is };
}

module _ {D G : Type 0} (d : DiskGhosts D) (g : SignerGhosts G) (by : Keying G) where
  -- the lines that are handed on are some of those that were prepared
  pub prepared_of : (asks handed : List BlockAsk) (old new : Point D) → PreparesAll d g by asks handed old new → AreOf asks handed
  prepared_of [] handed old new all = all.0
  prepared_of (ask ∷ asks) handed old new all = (all.1, all.2, all.4, prepared_of asks all.2 all.0 new all.5)

module _ {D G R : Type 0} (d : DiskGhosts D) (g : SignerGhosts G) (draws : DrawGhosts R) where
  -- a value is at some place
  place_of : {held : View D G R} {host : Host D} → IsServerOf d draws held.server host → (point : Point D) × IsAt d draws held point
  place_of {held} {host} is_on = (
    record { entries = held.entries; run = run_of host held.members; present = held.members },
    record { served = record { entries = refl; server = is_on }; present = refl },
  )

  still_served : {begun new : View D G R} (point : Point D) → new.server ≡ begun.server → new.entries ≡ begun.entries → IsServedAt d draws begun point
      → IsServedAt d draws new point
  still_served point server entries at = record {
    entries = entries ∙ at.entries;
    server = subst (λ server. IsServerOf d draws server point.run.host) (sym server) at.server;
  }

module _ {D G R : Type 0} (d : DiskGhosts D) (g : SignerGhosts G) (draws : DrawGhosts R) (block : ℕ → List ℕ) (group : Name) (asks : List BlockAsk)
    (old : View D G R) where
  -- the beginning of the block was noted
  pub record IsMarked (mid : View D G R) : Type 0 where
    pub marks : Reaches d draws (Marks d (requests.Together (length asks))) old mid
    pub server : mid.server ≡ old.server

  -- and its lines were prepared
  pub record IsBegun (mid : View D G R) (handed : List BlockAsk) (begun : View D G R) : Type 0 where
    pub marked : IsMarked mid
    pub prepares : Reaches d draws (PreparesAll d g (keys_of draws mid block group) asks handed) mid begun
    pub sent : All (HasSent begun.members.all) handed

  pub begun_as : {mid : View D G R} {handed list : List BlockAsk} {begun now : View D G R} → list ≡ handed → now ≡ begun → IsBegun mid handed begun
      → IsBegun mid list now
  begun_as {mid} list now is = subst (λ (at : List BlockAsk × View D G R). IsBegun mid at.0 at.1) (λ i. (sym list i, sym now i)) is

  -- keys are made with the same
  keys_still : (mid : View D G R) → mid.server ≡ old.server → keys_of draws mid block group ≡ keys_of draws old block group
  keys_still mid server i = keying (server i).core.signer (draws.block_at (server i).core.draws) block group

  -- there was no memory for a note
  pub stops_unmarked : {new : View D G R} → new ≡ old → (workers : ℕ)
      → ReachesServed d draws (StopsShort d g (keys_of draws old block group) workers asks) old new
  stops_unmarked same workers point at = (point, inl refl, subst (λ held. IsServedAt d draws held point) (sym same) at.served)

  -- nor for what lines give
  pub stops_beginning : {mid new : View D G R} → IsMarked mid → ReachesServed d draws (StopsInLines d g (keys_of draws mid block group) asks) mid new → (workers : ℕ)
      → ReachesServed d draws (StopsShort d g (keys_of draws old block group) workers asks) old new
  stops_beginning {mid} marked stops workers point at =
      let first = marked.marks point at in
      let made = stops first.0 first.2 in (
        made.0,
        inr (inl (record {
          begun = first.0;
          begins = first.1;
          stops = subst (λ (by : Keying G). StopsInLines d g by asks first.0 made.0) (keys_still mid marked.server) made.1;
        })),
        made.2,
      )

  module _ {mid : View D G R} {handed : List BlockAsk} {begun : View D G R} (is : IsBegun mid handed begun) where
    -- the lines that are handed on are some of those that were prepared
    pub handed_of : {host : Host D} → IsServerOf d draws old.server host → AreOf asks handed
    handed_of {host} is_on =
        let start = place_of d g draws (subst (λ server. IsServerOf d draws server host) (sym is.marked.server) is_on) in
        let made = is.prepares start.0 start.1 in
        prepared_of d g (keys_of draws mid block group) asks handed start.0 made.0 made.1

    begun_at : (workers : ℕ) (point : Point D) → IsAt d draws old point
        → (ready : Point D) × HasBegun d g (keys_of draws old block group) workers asks handed point ready × IsAt d draws begun ready
    begun_at workers point at =
        let first = is.marked.marks point at in
        let made = is.prepares first.0 first.2 in (
          made.0,
          record {
            begun = first.0;
            begins = first.1;
            prepares = subst (λ (by : Keying G). PreparesAll d g by asks handed first.0 made.0) (keys_still mid is.marked.server) made.1;
          },
          made.2,
        )

    module _ {new : View D G R} (server : new.server ≡ begun.server) (entries : new.entries ≡ begun.entries) where
      -- members lent what they have to the lines
      pub has_handed : (lines : List BlockLine) → CanRun begun.members handed lines → new.members ≡ lent handed begun.members → (workers : ℕ)
          → HasHanded d g draws (keys_of draws old block group) workers asks lines old new
      has_handed lines can members workers = record {
        handed = handed;
        before = begun.members;
        can = can;
        members = members;
        each = λ point at.
            let made = begun_at workers point at in (
              made.0,
              made.1,
              still_served d g draws made.0 server entries made.2.served,
              made.2.present,
            );
      }

      -- or there was no memory for the lines
      pub stops_handing : (workers : ℕ) → ReachesServed d draws (StopsShort d g (keys_of draws old block group) workers asks) old new
      stops_handing workers point at =
          let made = begun_at workers point at in (
            made.0,
            inr (inl (stops_begun d g (keys_of draws old block group) workers asks handed made.1 refl)),
            still_served d g draws made.0 server entries made.2.served,
          )

-- ---- results

pub all_ok : {T E : Type 0} {P Q S V : T → Type 0} (result : Result T E) → IfOk result P → IfOk result Q → IfOk result S
    → ((x : T) → P x → Q x → S x → V x) → IfOk result V
all_ok (Ok x) p q s each = each x p q s
all_ok (Err why) p q s each = tt

-- members are named as before, whether they lent or not
pub handed_peers : {T E : Type 0} (result : Result T E) (asks : List BlockAsk) (peers now : List Peer) → IfOk result (λ lines. now ≡ all_lending asks peers)
    → OnErr result (now ≡ peers) → KeepsPeers peers now
handed_peers (Ok lines) asks peers now all err = lending_peers asks peers all
handed_peers (Err why) asks peers now all err = as_peers err

-- members after they lent
pub have_lent : (handed : List BlockAsk) (old new : MemberView) (mail : List Mail) → new.all ≡ all_lending handed old.all → new.place ≡ old.place
    → members_with new mail ≡ lent handed (members_with old mail)
have_lent handed old new mail all place i = record { all = all i; mail = mail; place = place i }
