-- What members begin before workers run the lines of a block: from what calls do to a value, to the places in a run that it reaches.
use Rattle.std.proofs.Common.{◌≡◌, ◌∙◌, inl, inr, ℕ, zero, suc, ◌+◌, Bool, true, false, cond, List, [], ◌∷◌, ◌++◌, length, None, Some, IsSome, arith}
use Rattle.std.proofs.Common.{Result, Ok, Err, OnOk, OnErr, MatchBool, if◌then◌else◌, true≢false, refl, sym, ap, subst}
use Rattle.std.specs.List.{All}
use Rattle.std.specs.Option.{option_and_then}
use Rattle.std.proofs.lemmas.List.{append-nil}
use Rattle.std.proofs.lemmas.List.Elements.{All-nil, All-push, All-weaker}
use Rattle.gd_disk.specs.declared.disks.Disk.{Ghosts as DiskGhosts}
use Rattle.gd_edges.specs.declared.draws.Draws.{Ghosts as DrawGhosts}
use Rattle.gd_edges.specs.declared.signers.Signer.{Ghosts as SignerGhosts}
use Rattle.group_terms.specs.Names.{Name}
use Rattle.group_terms.specs.declared.phases.Phase1.{Phase1}
use Rattle.group_model.specs.Answers.{ran_out}
use Rattle.group_model.specs.declared.entries.Answer.{Answer}
use Rattle.group_model.specs.declared.entries.Answer.TheVariants.{Done}
use Rattle.group_model.specs.declared.entries.Asked.{Asked}
use Rattle.group_model.specs.declared.entries.Asked.TheVariants as requests
use Rattle.group_model.specs.declared.entries.Outside.{Outside}
use Rattle.group_peers.specs.Peers.{introduced, is_named, is_peer, peer_of, put, sent_by, was_introduced, with_peer}
use Rattle.group_peers.specs.declared.members.Peer.{Peer}
use Rattle.group_steps.specs.Devices.{Keying, keying}
use Rattle.group_steps.specs.Gets.{introduced_by}
use Rattle.group_steps.specs.Questions.{IsMark}
use Rattle.group_steps.specs.Runs.{Run, run_of, with_members}
use Rattle.group_steps.specs.Steps.{IsActing}
use Rattle.member_steps.specs.Acts.{BeginsPull, Ignore, Ignores, IsFirstUse, IsUse}
use Rattle.member_steps.specs.Drawn.{phase_drawn}
use Rattle.member_steps.specs.Members.{Members}
use Rattle.member_steps.specs.Steps.{HasSentNothing}
use Rattle.register_workers.specs.declared.lines.BlockAsk.{BlockAsk}
use Rattle.register_workers.specs.declared.lines.BlockAsk.TheVariants.{Again, Join}
use Rattle.server_steps.specs.Hosts.{Host}
use Rattle.server_steps.specs.Reflects.{IsServerOf}
use Rattle.server_steps.specs.Serves.{GoesOn}
use Rattle.group_run.specs.Blocks.{Adds, Introduces, Joins, Marks, Point, Prepares, PreparesAll, PullsIf, SendsAgain, StopsInLines, StopsInNext, StopsInOne, StopsIntroducing, at_present}
use Rattle.group_run.specs.Moves.{Acts, Moves}
use Rattle.group_run.specs.Pulls.{Introduces as MovesIntroduces}
use Rattle.group_run.specs.Places.{IsAt, IsServedAt, Reaches, ReachesServed, keys_of}
use Rattle.group_run.specs.Private.Places.{HasSent, KeepsSent}
use Rattle.group_run.specs.Views.{View}
use Rattle.group_run.proofs.MailLemmas.{IsUnsent}
use Rattle.group_run.proofs.MemberLemmas.{has_used, ignored_same, introduced_mail, put_one}

-- ---- results

pub on_ok_always : {T E P : Type 0} (result : Result T E) → P → OnOk result P
on_ok_always (Ok x) holds = holds
on_ok_always (Err why) holds = tt

pub on_err_always : {T E P : Type 0} (result : Result T E) → P → OnErr result P
on_err_always (Ok x) holds = tt
on_err_always (Err why) holds = holds

-- ---- a mark sends nothing

pub unsent_done : (request : Asked) → IsUnsent request Done
unsent_done (requests.Serve m datagram) = record { none = refl }
unsent_done requests.Batch = record { none = refl }
unsent_done request = record { none = refl }

-- ---- nothing was ignored where as much is on its way

ignored_count : (n : ℕ) (old new : Members) → Ignore n old new → length old.mail ≡ n + length new.mail
ignored_count zero old new is =
    let same = ap (λ (members : Members). length members.mail) is in
    omega (arith, same)
ignored_count (suc n) old new ignores =
    let first = ap length ignores.1.gets.is_first in
    let mid = ap (λ (members : Members). length members.mail) ignores.1.now in
    let rest = ignored_count n ignores.0 new ignores.2 in
    omega (arith, first, mid, rest)

none_ignored : (n : ℕ) (old new : Members) → Ignore n old new → new.mail ≡ old.mail → new ≡ old
none_ignored zero old new is same = is
none_ignored (suc n) old new ignores same =
    let count = ignored_count (suc n) old new ignores in
    let as_many = ap length same in
    absurd (omega (arith, count, as_many))

pub ignored_none : {old new : Members} → Ignores old new → new.mail ≡ old.mail → new ≡ old
ignored_none {old} {new} ignores same = none_ignored ignores.0 old new ignores.1 same

-- ---- who has sent something still has

pub keeps_all : (peers : List Peer) → KeepsSent peers peers
keeps_all peers = record { each = λ m some. some }

pub keeps_then : {old mid new : List Peer} → KeepsSent old mid → KeepsSent mid new → KeepsSent old new
keeps_then first second = record { each = λ m some. second.each m (first.each m some) }

pub keeps_as : {old new : List Peer} → new ≡ old → KeepsSent old new
keeps_as {old} is = subst (KeepsSent old) (sym is) (keeps_all old)

module _ (m : Name) (peers more : List Peer) (first next : Peer) (named : is_named m next ≡ is_named m first) (here : IsSome first.sent → IsSome next.sent)
    (later : IsSome (sent_by peers m) → IsSome (sent_by more m)) where
  by_name : (b : Bool) → IsSome (option_and_then (λ (peer : Peer). peer.sent) (cond b (Some first) (peer_of peers m)))
      → IsSome (option_and_then (λ (peer : Peer). peer.sent) (cond b (Some next) (peer_of more m)))
  by_name true = here
  by_name false = later

  cons_sent : IsSome (sent_by (first ∷ peers) m) → IsSome (sent_by (next ∷ more) m)
  cons_sent some =
      subst (λ b. IsSome (option_and_then (λ (peer : Peer). peer.sent) (cond b (Some next) (peer_of more m)))) (sym named) (by_name (is_named m first) some)

introduced_sent : (m name : Name) (peers : List Peer) → IsSome (sent_by peers m) → IsSome (sent_by (introduced peers name) m)
introduced_sent m name [] some = some
introduced_sent m name (first ∷ peers) some =
    cons_sent m peers (introduced peers name) first (after (is_named name first)) (named (is_named name first)) (here (is_named name first)) (introduced_sent m name peers) some
  where
    after : Bool → Peer
    after b = cond b (record first { introduced = true }) first

    named : (b : Bool) → is_named m (after b) ≡ is_named m first
    named true = refl
    named false = refl

    here : (b : Bool) → IsSome first.sent → IsSome (after b).sent
    here true some = some
    here false some = some

added_sent : (m : Name) (phase : Phase1) (peers : List Peer) → IsSome (sent_by peers m) → IsSome (sent_by (with_peer peers phase) m)
added_sent m phase [] some = absurd (true≢false (sym some))
added_sent m phase (first ∷ peers) some = cons_sent m peers (with_peer peers phase) first first refl (λ some. some) (added_sent m phase peers) some

put_sent : (m : Name) (after : Peer) → IsSome after.sent → (peers : List Peer) → IsSome (sent_by peers m) → IsSome (sent_by (put peers after) m)
put_sent m after sends [] some = some
put_sent m after sends (first ∷ peers) some =
    cons_sent m peers (put peers after) first (cond (is_named after.phase.member first) after first) (put_one after m first) (here (is_named after.phase.member first))
    (put_sent m after sends peers) some
  where
    here : (b : Bool) → IsSome first.sent → IsSome (cond b after first).sent
    here true some = sends
    here false some = some

pub begun_keeps : {block : ℕ → List ℕ} {group m : Name} {old new : Members} → BeginsPull block group m old new → KeepsSent old.all new.all
begun_keeps {block} {group} {m} {old} {new} begins =
    let made = begins.begins in
    let is_all : new.all ≡ put old.all made.after = ap (λ (members : Members). members.all) begins.now ∙ made.now in
    let sends : IsSome made.after.sent = subst IsSome (sym (ap (λ (peer : Peer). peer.sent) made.begun.now)) refl in
    subst (KeepsSent old.all) (sym is_all) (record { each = λ m. put_sent m made.after sends old.all })

pub used_keeps : (block : ℕ → List ℕ) (m : Name) (old new : Members) → IsUse block m old new → KeepsSent old.all new.all
used_keeps block m old new used =
    elim (is_peer old.all m) as (λ b. MatchBool b (new ≡ old) (IsFirstUse block m old new) → KeepsSent old.all new.all) [
      | true ↦ λ same. keeps_as (ap (λ (members : Members). members.all) same)
      | false ↦ λ first.
          subst (λ (new : Members). KeepsSent old.all new.all) (sym first.now) (record { each = λ name. added_sent name (phase_drawn block old.place m) old.all })
    ] used

pub given_keeps : (answer : Answer) (m : Name) (members : Members) → KeepsSent members.all (introduced_by answer m members).all
given_keeps Done m members = record { each = λ name. introduced_sent name m members.all }
given_keeps answer m members = keeps_all members.all

-- what was handed on still has
pub sent_still : {old new : List Peer} → KeepsSent old new → (ask : BlockAsk) → HasSent old ask → HasSent new ask
sent_still keeps (Join m) some = keeps.each m some
sent_still keeps (Again m) some = keeps.each m some
sent_still keeps ask some = tt

pub all_sent_still : {old new : List Peer} → KeepsSent old new → (asks : List BlockAsk) → All (HasSent old) asks → All (HasSent new) asks
all_sent_still {old} {new} keeps asks all = All-weaker (HasSent old) (HasSent new) (sent_still keeps) asks all

-- ---- one entry is added

module _ {D G R : Type 0} (d : DiskGhosts D) (draws : DrawGhosts R) {old new : View D G R} where
  module _ {step : Run D → Answer → Outside → Run D → Type 0} {acted : Members} {request : Asked} (moves : Moves d draws step acted request old new) (out : Bool)
      (memory : ran_out moves.entry.answer ≡ out)
      (mail : (run next : Run D) → step (with_members run acted) moves.entry.answer moves.entry.outside next → next.members.mail ≡ new.members.mail) where
    pub adds_at : (point : Point D) → IsAt d draws old point → (next : Point D) × Adds d out step acted request point next × IsAt d draws new next
    adds_at point at =
        let made = moves.each (with_members point.run point.present) (record { server = at.served.server; members = (zero, sym at.present) }) in
        let run = made.0 in (
          record { entries = point.entries ++ moves.entry ∷ []; run = run; present = run.members },
          record { entry = moves.entry; added = refl; asked = moves.asked; stepped = made.1; present = refl; memory = memory },
          record {
            served = record {
              entries = moves.added ∙ ap (λ entries. entries ++ moves.entry ∷ []) at.served.entries;
              server = made.2.server;
            };
            present = sym (ignored_none made.2.members (sym (mail (with_members point.run point.present) run made.1.answered)));
          },
        )

  -- members did nothing before
  pub adds_present : {step : Run D → Answer → Outside → Run D → Type 0} {request : Asked} (moves : Moves d draws step old.members request old new) (out : Bool)
      → ran_out moves.entry.answer ≡ out
      → ((run next : Run D) → step (with_members run old.members) moves.entry.answer moves.entry.outside next → next.members.mail ≡ new.members.mail)
      → Reaches d draws (λ point next. Adds d out step point.present request point next) old new
  adds_present {step} {request} moves out memory mail point at =
      let made = adds_at moves out memory mail point at in (
        made.0,
        subst (λ acted. Adds d out step acted request point made.0) (sym at.present) made.1,
        made.2,
      )

  -- a mark
  pub reaches_mark : {request : Asked} → Moves d draws IsMark old.members request old new → new.members.mail ≡ old.members.mail
      → Reaches d draws (Marks d request) old new
  reaches_mark {request} moves mail point at =
      let answered = (moves.each (with_members point.run point.present) (record { server = at.served.server; members = (zero, sym at.present) })).1.answered in
      adds_present moves false (ap ran_out answered.answers)
      (λ run next step. ap (λ (run : Run D). run.members.mail) step.stays ∙ sym mail) point at

  -- a member that has sent nothing
  pub reaches_nothing : {m : Name} → Acts d draws (HasSentNothing m) old.members (requests.Again m) old new → new.members ≡ old.members
      → Reaches d draws (λ point next. Adds d false (IsActing (HasSentNothing m)) point.present (requests.Again m) point next) old new
  reaches_nothing {m} moves same point at =
      let answered = (moves.each (with_members point.run point.present) (record { server = at.served.server; members = (zero, sym at.present) })).1.answered in
      adds_present moves false (ap ran_out answered.acted.answers)
      (λ run next step. ap (λ (members : Members). members.mail) (step.acted.stays ∙ sym same)) point at

-- ---- members begin pulls

module _ {D G R : Type 0} (d : DiskGhosts D) (g : SignerGhosts G) (draws : DrawGhosts R) (by : Keying G) (m : Name) where
  -- it has something to send again
  pub reaches_again : {held : View D G R} (datagram : List ℕ) → sent_by held.members.all m ≡ Some datagram
      → Reaches d draws (λ old new. Prepares d g by (Again m) old new true) held held
  reaches_again datagram sent point at = (
    point,
    subst (λ last. SendsAgain d g by last m point point true) (sym (ap (λ (members : Members). sent_by members.all m) at.present ∙ sent)) (refl, refl),
    at,
  )

  -- it has nothing
  pub reaches_none : {old new : View D G R} → sent_by old.members.all m ≡ None → Acts d draws (HasSentNothing m) old.members (requests.Again m) old new
      → new.members ≡ old.members → Reaches d draws (λ old new. Prepares d g by (Again m) old new false) old new
  reaches_none none acts same point at =
      let made = reaches_nothing d draws acts same point at in (
        made.0,
        subst (λ last. SendsAgain d g by last m point made.0 false) (sym (ap (λ (members : Members). sent_by members.all m) at.present ∙ none)) (made.1, refl),
        made.2,
      )

  -- it was not introduced
  pub reaches_unpulled : {held : View D G R} → was_introduced held.members.all m ≡ false
      → Reaches d draws (λ old new. PullsIf d g by (was_introduced old.present.all m) m old new false) held held
  reaches_unpulled none point at = (
    point,
    subst (λ b. PullsIf d g by b m point point false) (sym (ap (λ (members : Members). was_introduced members.all m) at.present ∙ none)) (refl, refl),
    at,
  )

  -- it was, and begins a pull
  pub reaches_pull : {old new : View D G R} → was_introduced old.members.all m ≡ true → new.server ≡ old.server → new.entries ≡ old.entries
      → BeginsPull by.members_block by.group m old.members new.members
      → Reaches d draws (λ old new. PullsIf d g by (was_introduced old.present.all m) m old new true) old new
  reaches_pull {old} {new} is server entries begins point at =
      let next = at_present point new.members in (
        next,
        subst (λ b. PullsIf d g by b m point next true) (sym (ap (λ (members : Members). was_introduced members.all m) at.present ∙ is)) (
          record {
            acted = new.members;
            begins = subst (λ members. BeginsPull by.members_block by.group m members new.members) (sym at.present) begins;
            now = refl;
          },
          refl,
        ),
        record {
          served = record {
            entries = entries ∙ at.served.entries;
            server = subst (λ server. IsServerOf d draws server point.run.host) (sym server) at.served.server;
          };
          present = refl;
        },
      )

-- ---- an introduction

module _ {D G R : Type 0} (d : DiskGhosts D) (g : SignerGhosts G) (draws : DrawGhosts R) {block : ℕ → List ℕ} {m : Name} {old new : View D G R}
    (introduces : MovesIntroduces d g draws block m old new) where
  pub reaches_introduced : (out : Bool) → ran_out introduces.serves.entry.answer ≡ out → new.members.mail ≡ old.members.mail → (group : Name)
      → Reaches d draws (Introduces d g (keys_of draws old block group) out m) old new
  reaches_introduced out memory mail group point at =
      let moves = introduces.serves in
      let used = introduces.used in
      let made = adds_at d draws moves out memory
      (λ run next step. ap (λ (members : Members). members.mail) step.gets ∙ introduced_mail moves.entry.answer introduces.phase.member used
      ∙ (has_used block m introduces.uses).mail ∙ sym mail) point at in (
        made.0,
        record {
          used = used;
          uses = subst (λ members. IsUse block m members used) (sym at.present) introduces.uses;
          phase = introduces.phase;
          is = introduces.is;
          serves = made.1;
        },
        made.2,
      )

  pub introduced_keeps : {host : Host D} → IsServerOf d draws old.server host → KeepsSent old.members.all new.members.all
  introduced_keeps {host} is_on =
      let moves = introduces.serves in
      let used = introduces.used in
      let made = moves.each (run_of host old.members) (record { server = is_on; members = (zero, refl) }) in
      let next = made.0.members in
      let got = ap (λ (members : Members). members.all) made.1.answered.gets in
      let last = (ignored_same made.2.members.0 next new.members made.2.members.1).all in
      keeps_then (used_keeps block m old.members used introduces.uses)
      (keeps_then (given_keeps moves.entry.answer introduces.phase.member used) (keeps_as (last ∙ got)))

-- ---- memory ran out

module _ {D G : Type 0} (d : DiskGhosts D) (g : SignerGhosts G) (by : Keying G) {old new : Point D} where
  -- nothing was done for a line
  stops_still : (ask : BlockAsk) → new ≡ old → StopsInOne d g by ask old new
  stops_still (Join m) same = inl same
  stops_still ask same = same

  pub stops_next : (asks : List BlockAsk) → new ≡ old → StopsInNext d g by asks old new
  stops_next [] same = same
  stops_next (ask ∷ asks) same = stops_still ask same

module _ {D G R : Type 0} (d : DiskGhosts D) (g : SignerGhosts G) (draws : DrawGhosts R) (by : Keying G) {old new : View D G R} where
  still_at : new ≡ old → (point : Point D) → IsAt d draws old point → IsServedAt d draws new point
  still_at same point at = subst (λ held. IsServedAt d draws held point) (sym same) at.served

  -- before the introduction of a member
  pub served_before : (m : Name) → new ≡ old → ReachesServed d draws (StopsIntroducing d g by m) old new
  served_before m same point at = (point, inl refl, still_at same point at)

  -- in it, or after it
  pub served_introduced : (m : Name) (out : Bool) → Reaches d draws (Introduces d g by out m) old new → ReachesServed d draws (StopsIntroducing d g by m) old new
  served_introduced m out reaches point at = let made = reaches point at in (made.0, inr (out, made.1), made.2.served)

  -- for a line, of which nothing was done
  pub served_same : (ask : BlockAsk) → new ≡ old → ReachesServed d draws (StopsInOne d g by ask) old new
  served_same ask same point at = (point, stops_still d g by ask refl, still_at same point at)

  -- for a join, whose member was not introduced before
  pub served_join : (m : Name) → was_introduced old.members.all m ≡ false → ReachesServed d draws (StopsIntroducing d g by m) old new
      → ReachesServed d draws (StopsInOne d g by (Join m)) old new
  served_join m was stops point at =
      let made = stops point at in
      (made.0, inr (ap (λ (members : Members). was_introduced members.all m) at.present ∙ was, made.1), made.2)

-- after an introduction
pub served_after : {D G R : Type 0} (d : DiskGhosts D) (g : SignerGhosts G) (draws : DrawGhosts R) (by : Keying G) (m : Name) {old mid new : View D G R}
    → Reaches d draws (Introduces d g by false m) old mid → new ≡ mid → ReachesServed d draws (StopsIntroducing d g by m) old new
served_after d g draws by m {old} {mid} reaches same =
    subst (λ new. ReachesServed d draws (StopsIntroducing d g by m) old new) (sym same) (served_introduced d g draws by m false reaches)

-- ---- a line

module _ {D G R : Type 0} (d : DiskGhosts D) (g : SignerGhosts G) (draws : DrawGhosts R) (by : Keying G) (m : Name) (handed : Bool) where
  -- its member was introduced before
  pub joins_before : {old new : View D G R} → was_introduced old.members.all m ≡ true
      → Reaches d draws (λ old new. PullsIf d g by (was_introduced old.present.all m) m old new handed) old new
      → Reaches d draws (λ old new. Prepares d g by (Join m) old new handed) old new
  joins_before was pulls point at =
      let made = pulls point at in
      let is = ap (λ (members : Members). was_introduced members.all m) at.present ∙ was in (
        made.0,
        subst (λ b. Joins d g by b m point made.0 handed) (sym is) (subst (λ b. PullsIf d g by b m point made.0 handed) is made.1),
        made.2,
      )

  -- it is introduced with it
  pub joins_first : {old mid new : View D G R} → was_introduced old.members.all m ≡ false → Reaches d draws (Introduces d g by false m) old mid
      → Reaches d draws (λ old new. PullsIf d g by (was_introduced old.present.all m) m old new handed) mid new
      → Reaches d draws (λ old new. Prepares d g by (Join m) old new handed) old new
  joins_first was introduces pulls point at =
      let first = introduces point at in
      let made = pulls first.0 first.2 in
      let is = ap (λ (members : Members). was_introduced members.all m) at.present ∙ was in (
        made.0,
        subst (λ b. Joins d g by b m point made.0 handed) (sym is) (first.0, first.1, made.1),
        made.2,
      )

-- it asks nothing of a member's pull
module _ {D G R : Type 0} (d : DiskGhosts D) (g : SignerGhosts G) (draws : DrawGhosts R) (by : Keying G) where
  pub prepares_nothing : (ask : BlockAsk) → ((m : Name) → ask ≡ Join m → ⊥) → ((m : Name) → ask ≡ Again m → ⊥) → {held : View D G R}
      → Reaches d draws (λ old new. Prepares d g by ask old new true) held held
  prepares_nothing (Join m) no_join no_again = absurd (no_join m refl)
  prepares_nothing (Again m) no_join no_again = absurd (no_again m refl)
  prepares_nothing ask no_join no_again = λ point at. (point, (refl, refl), at)

pub nothing_sent : (peers : List Peer) (ask : BlockAsk) → ((m : Name) → ask ≡ Join m → ⊥) → ((m : Name) → ask ≡ Again m → ⊥) → HasSent peers ask
nothing_sent peers (Join m) no_join no_again = absurd (no_join m refl)
nothing_sent peers (Again m) no_join no_again = absurd (no_again m refl)
nothing_sent peers ask no_join no_again = tt

-- ---- lines, one after the other

front_first : (b : Bool) (first : BlockAsk) (others tail : List BlockAsk)
    → (if b then first ∷ others else others) ++ tail ≡ (if b then first ∷ (others ++ tail) else others ++ tail)
front_first true first others tail = refl
front_first false first others tail = refl

module _ {D G : Type 0} (d : DiskGhosts D) (g : SignerGhosts G) (by : Keying G) (mid new : Point D) (ask : BlockAsk) (is_handed : Bool)
    (prepares : Prepares d g by ask mid new is_handed) where
  -- one more is prepared
  prepares_more : (asks handed : List BlockAsk) (old : Point D) → PreparesAll d g by asks handed old mid
      → PreparesAll d g by (asks ++ ask ∷ []) (handed ++ (if is_handed then ask ∷ [] else [])) old new
  prepares_more [] handed old all = (
    new,
    is_handed,
    [],
    subst (λ mid. Prepares d g by ask mid new is_handed) all.1 prepares,
    ap (λ handed. handed ++ (if is_handed then ask ∷ [] else [])) all.0,
    (refl, refl),
  )
  prepares_more (first ∷ asks) handed old all = (
    all.0,
    all.1,
    all.2 ++ (if is_handed then ask ∷ [] else []),
    all.3,
    ap (λ handed. handed ++ (if is_handed then ask ∷ [] else [])) all.4 ∙ front_first all.1 first all.2 (if is_handed then ask ∷ [] else []),
    prepares_more asks all.2 all.0 all.5,
  )

sent_more : (peers : List Peer) (handed : List BlockAsk) (ask : BlockAsk) (is_handed : Bool) → All (HasSent peers) handed
    → (is_handed ≡ true → HasSent peers ask) → All (HasSent peers) (handed ++ (if is_handed then ask ∷ [] else []))
sent_more peers handed ask true all sent = All-push (HasSent peers) handed ask all (sent refl)
sent_more peers handed ask false all sent = subst (All (HasSent peers)) (sym (append-nil handed)) all

module _ {D G R P : Type 0} (d : DiskGhosts D) (g : SignerGhosts G) (draws : DrawGhosts R) (peers : DrawGhosts P) (first : P) (group : Name)
    (old : View D G R) where
  -- these lines were prepared so far, and these of them are handed on
  pub record ArePrepared (asks handed : List BlockAsk) (now : View D G R) (next : P) : Type 0 where
    pub reaches : Reaches d draws (PreparesAll d g (keys_of draws old (peers.block_at first) group) asks handed) old now
    pub sent : All (HasSent now.members.all) handed
    pub goes_on : GoesOn draws old.server now.server
    pub place : peers.place_of next ≡ now.members.place
    pub blocks : (k : ℕ) → peers.block_at next k ≡ peers.block_at first k
    pub rules : now.server.rules ≡ old.server.rules
    pub mail : now.members.mail ≡ old.members.mail

  -- none of them
  pub none_prepared : {handed : List BlockAsk} → handed ≡ [] → peers.place_of first ≡ old.members.place → ArePrepared [] handed old first
  none_prepared {handed} none place = record {
    reaches = λ point at. (point, (none, refl), at);
    sent = subst (All (HasSent old.members.all)) (sym none) (All-nil (HasSent old.members.all));
    goes_on = record { signer = refl; blocks = λ k. refl };
    place = place;
    blocks = λ k. refl;
    rules = refl;
    mail = refl;
  }

  -- by the same lists
  pub prepared_as : {asks front handed list : List BlockAsk} {now : View D G R} {next : P} → front ≡ asks → list ≡ handed → ArePrepared asks handed now next
      → ArePrepared front list now next
  prepared_as {now = now} {next = next} front list are =
      subst (λ (lists : List BlockAsk × List BlockAsk). ArePrepared lists.0 lists.1 now next) (λ i. (sym front i, sym list i)) are

  -- memory ran out before the first one
  pub stops_at_once : (asks : List BlockAsk) → ReachesServed d draws (StopsInLines d g (keys_of draws old (peers.block_at first) group) asks) old old
  stops_at_once asks point at = (
    point,
    record {
      front = [];
      later = asks;
      are = refl;
      handed = [];
      ready = point;
      prepares = (refl, refl);
      last = stops_next d g (keys_of draws old (peers.block_at first) group) asks refl;
    },
    at.served,
  )

  module _ {asks handed : List BlockAsk} {mid : View D G R} {middle : P} (was : ArePrepared asks handed mid middle) where
    -- keys are made with the same
    same_keys : keys_of draws mid (peers.block_at middle) group ≡ keys_of draws old (peers.block_at first) group
    same_keys i = keying (was.goes_on.signer i) (λ k. was.goes_on.blocks k i) (λ k. was.blocks k i) group

    -- one more
    pub one_more_prepared : (ask : BlockAsk) (is_handed : Bool) {new : View D G R} {next : P}
        → Reaches d draws (λ old new. Prepares d g (keys_of draws mid (peers.block_at middle) group) ask old new is_handed) mid new
        → (is_handed ≡ true → HasSent new.members.all ask) → KeepsSent mid.members.all new.members.all → GoesOn draws mid.server new.server
        → peers.place_of next ≡ new.members.place → ((k : ℕ) → peers.block_at next k ≡ peers.block_at middle k)
        → new.server.rules ≡ mid.server.rules → new.members.mail ≡ mid.members.mail
        → ArePrepared (asks ++ ask ∷ []) (handed ++ (if is_handed then ask ∷ [] else [])) new next
    one_more_prepared ask is_handed {new} {next} reaches sent keeps goes_on place blocks rules mail = record {
      reaches = λ point at.
          let so_far = was.reaches point at in
          let made = reaches so_far.0 so_far.2 in (
            made.0,
            prepares_more d g (keys_of draws old (peers.block_at first) group) so_far.0 made.0 ask is_handed
                (subst (λ (by : Keying G). Prepares d g by ask so_far.0 made.0 is_handed) same_keys made.1) asks handed point so_far.1,
            made.2,
          );
      sent = sent_more new.members.all handed ask is_handed (all_sent_still keeps handed was.sent) sent;
      goes_on = record { signer = goes_on.signer ∙ was.goes_on.signer; blocks = λ k. goes_on.blocks k ∙ was.goes_on.blocks k };
      place = place;
      blocks = λ k. blocks k ∙ was.blocks k;
      rules = rules ∙ was.rules;
      mail = mail ∙ was.mail;
    }

    -- memory ran out for the next one
    pub stops_later : (ask : BlockAsk) (later : List BlockAsk) {all : List BlockAsk} {new : View D G R} → all ≡ asks ++ ask ∷ later
        → ReachesServed d draws (StopsInOne d g (keys_of draws mid (peers.block_at middle) group) ask) mid new
        → ReachesServed d draws (StopsInLines d g (keys_of draws old (peers.block_at first) group) all) old new
    stops_later ask later are stops point at =
        let so_far = was.reaches point at in
        let made = stops so_far.0 so_far.2 in (
          made.0,
          record {
            front = asks;
            later = ask ∷ later;
            are = are;
            handed = handed;
            ready = so_far.0;
            prepares = so_far.1;
            last = subst (λ (by : Keying G). StopsInOne d g by ask so_far.0 made.0) same_keys made.1;
          },
          made.2,
        )
