-- Members read one datagram after the other, and then what came meanwhile, until nothing is on its way.
use Rattle.std.proofs.Common.{◌≡◌, ◌∙◌, ◌⊎◌, ⊎_elim, inl, inr, ℕ, zero, suc, ◌+◌, ◌≤◌, Bool, true, false, MatchBool, List, [], ◌∷◌, ◌++◌, length, drop, map, Option, None, Some, refl, sym, ap, subst, arith, true≢false}
use Rattle.std.proofs.lemmas.Option.{none-some, same_Some}
use Rattle.gd_disk.specs.declared.disks.Disk.{Ghosts as DiskGhosts}
use Rattle.gd_edges.specs.declared.draws.Draws.{Ghosts as DrawGhosts}
use Rattle.gd_edges.specs.declared.signers.Signer.{Ghosts as SignerGhosts}
use Rattle.group_terms.specs.Names.{Name}
use Rattle.group_model.specs.Answers.{ran_out}
use Rattle.group_model.specs.declared.entries.Asked.{Asked}
use Rattle.group_model.specs.declared.entries.Asked.TheVariants.{Keep, Serve}
use Rattle.group_model.specs.declared.entries.Entry.{Entry}
use Rattle.group_steps.specs.Devices.{Keying}
use Rattle.group_steps.specs.Runs.{with_members}
use Rattle.group_steps.specs.Steps.{IsActing, IsStepBy}
use Rattle.member_pull.specs.Views.{Pull}
use Rattle.member_pull.specs.declared.pulls.Step.{Step}
use Rattle.member_pull.specs.declared.pulls.Step.TheVariants as steps
use Rattle.member_steps.specs.Acts.{Agrees, Ignore, Ignores}
use Rattle.member_steps.specs.Members.{Mail, Members}
use Rattle.member_steps.specs.Steps.{IsKeeping}
use Rattle.server_steps.specs.Reflects.{IsServerOf}
use Rattle.server_steps.specs.Serves.{GoesOn}
use Rattle.server_steps.specs.Views.{View as ServerView}
use Rattle.group_run.specs.Blocks.{Left, Point, Reads, ReadsOne, at_present, marked}
use Rattle.group_run.specs.Places.{IsAt, IsServedAt, Reaches, ReachesServed, keys_of}
use Rattle.group_run.specs.Private.Afters.{HaveReadLefts, ReadsAll, StopsInReads, mails_of, owns_of}
use Rattle.group_run.specs.Private.Lefts.{lefts_at}
use Rattle.group_run.specs.Private.Places.{ReachesPast, ReachesServedFrom}
use Rattle.group_run.specs.declared.lefts.LeftAt.{LeftAt}
use Rattle.group_run.specs.Reads.{Ask, AsksAt, AsksBy, AsksOf}
use Rattle.group_run.specs.Stays.{RulesStay}
use Rattle.group_run.specs.Tells.{AllIsRead, HasReadSome, KeepsNext, SendsNext}
use Rattle.group_run.specs.Views.{View}
use Rattle.group_run.proofs.ReachLemmas.{goes_then, same_keys}

-- ---- lists

abbrev no_marks : List Bool
no_marks = []

pub drop_none : (n : ℕ) → drop n no_marks ≡ no_marks
drop_none zero = refl
drop_none (suc n) = refl

pub drop_next : {A : Type 0} (n : ℕ) (xs : List A) → drop (suc n) xs ≡ drop n (drop 1 xs)
drop_next zero xs = refl
drop_next (suc n) [] = refl
drop_next (suc n) (x ∷ xs) = refl

-- ---- which datagram comes next

abbrev serves_what : Asked → Name × List ℕ
serves_what (Serve m datagram) = (m, datagram)
serves_what asked = ([], [])

abbrev is_serve : Asked → Bool
is_serve (Serve m datagram) = true
is_serve asked = false

not_serve : {m other : Name} {third : List ℕ} {P : Type 0} → Keep m ≡ Serve other third → P
not_serve same = absurd (true≢false (sym (ap is_serve same)))

module _ (read : Members) where
  module _ (m : Name) (third : List ℕ) (acted : Members) where
    abbrev asks_that : Option Ask
    asks_that = Some (Serve m third, acted)

    agrees_at : (step : Step) (by : Name) → AsksAt step by read asks_that → Agrees m third read acted
    agrees_at (steps.Second iv) by asks =
        let same : (Serve by asks.0, asks.1) ≡ (Serve m third, acted) = sym (same_Some (Serve m third, acted) (Serve by asks.0, asks.1) asks.3) in
        subst (λ (ask : Ask). Agrees (serves_what ask.0).0 (serves_what ask.0).1 read ask.1) same asks.2
    agrees_at (steps.Fourth iv nr spi) by asks =
        not_serve (ap (λ (ask : Ask). ask.0) (sym (same_Some (Serve m third, acted) (Keep by, read) asks.3)))
    agrees_at steps.Ended by asks = absurd asks

    agrees_by : (pull : Option Pull) (by : Name) → AsksBy pull by read asks_that → Agrees m third read acted
    agrees_by None by asks = absurd asks
    agrees_by (Some pull) by asks = agrees_at pull.step by asks

    pub agrees_of : (mail : List Mail) → AsksOf mail read asks_that → Agrees m third read acted
    agrees_of [] none = absurd (none-some (Serve m third, acted) (sym none))
    agrees_of (mail ∷ later) asks =
        elim asks.peer.loses as (λ b. MatchBool b (asks_that ≡ Some (Keep mail.0, read)) (AsksBy asks.peer.pull mail.0 read asks_that) → Agrees m third read acted) [
          | true ↦ λ missing. not_serve (ap (λ (ask : Ask). ask.0) (sym (same_Some (Serve m third, acted) (Keep mail.0, read) missing)))
          | false ↦ λ comes. agrees_by asks.peer.pull mail.0 comes
        ] asks.is

  module _ (m : Name) (acted : Members) where
    abbrev asks_keep : Option Ask
    asks_keep = Some (Keep m, acted)

    kept_at : (step : Step) (by : Name) → AsksAt step by read asks_keep → acted ≡ read
    kept_at (steps.Second iv) by asks = not_serve (ap (λ (ask : Ask). ask.0) (same_Some (Keep m, acted) (Serve by asks.0, asks.1) asks.3))
    kept_at (steps.Fourth iv nr spi) by asks = ap (λ (ask : Ask). ask.1) (same_Some (Keep m, acted) (Keep by, read) asks.3)
    kept_at steps.Ended by asks = absurd asks

    kept_by : (pull : Option Pull) (by : Name) → AsksBy pull by read asks_keep → acted ≡ read
    kept_by None by asks = absurd asks
    kept_by (Some pull) by asks = kept_at pull.step by asks

    pub kept_of : (mail : List Mail) → AsksOf mail read asks_keep → acted ≡ read
    kept_of [] none = absurd (none-some (Keep m, acted) (sym none))
    kept_of (mail ∷ later) asks =
        elim asks.peer.loses as (λ b. MatchBool b (asks_keep ≡ Some (Keep mail.0, read)) (AsksBy asks.peer.pull mail.0 read asks_keep) → acted ≡ read) [
          | true ↦ λ missing. ap (λ (ask : Ask). ask.1) (same_Some (Keep m, acted) (Keep mail.0, read) missing)
          | false ↦ λ comes. kept_by asks.peer.pull mail.0 comes
        ] asks.is

-- ---- one after the other

module _ {D G : Type 0} (d : DiskGhosts D) (g : SignerGhosts G) (by : Keying G) where
  -- one more
  pub reads_more : (n : ℕ) (marks : List Bool) (old mid new : Point D) → Reads d g by n marks old mid
      → ReadsOne d g by false (marked (drop n marks) mid.present) mid new → Reads d g by (suc n) marks old new
  reads_more zero marks old mid new same one = (new, subst (λ (at : Point D). ReadsOne d g by false (marked marks at.present) at new) same one, refl)
  reads_more (suc n) marks old mid new reads one = (
    reads.0,
    reads.1,
    reads_more n (drop 1 marks) reads.0 mid new reads.2
        (subst (λ (left : List Bool). ReadsOne d g by false (marked left mid.present) mid new) (drop_next n marks) one),
  )

  -- then those that no mark is for
  pub reads_then : (n m : ℕ) (marks : List Bool) (old mid new : Point D) → length marks ≤ n → Reads d g by n marks old mid → Reads d g by m [] mid new
      → Reads d g by (n + m) marks old new
  reads_then zero m marks old mid new none same later =
      subst (λ (k : ℕ). Reads d g by k marks old new) plus
      (subst (λ (at : Point D). Reads d g by m marks at new) same
      (subst (λ (left : List Bool). Reads d g by m left mid new) (sym (none_left marks none)) later))
    where
      plus : m ≡ zero + m
      plus = omega arith

      none_left : (marks : List Bool) → length marks ≤ zero → marks ≡ []
      none_left [] none = refl
      none_left (mark ∷ marks) none = absurd (omega arith)
  reads_then (suc n) m marks old mid new few reads later =
      let all : Reads d g by (suc (n + m)) marks old new =
      (reads.0, reads.1, reads_then n m (drop 1 marks) reads.0 mid new (fewer marks few) reads.2 later) in
      subst (λ (k : ℕ). Reads d g by k marks old new) plus all
    where
      plus : suc (n + m) ≡ suc n + m
      plus = omega arith

      fewer : (marks : List Bool) → length marks ≤ suc n → length (drop 1 marks) ≤ n
      fewer [] few = omega arith
      fewer (mark ∷ marks) few = omega arith

  -- those that members ignore
  pub reads_ignored_all : (n : ℕ) (read : Members) (point : Point D) → Ignore n point.present read → Reads d g by n [] point (at_present point read)
  reads_ignored_all zero read point same = λ i. at_present point (same i)
  reads_ignored_all (suc n) read point ignores = (
    at_present point ignores.0,
    inl (ignores.0, ignores.1, refl),
    reads_ignored_all n read (at_present point ignores.0) ignores.2,
  )

  -- where memory ran out after the datagrams that were marked
  pub stops_then : (n : ℕ) (marks : List Bool) (old mid new : Point D) → length marks ≤ n → Reads d g by n marks old mid
      → StopsInReads d g by [] mid new → StopsInReads d g by marks old new
  stops_then n marks old mid new few reads stops = record {
    count = n + stops.count;
    mid = stops.mid;
    reads = reads_then n stops.count marks old mid stops.mid few reads stops.reads;
    last = subst (λ (left : List Bool). (new ≡ stops.mid) ⊎ ReadsOne d g by true (marked left stops.mid.present) stops.mid new)
        (drop_none stops.count ∙ sym (none_left (n + stops.count) marks (omega (arith, few)))) stops.last;
  }
    where
      none_left : (k : ℕ) (marks : List Bool) → length marks ≤ k → drop k marks ≡ []
      none_left zero [] less = refl
      none_left zero (mark ∷ marks) less = absurd (omega arith)
      none_left (suc k) [] less = refl
      none_left (suc k) (mark ∷ marks) less = none_left k marks (omega arith)

-- the server is the same
pub same_goes : {D G R : Type 0} (draws : DrawGhosts R) {old new : ServerView D G R} → new ≡ old → GoesOn draws old new
same_goes {D} {G} {R} draws is = record {
  signer = ap (λ (server : ServerView D G R). server.core.signer) is;
  blocks = λ k. ap (λ (server : ServerView D G R). draws.block_at server.core.draws k) is;
}

module _ {D G R : Type 0} (d : DiskGhosts D) (g : SignerGhosts G) (draws : DrawGhosts R) where
  -- ---- the next one

  -- Members ignored some, and one was not ignored; memory ran out for it, or not. Then they ignored some more.
  pub record ReadsNext (by : Keying G) (out : Bool) (point : Point D) (new : View D G R) : Type 0 where
    pub count : ℕ
    pub mid : Point D
    pub reads : Reads d g by count [] point mid
    pub next : Point D
    pub one : ReadsOne d g by out mid.present mid next
    pub served : IsServedAt d draws new next
    pub ignores : Ignores next.present new.members

  -- whichever of the two it was, by its entry
  pub record GoesNext (old new : View D G R) : Type 0 where
    pub entry : Entry
    pub added : new.entries ≡ old.entries ++ entry ∷ []
    pub goes_on : GoesOn draws old.server new.server
    pub next : (out : Bool) → ran_out entry.answer ≡ out → (block : ℕ → List ℕ) (group : Name) (point : Point D) → IsAt d draws old point
        → ReadsNext (keys_of draws old block group) out point new

  sends_so : {old new : View D G R} → SendsNext d g draws old new → GoesNext old new
  sends_so {old} {new} sends = record {
    entry = sends.serves.entry;
    added = sends.serves.added;
    goes_on = sends.serves.goes_on;
    next = λ out memory block group point at.
        let read = sends.asks.0 in
        let ignores = sends.asks.1 in
        let made = sends.serves.each (with_members point.run point.present) (record { server = at.served.server; members = (0, sym at.present) }) in
        record {
          count = ignores.0;
          mid = at_present point read;
          reads = reads_ignored_all d g (keys_of draws old block group) ignores.0 read point
              (subst (λ (members : Members). Ignore ignores.0 members read) (sym at.present) ignores.1);
          next = record { entries = new.entries; run = made.0; present = made.0.members };
          one = inr (inl (
            sends.m,
            sends.third,
            sends.acted,
            agrees_of read sends.m sends.third sends.acted read.mail sends.asks.2,
            record {
              entry = sends.serves.entry;
              added = sends.serves.added ∙ ap (λ (before : List Entry). before ++ sends.serves.entry ∷ []) at.served.entries;
              asked = sends.serves.asked;
              stepped = made.1;
              present = refl;
              memory = memory;
            },
          ));
          served = record { entries = refl; server = made.2.server };
          ignores = made.2.members;
        };
  }

  keeps_so : {old new : View D G R} → KeepsNext d g draws old new → GoesNext old new
  keeps_so {old} {new} keeps = record {
    entry = keeps.acts.entry;
    added = keeps.acts.added;
    goes_on = keeps.acts.goes_on;
    next = λ out memory block group point at.
        let read = keeps.asks.0 in
        let ignores = keeps.asks.1 in
        let made = keeps.acts.each (with_members point.run point.present) (record { server = at.served.server; members = (0, sym at.present) }) in
        let same : keeps.acted ≡ read = kept_of read keeps.m keeps.acted read.mail keeps.asks.2 in
        record {
          count = ignores.0;
          mid = at_present point read;
          reads = reads_ignored_all d g (keys_of draws old block group) ignores.0 read point
              (subst (λ (members : Members). Ignore ignores.0 members read) (sym at.present) ignores.1);
          next = record { entries = new.entries; run = made.0; present = made.0.members };
          one = inr (inr (
            keeps.m,
            record {
              entry = keeps.acts.entry;
              added = keeps.acts.added ∙ ap (λ (before : List Entry). before ++ keeps.acts.entry ∷ []) at.served.entries;
              asked = keeps.acts.asked;
              stepped = subst (λ (acted : Members). IsStepBy d (IsActing (IsKeeping keeps.m)) (with_members point.run acted) keeps.acts.entry made.0) same made.1;
              present = refl;
              memory = memory;
            },
          ));
          served = record { entries = refl; server = made.2.server };
          ignores = made.2.members;
        };
  }

  pub goes_next : {old new : View D G R} → SendsNext d g draws old new ⊎ KeepsNext d g draws old new → GoesNext old new
  goes_next {old} {new} next = ⊎_elim (λ (sends : SendsNext d g draws old new). sends_so sends) (λ (keeps : KeepsNext d g draws old new). keeps_so keeps) next

  -- ---- until nothing is on its way

  -- so many, none of which is marked
  pub record HasRead (by : Keying G) (old new : Point D) : Type 0 where
    pub count : ℕ
    pub reads : Reads d g by count [] old new

  -- what was read so far
  pub record IsGoing (start now : View D G R) : Type 0 where
    pub goes_on : GoesOn draws start.server now.server
    pub stays : RulesStay start now
    pub reads : (block : ℕ → List ℕ) (group : Name) → Reaches d draws (HasRead (keys_of draws start block group)) start now

  pub going_begins : (start : View D G R) → IsGoing start start
  going_begins start = record {
    goes_on = record { signer = refl; blocks = λ k. refl };
    stays = record { rules = refl; place = refl };
    reads = λ block group point at. (point, record { count = 0; reads = refl }, at);
  }

  module _ (start mid new : View D G R) (going : IsGoing start mid) where
    pub rules_then : RulesStay mid new → RulesStay start new
    rules_then stays = record { rules = stays.rules ∙ going.stays.rules; place = stays.place ∙ going.stays.place }

    next_by : (next : GoesNext mid new) (out : Bool) → ran_out next.entry.answer ≡ out → (block : ℕ → List ℕ) (group : Name) (point : Point D)
        → IsAt d draws mid point → ReadsNext (keys_of draws start block group) out point new
    next_by next out memory block group point at =
        subst (λ (by : Keying G). ReadsNext by out point new) (same_keys draws start mid going.goes_on block group) (next.next out memory block group point at)

    pub going_more : (next : GoesNext mid new) → ran_out next.entry.answer ≡ false → RulesStay mid new → IsGoing start new
    going_more next memory stays = record {
      goes_on = goes_then draws going.goes_on next.goes_on;
      stays = rules_then stays;
      reads = λ block group point at.
          let by = keys_of draws start block group in
          let made = going.reads block group point at in
          let one = next_by next false memory block group made.0 made.2 in
          let ended = at_present one.next new.members in (
            ended,
            record {
              count = made.1.count + (suc one.count + one.ignores.0);
              reads = reads_then d g by made.1.count (suc one.count + one.ignores.0) [] point made.0 ended (omega arith) made.1.reads
                  (reads_then d g by (suc one.count) one.ignores.0 [] made.0 one.next ended (omega arith)
                  (reads_more d g by one.count [] made.0 one.mid one.next one.reads
                  (subst (λ (left : List Bool). ReadsOne d g by false (marked left one.mid.present) one.mid one.next) (sym (drop_none one.count)) one.one))
                  (reads_ignored_all d g by one.ignores.0 new.members one.next one.ignores.1));
            },
            record { served = record { entries = one.served.entries; server = one.served.server }; present = refl },
          );
    }

    -- memory ran out with the next one
    pub going_stops : (next : GoesNext mid new) → ran_out next.entry.answer ≡ true → (block : ℕ → List ℕ) (group : Name)
        → ReachesServed d draws (StopsInReads d g (keys_of draws start block group) []) start new
    going_stops next memory block group point at =
        let by = keys_of draws start block group in
        let made = going.reads block group point at in
        let one = next_by next true memory block group made.0 made.2 in (
          one.next,
          record {
            count = made.1.count + one.count;
            mid = one.mid;
            reads = reads_then d g by made.1.count one.count [] point made.0 one.mid (omega arith) made.1.reads one.reads;
            last = inr (subst (λ (left : List Bool). ReadsOne d g by true (marked left one.mid.present) one.mid one.next)
                (sym (drop_none (made.1.count + one.count))) one.one);
          },
          one.served,
        )

    -- or before it
    pub going_short : HasReadSome mid new → (block : ℕ → List ℕ) (group : Name)
        → ReachesServed d draws (StopsInReads d g (keys_of draws start block group) []) start new
    going_short some block group point at =
        let made = going.reads block group point at in (
          made.0,
          record { count = made.1.count; mid = made.0; reads = made.1.reads; last = inl refl },
          record {
            entries = some.entries ∙ made.2.served.entries;
            server = subst (λ server. IsServerOf d draws server made.0.run.host) (sym some.server) made.2.served.server;
          },
        )

    pub going_ends : AllIsRead d g draws mid new → (block : ℕ → List ℕ) (group : Name)
        → Reaches d draws (ReadsAll d g (keys_of draws start block group)) start new
    going_ends all block group point at =
        let by = keys_of draws start block group in
        let made = going.reads block group point at in
        let ignores = all.at_rest.0 in
        let ended = at_present made.0 all.rest in (
          ended,
          record {
            count = made.1.count + ignores.0;
            reads = reads_then d g by made.1.count ignores.0 [] point made.0 ended (omega arith) made.1.reads
                (reads_ignored_all d g by ignores.0 all.rest made.0
                (subst (λ (members : Members). Ignore ignores.0 members all.rest) (sym made.2.present) ignores.1));
            all_read = all.at_rest.1;
          },
          subst (λ (held : View D G R). IsAt d draws held ended) (sym all.now) (record {
            served = record { entries = made.2.served.entries; server = made.2.served.server };
            present = refl;
          }),
        )

  -- ---- what turns left, and then what came meanwhile

  -- so many, of which these are marked, and nothing is on its way then
  pub record ReadsWhole (by : Keying G) (marks : List Bool) (old new : Point D) : Type 0 where
    pub count : ℕ
    pub reads : Reads d g by count marks old new
    pub all_read : new.present.mail ≡ []

  module _ (places : List LeftAt) (old mid new : View D G R) (left : HaveReadLefts d g draws places old mid) (goes : GoesOn draws old.server mid.server)
      (lefts : List Left) (block : ℕ → List ℕ) (group : Name) (there : lefts_at old.entries places ≡ map Some lefts) where
    abbrev keys : Keying G
    keys = keys_of draws old block group

    enough : (lefts : List Left) → length (owns_of lefts) ≤ length lefts
    enough [] = omega arith
    enough (one ∷ lefts) = omega (arith, enough lefts)

    pub reads_whole : Reaches d draws (ReadsAll d g (keys_of draws mid block group)) mid new
        → ReachesPast d draws (mails_of lefts) (ReadsWhole keys (owns_of lefts)) old new
    reads_whole rest point at =
        let first = left.reads lefts block group there point at in
        let second = rest first.0 first.2 in
        let more : ReadsAll d g keys first.0 second.0 =
        subst (λ (by : Keying G). ReadsAll d g by first.0 second.0) (same_keys draws old mid goes block group) second.1 in (
          second.0,
          record {
            count = length lefts + more.count;
            reads = reads_then d g keys (length lefts) more.count (owns_of lefts) point first.0 second.0 (enough lefts) first.1 more.reads;
            all_read = more.all_read;
          },
          second.2,
        )

    pub stops_whole : ReachesServed d draws (StopsInReads d g (keys_of draws mid block group) []) mid new
        → ReachesServedFrom d draws (mails_of lefts) (StopsInReads d g keys (owns_of lefts)) old new
    stops_whole rest point at =
        let first = left.reads lefts block group there point at in
        let second = rest first.0 first.2 in (
          second.0,
          stops_then d g keys (length lefts) (owns_of lefts) point first.0 second.0 (enough lefts) first.1
              (subst (λ (by : Keying G). StopsInReads d g by [] first.0 second.0) (same_keys draws old mid goes block group) second.1),
          second.2,
        )
