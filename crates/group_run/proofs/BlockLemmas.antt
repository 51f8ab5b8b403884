-- The parts of a block, put together.
use Rattle.std.proofs.Common.{◌≡◌, ◌∙◌, ◌⊎◌, inl, inr, ⊎_elim, ℕ, ◌≤◌, Bool, true, false, List, [], ◌++◌, drop, refl, sym, ap, subst}
use Rattle.gd_disk.specs.declared.disks.Disk.{Ghosts as DiskGhosts}
use Rattle.gd_edges.specs.declared.draws.Draws.{Ghosts as DrawGhosts}
use Rattle.gd_edges.specs.declared.signers.Signer.{Ghosts as SignerGhosts}
use Rattle.group_terms.specs.Names.{Name}
use Rattle.group_model.specs.declared.entries.Entry.{Entry}
use Rattle.group_model.specs.declared.entries.Asked.TheVariants.{Together2}
use Rattle.group_run.specs.Blocks.{Finishes, Marks, Point, Reads, ReadsOne, StopsAfter, TakesTurns, marked, marks_of}
use Rattle.group_run.specs.Places.{IsAt, IsServedAt, keys_of}
use Rattle.group_run.specs.Private.Begun.{CanRun, Ends, StopsEnding, StopsLookingFrom, StopsPast, StopsReadingFrom}
use Rattle.group_run.specs.Private.Ran.{HasTurned, HaveWorked}
use Rattle.group_run.specs.Views.{View}
use Rattle.group_run.proofs.TurnLemmas.{turns_are_steps}
use Rattle.group_steps.specs.Devices.{Keying}
use Rattle.member_steps.specs.Members.{Members}
use Rattle.register_workers.specs.Blocks.{Worked}
use Rattle.register_workers.specs.Own.{LinesHaveOwnTurns}
use Rattle.register_workers.specs.declared.lines.BlockAsk.{BlockAsk}
use Rattle.register_workers.specs.declared.lines.BlockLine.{BlockLine}
use Rattle.server_steps.specs.Reflects.{IsServerOf}

module _ {D G R : Type 0} (d : DiskGhosts D) (g : SignerGhosts G) (draws : DrawGhosts R) (own : LinesHaveOwnTurns) (block : ℕ → List ℕ) (group : Name) where
  -- the place after the turns, where workers ran the lines
  pub record IsAfterTurns (workers : ℕ) (handed : List BlockAsk) (short : Bool) (turns : List Entry) (news : List BlockLine) (keys : Keying G)
      (ready : Point D) (new : View D G R) : Type 0 where
    pub ran : Point D
    pub takes : TakesTurns d g keys workers handed short turns news ready ran
    pub served : IsServedAt d draws new ran

  pub after_turns : {workers : ℕ} {short ran : Bool} {lines news : List BlockLine} {old new : View D G R} {before : Members} {handed : List BlockAsk} → 1 ≤ workers
      → (turned : HasTurned d g draws workers short ran lines news old new) → HaveWorked workers old.entries turned.since.news short lines news
      → CanRun before handed lines → before.mail ≡ [] → (ready : Point D) → IsServedAt d draws old ready → ready.present ≡ before
      → IsAfterTurns workers handed short turned.since.news news (keys_of draws old block group) ready new
  after_turns {workers} {short} {ran} {lines} {news} {old} {new} {before} {handed} some turned worked can none ready served is =
      let turns = turned.since.news in
      let keys = keys_of draws old block group in
      let next = turned.since.each ready.run.host served.server in
      let same : old.entries ≡ ready.entries = served.entries in
      let have = own short workers old.entries turns lines news worked.calls some can.apart worked.as_many worked.a_list_each worked.are_calls worked.worked in
      let of = turns_are_steps d g keys before none can.once handed lines news can.handed_over worked.as_many short turns ready.entries have ready.run.host next.0 next.1 in
      let ran : Point D = record { entries = ready.entries ++ turns; run = of.mid; present = of.acted } in
      record {
        ran = ran;
        takes = subst (λ present. TakesTurns d g keys workers handed short turns news (record ready { present = present }) ran) (sym is) (record {
          lines = lines;
          handed = can.handed_over;
          as_many = worked.as_many;
          calls = worked.calls;
          a_list_each = worked.a_list_each;
          are_calls = worked.are_calls;
          worked = λ w less. subst (λ entries. Worked short entries (entries ++ turns) workers w lines news worked.calls) same (worked.worked w less);
          entries = refl;
          steps = of.steps;
          acts = of.acts;
          back = of.back;
        });
        served = record {
          entries = turned.since.history ∙ ap (λ entries. entries ++ turns) same;
          server = subst (IsServerOf d draws new.server) (sym of.is_after) next.2;
        };
      }

-- ---- what follows the turns

module _ {D G R : Type 0} (d : DiskGhosts D) (g : SignerGhosts G) (draws : DrawGhosts R) (keys : Keying G) (workers : ℕ) (asks handed : List BlockAsk)
    (turns : List Entry) (news : List BlockLine) (before : Members) (ready ran : Point D) (is : ready.present ≡ before) where
  -- the block was ended
  pub finishes : (short : Bool) → short ≡ false → TakesTurns d g keys workers handed short turns news ready ran → {new : View D G R}
      → Ends d g draws keys turns news before ran new → (next : Point D) × Finishes d g keys workers asks handed ready next × IsAt d draws new next
  finishes short had takes ends = (
    ends.next,
    record {
      turns = turns;
      news = news;
      ended = ends.ended;
      has_run = record {
        ran = ran;
        takes = subst (λ short. TakesTurns d g keys workers handed short turns news ready ran) had takes;
        ends = ends.ends;
      };
      count = ends.count;
      rest = ends.rest;
      reads = subst (λ present. Reads d g keys ends.count (marks_of present turns) ends.ended ends.rest) (sym is) ends.reads;
      all_read = ends.all_read;
      looks = ends.looks;
    },
    ends.is_at,
  )

  -- or memory ran out
  pub stops_past : TakesTurns d g keys workers handed false turns news ready ran → (next : Point D) → StopsPast d g draws keys turns news before ran next
      → StopsAfter d g keys workers asks handed ready next
  stops_past takes next past =
      ⊎_elim
      (λ (reading : StopsReadingFrom d g draws keys turns before past.ended next). inr (inl (record {
        turns = turns;
        news = news;
        ended = past.ended;
        has_run = record { ran = ran; takes = takes; ends = past.ends };
        count = reading.count;
        mid = reading.mid;
        reads = subst (λ present. Reads d g keys reading.count (marks_of present turns) past.ended reading.mid) (sym is) reading.reads;
        last = subst (λ present. (next ≡ reading.mid)
            ⊎ ReadsOne d g keys true (marked (drop reading.count (marks_of present turns)) reading.mid.present) reading.mid next) (sym is) reading.last;
      })))
      (λ (looking : StopsLookingFrom d g draws keys turns news before past.ended next). inr (inr (record {
        turns = turns;
        news = news;
        ended = past.ended;
        has_run = record { ran = ran; takes = takes; ends = past.ends };
        count = looking.count;
        rest = looking.rest;
        reads = subst (λ present. Reads d g keys looking.count (marks_of present turns) past.ended looking.rest) (sym is) looking.reads;
        all_read = looking.all_read;
        front = looking.front;
        later = looking.later;
        are = looking.are;
        looks = looking.looks;
      })))
      past.stops

  pub stops_after : (short : Bool) → TakesTurns d g keys workers handed short turns news ready ran → {new : View D G R}
      → StopsEnding d g draws keys turns news before short ran new
      → (next : Point D) × ((next ≡ ready) ⊎ StopsAfter d g keys workers asks handed ready next) × IsServedAt d draws new next
  stops_after short takes {new} stops = (
    stops.next,
    inr (⊎_elim (λ (same : stops.next ≡ ran).
        inl (record { short = short; turns = turns; news = news; ran = ran; takes = takes; last = inl same }))
        (⊎_elim (λ (marks : Marks d Together2 ran stops.next).
        inl (record { short = short; turns = turns; news = news; ran = ran; takes = takes; last = inr marks }))
        (λ (past : (short ≡ false) × StopsPast d g draws keys turns news before ran stops.next).
        stops_past (subst (λ short. TakesTurns d g keys workers handed short turns news ready ran) past.0 takes) stops.next past.1)) stops.stops),
    stops.is_at,
  )
