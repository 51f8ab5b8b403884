-- A block between its parts, whose members have lent what they have to its lines.
use Rattle.std.specs.Prelude.{◌≡◌, ◌⊎◌, ℕ, Bool, true, false, List, [], ◌++◌, All, drop}
use Rattle.gd_disk.specs.declared.disks.Disk.{Ghosts as DiskGhosts}
use Rattle.gd_edges.specs.declared.draws.Draws.{Ghosts as DrawGhosts}
use Rattle.gd_edges.specs.declared.signers.Signer.{Ghosts as SignerGhosts}
use Rattle.epoch_board.specs.declared.pairs.Seen.{Seen}
use Rattle.group_model.specs.declared.entries.Asked.TheVariants.{Together2}
use Rattle.group_model.specs.declared.entries.Entry.{Entry}
use Rattle.group_peers.specs.Peers.{AreOnce}
use Rattle.group_run.specs.Blocks.{AreHanded, HasBegun, LooksAll, Marks, Point, Reads, ReadsOne, marked, marks_of, seen_in}
use Rattle.group_run.specs.Private.Lendings.{all_lending}
use Rattle.group_run.specs.Places.{IsAt, IsServedAt}
use Rattle.group_run.specs.Private.Ran.{IsOfPeer}
use Rattle.group_run.specs.Views.{View}
use Rattle.group_steps.specs.Devices.{Keying}
use Rattle.member_steps.specs.Members.{Members, with_all}
use Rattle.register_workers.specs.Lines.{IsReady}
use Rattle.register_workers.specs.Own.{AreApart}
use Rattle.register_workers.specs.declared.lines.BlockAsk.{BlockAsk}
use Rattle.register_workers.specs.declared.lines.BlockLine.{BlockLine}

-- lines that workers may run, whose members are these
pub record CanRun (members : Members) (handed : List BlockAsk) (lines : List BlockLine) : Type 0 where
  pub handed_over : AreHanded members handed lines
  pub ready : All IsReady lines
  pub apart : AreApart lines
  pub of_peers : All (λ (line : BlockLine). IsOfPeer members.all line.asked) lines
  pub once : AreOnce members.all

-- members without what they lent to lines that ask this
abbrev pub lent : List BlockAsk → Members → Members
lent handed members = with_all members (all_lending handed members.all)

module _ {D G R : Type 0} (d : DiskGhosts D) (g : SignerGhosts G) (draws : DrawGhosts R) where
  -- a block was begun, and its lines have what their members lent
  pub record HasHanded (keys : Keying G) (workers : ℕ) (asks : List BlockAsk) (lines : List BlockLine) (old new : View D G R) : Type 0 where
    pub handed : List BlockAsk
    pub before : Members
    pub can : CanRun before handed lines
    pub members : new.members ≡ lent handed before
    pub each : (point : Point D) → IsAt d draws old point
        → (ready : Point D) × HasBegun d g keys workers asks handed point ready × IsServedAt d draws new ready × (ready.present ≡ before)

-- lines that workers may run on members who lent to them what they have, and to whom nothing is on its way
pub record CanRunOn (lines : List BlockLine) (members : Members) : Type 0 where
  pub handed : List BlockAsk
  pub before : Members
  pub can : CanRun before handed lines
  pub now : members ≡ lent handed before
  pub none : before.mail ≡ []

module _ {D G R : Type 0} (d : DiskGhosts D) (draws : DrawGhosts R) (leads : List BlockAsk → Point D → Point D → Type 0) where
  -- Lines were run that were begun at any place where their members had what they lent, and this leads from there.
  abbrev pub HasEnded : List BlockLine → View D G R → View D G R → Type 0
  HasEnded lines old new =
      (handed : List BlockAsk) (before : Members) → CanRun before handed lines → old.members ≡ lent handed before → before.mail ≡ []
      → (ready : Point D) → IsServedAt d draws old ready → ready.present ≡ before
      → (next : Point D) × leads handed ready next × IsAt d draws new next

  -- but for the members
  abbrev pub HasEndedServed : List BlockLine → View D G R → View D G R → Type 0
  HasEndedServed lines old new =
      (handed : List BlockAsk) (before : Members) → CanRun before handed lines → old.members ≡ lent handed before → before.mail ≡ []
      → (ready : Point D) → IsServedAt d draws old ready → ready.present ≡ before
      → (next : Point D) × leads handed ready next × IsServedAt d draws new next

module _ {D G R : Type 0} (d : DiskGhosts D) (g : SignerGhosts G) (draws : DrawGhosts R) where
  -- A block is over whose turns were these: members took back what these lines left, read what is on its way, and the looks were noted.
  pub record Ends (keys : Keying G) (turns : List Entry) (news : List BlockLine) (before : Members) (ran : Point D) (new : View D G R) : Type 0 where
    pub ended : Point D
    pub ends : Marks d Together2 ran ended
    pub count : ℕ
    pub rest : Point D
    pub reads : Reads d g keys count (marks_of before turns) ended rest
    pub all_read : rest.present.mail ≡ []
    pub next : Point D
    pub looks : LooksAll d (seen_in news) rest next
    pub is_at : IsAt d draws new next

  -- or memory ran out: before its end is noted, after that, while members read, or after some of the looks
  pub record StopsReadingFrom (keys : Keying G) (turns : List Entry) (before : Members) (ended new : Point D) : Type 0 where
    pub count : ℕ
    pub mid : Point D
    pub reads : Reads d g keys count (marks_of before turns) ended mid
    pub last : (new ≡ mid) ⊎ ReadsOne d g keys true (marked (drop count (marks_of before turns)) mid.present) mid new

  pub record StopsLookingFrom (keys : Keying G) (turns : List Entry) (news : List BlockLine) (before : Members) (ended new : Point D) : Type 0 where
    pub count : ℕ
    pub rest : Point D
    pub reads : Reads d g keys count (marks_of before turns) ended rest
    pub all_read : rest.present.mail ≡ []
    pub front : List Seen
    pub later : List Seen
    pub are : seen_in news ≡ front ++ later
    pub looks : LooksAll d front rest new

  pub record StopsPast (keys : Keying G) (turns : List Entry) (news : List BlockLine) (before : Members) (ran new : Point D) : Type 0 where
    pub ended : Point D
    pub ends : Marks d Together2 ran ended
    pub stops : StopsReadingFrom keys turns before ended new ⊎ StopsLookingFrom keys turns news before ended new

  pub record StopsEnding (keys : Keying G) (turns : List Entry) (news : List BlockLine) (before : Members) (short : Bool) (ran : Point D) (new : View D G R)
      : Type 0 where
    pub next : Point D
    pub stops : (next ≡ ran) ⊎ (Marks d Together2 ran next ⊎ ((short ≡ false) × StopsPast keys turns news before ran next))
    pub is_at : IsServedAt d draws new next
