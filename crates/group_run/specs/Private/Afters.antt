-- What comes after the turns of a block: members read what is on its way, and looks are noted.
use Rattle.std.specs.Prelude.{◌≡◌, ◌⊎◌, ℕ, Bool, true, false, List, [], ◌∷◌, ◌++◌, All, Some, drop, length, map}
use Rattle.epoch_board.specs.declared.pairs.Seen.{Seen}
use Rattle.gd_disk.specs.declared.disks.Disk.{Ghosts as DiskGhosts}
use Rattle.gd_edges.specs.declared.draws.Draws.{Ghosts as DrawGhosts}
use Rattle.gd_edges.specs.declared.signers.Signer.{Ghosts as SignerGhosts}
use Rattle.group_terms.specs.Names.{Name}
use Rattle.group_model.specs.declared.entries.Entry.{Entry}
use Rattle.group_peers.specs.Peers.{is_peer}
use Rattle.group_peers.specs.declared.members.Peer.{Peer}
use Rattle.group_run.specs.Blocks.{Left, LooksAll, Point, Reads, ReadsOne, marked}
use Rattle.group_run.specs.Private.Kept.{GoesToPeer}
use Rattle.group_run.specs.Private.Lefts.{left_at, lefts_at}
use Rattle.group_run.specs.Private.Places.{ReachesFrom, ReachesPast, ReachesServedFrom}
use Rattle.group_run.specs.Places.{keys_of}
use Rattle.group_run.specs.Stays.{RulesStay}
use Rattle.group_run.specs.Views.{View}
use Rattle.group_run.specs.declared.lefts.LeftAt.{LeftAt}
use Rattle.group_run.specs.declared.reading.Read.{Read}
use Rattle.group_run.specs.declared.reading.Read.TheVariants.{Ended, Nothing, Sends}
use Rattle.group_steps.specs.Devices.{Keying}
use Rattle.member_steps.specs.Acts.{Agrees, IsIgnoring}
use Rattle.member_steps.specs.Members.{Mail, Members}
use Rattle.member_steps.specs.Steps.{IsKeeping}

-- ---- what turns left on its way

-- this is at that place, and goes to a peer
pub record IsLeftAt (peers : List Peer) (entries : List Entry) (at : LeftAt) (left : Left) : Type 0 where
  pub there : left_at entries at ≡ Some left
  pub to_peer : GoesToPeer peers left.mail

-- it goes to a peer
abbrev pub IsToPeer : List Peer → Left → Type 0
IsToPeer peers left = GoesToPeer peers left.mail

-- these are at those places, from the last place back, and go to peers
pub record AreLeftAt (peers : List Peer) (entries : List Entry) (places : List LeftAt) (lefts : List Left) : Type 0 where
  pub there : lefts_at entries places ≡ map Some lefts
  pub to_peers : All (IsToPeer peers) lefts

-- the datagrams, and which of them are marked as going missing
abbrev pub mails_of : List Left → List Mail
mails_of lefts = map (λ (left : Left). left.mail) lefts

abbrev pub owns_of : List Left → List Bool
owns_of lefts = map (λ (left : Left). left.own) lefts

-- what comes of the first datagram on its way
abbrev pub AreTaking : Read → Members → Members → Type 0
AreTaking Nothing old new = IsIgnoring old new
AreTaking (Sends m) old new = (third : List ℕ) × Agrees m third old new
AreTaking (Ended m answer) old new = IsKeeping m old answer new

-- the rules stay, and the place of what members draw, and who is a peer; the history grows
pub record StaysBeside {D G R : Type 0} (old new : View D G R) : Type 0 where
  pub rules : RulesStay old new
  pub peers : (name : Name) → is_peer new.members.all name ≡ is_peer old.members.all name
  pub more : List Entry
  pub grown : new.entries ≡ old.entries ++ more

-- ---- reading it

module _ {D G : Type 0} (d : DiskGhosts D) (g : SignerGhosts G) (by : Keying G) where
  -- the first datagram comes, or goes missing, as this mark says
  abbrev pub ReadsMarked : Bool → Bool → Point D → Point D → Type 0
  ReadsMarked out own old new = ReadsOne d g by out (marked (own ∷ []) old.present) old new

  -- memory ran out before it, or with it
  abbrev pub StopsMarked : Bool → Point D → Point D → Type 0
  StopsMarked own old new = (new ≡ old) ⊎ ReadsMarked true own old new

  -- members read some datagrams, and memory ran out then, or with the next one
  pub record StopsInReads (marks : List Bool) (old new : Point D) : Type 0 where
    pub count : ℕ
    pub mid : Point D
    pub reads : Reads d g by count marks old mid
    pub last : (new ≡ mid) ⊎ ReadsOne d g by true (marked (drop count marks) mid.present) mid new

  -- they read all that is on its way
  pub record ReadsAll (old new : Point D) : Type 0 where
    pub count : ℕ
    pub reads : Reads d g by count [] old new
    pub all_read : new.present.mail ≡ []

module _ {D G R : Type 0} (d : DiskGhosts D) (g : SignerGhosts G) (draws : DrawGhosts R) where
  -- what was left at a place was read
  pub record HasReadLeft (place : LeftAt) (old new : View D G R) : Type 0 where
    pub beside : StaysBeside old new
    pub reads : (left : Left) (later : List Mail) (block : ℕ → List ℕ) (group : Name) → left_at old.entries place ≡ Some left
        → ReachesFrom d draws (left.mail ∷ later) later (ReadsMarked d g (keys_of draws old block group) false left.own) old new

  -- or memory ran out for that
  pub record HasStoppedLeft (place : LeftAt) (old new : View D G R) : Type 0 where
    pub reads : (left : Left) (later : List Mail) (block : ℕ → List ℕ) (group : Name) → left_at old.entries place ≡ Some left
        → ReachesServedFrom d draws (left.mail ∷ later) (StopsMarked d g (keys_of draws old block group) left.own) old new

  -- what was left at these places was read, from the last place back
  pub record HaveReadLefts (places : List LeftAt) (old new : View D G R) : Type 0 where
    pub beside : StaysBeside old new
    pub reads : (lefts : List Left) (block : ℕ → List ℕ) (group : Name) → lefts_at old.entries places ≡ map Some lefts
        → ReachesPast d draws (mails_of lefts) (Reads d g (keys_of draws old block group) (length lefts) (owns_of lefts)) old new

  -- or memory ran out for that
  pub record HaveStoppedLefts (places : List LeftAt) (old new : View D G R) : Type 0 where
    pub reads : (lefts : List Left) (block : ℕ → List ℕ) (group : Name) → lefts_at old.entries places ≡ map Some lefts
        → ReachesServedFrom d draws (mails_of lefts) (StopsInReads d g (keys_of draws old block group) (owns_of lefts)) old new

-- ---- looks

-- memory ran out after some of the looks
pub record StopsInLooks {D : Type 0} (d : DiskGhosts D) (pairs : List Seen) (old new : Point D) : Type 0 where
  pub front : List Seen
  pub later : List Seen
  pub are : pairs ≡ front ++ later
  pub looks : LooksAll d front old new
