-- Pulls that members lend to the lines of a block.
use Rattle.std.specs.Prelude.{◌≡◌, false, List, [], ◌∷◌, Option, None, Some, map, if◌then◌else◌}
use Rattle.group_peers.specs.Lent.{after_lending}
use Rattle.group_peers.specs.declared.lent.Lent.{Lent}
use Rattle.group_peers.specs.declared.members.Peer.{Peer}
use Rattle.group_run.specs.Blocks.{is_for, took}
use Rattle.register_workers.specs.declared.lines.BlockAsk.{BlockAsk}
use Rattle.register_workers.specs.declared.lines.BlockLine.{BlockLine}

-- a peer without what it lent, if a line is for it
abbrev pub lending : List BlockAsk → Peer → Peer
lending [] peer = peer
lending (ask ∷ asks) peer = if is_for ask peer then after_lending peer else lending asks peer

abbrev pub all_lending : List BlockAsk → List Peer → List Peer
all_lending asks peers = map (lending asks) peers

-- what lines ask
abbrev pub asks_of : List BlockLine → List BlockAsk
asks_of lines = map (λ (line : BlockLine). line.asked) lines

-- a line that asks this, with what was lent to it
abbrev pub line_with : BlockAsk → Option Lent → BlockLine
line_with ask (Some lent) = record { asked = ask; pull = Some lent.pull; sent = Some lent.sent; lose = lent.loses; seen = None }
line_with ask None = record { asked = ask; pull = None; sent = None; lose = false; seen = None }

-- what a line has to give back
pub record IsReturned (line : BlockLine) (lent : Option Lent) : Type 0 where
  pub what : Lent
  pub is : lent ≡ Some what
  pub pull : line.pull ≡ Some what.pull
  pub sent : line.sent ≡ Some what.sent
  pub loses : what.loses ≡ line.lose

-- peers, where that of a line has what the line has
abbrev pub all_with : List Peer → BlockLine → List Peer
all_with peers line = map (took (line ∷ [])) peers
