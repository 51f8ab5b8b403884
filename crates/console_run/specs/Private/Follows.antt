-- A run and the source that it takes its script from.
use Rattle.std.specs.Prelude.{◌≡◌, ◌⊎◌, ℕ, true, List, [], Option, Some}
use Rattle.console_run.specs.declared.open_blocks.OpenBlock.{OpenBlock}
use Rattle.std.specs.Io.KnownBytes.{Consumes}
use Rattle.command_words.specs.declared.commands.Command.{Command}
use Rattle.gd_edges.specs.Shown.{Shown}
use Rattle.gd_edges.specs.declared.draws.Draws.{Ghosts as DrawGhosts}
use Rattle.group_model.specs.declared.entries.Asked.{Asked}
use Rattle.group_model.specs.declared.entries.Entry.{Entry}
use Rattle.group_run.specs.Views.{View}
use Rattle.group_steps.specs.Runs.{Run}
use Rattle.console_run.specs.declared.script_run.ScriptRun.{ScriptRun}
use Rattle.run_report.specs.declared.stops.Stop.{Stop}
use Rattle.run_report.specs.declared.stops.Stop.TheVariants.{Line}
use Rattle.run_report.specs.declared.endings.Ending.{Ending}
use Rattle.run_report.specs.Reports.{SummaryEnds}
use Rattle.group_steps.specs.Devices.{Devices, Keying}
use Rattle.console_run.specs.Scripts.{are_octets}
use Rattle.console_run.specs.Causes.{CameFrom, Given, SourceAt, TakesAll}
use Rattle.console_run.specs.Lines.{Opens}
use Rattle.console_run.specs.Promises.{IsEnded, IsBroken, PromisesRun, no_report, request_of, soak_source, start_of, streams_of}
use Rattle.console_run.specs.Private.Runs.{Drawing, Moment, GoesOn, IsReported, IsStoppedAt, SourceFails, Stands, Start, StopsWithin}

-- a group and its sink at a moment, with the block that is open, what has come of the present line, and the count of lines before it
abbrev pub moment : {D G R : Type 0} → View D G R → Option OpenBlock → List ℕ → ℕ → Shown → Drawing → Moment D G R
moment held block line count out peers = record { held = held; peers = peers; block = block; line = line; count = count; out = out }

-- that of a run of a script
abbrev pub at : {D G R : Type 0} → ScriptRun D G R → Shown → Drawing → Moment D G R
at run out peers = moment run.group run.block run.line.items run.count out peers

-- a script ends inside a block: the run is back at the line that began it
pub record EndsInside {D G R : Type 0} (stop : Stop) (old new : ScriptRun D G R) : Type 0 where
  pub block : OpenBlock
  pub is : old.block ≡ Some block
  pub faulty : stop ≡ Line
  pub now : new ≡ record old { count = block.before }

module _ {D G V R : Type 0} (on : Devices D G V) (draws : DrawGhosts R) where
  -- the group was opened as requested, and nothing else has happened
  pub record IsOpened (peers : Drawing) (start : Start D G) (held : View D G R) : Type 0 where
    pub opened : Run D
    pub opens : Opens on start.by start.request start.run held.entries opened
    pub place : peers.place ≡ held.members.place
    pub rest : held.members.mail ≡ []
    pub no_rules : held.server.rules ≡ []
    pub stands : Stands on.disks draws peers start.by held opened

module _ {D G V R : Type 0} (on : Devices D G V) (draws : DrawGhosts R) (workers : ℕ) where
  -- all that the source had was taken, and the run went on by it
  pub record TakesAndGoesOn (had left : Shown) (old new : Moment D G R) : Type 0 where
    pub taken : List ℕ
    pub consumed : Consumes had.octets left.octets taken
    pub whole : TakesAll had.octets taken
    pub no_fault : left.faults ≡ had.faults
    pub goes : GoesOn on draws workers taken old new

  -- what was taken was run up to where the run stopped
  pub record TakesAndStops (stop : Stop) (had left : Shown) (old new : Moment D G R) : Type 0 where
    pub taken : List ℕ
    pub consumed : Consumes had.octets left.octets taken
    pub small : are_octets taken ≡ true
    pub source : SourceFails stop had.faults left.faults
    pub stops : StopsWithin on draws workers taken stop old new

  -- a script was run to the ending that is due, with what the source gave
  pub record IsRunTo (due : Ending) (start : Start D G) (had left : Shown) (now : Moment D G R) : Type 0 where
    pub given : Given
    pub came : CameFrom had.octets left.octets given
    pub source : SourceAt due had.faults left.faults
    pub reported : IsReported on draws workers due given start now

  -- or until it stopped
  pub record IsRunUntil (stop : Stop) (start : Start D G) (had left : Shown) (now : Moment D G R) : Type 0 where
    pub given : Given
    pub came : CameFrom had.octets left.octets given
    pub source : SourceFails stop had.faults left.faults
    pub stopped : IsStoppedAt on draws workers stop given start now

-- A script was run on a group that was opened as requested, until the run ended, and this disk is left.
pub record RunsScript {D G V : Type 0} (on : Devices D G V) (by : Keying G) (workers : ℕ) (request : Asked) (start : Run D)
    (had left was now : Shown) (ending : Ending) (entries : List Entry) (disk : D) : Type 0 where
  pub given : Given
  pub came : CameFrom had.octets left.octets given
  pub after : Run D
  pub left_disk : after.host.disk ≡ disk
  pub run : IsEnded on by workers (streams_of given had left was now) request start ending entries after
      ⊎ IsBroken on by workers (streams_of given had left was now) request start ending entries after

-- what such a run promises, if its group is one that a command asks for
abbrev pub RunsKeepPromises : {D G V : Type 0} → Devices D G V → Keying G → Type 0
RunsKeepPromises {D} on by =
    (command : Command) (place members_place : ℕ) (had left was now : Shown) (ending : Ending) (entries : List Entry) (old new : D)
    → (ran : RunsScript on by command.workers (request_of command.opening) (start_of command old place members_place) had left was now ending entries new)
    → PromisesRun on by (streams_of ran.given had left was now) command place members_place ending entries old new

-- The script of a soak was run so, without a report; then its summary was put.
pub record RunsSoak {D G V : Type 0} (on : Devices D G V) (by : Keying G) (workers number : ℕ) (request : Asked) (start : Run D) (was now : Shown)
    (ending : Ending) (entries : List Entry) (disk : D) : Type 0 where
  pub left : Shown
  pub no_fault : left.faults ≡ 0
  pub due : Ending
  pub runs : RunsScript on by workers request start (soak_source number) left no_report no_report due entries disk
  pub last : SummaryEnds number entries due ending was now
