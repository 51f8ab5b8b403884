-- What comes of what is on its way.
use Rattle.std.specs.Prelude.{ℕ, List}
use Rattle.member_steps.specs.Acts.{Agrees, Ignores}
use Rattle.member_steps.specs.Members.{Members}
use Rattle.member_steps.specs.Steps.{IsKeeping}
use Rattle.group_run.specs.Reads.{AreAtRest}
use Rattle.group_run.specs.declared.reading.Read.{Read}
use Rattle.group_run.specs.declared.reading.Read.TheVariants.{Ended, Nothing, Sends}

-- members ignore some of it, and then this comes of the next datagram
abbrev pub AreReading : Read → Members → Members → Type 0
AreReading Nothing old new = AreAtRest old new
AreReading (Sends m) old new = (read : Members) × Ignores old read × (third : List ℕ) × Agrees m third read new
AreReading (Ended m answer) old new = (read : Members) × Ignores old read × IsKeeping m read answer new
