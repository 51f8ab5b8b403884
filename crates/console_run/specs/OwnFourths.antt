-- That a member takes the fourth message of its own pull (RFC 6407 section 3.2), at each moment of the console's history.
use Rattle.std.specs.Prelude.{◌≡◌, List, Option, Some}
use Rattle.group_terms.specs.Names.{Name}
use Rattle.group_model.specs.declared.entries.Asked.TheVariants.{Keep}
use Rattle.group_model.specs.declared.entries.Entry.{Entry}
use Rattle.group_model.specs.declared.entries.SymReply.{SymReply}
use Rattle.group_run.specs.Reads.{Ask, ReadsMail}
use Rattle.group_steps.specs.Devices.{Devices, Keying}
use Rattle.group_steps.specs.Moments.{IsMoment}
use Rattle.group_steps.specs.Runs.{Run}
use Rattle.member_steps.specs.Acts.{Acts}
use Rattle.member_steps.specs.Members.{Members}
use Rattle.law_store_steps.specs.Fourths.{GetsOwnFourth, TakesOwnFourth}

module _ {D G V : Type 0} (on : Devices D G V) (by : Keying G) (start : Run D) (entries : List Entry) (after : Run D) where
  -- At a moment the fourth message that a member's session keeps comes to it next, and its pull is in step with that session. Then members that read what is on
  -- its way ask the member to keep it, and nothing else; that it does so is a step; and it has its keys then, unless its store has later ones or the datagram
  -- goes missing. Supposed is that it has no store yet, or one of the group.
  abbrev pub TakesOwnFourths : Type 0
  TakesOwnFourths =
      (front : List Entry) (mid : Run D) (acted : Members) (m : Name) (says : SymReply) (gets : GetsOwnFourth mid acted m says)
      → IsMoment on by start entries after front mid → Acts by.members_block by.group mid.members acted
      → ReadsMail acted (Some (Keep m, acted)) × ((next : Option Ask) → ReadsMail acted next → next ≡ Some (Keep m, acted))
      × TakesOwnFourth on by front mid acted m says gets
