-- What comes of a datagram that is on its way to a member.
use Rattle.std.specs.Prelude.{◌≡◌, ℕ, List, ◌∷◌, Result, Ok, Err}
use Rattle.group_terms.specs.Names.{Name}
use Rattle.group_terms.specs.declared.memory.NoMemory.{NoMemory}
use Rattle.member_steps.specs.Acts.{Agrees, IsIgnoring}
use Rattle.member_steps.specs.Members.{Mail}
use Rattle.member_steps.specs.Steps.{IsKeeping}
use Rattle.member_steps.specs.Views.{View, members_with}
use Rattle.member_steps.specs.declared.came.Came.{Came}
use Rattle.member_steps.specs.declared.came.Came.TheVariants.{Ended, Ignored, Sends}

-- it is the first one, and is to this member; out of memory, nothing changes
abbrev pub TakesMail : Name → List ℕ → List Mail → View → Result Came NoMemory → View → Type 0
TakesMail m datagram later old (Ok Ignored) new = IsIgnoring (members_with old ((m, datagram) ∷ later)) (members_with new later)
TakesMail m datagram later old (Ok Sends) new = (third : List ℕ) × Agrees m third (members_with old ((m, datagram) ∷ later)) (members_with new later)
TakesMail m datagram later old (Ok (Ended answer)) new = IsKeeping m (members_with old ((m, datagram) ∷ later)) answer (members_with new later)
TakesMail m datagram later old (Err short) new = new ≡ old
