-- Whom the console serves: what its history gave and sent, along each stretch of it, and what it answers of who derives which key.
use Rattle.std.specs.Prelude.{ℕ, List, [], ◌∷◌, ◌++◌}
use Rattle.group_terms.specs.Names.{Name}
use Rattle.group_model.specs.declared.entries.Answer.{Answer}
use Rattle.group_model.specs.declared.entries.Asked.TheVariants.{Derive}
use Rattle.group_model.specs.declared.entries.Entry.{Entry}
use Rattle.group_model.specs.declared.entries.Outside.{Outside}
use Rattle.group_steps.specs.Devices.{Devices, Keying}
use Rattle.group_steps.specs.Laws.{IsSure}
use Rattle.group_steps.specs.Moments.{IsStretch}
use Rattle.group_steps.specs.Runs.{Run}
use Rattle.group_steps.specs.Steps.{IsRunStep}
use Rattle.group_steps.specs.TrueSteps.{AreTrueSteps, batches_in}
use Rattle.sym_closure.specs.Serving.{SaysWhoDerives, ServesAfterEarlier, ServesMembers}

module _ {D G V : Type 0} (on : Devices D G V) (by : Keying G) where
  -- It is said of a stretch of the history, from an opening on, of which each later opening found the group that there was.
  pub record ServesAlong (start : Run D) (entries : List Entry) (after : Run D) : Type 0 where
    -- that is so where the disk is honest and exposes its octets, or nothing was opened again meanwhile
    pub sure : (before : List Entry) (opening : Entry) (next : Run D) (later : List Entry) (mid : Run D)
        → IsStretch on by start entries after before opening next later mid → IsSure on.disks next.host.disk later
        → AreTrueSteps on by (before ++ opening ∷ []) next later mid
    -- What the stretch gave and sent serves the members whom it sent a reply, and nobody but members.
    pub serves : (before : List Entry) (opening : Entry) (next : Run D) (later : List Entry) (mid : Run D)
        → IsStretch on by start entries after before opening next later mid → AreTrueSteps on by (before ++ opening ∷ []) next later mid
        → ServesMembers mid.host.server.depth (batches_in mid) (opening ∷ later)
    -- Together with what earlier runs gave and sent, while the journal had some first part of these batches, it still serves nobody but members.
    pub earlier : (before : List Entry) (opening : Entry) (next : Run D) (later : List Entry) (mid : Run D)
        → IsStretch on by start entries after before opening next later mid → AreTrueSteps on by (before ++ opening ∷ []) next later mid
        → ServesAfterEarlier mid.host.server.depth (batches_in mid) (opening ∷ later)
    -- A question is answered accordingly, where the stretch begins with the first opening, since it is answered from all entries before it. That the answer is
    -- no does not mean that none is a member: who came in before that opening was sent no reply since.
    pub asked : (opening : Entry) (next : Run D) (later : List Entry) (mid : Run D) → IsStretch on by start entries after [] opening next later mid
        → AreTrueSteps on by (opening ∷ []) next later mid
        → (epoch : ℕ) (names : List Name) (answer : Answer) (outside : Outside) (last : Run D)
        → IsRunStep on by (opening ∷ later) mid (record { asked = Derive epoch names; outside = outside; answer = answer }) last
        → SaysWhoDerives mid.host.server.depth (batches_in mid) (opening ∷ later) epoch names answer
