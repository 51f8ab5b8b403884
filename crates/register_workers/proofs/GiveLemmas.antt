-- What a refused datagram leaves of a line.
use Rattle.std.proofs.Common.{◌≡◌, ◌≢◌, ◌∙◌, ℕ, List, Option, Some, Ok, Err, inl, inr, sym, ap, subst}
use Rattle.std.specs.Prelude.{Result}
use Rattle.member_pull.specs.Pulls.{AfterSecond, AtSecond, IsSecond}
use Rattle.member_pull.specs.Views.{Pull}
use Rattle.member_pull.specs.declared.pulls.Step.{Step}
use Rattle.member_pull.specs.declared.pulls.Step.TheVariants as steps
use Rattle.member_pull.specs.declared.refusals.PullRefusal.{PullRefusal}
use Rattle.member_pull.specs.declared.refusals.PullRefusal.TheVariants.{NoMemory}
use Rattle.pull_msgs.specs.declared.faults.PullFault.{PullFault}
use Rattle.pull_msgs.specs.declared.messages.Second.{Second}
use Rattle.register_workers.specs.Lines.{PassesOver}
use Rattle.register_workers.specs.declared.lines.BlockLine.{BlockLine}

stays_after : (answer : Result Second PullFault) (old new : Pull) (why : PullRefusal) → AfterSecond old answer (Err why) new → new ≡ old
stays_after (Ok second) old new why (inl refused) = refused.stays
stays_after (Ok second) old new why (inr agrees) = let gives = agrees.gives in cc
stays_after (Err fault) old new why refused = refused.stays

stays_at : (step : Step) (old new : Pull) (datagram : List ℕ) (why : PullRefusal) → AtSecond step old datagram (Err why) new → new ≡ old
stays_at (steps.Second iv) old new datagram why takes = stays_after takes.answer old new why takes.after
stays_at (steps.Fourth iv nr spi) old new datagram why refused = refused.stays
stays_at steps.Ended old new datagram why refused = refused.stays

module _ (line : BlockLine) (pull after : Pull) (has : line.pull ≡ Some pull) (datagram : List ℕ) (why : PullRefusal)
    (takes : IsSecond pull datagram (Err why) after) where
  pub left_alone : record line { pull = Some after } ≡ line
  left_alone = ap (λ (pull : Option Pull). record line { pull = pull }) (ap Some (stays_at pull.step pull after datagram why takes) ∙ sym has)

  pub passed_over : why ≢ NoMemory → PassesOver line datagram
  passed_over other = record {
    pull = pull;
    has = has;
    why = why;
    refused = other;
    takes = subst (λ after. IsSecond pull datagram (Err why) after) (stays_at pull.step pull after datagram why takes) takes;
  }
