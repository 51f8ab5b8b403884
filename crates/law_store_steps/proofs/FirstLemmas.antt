-- What the first request of a history leaves: a group that was made, one that was found, or none.
use Rattle.std.proofs.Common.{◌≡◌, ◌∙◌, ◌⊎◌, ℕ, true, List, refl, sym, ap, subst, inl, inr}
use Rattle.std.proofs.lemmas.Bool.{false≢true}
use Rattle.gd_disk.specs.declared.disks.Disk.{Ghosts as DiskGhosts}
use Rattle.gd_edges.specs.declared.signers.Signer.{Ghosts as SignerGhosts}
use Rattle.group_model.specs.Answers.{opens}
use Rattle.group_model.specs.declared.entries.Answer.{Answer}
use Rattle.group_model.specs.declared.entries.Answer.TheVariants.{Refused}
use Rattle.group_model.specs.declared.entries.Asked.{Asked}
use Rattle.group_model.specs.declared.entries.Asked.TheVariants.{Begin, Create}
use Rattle.group_model.specs.declared.entries.Entry.{Entry}
use Rattle.group_model.specs.declared.entries.Outside.{Outside}
use Rattle.group_model.specs.declared.entries.Refusal.{Refusal}
use Rattle.group_records.specs.declared.heads.Head.{Head}
use Rattle.server_steps.specs.Hosts.{Host}
use Rattle.server_steps.specs.Openings.{FindsGroup, Found, Makes}
use Rattle.group_steps.specs.Devices.{Devices, Keying}
use Rattle.group_steps.specs.Runs.{Run}
use Rattle.group_steps.specs.Steps.{IsAnswered}
use Rattle.law_store_steps.proofs.GrowLemmas.{IsAtHead}

-- it was refused; the host is as it was, but for its disk and its draws
pub record IsRefusal {D : Type 0} (host : Host D) (answer : Answer) (next : Host D) : Type 0 where
  pub why : Refusal
  pub answers : answer ≡ Refused why
  pub head : next.head ≡ host.head
  pub depth : next.server.depth ≡ host.server.depth

refused : {D : Type 0} (host : Host D) (answer : Answer) (next made : Host D) (why : Refusal) → answer ≡ Refused why → next ≡ made → made.head ≡ host.head
    → made.server.depth ≡ host.server.depth → IsRefusal host answer next
refused host answer next made why answers is head depth =
    subst (IsRefusal host answer) (sym is) (record { why = why; answers = answers; head = head; depth = depth })

module _ {D G : Type 0} (d : DiskGhosts D) (g : SignerGhosts G) (signer : G) (block : ℕ → List ℕ) where
  abbrev pub IsFirst : Host D → Answer → Outside → Host D → Type 0
  IsFirst host answer outside next =
      ((depth : ℕ) × Makes d block depth host answer outside next)
      ⊎ (((found : Found) × FindsGroup d g signer host found answer outside next) ⊎ IsRefusal host answer next)

  pub head_first : (host : Host D) (answer : Answer) (outside : Outside) (next : Host D) → IsAtHead host → IsFirst host answer outside next
      → IsAtHead next
  head_first host answer outside next at (inl made) = subst (λ (given : Host D). IsAtHead given) (sym made.1.now) refl
  head_first host answer outside next at (inr (inl found)) = subst (λ (given : Host D). IsAtHead given) (sym found.1.now) refl
  head_first host answer outside next at (inr (inr refusal)) = ap (λ (head : Head). head.depth) refusal.head ∙ at ∙ sym refusal.depth

module _ {D G V : Type 0} (on : Devices D G V) (by : Keying G) (before : List Entry) (run : Run D) (answer : Answer) (outside : Outside) (next : Run D) where
  pub first_of : (asked : Asked) → opens asked ≡ true → IsAnswered on by before asked run answer outside next
      → IsFirst on.disks on.signers by.signer by.block run.host answer outside next.host
  first_of (Create depth) first step = elim step.opens.ends [
    | inl makes ↦ inl (depth, makes)
    | inr fails ↦ inr (inr (refused run.host answer next.host _ fails.why fails.answers fails.now refl refl))
  ]
  first_of Begin first step = elim step.opens.ends [
    | inl begins ↦ inr (inl (begins.found, begins.finds))
    | inr fails ↦ inr (inr (refused run.host answer next.host _ fails.why fails.answers fails.now refl refl))
  ]
  first_of asked first step = absurd (false≢true first)

  -- it touches no member
  pub members_first : (asked : Asked) → opens asked ≡ true → IsAnswered on by before asked run answer outside next → next.members ≡ run.members
  members_first (Create depth) first step = step.stay
  members_first Begin first step = step.stay
  members_first asked first step = absurd (false≢true first)
