-- What a step after the first does to the host: its server serves what is asked, or the host stays, and nothing is sent or told.
use Rattle.std.proofs.Common.{◌≡◌, ◌⊎◌, ℕ, Bool, true, false, List, [], ◌∷◌, Option, None, Some, Result, Ok, Err, refl, sym, ap, subst, inl, inr}
use Rattle.std.specs.Prelude.{MatchBool}
use Rattle.gd_edges.specs.declared.verifiers.Verifier.{Ghosts as VerifierGhosts}
use Rattle.group_terms.specs.Names.{Name}
use Rattle.group_terms.specs.declared.paths.Keyed.{Keyed}
use Rattle.group_terms.specs.declared.pushes.PushRefusal.{PushRefusal}
use Rattle.group_model.specs.Derivations.{replies_in}
use Rattle.group_model.specs.declared.entries.Answer.{Answer}
use Rattle.group_model.specs.declared.entries.Answer.TheVariants.{Done, Nothing}
use Rattle.group_model.specs.declared.entries.Asked.{Asked}
use Rattle.group_model.specs.declared.entries.Asked.TheVariants.{Again, Create, Begin, Keep, Deliver, Key, Derive, Lose, Now, Together, Together2}
use Rattle.group_model.specs.declared.entries.Entry.{Entry}
use Rattle.group_model.specs.declared.entries.Outside.{Outside}
use Rattle.group_peers.specs.Peers.{put, store_of, was_introduced, with_loss}
use Rattle.member_store.specs.Stores.{Store, is_older}
use Rattle.member_store.specs.declared.answers.Taken.{Taken}
use Rattle.member_store.specs.declared.answers.Taken.TheVariants as takes
use Rattle.member_steps.specs.Keys.{key_of}
use Rattle.member_steps.specs.Members.{Members, with_all, with_mail_left}
use Rattle.member_steps.specs.Steps.{Gets, Gives, IsKeeping, IsLosing, IsMemberStep, IsOld, TakesReply, answer_of}
use Rattle.server_steps.specs.Hosts.{Host}
use Rattle.server_steps.specs.Steps.{IsServed, IsServerStep}
use Rattle.group_steps.specs.Devices.{Devices, Keying}
use Rattle.group_steps.specs.Kinds.{speaks}
use Rattle.group_steps.specs.Runs.{Run, with_members}
use Rattle.group_steps.specs.Steps.{IsAnswered, IsRunStep, push_sent}

-- an answer sends nothing for all to see, opens nothing, and tells nobody
abbrev pub IsSilent : Answer → Type 0
IsSilent answer = (speaks answer ≡ false) × (replies_in answer ≡ [])

silent_as : (answer due : Answer) → answer ≡ due → IsSilent due → IsSilent answer
silent_as answer due is silent = subst IsSilent (sym is) silent

-- ---- what a member answers sends nothing, and tells nothing

silent_keep : (store : Option Store) (m : Name) (keyed : Keyed) (members : Members) (answer : Answer) (next : Members)
    → TakesReply store m keyed members answer next → IsSilent answer
silent_keep None m keyed members answer next gets = silent_as answer _ gets.answers (refl, refl)
silent_keep (Some store) m keyed members answer next takes = either (is_older store keyed) takes
  where
    either : (old : Bool) → MatchBool old (IsOld store keyed members answer next) (Gets m keyed members answer next) → IsSilent answer
    either true is = silent_as answer _ is.answers (refl, refl)
    either false is = silent_as answer _ is.answers (refl, refl)

silent_keeping : (m : Name) (members : Members) (answer : Answer) (next : Members) → IsKeeping m members answer next → IsSilent answer
silent_keeping m members answer next (inl missing) = silent_as answer _ missing.answers (refl, refl)
silent_keeping m members answer next (inr taken) =
    silent_keep taken.peer.store m taken.keyed (with_mail_left (with_all members (put members.all taken.after)) taken.later) answer next taken.takes

silent_losing : (m : Name) (members : Members) (answer : Answer) (next : Members) → IsLosing m members answer next → IsSilent answer
silent_losing m members answer next = either (was_introduced members.all m)
  where
    either : (was : Bool) → MatchBool was ((answer ≡ Done) × (next ≡ with_all members (with_loss members.all m true))) ((answer ≡ Nothing) × (next ≡ members))
        → IsSilent answer
    either true is = silent_as answer Done is.0 (refl, refl)
    either false is = silent_as answer Nothing is.0 (refl, refl)

silent_by : (result : Result Taken PushRefusal) → IsSilent (answer_of result)
silent_by (Ok (takes.Root epoch)) = (refl, refl)
silent_by (Ok (takes.Traffic epoch)) = (refl, refl)
silent_by (Err why) = (refl, refl)

silent_key : (store : Option Store) → IsSilent (key_of store)
silent_key None = (refl, refl)
silent_key (Some store) = (refl, refl)

module _ {V : Type 0} (v : VerifierGhosts V) (verifier : V) where
  silent_given : (store : Option Store) (push : Option (List ℕ)) (m : Name) (members : Members) (answer : Answer) (next : Members)
      → Gives v verifier store push m members answer next → IsSilent answer
  silent_given (Some store) (Some datagram) m members answer next given = silent_as answer _ given.answers (silent_by given.result)
  silent_given (Some store) None m members answer next given = silent_as answer Nothing given.0 (refl, refl)
  silent_given None push m members answer next given = silent_as answer Nothing given.0 (refl, refl)

  silent_acting : (sent : ℕ → Option (List ℕ)) (asked : Asked) (members : Members) (answer : Answer) (next : Members)
      → IsMemberStep v verifier sent asked members answer next → IsSilent answer
  silent_acting sent (Lose m) members answer next step = silent_losing m members answer next step
  silent_acting sent (Again m) members answer next step = silent_as answer Nothing step.answers (refl, refl)
  silent_acting sent (Keep m) members answer next step = silent_keeping m members answer next step
  silent_acting sent (Deliver m number) members answer next step = silent_given (store_of members.all m) (sent number) m members answer next step
  silent_acting sent (Key m) members answer next step = silent_as answer _ step.0 (silent_key (store_of members.all m))
  silent_acting sent asked members answer next step = absurd step

-- ---- each request after the first

module _ {D G V : Type 0} (on : Devices D G V) (by : Keying G) where
  -- the server serves what is asked, or the host stays
  abbrev pub Hosts : Asked → Host D → Answer → Outside → Host D → Type 0
  Hosts asked host answer outside next =
      IsServed on.disks on.signers by.signer by.block asked host answer outside next ⊎ ((next ≡ host) × IsSilent answer)

  pub host_step : (first : Entry) (before : List Entry) (asked : Asked) (run : Run D) (answer : Answer) (outside : Outside) (next : Run D)
      → IsAnswered on by (first ∷ before) asked run answer outside next → Hosts asked run.host answer outside next.host
  host_step first before (Create depth) run answer outside next step = absurd (cc (step.is_first))
  host_step first before Begin run answer outside next step = absurd (cc (step.is_first))
  host_step first before (Lose m) run answer outside next step =
      inr (step.stays, silent_acting on.verifiers on.verifier (push_sent (first ∷ before)) (Lose m) run.members answer next.members step.acted)
  host_step first before (Again m) run answer outside next step =
      inr (step.stays, silent_acting on.verifiers on.verifier (push_sent (first ∷ before)) (Again m) run.members answer next.members step.acted)
  host_step first before (Keep m) run answer outside next step =
      inr (step.stays, silent_acting on.verifiers on.verifier (push_sent (first ∷ before)) (Keep m) run.members answer next.members step.acted)
  host_step first before (Deliver m number) run answer outside next step =
      inr (step.stays, silent_acting on.verifiers on.verifier (push_sent (first ∷ before)) (Deliver m number) run.members answer next.members step.acted)
  host_step first before (Key m) run answer outside next step =
      inr (step.stays, silent_acting on.verifiers on.verifier (push_sent (first ∷ before)) (Key m) run.members answer next.members step.acted)
  host_step first before (Derive epoch members) run answer outside next step =
      inr (ap (λ (given : Run D). given.host) step.stays, silent_as answer _ step.answers (refl, refl))
  host_step first before Now run answer outside next step =
      inr (ap (λ (given : Run D). given.host) step.stays, silent_as answer _ step.answers (refl, refl))
  host_step first before (Together lines) run answer outside next step =
      inr (ap (λ (given : Run D). given.host) step.stays, silent_as answer _ step.answers (refl, refl))
  host_step first before Together2 run answer outside next step =
      inr (ap (λ (given : Run D). given.host) step.stays, silent_as answer _ step.answers (refl, refl))
  host_step first before asked run answer outside next step = inl step.served

  -- of an entry after the first, whatever members did before it
  pub host_by : (first : Entry) (before : List Entry) (run : Run D) (entry : Entry) (next : Run D) → IsRunStep on by (first ∷ before) run entry next
      → IsServerStep on.disks on.signers by.signer by.block run.host entry next.host ⊎ ((next.host ≡ run.host) × IsSilent entry.answer)
  host_by first before run entry next step =
      elim (host_step first before entry.asked (with_members run step.acted) entry.answer entry.outside next step.answered.answered) [
        | inl served ↦ inl (record { answered = served; keeps = step.answered.keeps; counts = step.answered.counts })
        | inr stays ↦ inr stays
      ]
