-- A server that is sound and keeps messages of its group goes on so, and the first opening begins with one. So its batches are a valid list, whatever openings
-- found.
use Rattle.std.proofs.Common.{◌≡◌, ◌∙◌, ℕ, ◌≤◌, true, List, [], ◌∷◌, ◌++◌, length, sym, refl, ap, subst, arith, inl, inr}
use Rattle.std.specs.List.{IsDistinct}
use Rattle.std.specs.Prelude.{All, IfSome}
use Rattle.std.proofs.lemmas.Bool.{false≢true}
use Rattle.std.proofs.lemmas.List.{length-map, map-append}
use Rattle.std.proofs.lemmas.List.Elements.{All-nil}
use Rattle.std.proofs.lemmas.List.Sums.{fold-append}
use Rattle.group_terms.specs.declared.changes.Change.{Change}
use Rattle.group_terms.specs.declared.signatures.SignKind.{SignKind}
use Rattle.group_values.specs.Values.{Made, batches_made}
use Rattle.group_model.specs.Answers.{is_open, opens}
use Rattle.group_model.specs.Laws.{Laws}
use Rattle.group_model.specs.Places.{FitInTurn, Fits, IsValid, holders_after, holders_of, no_holders}
use Rattle.group_model.specs.Servers.{members_now}
use Rattle.group_model.specs.declared.entries.Answer.{Answer}
use Rattle.group_model.specs.declared.entries.Asked.{Asked}
use Rattle.group_model.specs.declared.entries.Asked.TheVariants.{Create, Begin}
use Rattle.group_model.specs.declared.entries.Entry.{Entry}
use Rattle.group_model.specs.declared.entries.Outside.{Outside}
use Rattle.gcks_core.specs.Stored.{AreDueFrom}
use Rattle.pull_sessions.specs.Sessions.{AreApart, sessions_ended}
use Rattle.pull_sessions.specs.declared.sas.Sa.{Sa}
use Rattle.server_steps.specs.Hosts.{Host}
use Rattle.server_steps.specs.Messages.{HasSizes, IsSound, KeepsMessage, KeptAreMessages, MessagesAreOfTheGroup}
use Rattle.server_steps.specs.Openings.{FindsGroup, Found}
use Rattle.group_steps.specs.Devices.{Devices, Keying}
use Rattle.group_steps.specs.Laws.{LeavesValidList}
use Rattle.group_steps.specs.Runs.{Run, no_run, with_members}
use Rattle.group_steps.specs.Steps.{AreRunSteps, IsAnswered, IsRunStep}
use Rattle.group_steps.proofs.HostLemmas.{host_by}

-- the batches that made the epochs of a host
abbrev pub batches_of : {D : Type 0} → Host D → List (List Change)
batches_of host = batches_made host.server.list

pub length_made : (list : List Made) → length (batches_made list) ≡ length list
length_made list = length-map list (λ (made : Made). made.changes)

pub batches_more : (list : List Made) (made : Made) → batches_made (list ++ made ∷ []) ≡ batches_made list ++ made.changes ∷ []
batches_more list made = map-append (λ (made : Made). made.changes) list (made ∷ [])

-- batches that are due one after the other are a valid list
valid_from : (depth limit : ℕ) (before : List (List Change)) (list : List Made) → AreDueFrom depth limit before list
    → FitInTurn (holders_of depth before) (batches_made list)
valid_from depth limit before [] due = tt
valid_from depth limit before (made ∷ list) due = (
  due.0.carried.fits,
  subst (λ holders. FitInTurn holders (batches_made list)) (fold-append holders_after (no_holders depth) before (made.changes ∷ []))
      (valid_from depth limit (before ++ made.changes ∷ []) list due.1),
)

-- A server is sound, and its sessions keep messages of its group since an epoch of it.
pub record IsInOrder {D : Type 0} (kind : SignKind) (first : ℕ) (host : Host D) : Type 0 where
  pub sound : IsSound host
  pub late : first ≤ length host.server.list
  pub kept : KeptAreMessages kind first host

-- A server is sound, and no SA was introduced yet.
pub record IsNew {D : Type 0} (host : Host D) : Type 0 where
  pub sound : IsSound host
  pub none : host.sessions.sas ≡ []

apart_none : AreApart []
unfolding IsDistinct
apart_none = record { cookies = tt; members = tt }

module _ {D : Type 0} where
  new_sound : (host : Host D) → 1 ≤ host.server.depth → IsValid host.server.depth (batches_of host) → Fits (members_now host.server) host.server.queue
      → host.sessions.sas ≡ [] → IsNew host
  new_sound host deep valid fits none = record {
    sound = record {
      deep = deep;
      valid = valid;
      fits = fits;
      apart = subst AreApart (sym none) apart_none;
      written = subst (λ sas. All (λ (sa : Sa). IfSome sa.session HasSizes) sas) (sym none) (All-nil (λ (sa : Sa). IfSome sa.session HasSizes));
    };
    none = none;
  }

  pub new_order : (kind : SignKind) (first : ℕ) (host : Host D) → IsNew host → first ≤ length host.server.list → IsInOrder kind first host
  new_order kind first host new late = record {
    sound = new.sound;
    late = late;
    kept = subst (λ sas. All (KeepsMessage kind first host.server.depth host.head.spi host.server.list) sas) (sym new.none)
        (All-nil (KeepsMessage kind first host.server.depth host.head.spi host.server.list));
  }

module _ {D G V : Type 0} (laws : Laws) (on : Devices D G V) (by : Keying G) where
  abbrev pub kind_by : SignKind
  kind_by = on.signers.kind_of by.signer

  -- ---- the first step

  found_new : (start : Host D) (found : Found) (answer : Answer) (outside : Outside) (next : Host D) → start.sessions.sas ≡ []
      → FindsGroup on.disks on.signers by.signer start found answer outside next → IsNew next
  found_new start found answer outside next none finds =
      subst IsNew (sym finds.now) (new_sound _ finds.group.head.fits.shallow (valid_from found.head.depth found.head.limit [] found.list finds.group.due)
      (laws.no_change_fits (holders_of found.head.depth (batches_made found.list))) (ap sessions_ended none))

  pub new_opened : (start : Run D) (asked : Asked) (answer : Answer) (outside : Outside) (next : Run D) → start.host.sessions.sas ≡ [] → opens asked ≡ true
      → is_open answer ≡ true → IsAnswered on by [] asked start answer outside next → IsNew next.host
  new_opened start (Create depth) answer outside next none first opened step = elim step.opens.ends [
    | inl makes ↦ subst IsNew (sym makes.now) (new_sound _ step.opens.shallow tt (laws.no_change_fits (holders_of depth [])) none)
    | inr fails ↦ absurd (false≢true (sym (ap is_open fails.answers) ∙ opened))
  ]
  new_opened start Begin answer outside next none first opened step = elim step.opens.ends [
    | inl begins ↦ found_new start.host begins.found answer outside next.host none begins.finds
    | inr fails ↦ absurd (false≢true (sym (ap is_open fails.answers) ∙ opened))
  ]
  new_opened start asked answer outside next none first opened step = absurd (false≢true first)

  -- where a first opening fails, there is no batch
  abbrev HasValidList : Host D → Type 0
  HasValidList host = IsValid host.server.depth (batches_of host)

  valid_opened : (start : Run D) (asked : Asked) (answer : Answer) (outside : Outside) (next : Run D) → start.host.server.list ≡ [] → opens asked ≡ true
      → IsAnswered on by [] asked start answer outside next → HasValidList next.host
  valid_opened start (Create depth) answer outside next none first step = elim step.opens.ends [
    | inl makes ↦ subst HasValidList (sym makes.now) tt
    | inr fails ↦ subst HasValidList (sym fails.now) (subst (λ list. IsValid start.host.server.depth (batches_made list)) (sym none) tt)
  ]
  valid_opened start Begin answer outside next none first step = elim step.opens.ends [
    | inl begins ↦
        subst HasValidList (sym begins.finds.now) (valid_from begins.found.head.depth begins.found.head.limit [] begins.found.list begins.finds.group.due)
    | inr fails ↦ subst HasValidList (sym fails.now) (subst (λ list. IsValid start.host.server.depth (batches_made list)) (sym none) tt)
  ]
  valid_opened start asked answer outside next none first step = absurd (false≢true first)

  -- ---- each step after it

  module _ (messages : MessagesAreOfTheGroup on.disks on.signers by.signer by.block) where
    pub order_step : (first : Entry) (before : List Entry) (run : Run D) (entry : Entry) (next : Run D) → IsInOrder kind_by 0 run.host
        → IsRunStep on by (first ∷ before) run entry next → IsInOrder kind_by 0 next.host
    order_step first before run entry next order step = elim (host_by on by first before run entry next step) [
      | inl served ↦ (
          let goes = messages 0 run.host entry next.host order.sound order.late order.kept served in
          record { sound = goes.0; late = omega arith; kept = goes.1 }
          )
      | inr stays ↦ subst (IsInOrder kind_by 0) (sym stays.0) order
    ]

    pub order_all : (first : Entry) (before : List Entry) (run : Run D) (entries : List Entry) (after : Run D) → IsInOrder kind_by 0 run.host
        → AreRunSteps on by (first ∷ before) run entries after → IsInOrder kind_by 0 after.host
    order_all first before run [] after order steps = subst (λ (given : Run D). IsInOrder kind_by 0 given.host) (sym steps) order
    order_all first before run (entry ∷ entries) after order steps =
        order_all first (before ++ entry ∷ []) steps.0 entries after (order_step first before run entry steps.0 order steps.1) steps.2

    pub valid_list : LeavesValidList on by
    valid_list outset [] after history = subst (λ (given : Run D). HasValidList given.host) (sym history.steps) tt
    valid_list outset (entry ∷ entries) after history =
        let next = history.steps.0 in
        let start = with_members (no_run outset) history.steps.1.acted in
        let step = history.steps.1.answered.answered in
        elim history.begins.1 [
          | inl none ↦ (
              let ends = subst (λ entries. AreRunSteps on by (entry ∷ []) next entries after) none history.steps.2 in
              subst (λ (given : Run D). HasValidList given.host) (sym ends)
              (valid_opened start entry.asked entry.answer entry.outside next refl history.begins.0 step)
              )
          | inr opened ↦ (
              let new = new_opened start entry.asked entry.answer entry.outside next refl history.begins.0 opened step in
              (order_all entry [] next entries after (new_order kind_by 0 next.host new (omega arith)) history.steps.2).sound.valid
              )
        ]
