-- A group that was made or found has keys, whatever its disk does.
use Rattle.std.proofs.Common.{◌≡◌, ◌∙◌, ◌⊎◌, ℕ, ◌+◌, ◌<◌, ◌≤◌, true, false, Bool, leb, ltb, List, [], ◌∷◌, ◌++◌, None, Some, if◌then◌else◌}
use Rattle.std.proofs.Common.{arith, length, length-append, refl, sym, ap, subst, inl, inr}
use Rattle.std.specs.List.{All, Contains}
use Rattle.std.proofs.lemmas.Bool.{false≢true, leb-true, ltb-true}
use Rattle.std.proofs.lemmas.List.{append_assoc, append-nil, length-map, map-append}
use Rattle.std.proofs.lemmas.List.Elements.{All-nil, All-push}
use Rattle.group_terms.specs.Names.{Name}
use Rattle.group_terms.specs.declared.changes.Change.{Change}
use Rattle.group_values.specs.Values.{Made, batches_made}
use Rattle.group_model.specs.Answers.{is_open}
use Rattle.group_model.specs.Places.{IsValid}
use Rattle.group_model.specs.Servers.{Server, coming_batches, coming_sequence, present_epoch, present_sequence, refusal_to_batch}
use Rattle.group_model.specs.Stayed.{sequence_at}
use Rattle.group_model.specs.declared.entries.Answer.{Answer}
use Rattle.group_model.specs.declared.entries.Counter.TheVariants.{Epoch, Sequence}
use Rattle.group_model.specs.declared.entries.Entry.{Entry}
use Rattle.group_model.specs.declared.entries.Outside.{Outside}
use Rattle.group_model.specs.declared.entries.Refusal.{Refusal}
use Rattle.group_model.specs.declared.entries.Refusal.TheVariants.{NeedsReopen, Spent}
use Rattle.group_peers.specs.Peers.{store_of}
use Rattle.group_pushes.specs.Fits.{MadeFits}
use Rattle.group_records.specs.declared.heads.Head.{Head}
use Rattle.gcks_core.specs.Stored.{AreDueFrom}
use Rattle.law_member_roots.specs.Groups.{IsKeyedGroup}
use Rattle.server_steps.specs.Batches.{IsStored, made_next}
use Rattle.server_steps.specs.Hosts.{Host}
use Rattle.server_steps.specs.Openings.{FindsGroup, Found, IsHead}
use Rattle.member_store.specs.Stores.{Store}
use Rattle.member_steps.specs.Acts.{Acts}
use Rattle.member_steps.specs.Members.{Mail, Members}
use Rattle.group_steps.specs.Devices.{Devices, Keying}
use Rattle.group_steps.specs.Kinds.{EachStepIsOfAKind, IsOfAKind, IsQuiet}
use Rattle.group_steps.specs.Laws.{LeavesValidList}
use Rattle.group_steps.specs.Runs.{Outset, Run, no_run, with_members}
use Rattle.group_steps.specs.Steps.{AreRunSteps, IsHistory}
use Rattle.law_store_steps.specs.Follow.{OpenedGroupsHaveKeys}
use Rattle.law_store_steps.proofs.ActLemmas.{all_after, stay}
use Rattle.law_store_steps.proofs.FirstLemmas.{IsFirst, first_of, members_first}
use Rattle.law_store_steps.proofs.PeerLemmas.{Holds, found}
use Rattle.law_store_steps.proofs.StoreLemmas.{stores_kept}

-- ---- epochs and numbers

-- in a tree of this depth the last epoch of batches, and the number of the last push, are not past a limit
record IsWithin (depth limit : ℕ) (batches : List (List Change)) : Type 0 where
  epoch : length batches ≤ limit
  number : sequence_at depth batches (length batches) ≤ limit

within_none : (depth limit : ℕ) → IsWithin depth limit []
unfolding sequence_at
within_none depth limit = record { epoch = omega arith; number = omega arith }

-- one batch more, which makes this epoch
within_more : (depth limit : ℕ) (batches : List (List Change)) (batch : List Change) → length batches + 1 ≤ limit
    → sequence_at depth (batches ++ batch ∷ []) (length batches + 1) ≤ limit → IsWithin depth limit (batches ++ batch ∷ [])
within_more depth limit batches batch epoch number =
    let long : length (batches ++ batch ∷ []) ≡ length batches + 1 = length-append batches (batch ∷ []) in
    record {
      epoch = subst (λ n. n ≤ limit) (sym long) epoch;
      number = subst (λ n. sequence_at depth (batches ++ batch ∷ []) n ≤ limit) (sym long) number;
    }

-- batches that are due one after the other
within_due : (depth limit : ℕ) (before : List (List Change)) (list : List Made) → IsWithin depth limit before → AreDueFrom depth limit before list
    → IsWithin depth limit (before ++ batches_made list)
within_due depth limit before [] within due = subst (IsWithin depth limit) (sym (append-nil before)) within
within_due depth limit before (made ∷ list) within due =
    subst (IsWithin depth limit) (append_assoc before (made.changes ∷ []) (batches_made list))
    (within_due depth limit (before ++ made.changes ∷ []) list (within_more depth limit before made.changes due.0.early due.0.numbered) due.1)

-- a batch that is not refused
granted_if : (needs_reopen early numbered : Bool) (again past over : Refusal)
    → (if needs_reopen then Some again else (if early then (if numbered then None else Some past) else Some over)) ≡ None
    → (early ≡ true) × (numbered ≡ true)
granted_if true early numbered again past over none = absurd (cc none)
granted_if false true true again past over none = (refl, refl)
granted_if false true false again past over none = absurd (cc none)
granted_if false false numbered again past over none = absurd (cc none)

granted : (server : Server) → refusal_to_batch server ≡ None
    → (present_epoch server < server.limit) × (coming_sequence server ≤ server.limit)
granted server none =
    let within =
    granted_if server.needs_reopen (ltb (present_epoch server) server.limit) (leb (coming_sequence server) server.limit) NeedsReopen
    (Spent Sequence (present_sequence server)) (Spent Epoch (present_epoch server)) none
    in (ltb-true (present_epoch server) server.limit within.0, leb-true (coming_sequence server) server.limit within.1)

within_next : (server : Server) (made : Made) → made.changes ≡ server.queue → refusal_to_batch server ≡ None
    → IsWithin server.depth server.limit (batches_made (server.list ++ made ∷ []))
within_next server made changes none =
    let limits = granted server none in
    let long : length (batches_made server.list) ≡ length server.list = length-map server.list (λ (made : Made). made.changes) in
    subst (IsWithin server.depth server.limit)
    (ap (λ batch. batches_made server.list ++ batch ∷ []) (sym changes) ∙ sym (map-append (λ (made : Made). made.changes) server.list (made ∷ [])))
    (within_more server.depth server.limit (batches_made server.list) server.queue (omega (arith, long, limits.0))
    (subst (λ n. sequence_at server.depth (coming_batches server) (n + 1) ≤ server.limit) (sym long) limits.1))

-- ---- a host whose group has keys

-- The head of a journal, a server with this depth and this limit, as the head says, and batches with values that are keys, which are not past the limit.
record HasKeys (head : Head) (depth limit : ℕ) (list : List Made) : Type 0 where
  is_head : IsHead head
  as_deep : head.depth ≡ depth
  as_far : head.limit ≡ limit
  fit : All MadeFits list
  within : IsWithin depth limit (batches_made list)

abbrev IsOpened : {D : Type 0} → Host D → Type 0
IsOpened host = HasKeys host.head host.server.depth host.server.limit host.server.list

keyed_group : (head : Head) (depth limit : ℕ) (list : List Made) → HasKeys head depth limit list → IsValid depth (batches_made list)
    → IsKeyedGroup depth head.spi list
keyed_group head depth limit list has valid =
    let long : length (batches_made list) ≡ length list = length-map list (λ (made : Made). made.changes) in
    let number = subst (λ n. sequence_at depth (batches_made list) n ≤ limit) long has.within.number in
    record {
      some = subst (λ n. 1 ≤ n) has.as_deep has.is_head.fits.shallow;
      shallow = subst (λ n. n ≤ 9) has.as_deep has.is_head.fits.not_deep;
      valid = valid;
      fit = has.fit;
      epochs = omega (arith, long, has.within.epoch, has.as_far, has.is_head.fits.small);
      numbers = omega (arith, number, has.as_far, has.is_head.fits.small);
      spi_size = has.is_head.fits.spi;
      spi_octets = has.is_head.octets;
    }

module _ {D G V : Type 0} (on : Devices D G V) (by : Keying G) where
  -- a host that is equal to one of a group that was opened
  is_opened : (next made : Host D) → next ≡ made → IsOpened made → IsOpened next
  is_opened next made is has = subst (λ (given : Host D). IsOpened given) (sym is) has

  -- what an opening found
  opened_found : (host : Host D) (found : Found) (answer : Answer) (outside : Outside) (next : Host D)
      → FindsGroup on.disks on.signers by.signer host found answer outside next → IsOpened next
  opened_found host found answer outside next finds = is_opened next _ finds.now (record {
    is_head = finds.group.head;
    as_deep = refl;
    as_far = refl;
    fit = finds.group.fit;
    within =
        within_due found.head.depth found.head.limit [] found.list (within_none found.head.depth found.head.limit) finds.group.due;
  })

  -- ---- the first request

  opened_first : (host : Host D) (answer : Answer) (outside : Outside) (next : Host D) → is_open answer ≡ true
      → IsFirst on.disks on.signers by.signer by.block host answer outside next → IsOpened next
  opened_first host answer outside next opened (inl made) = is_opened next _ made.1.now (record {
    is_head = made.1.head;
    as_deep = refl;
    as_far = refl;
    fit = All-nil MadeFits;
    within = within_none made.0 host.head.limit;
  })
  opened_first host answer outside next opened (inr (inl found)) = opened_found host found.0 answer outside next found.1
  opened_first host answer outside next opened (inr (inr refusal)) = absurd (false≢true (sym (ap is_open refusal.answers) ∙ opened))

  -- ---- those after it

  -- with the batch that waited
  opened_stored : (host : Host D) (answer : Answer) (outside : Outside) (next : Host D) → IsOpened host
      → IsStored on.disks on.signers by.signer by.block host answer outside next → IsOpened next
  opened_stored host answer outside next has stored =
      let made = made_next on.disks on.signers by.signer by.block host in
      is_opened next _ stored.now (record {
        is_head = has.is_head;
        as_deep = has.as_deep;
        as_far = has.as_far;
        fit = All-push MadeFits host.server.list made has.fit stored.fit;
        within = within_next host.server made refl stored.granted;
      })

  opened_quiet : (host : Host D) (answer : Answer) (next : Host D) → IsOpened host → IsQuiet host answer next → IsOpened next
  opened_quiet host answer next has quiet =
      subst (λ head. HasKeys head next.server.depth next.server.limit next.server.list) (sym quiet.head)
      (subst (λ depth. HasKeys host.head depth next.server.limit next.server.list) (sym quiet.depth)
      (subst (λ limit. HasKeys host.head host.server.depth limit next.server.list) (sym quiet.limit)
      (subst (HasKeys host.head host.server.depth host.server.limit) (sym quiet.list) has)))

  -- opened again, it goes on with what was found, whatever that is
  opened_kind : (host : Host D) (entry : Entry) (next : Host D) → IsOpened host → IsOfAKind on by host entry next → IsOpened next
  opened_kind host entry next has (inl quiet) = opened_quiet host entry.answer next has quiet
  opened_kind host entry next has (inr (inl stored)) = opened_stored host entry.answer entry.outside next has stored
  opened_kind host entry next has (inr (inr found)) = opened_found host found.0 entry.answer entry.outside next found.2

  opened_after : EachStepIsOfAKind on by → (first : Entry) (before : List Entry) (run : Run D) (entries : List Entry)
      (after : Run D) → IsOpened run.host → AreRunSteps on by (first ∷ before) run entries after → IsOpened after.host
  opened_after kinds first before run [] after has steps = subst (λ (given : Run D). IsOpened given.host) (sym steps) has
  opened_after kinds first before run (entry ∷ entries) after has steps =
      opened_after kinds first (before ++ entry ∷ []) steps.0 entries after
      (opened_kind run.host entry steps.0.host has (kinds first before run entry steps.0 steps.1)) steps.2

  pub opened_have_keys : EachStepIsOfAKind on by → LeavesValidList on by
      → OpenedGroupsHaveKeys on by
  opened_have_keys kinds valid outset first later after history opened =
      let start = no_run outset in
      let step = history.steps.1 in
      let next = history.steps.0 in
      let is =
      first_of on by [] (with_members start step.acted) first.answer first.outside next first.asked history.begins.0 step.answered.answered in
      let has = opened_first start.host first.answer first.outside next.host opened is in
      keyed_group after.host.head after.host.server.depth after.host.server.limit after.host.server.list
      (opened_after kinds first [] next later after has history.steps.2) (valid outset (first ∷ later) after history)

  -- ---- those who have stores

  -- nothing is on its way, and nobody has a store
  pub record IsBare (members : Members) : Type 0 where
    pub mail : (mail : Mail) → Contains members.mail mail → ⊥
    pub stores : All (Holds (λ m store. ⊥)) members.all

  bare_first : (outset : Outset D) → IsBare (no_run outset).members
  bare_first outset = record { mail = λ mail is. omega (arith, is.1); stores = All-nil (Holds (λ m store. ⊥)) }

  bare_acted : (old new : Members) → Acts by.members_block by.group old new → IsBare old → IsBare new
  bare_acted old new acts bare = record {
    mail = λ mail is. bare.mail mail ((stay by.members_block by.group old new acts).mail mail is);
    stores = all_after (Holds (λ m store. ⊥)) (stores_kept (λ m store. ⊥)) by.members_block by.group old new bare.stores acts;
  }

  -- a history that opened no group ends so
  pub keyed_or_bare : OpenedGroupsHaveKeys on by → (outset : Outset D) (entries : List Entry) (after : Run D)
      → IsHistory on by (no_run outset) entries after
      → IsKeyedGroup after.host.server.depth after.host.head.spi after.host.server.list ⊎ IsBare after.members
  keyed_or_bare have outset [] after history = inr (subst (λ (given : Run D). IsBare given.members) (sym history.steps) (bare_first outset))
  keyed_or_bare have outset (first ∷ []) after history =
      let start = no_run outset in
      let next = history.steps.0 in
      let step = history.steps.1 in
      let acted = bare_acted start.members step.acted step.acts (bare_first outset) in
      let stays =
      members_first on by [] (with_members start step.acted) first.answer first.outside next first.asked history.begins.0 step.answered.answered in
      inr (subst (λ (given : Run D). IsBare given.members) (sym history.steps.2) (subst IsBare (sym stays) acted))
  keyed_or_bare have outset (first ∷ second ∷ later) after history = elim history.begins.1 [
    | inl none ↦ absurd (cc none)
    | inr opened ↦ inl (have outset first (second ∷ later) after history opened)
  ]

  -- so where somebody has a store, there is a group with keys
  pub keyed_with : OpenedGroupsHaveKeys on by → (outset : Outset D) (entries : List Entry) (after : Run D)
      → IsHistory on by (no_run outset) entries after → (m : Name) (store : Store) → store_of after.members.all m ≡ Some store
      → IsKeyedGroup after.host.server.depth after.host.head.spi after.host.server.list
  keyed_with have outset entries after history m store had = elim (keyed_or_bare have outset entries after history) [
    | inl group ↦ group
    | inr bare ↦ absurd (found (λ m store. ⊥) after.members.all m store bare.stores had)
  ]

  -- and where something is on its way
  pub keyed_told : OpenedGroupsHaveKeys on by → (outset : Outset D) (entries : List Entry) (after : Run D)
      → IsHistory on by (no_run outset) entries after → (mail : Mail) → Contains after.members.mail mail
      → IsKeyedGroup after.host.server.depth after.host.head.spi after.host.server.list
  keyed_told have outset entries after history mail is = elim (keyed_or_bare have outset entries after history) [
    | inl group ↦ group
    | inr bare ↦ absurd (bare.mail mail is)
  ]
