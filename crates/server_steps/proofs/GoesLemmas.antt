-- A server that goes on as it was: sound, with messages of its group that its sessions keep, and no others that it sends. What does not send any.
use Rattle.std.proofs.Common.{◌≡◌, ◌∙◌, ◌≤◌, ℕ, Bool, true, false, List, [], ◌∷◌, ◌++◌, length, Option, None, Some, Result, Ok, Err}
use Rattle.std.proofs.Common.{refl, sym, ap, subst, inl, inr, arith}
use Rattle.std.specs.Prelude.{Contains, IfSome, if◌then◌else◌}
use Rattle.std.specs.List.{All}
use Rattle.std.proofs.lemmas.Bool.{false≢true}
use Rattle.std.proofs.lemmas.List.Elements.{All-map, All-push}
use Rattle.gd_disk.specs.declared.disks.Disk.{Ghosts as DiskGhosts}
use Rattle.gd_edges.specs.declared.signers.Signer.{Ghosts as SignerGhosts}
use Rattle.group_terms.specs.Names.{Name}
use Rattle.group_terms.specs.declared.changes.Change.{Change}
use Rattle.group_terms.specs.declared.changes.Change.TheVariants.{Out}
use Rattle.group_terms.specs.declared.patterns.Rule.{Rule}
use Rattle.group_terms.specs.declared.phases.Phase1.{Phase1}
use Rattle.group_terms.specs.declared.signatures.SignKind.{SignKind}
use Rattle.group_values.specs.Values.{Made, batches_made}
use Rattle.group_model.specs.Answers.{is_open, unless_refused}
use Rattle.group_model.specs.Derivations.{replies_in}
use Rattle.group_model.specs.Laws.{Laws}
use Rattle.group_model.specs.Places.{Fits, IsValid, holders_of}
use Rattle.group_model.specs.Refusals.{why_no_leave}
use Rattle.group_model.specs.Seen.{seen_group}
use Rattle.group_model.specs.Servers.{halted, members_now, present_batches, with_change}
use Rattle.group_model.specs.declared.entries.Answer.{Answer}
use Rattle.group_model.specs.declared.entries.Answer.TheVariants.{Batched, Datagram, Done, Opened, Queued, RuleNumber, Shown, Refused}
use Rattle.group_model.specs.declared.entries.Entry.{Entry}
use Rattle.group_model.specs.declared.entries.GroupSeen.{GroupSeen}
use Rattle.group_model.specs.declared.entries.Output.{Output}
use Rattle.group_model.specs.declared.entries.Outside.{Outside}
use Rattle.group_model.specs.declared.entries.PushPair.{PushPair}
use Rattle.group_model.specs.declared.entries.Refusal.{Refusal}
use Rattle.group_model.specs.declared.entries.Refusal.TheVariants.{NeedsReopen, NoMemory}
use Rattle.group_model.specs.declared.entries.SymReply.{SymReply}
use Rattle.pull_sessions.specs.Sessions.{AreApart, IsIntroduction, Sessions, new_sa, with_sa}
use Rattle.pull_sessions.specs.declared.refusals.SessionRefusal.{SessionRefusal}
use Rattle.pull_sessions.specs.declared.sas.Sa.{Sa}
use Rattle.server_steps.specs.Changes.{IsAddingRule, IsHalting, IsLeaving, IsShowing, after_leave}
use Rattle.server_steps.specs.Hosts.{Host, with_disk, with_rules, with_server, with_sessions}
use Rattle.server_steps.specs.Messages.{HasSizes, IsSound, KeepsMessage, KeptAreMessages}
use Rattle.server_steps.specs.Messages.{SendsMessages}
use Rattle.server_steps.specs.Openings.{FindsGroup, Found, IsOpeningAgain, opened_host}
use Rattle.server_steps.specs.Outsides.{Says}
use Rattle.server_steps.specs.Pulls.{IsIntroducing, answer_introduced}
use Rattle.server_steps.specs.Refusals.{refusal_of}
use Rattle.server_steps.proofs.FitLemmas.{fits_left, valid_from}
use Rattle.server_steps.proofs.SasLemmas.{introduced_apart, still_apart}

-- what a host was: sound, since an epoch, with messages of its group
pub record IsGood {D : Type 0} (kind : SignKind) (first : ℕ) (host : Host D) : Type 0 where
  pub sound : IsSound host
  pub early : first ≤ length host.server.list
  pub keeps : KeptAreMessages kind first host

-- what it is once it answered
pub record Goes {D : Type 0} (kind : SignKind) (first : ℕ) (host : Host D) (entry : Entry) (next : Host D) : Type 0 where
  pub sound : IsSound next
  pub keeps : KeptAreMessages kind first next
  pub renewed : is_open entry.answer ≡ true → (later : ℕ) → KeptAreMessages kind later next
  pub sends : SendsMessages kind first host entry next

abbrev pub IsWritten : Sa → Type 0
IsWritten sa = IfSome sa.session HasSizes

-- ---- answers that send no message of a pull

pub record IsSilent (answer : Answer) : Type 0 where
  pub no_datagram : (octets : List ℕ) (names : Option SymReply) → answer ≡ Datagram octets names → ⊥
  pub no_batch : (output : Output) → answer ≡ Batched output → ⊥
  pub none_told : replies_in answer ≡ []

pub silent_done : IsSilent Done
silent_done = record { no_datagram = λ octets names is. cc is; no_batch = λ output is. cc is; none_told = refl }

pub silent_queued : IsSilent Queued
silent_queued = record { no_datagram = λ octets names is. cc is; no_batch = λ output is. cc is; none_told = refl }

pub silent_number : (number : ℕ) → IsSilent (RuleNumber number)
silent_number number = record { no_datagram = λ octets names is. cc is; no_batch = λ output is. cc is; none_told = refl }

pub silent_shown : (seen : GroupSeen) → IsSilent (Shown seen)
silent_shown seen = record { no_datagram = λ octets names is. cc is; no_batch = λ output is. cc is; none_told = refl }

pub silent_opened : (seen : GroupSeen) (resent : Option PushPair) → IsSilent (Opened seen resent)
silent_opened seen resent = record { no_datagram = λ octets names is. cc is; no_batch = λ output is. cc is; none_told = refl }

pub silent_refused : (why : Refusal) → IsSilent (Refused why)
silent_refused why = record { no_datagram = λ octets names is. cc is; no_batch = λ output is. cc is; none_told = refl }

pub no_item : {X : Type 0} (x : X) → Contains [] x → ⊥
no_item x c = omega (arith, c.1)

module _ {D : Type 0} {kind : SignKind} {first : ℕ} {host : Host D} (entry : Entry) (good : IsGood kind first host) where
  abbrev GoesTo : Host D → Type 0
  GoesTo = Goes kind first host entry

  abbrev sas : List Sa
  sas = host.sessions.sas

  sends_none : (answer : Answer) → entry.answer ≡ answer → IsSilent answer → (next : Host D) → SendsMessages kind first host entry next
  sends_none answer same silent next = record {
    answers = λ m datagram octets names asks is. absurd (silent.no_datagram octets names (sym same ∙ is));
    replies = λ output is. absurd (silent.no_batch output (sym same ∙ is));
    tells = λ reply c. absurd (no_item reply (subst (λ told. Contains told reply) (ap replies_in same ∙ silent.none_told) c));
  }

  pub not_opened : (answer : Answer) (P : Type 0) → entry.answer ≡ answer → is_open answer ≡ false → is_open entry.answer ≡ true → P
  not_opened answer P same closed opened = absurd (false≢true (sym closed ∙ sym (ap is_open same) ∙ opened))

  pub quiet : (next made : Host D) (answer : Answer) → next ≡ made → entry.answer ≡ answer → IsSilent answer → is_open answer ≡ false → IsSound made
      → KeptAreMessages kind first made → GoesTo next
  quiet next made answer is same silent closed sound keeps =
      subst GoesTo (sym is) (record {
        sound = sound;
        keeps = keeps;
        renewed = not_opened answer ((later : ℕ) → KeptAreMessages kind later made) same closed;
        sends = sends_none answer same silent made;
      })

  pub still : (next : Host D) (answer : Answer) → next ≡ host → entry.answer ≡ answer → IsSilent answer → is_open answer ≡ false → GoesTo next
  still next answer is same silent closed = quiet next host answer is same silent closed good.sound good.keeps

  pub refused : (next : Host D) (outside : Outside) (why : Refusal) → Says (Refused why) host entry.answer outside next → GoesTo next
  refused next outside why says = still next (Refused why) says.stays says.answers (silent_refused why) refl

  -- the same batches, SAs and sessions, and what waits
  pub same_sound : (made : Host D) → made.server.depth ≡ host.server.depth → made.server.list ≡ host.server.list → made.server.queue ≡ host.server.queue
      → made.sessions ≡ host.sessions → IsSound made
  same_sound made depth list queue sessions = record {
    deep = subst (λ n. 1 ≤ n) (sym depth) good.sound.deep;
    valid = subst (λ (x : ℕ × List Made). IsValid x.0 (batches_made x.1)) (λ i. (sym depth i, sym list i)) good.sound.valid;
    fits = subst (λ (x : ℕ × List Made × List Change). Fits (holders_of x.0 (batches_made x.1)) x.2) (λ i. (sym depth i, sym list i, sym queue i))
        good.sound.fits;
    apart = subst (λ (given : Sessions). AreApart given.sas) (sym sessions) good.sound.apart;
    written = subst (λ (given : Sessions). All IsWritten given.sas) (sym sessions) good.sound.written;
  }

  pub adding : (rule : Rule) (next : Host D) (outside : Outside) → IsAddingRule rule host entry.answer outside next → GoesTo next
  adding rule next outside (inl becomes) =
      quiet next (with_rules host (host.rules ++ rule ∷ [])) (RuleNumber _) becomes.now becomes.answers (silent_number _) refl
      (same_sound (with_rules host (host.rules ++ rule ∷ [])) refl refl refl refl) good.keeps
  adding rule next outside (inr says) = refused next outside NoMemory says

  pub introducing : (phase : Phase1) (next : Host D) (outside : Outside) → IsIntroducing phase host entry.answer outside next → GoesTo next
  introducing phase next outside step = by step.result step.introduces step.answers
    where
      by : (result : Result (Unit {0}) SessionRefusal) → IsIntroduction host.sessions phase result step.sessions → entry.answer ≡ answer_introduced result
          → GoesTo next
      by (Ok done) is answers =
          quiet next (with_sessions host (with_sa host.sessions phase)) Done (step.now ∙ ap (with_sessions host) is.1) answers silent_done refl
          (record {
            deep = good.sound.deep;
            valid = good.sound.valid;
            fits = good.sound.fits;
            apart = introduced_apart host.sessions phase good.sound.apart is.0;
            written = All-push IsWritten sas (new_sa phase) good.sound.written tt;
          })
          (All-push (KeepsMessage kind first host.server.depth host.head.spi host.server.list) sas (new_sa phase) good.keeps tt)
      by (Err why) is answers =
          still next (Refused (refusal_of why)) (step.now ∙ ap (with_sessions host) is.1) answers (silent_refused (refusal_of why)) refl

  pub leaving : Laws → (m : Name) (next : Host D) (outside : Outside) → IsLeaving m host entry.answer outside next → GoesTo next
  leaving laws m next outside step = by (why_no_leave host.server.needs_reopen host.server.depth (members_now host.server) host.server.queue m) refl
    where
      by : (reason : Option Refusal) → why_no_leave host.server.needs_reopen host.server.depth (members_now host.server) host.server.queue m ≡ reason
          → GoesTo next
      by None is =
          let same : entry.answer ≡ Done = step.answers ∙ ap (λ reason. unless_refused reason Done) is in
          quiet next (with_server host (with_change host.server (Out m))) Done (step.now ∙ ap (after_leave host m) same) same silent_done refl
          (record {
            deep = good.sound.deep;
            valid = good.sound.valid;
            fits = fits_left laws host.server.needs_reopen host.server.depth (members_now host.server) host.server.queue good.sound.fits m is;
            apart = good.sound.apart;
            written = good.sound.written;
          })
          good.keeps
      by (Some why) is =
          let same : entry.answer ≡ Refused why = step.answers ∙ ap (λ reason. unless_refused reason Done) is in
          still next (Refused why) (step.now ∙ ap (after_leave host m) same) same (silent_refused why) refl

  pub halting : (next : Host D) (outside : Outside) → IsHalting host entry.answer outside next → GoesTo next
  halting next outside step =
      quiet next (with_server host (halted host.server)) Done step.now step.answers silent_done refl
      (same_sound (with_server host (halted host.server)) refl refl refl refl) good.keeps

  pub showing : (next : Host D) (outside : Outside) → IsShowing host entry.answer outside next → GoesTo next
  showing next outside says = by host.server.needs_reopen says.answers
    where
      by : (needs_reopen : Bool)
          → entry.answer ≡ (if needs_reopen then Refused NeedsReopen else Shown (seen_group host.server.depth (present_batches host.server)))
          → GoesTo next
      by true same = still next (Refused NeedsReopen) says.stays same (silent_refused NeedsReopen) refl
      by false same = still next (Shown _) says.stays same (silent_shown _) refl

  -- ---- openings

  finding : {G : Type 0} (d : DiskGhosts D) (g : SignerGhosts G) (signer : G) → Laws → (next : Host D) (outside : Outside) (found : Found)
      → FindsGroup d g signer host found entry.answer outside next → GoesTo next
  finding d g signer laws next outside found finds =
      let made : Host D = opened_host host found next.disk in
      subst GoesTo (sym finds.now) (record {
        sound = record {
          deep = finds.group.head.fits.shallow;
          valid = valid_from found.head.depth found.head.limit [] found.list finds.group.due;
          fits = laws.no_change_fits (holders_of found.head.depth (batches_made found.list));
          apart = still_apart (λ (sa : Sa). new_sa sa.phase) (λ sa. refl) sas good.sound.apart;
          written = All-map IsWritten (λ (sa : Sa). new_sa sa.phase) sas (λ k d less. tt);
        };
        keeps = All-map (KeepsMessage kind first found.head.depth found.head.spi found.list) (λ (sa : Sa). new_sa sa.phase) sas (λ k d less. tt);
        renewed = λ opened later.
            All-map (KeepsMessage kind later found.head.depth found.head.spi found.list) (λ (sa : Sa). new_sa sa.phase) sas (λ k d less. tt);
        sends = sends_none (Opened (seen_group found.head.depth (batches_made found.list)) finds.resent) finds.answers (silent_opened _ _) made;
      })

  pub opening : {G : Type 0} (d : DiskGhosts D) (g : SignerGhosts G) (signer : G) → Laws → (next : Host D) (outside : Outside)
      → IsOpeningAgain d g signer host entry.answer outside next → GoesTo next
  opening d g signer laws next outside step = elim step.ends [
    | inl opens ↦ finding d g signer laws next outside opens.found opens.finds
    | inr fails ↦
        quiet next (with_disk (with_server host (halted host.server)) next.disk) (Refused fails.why) fails.now fails.answers
        (silent_refused fails.why) refl (same_sound (with_disk (with_server host (halted host.server)) next.disk) refl refl refl refl) good.keeps
  ]
