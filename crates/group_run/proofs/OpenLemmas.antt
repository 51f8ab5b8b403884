-- What comes of an opening, from what comes of it for the server.
use Rattle.std.proofs.Common.{◌≡◌, ◌∙◌, inl, ⊎_elim, ℕ, ◌+◌, ◌<◌, ◌^◌, [], ◌∷◌, List, map, IfSome, Option, refl, sym, ap, subst}
use Rattle.gd_disk.specs.declared.disks.Disk.{Ghosts as DiskGhosts}
use Rattle.gd_edges.specs.declared.draws.Draws.{Ghosts as DrawGhosts}
use Rattle.gd_edges.specs.declared.signers.Signer.{Ghosts as SignerGhosts}
use Rattle.group_model.specs.Seen.{seen_group}
use Rattle.group_model.specs.Servers.{Server, present_batches}
use Rattle.group_model.specs.declared.entries.Answer.{Answer}
use Rattle.group_model.specs.declared.entries.Answer.TheVariants.{Refused}
use Rattle.group_model.specs.declared.entries.Asked.{Asked}
use Rattle.group_model.specs.declared.entries.Entry.{Entry}
use Rattle.group_model.specs.declared.entries.Outside.{Outside}
use Rattle.group_model.specs.declared.entries.PushPair.{PushPair}
use Rattle.group_model.specs.declared.entries.Refusal.{Refusal}
use Rattle.gcks_core.specs.Stands.{Stands}
use Rattle.gcks_core.specs.declared.outputs.Parts.{Parts}
use Rattle.pull_sessions.specs.Sessions.{Sessions, new_sa}
use Rattle.pull_sessions.specs.declared.sas.Sa.{Sa}
use Rattle.server_steps.specs.Entries.{noted}
use Rattle.server_steps.specs.Hosts.{Host}
use Rattle.server_steps.specs.Openings.{Begins, FailsToBegin, FailsToMake, IsBeginning, IsCreation, Makes}
use Rattle.server_steps.specs.Opens.{FailsToOpen as ServerFails, Opens as ServerOpens}
use Rattle.server_steps.specs.Reflects.{IsServerOf}
use Rattle.server_steps.specs.Sent.{pair_by}
use Rattle.server_steps.specs.Serves.{answer_opened}
use Rattle.server_steps.specs.Steps.{IsHostStep}
use Rattle.server_steps.specs.Views.{View as ServerView}
use Rattle.member_steps.specs.Members.{nobody}
use Rattle.group_steps.specs.Runs.{Run}
use Rattle.group_steps.specs.Steps.{IsOpening, IsStepBy}
use Rattle.group_run.specs.Openings.{FailsToOpen, Opens}
use Rattle.group_run.specs.Views.{View}

-- a run in which nobody was used
abbrev pub lonely : {D : Type 0} → Host D → ℕ → Run D
lonely host place = record { host = host; members = nobody place }

-- the view of a group that was just opened
abbrev pub just_opened : {D G R : Type 0} → ServerView D G R → ℕ → Asked → Answer → ℕ → View D G R
just_opened server members_place request answer place =
    record { server = server; members = nobody members_place; entries = noted request answer place ∷ [] }

opening_step : {D : Type 0} (d : DiskGhosts D) (step : Host D → Answer → Outside → Host D → Type 0) (start next : Host D) (place : ℕ) (entry : Entry)
    → IsHostStep d step start entry next → IsStepBy d (IsOpening [] step) (lonely start place) entry (lonely next place)
opening_step d step start next place entry stepped =
    record { answered = record { is_first = refl; opens = stepped.answered; stay = refl }; keeps = stepped.keeps; counts = stepped.counts }

module _ {D G R : Type 0} (d : DiskGhosts D) (draws : DrawGhosts R) (step : Host D → Answer → Outside → Host D → Type 0) (request : Asked) (start : Host D)
    (parts : Parts D G R) (members_place : ℕ) where
  -- the answer shows the group as it is then, and this pair was sent again
  pub opens : (server : ServerView D G R) (pair : Option PushPair) (answer : Answer) → ServerOpens d draws step request start parts server pair
      → ((one : Server) → Stands draws server.core one → answer ≡ answer_opened one pair)
      → {held : View D G R} → held ≡ just_opened server members_place request answer (draws.place_of parts.draws)
      → Opens d draws step request (lonely start members_place) held
  opens server pair answer is shows {held} held_is =
      let says = shows is.next.server is.server.stands in
      subst (Opens d draws step request (lonely start members_place)) (sym held_is) (record {
        entry = noted request answer (draws.place_of parts.draws);
        alone = refl;
        asked = refl;
        seen = seen_group is.next.server.depth (present_batches is.next.server);
        resent = pair;
        is_open = says;
        after = lonely is.next members_place;
        stepped = subst (λ answer. IsStepBy d (IsOpening [] step) (lonely start members_place) (noted request answer (draws.place_of parts.draws))
            (lonely is.next members_place)) (sym says)
            (opening_step d step start is.next members_place (noted request (answer_opened is.next.server pair) (draws.place_of parts.draws)) is.stepped);
        reflects = record { server = is.server; members = (0, refl) };
      })

  -- what the group is built on goes on
  pub stands_on : (server : ServerView D G R) (pair : Option PushPair) → ServerOpens d draws step request start parts server pair
      → (held : View D G R) → held.server ≡ server
      → (held.server.core.signer ≡ parts.signer) × ((k : ℕ) → draws.block_at held.server.core.draws k ≡ draws.block_at parts.draws k)
  stands_on server pair is held same =
      subst (λ (server : ServerView D G R). (server.core.signer ≡ parts.signer) × ((k : ℕ) → draws.block_at server.core.draws k ≡ draws.block_at parts.draws k))
      (sym same) (is.signer, is.blocks)

  pub opens_not : (why : Refusal) (back : Parts D G R) → ServerFails d draws step request start parts why back
      → FailsToOpen d step request (lonely start members_place) (noted request (Refused why) (draws.place_of parts.draws) ∷ []) back.disk
  opens_not why back fails = inl (record {
    entry = noted request (Refused why) (draws.place_of parts.draws);
    alone = refl;
    asked = refl;
    why = why;
    refused = refl;
    after = lonely fails.next members_place;
    stepped = opening_step d step start fails.next members_place (noted request (Refused why) (draws.place_of parts.draws)) fails.stepped;
    left = fails.disk;
  })

-- ---- nobody is there yet

-- no rule, and no SA
pub record IsNew {D : Type 0} (host : Host D) : Type 0 where
  pub rules : host.rules ≡ []
  pub sas : host.sessions.sas ≡ []

open_refused : (seen : Server) (pair : Option PushPair) (why : Refusal) → answer_opened seen pair ≡ Refused why → ⊥
open_refused seen pair why is = cc is

-- a server has none
pub record IsBare {D G R : Type 0} (server : ServerView D G R) : Type 0 where
  pub rules : server.rules ≡ []
  pub sas : server.sessions.sas ≡ []

module _ {D G R : Type 0} (d : DiskGhosts D) (draws : DrawGhosts R) (parts : Parts D G R) (start : Host D) (new : IsNew start) (server : ServerView D G R)
    (pair : Option PushPair) where
  bare : (next : Host D) → IsServerOf d draws server next → IsNew next → IsBare server
  bare next is next_new = record {
    rules = sym is.rules ∙ next_new.rules;
    sas = ap (λ (sessions : Sessions). sessions.sas) (sym is.sessions) ∙ next_new.sas;
  }

  pub bare_created : (block : ℕ → List ℕ) (depth : ℕ) (request : Asked) → ServerOpens d draws (IsCreation d block depth) request start parts server pair
      → IsBare server
  bare_created block depth request is =
      bare is.next is.server
      (⊎_elim (λ (makes : Makes d block depth start (answer_opened is.next.server pair) _ is.next). subst IsNew (sym makes.now) (record { rules = new.rules; sas = new.sas }))
      (λ (fails : FailsToMake d block start (answer_opened is.next.server pair) _ is.next). absurd (open_refused is.next.server pair fails.why fails.answers))
      is.stepped.answered.ends)

  pub bare_begun : (g : SignerGhosts G) (signer : G) (request : Asked) → ServerOpens d draws (IsBeginning d g signer) request start parts server pair
      → IsBare server
  bare_begun g signer request is =
      bare is.next is.server
      (⊎_elim
      (λ (begins : Begins d g signer start (answer_opened is.next.server pair) _ is.next). subst IsNew (sym begins.finds.now) (record {
        rules = new.rules;
        sas = ap (λ sas. map (λ (sa : Sa). new_sa sa.phase) sas) new.sas;
      }))
      (λ (fails : FailsToBegin d g signer start (answer_opened is.next.server pair) _ is.next).
      absurd (open_refused is.next.server pair fails.why fails.answers)) is.stepped.answered.ends)

-- ---- the pair that is sent again

module _ {D G R : Type 0} (d : DiskGhosts D) (draws : DrawGhosts R) (server : ServerView D G R) (host : Host D) (is : IsServerOf d draws server host) where
  -- both of its numbers have 32 bits
  pub pair_fits : (pair : Option PushPair) (answer : Answer) → ((one : Server) → Stands draws server.core one → answer ≡ answer_opened one pair)
      → IfSome pair (λ (pair : PushPair). pair.first + 1 < 2 ^ 32) → IfSome (pair_by answer) (λ (pair : PushPair). pair.first + 1 < 2 ^ 32)
  pair_fits pair answer shows fits =
      subst (λ answer. IfSome (pair_by answer) (λ (pair : PushPair). pair.first + 1 < 2 ^ 32)) (sym (shows host.server is.stands)) fits
