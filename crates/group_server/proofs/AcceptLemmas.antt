-- Messages that are accepted, and SAs and rules that are added.
use Rattle.std.proofs.Common.{◌≡◌, ◌∙◌, ◌+◌, ℕ, List, [], ◌∷◌, ◌++◌, length, None, Some, Result, Ok, Err, refl, sym, ap, subst, inl, inr, arith}
use Rattle.gd_disk.specs.declared.disks.Disk.{Ghosts as DiskGhosts}
use Rattle.gd_edges.specs.declared.draws.Draws.{Ghosts as DrawGhosts}
use Rattle.gd_edges.specs.declared.signers.Signer.{Ghosts as SignerGhosts}
use Rattle.group_terms.specs.Names.{Name}
use Rattle.group_terms.specs.declared.changes.Change.TheVariants.{In}
use Rattle.group_terms.specs.declared.paths.Keyed.{Keyed}
use Rattle.group_terms.specs.declared.patterns.Rule.{Rule}
use Rattle.group_terms.specs.declared.phases.Phase1.{Phase1}
use Rattle.group_values.specs.Drawing.{next_place}
use Rattle.group_keys.specs.Replies.{IsKeyedOf}
use Rattle.group_model.specs.Servers.{IsJoin, Server, after_draws, with_change}
use Rattle.group_model.specs.declared.entries.Answer.TheVariants.{Datagram, Queued, Refused, RuleNumber}
use Rattle.group_model.specs.declared.entries.Asked.TheVariants.{AddRule, Introduce}
use Rattle.group_model.specs.declared.entries.Refusal.TheVariants.{NoMemory}
use Rattle.group_model.specs.declared.entries.SymReply.{SymReply}
use Rattle.group_records.specs.declared.heads.Head.{Head}
use Rattle.gcks_core.specs.Stands.{Stands}
use Rattle.gcks_core.specs.Views.{View as CoreView}
use Rattle.pull_msgs.specs.Fits.{NonceFits, PhaseFits, PoliciesFit}
use Rattle.pull_msgs.specs.declared.messages.First.{First}
use Rattle.pull_msgs.specs.declared.messages.Third.{Third}
use Rattle.pull_sessions.specs.Builds.{IsFourthOf, IsSecondOf, begun_session, session_after_third}
use Rattle.pull_sessions.specs.Sessions.{HasSession, IsIntroduction, Sessions, sa_of, with_session}
use Rattle.pull_sessions.specs.declared.answers.Kept.TheVariants as kept
use Rattle.pull_sessions.specs.declared.refusals.SessionRefusal.{SessionRefusal}
use Rattle.pull_sessions.specs.declared.sas.Sa.{Sa}
use Rattle.pull_sessions.specs.declared.sas.Session.{Session}
use Rattle.server_steps.specs.Entries.{beside}
use Rattle.server_steps.specs.Hosts.{Host, with_rules, with_server, with_sessions}
use Rattle.server_steps.specs.Pulls.{answer_introduced, present_policy, reply_now}
use Rattle.server_steps.specs.Reflects.{IsServerOf}
use Rattle.server_steps.specs.Serves.{GoesOn, Serves}
use Rattle.server_steps.specs.Views.{View}
use Rattle.group_server.specs.Private.Accepted.{AcceptsFirst, AcceptsJoin, AcceptsMember, IsSecondNow}
use Rattle.group_server.proofs.ServeLemmas.{IsPlain, goes_on_still, plain_beside, plain_datagram, plain_memory, plain_queued, plain_refusal, quietly, says}

-- a core whose draws went on
pub record HasDrawn {D G R : Type 0} (draws : DrawGhosts R) (old new : CoreView D G R) : Type 0 where
  pub place : draws.place_of new.draws ≡ next_place (draws.place_of old.draws)
  pub blocks : (k : ℕ) → draws.block_at new.draws k ≡ draws.block_at old.draws k
  pub rest : new ≡ record old { draws = new.draws }

module _ {D G R : Type 0} (draws : DrawGhosts R) where
  -- it represents the server after that
  stands_drawn : (old new : CoreView D G R) (server : Server) → HasDrawn draws old new → Stands draws old server → Stands draws new (after_draws server 1)
  stands_drawn old new server drawn stands =
      subst (λ core. Stands draws core (after_draws server 1)) (sym drawn.rest) (record {
        depth = stands.depth;
        limit = stands.limit;
        tree_depth = stands.tree_depth;
        tree = record { valid = stands.tree.valid; epoch = stands.tree.epoch; sequence = stands.tree.sequence; holders = stands.tree.holders; changes = stands.tree.changes };
        room = stands.room;
        kept = stands.kept;
        due = stands.due;
        fit = stands.fit;
        queue = stands.queue;
        needs_reopen = stands.needs_reopen;
        sure = stands.sure;
        place = drawn.place ∙ ap next_place stands.place;
      })

module _ {D G R : Type 0} (d : DiskGhosts D) (draws : DrawGhosts R) where
  -- the server of a host that has drawn, with these sessions
  server_drawn : (old new : View D G R) (host : Host D) (sessions : Sessions) → IsServerOf d draws old host → HasDrawn draws old.core new.core
      → new.rules ≡ old.rules → new.sessions ≡ sessions
      → IsServerOf d draws new (record host { server = after_draws host.server 1; sessions = sessions })
  server_drawn old new host sessions was drawn rules is = record {
    disk = was.disk ∙ sym (ap (λ (core : CoreView D G R). core.disk) drawn.rest);
    head = was.head ∙ sym (ap (λ (core : CoreView D G R). core.head) drawn.rest);
    stands = stands_drawn draws old.core new.core host.server drawn was.stands;
    journal = record { file = was.journal.file; crash = was.journal.crash };
    rules = was.rules ∙ sym rules;
    sessions = sym is;
  }

  -- with other sessions alone
  server_beside : (old new : View D G R) (host : Host D) (sessions : Sessions) → IsServerOf d draws old host → new.core ≡ old.core
      → new.rules ≡ old.rules → new.sessions ≡ sessions → IsServerOf d draws new (with_sessions host sessions)
  server_beside old new host sessions was core rules is = record {
    disk = was.disk ∙ sym (ap (λ (core : CoreView D G R). core.disk) core);
    head = was.head ∙ sym (ap (λ (core : CoreView D G R). core.head) core);
    stands = subst (λ core. Stands draws core host.server) (sym core) was.stands;
    journal = record { file = was.journal.file; crash = was.journal.crash };
    rules = was.rules ∙ sym rules;
    sessions = sym is;
  }

  goes_on_beside : (old new : View D G R) → new.core ≡ old.core → GoesOn draws old new
  goes_on_beside old new core = record {
    signer = ap (λ (core : CoreView D G R). core.signer) core;
    blocks = λ k. ap (λ (core : CoreView D G R). draws.block_at core.draws k) core;
  }

  goes_on_drawn : (old new : View D G R) → HasDrawn draws old.core new.core → GoesOn draws old new
  goes_on_drawn old new drawn = record {
    signer = ap (λ (core : CoreView D G R). core.signer) drawn.rest;
    blocks = drawn.blocks;
  }

-- ---- first messages

module _ {D G R : Type 0} (d : DiskGhosts D) (g : SignerGhosts G) (draws : DrawGhosts R) (old : View D G R) (m : Name) where
  -- no memory was left before anything was drawn
  pub out_first : (first : First) (datagram : List ℕ) (new : View D G R) → new ≡ old → AcceptsFirst d g draws m first datagram (Refused NoMemory) old new
  out_first first datagram new is = subst (λ new. AcceptsFirst d g draws m first datagram (Refused NoMemory) old new) (sym is) (record {
    goes_on = goes_on_still d draws old;
    each = λ host server. (
      host,
      inr (record {
        n = 0;
        few = omega arith;
        becomes = record { answers = refl; beside = plain_beside d draws old host (Refused NoMemory) server (plain_memory (Refused NoMemory) refl); now = refl };
      }),
      refl,
      server,
    );
  })

  -- none was left after the nonce was drawn
  pub out_drawn : (first : First) (datagram : List ℕ) (new : View D G R) → HasDrawn draws old.core new.core → new.rules ≡ old.rules
      → new.sessions ≡ old.sessions → AcceptsFirst d g draws m first datagram (Refused NoMemory) old new
  out_drawn first datagram new drawn rules sessions = record {
    goes_on = goes_on_drawn d draws old new drawn;
    each = λ host server. (
      with_server host (after_draws host.server 1),
      inr (record {
        n = 1;
        few = omega arith;
        becomes = record { answers = refl; beside = plain_beside d draws old host (Refused NoMemory) server (plain_memory (Refused NoMemory) refl); now = refl };
      }),
      refl,
      server_drawn d draws old new host host.sessions server drawn rules (sessions ∙ sym server.sessions),
    );
  }

  -- the second message is the answer
  pub began : (first : First) (datagram : List ℕ) (new : View D G R) (nr : List ℕ) (second : List ℕ) (sa : Sa) → sa_of old.sessions.sas m ≡ Some sa
      → nr ≡ draws.block_at old.core.draws (draws.place_of old.core.draws) → IsSecondNow g draws new.core old.sessions.sas m first nr second
      → HasDrawn draws old.core new.core → new.rules ≡ old.rules
      → new.sessions ≡ with_session old.sessions m (begun_session first nr datagram (kept.Datagram second None))
      → AcceptsFirst d g draws m first datagram (Datagram second None) old new
  began first datagram new nr second sa is_there drew made drawn rules sessions = record {
    goes_on = goes_on_drawn d draws old new drawn;
    each = λ host server.
        let nonce : nr ≡ draws.block_at old.core.draws host.server.place = drew ∙ ap (draws.block_at old.core.draws) server.stands.place in
        let says_now : made.policy ≡ present_policy host.head.spi (g.kind_of old.core.signer) host.server.list =
        made.policy_is (after_draws host.server 1) (stands_drawn draws old.core new.core host.server drawn server.stands)
        ∙ (ap (λ (core : CoreView D G R). present_policy core.head.spi (g.kind_of core.signer) host.server.list) drawn.rest
        ∙ ap (λ (head : Head). present_policy head.spi (g.kind_of old.core.signer) host.server.list) (sym server.head)) in
        let after : Sessions = with_session host.sessions m
        (begun_session first (draws.block_at old.core.draws host.server.place) datagram (kept.Datagram second None)) in (
          record host { server = after_draws host.server 1; sessions = after },
          inl (record {
            sa = sa;
            is_there = ap (λ (sessions : Sessions). sa_of sessions.sas m) server.sessions ∙ is_there;
            nonce_fits = subst NonceFits nonce made.nonce_fits;
            policy_fits = subst PoliciesFit says_now made.policy_fits;
            second = second;
            is_text =
                subst (λ policy. IsSecondOf sa.phase first (draws.block_at old.core.draws host.server.place) policy second) says_now
                (subst (λ nr. IsSecondOf sa.phase first nr made.policy second) nonce (made.is_text sa is_there));
            becomes = record { answers = refl; beside = plain_beside d draws old host (Datagram second None) server (plain_datagram (Datagram second None) second None refl); now = refl };
          }),
          refl,
          server_drawn d draws old new host after server drawn rules
              (sessions ∙ (λ i. with_session (sym server.sessions i) m (begun_session first (nonce i) datagram (kept.Datagram second None)))),
        );
  }

  -- ---- third messages

  -- no memory was left
  pub out_member : (third : Third) (datagram : List ℕ) (new : View D G R) → new ≡ old → AcceptsMember d g draws m third datagram (Refused NoMemory) old new
  out_member third datagram new is = subst (λ new. AcceptsMember d g draws m third datagram (Refused NoMemory) old new) (sym is) (record {
    goes_on = goes_on_still d draws old;
    each = λ host server. (host, inr (says d draws (Refused NoMemory) (Refused NoMemory) old host server (plain_memory (Refused NoMemory) refl) refl), refl, server);
  })

  pub out_join : (third : Third) (datagram : List ℕ) (new : View D G R) → new ≡ old → AcceptsJoin d g draws m third datagram (Refused NoMemory) old new
  out_join third datagram new is = subst (λ new. AcceptsJoin d g draws m third datagram (Refused NoMemory) old new) (sym is) (record {
    goes_on = goes_on_still d draws old;
    each = λ host server. (host, inr (says d draws (Refused NoMemory) (Refused NoMemory) old host server (plain_memory (Refused NoMemory) refl) refl), refl, server);
  })

  -- the fourth message is the answer
  pub replied : (third : Third) (datagram : List ℕ) (new : View D G R) (sa : Sa) (session : Session) (keyed : Keyed) (fourth : List ℕ) (names : SymReply)
      → HasSession old.sessions.sas m sa session
      → ((server : Server) → Stands draws old.core server → IsKeyedOf server.depth old.core.head.spi server.list m keyed)
      → ((server : Server) → Stands draws old.core server → names ≡ reply_now server m)
      → IsFourthOf sa.phase session third.next_iv keyed fourth → new.core ≡ old.core → new.rules ≡ old.rules
      → new.sessions ≡ with_session old.sessions m (session_after_third session third datagram (kept.Datagram fourth (Some names)))
      → AcceptsMember d g draws m third datagram (Datagram fourth (Some names)) old new
  replied third datagram new sa session keyed fourth names has keys named is_text core rules sessions = record {
    goes_on = goes_on_beside d draws old new core;
    each = λ host server.
        let said : names ≡ reply_now host.server m = named host.server server.stands in
        let after : Sessions = with_session host.sessions m
        (session_after_third session third datagram (kept.Datagram fourth (Some (reply_now host.server m)))) in (
          with_sessions host after,
          inl (record {
            sa = sa;
            session = session;
            has = record { is_there = ap (λ (sessions : Sessions). sa_of sessions.sas m) server.sessions ∙ has.is_there; has = has.has };
            keyed = keyed;
            keys = subst (λ (head : Head). IsKeyedOf host.server.depth head.spi host.server.list m keyed) (sym server.head) (keys host.server server.stands);
            fourth = fourth;
            is_text = is_text;
            becomes = record {
              answers = ap (λ names. Datagram fourth (Some names)) said;
              beside = plain_beside d draws old host (Datagram fourth (Some names)) server (plain_datagram (Datagram fourth (Some names)) fourth (Some names) refl);
              now = refl;
            };
          }),
          refl,
          server_beside d draws old new host after server core rules
              (sessions ∙ (λ i. with_session (sym server.sessions i) m (session_after_third session third datagram (kept.Datagram fourth (Some (said i)))))),
        );
  }

  -- the join waits
  pub queued : (third : Third) (datagram : List ℕ) (new : View D G R) (sa : Sa) (session : Session) → HasSession old.sessions.sas m sa session
      → new.core ≡ record old.core { queue = new.core.queue }
      → ((server : Server) → Stands draws old.core server → (next : Server) × IsJoin server m (Ok tt) next × Stands draws new.core next)
      → new.rules ≡ old.rules → new.sessions ≡ with_session old.sessions m (session_after_third session third datagram kept.Queued)
      → AcceptsJoin d g draws m third datagram Queued old new
  queued third datagram new sa session has rest step rules sessions = record {
    goes_on = record {
      signer = ap (λ (core : CoreView D G R). core.signer) rest;
      blocks = λ k. ap (λ (core : CoreView D G R). draws.block_at core.draws k) rest;
    };
    each = λ host server.
        let joined = step host.server server.stands in
        let after : Sessions = with_session host.sessions m (session_after_third session third datagram kept.Queued) in (
          record host { server = with_change host.server (In m); sessions = after },
          inl (record {
            sa = sa;
            session = session;
            has = record { is_there = ap (λ (sessions : Sessions). sa_of sessions.sas m) server.sessions ∙ has.is_there; has = has.has };
            becomes = record { answers = refl; beside = plain_beside d draws old host Queued server (plain_queued Queued refl); now = refl };
          }),
          refl,
          record {
            disk = server.disk ∙ sym (ap (λ (core : CoreView D G R). core.disk) rest);
            head = server.head ∙ sym (ap (λ (core : CoreView D G R). core.head) rest);
            stands = subst (Stands draws new.core) joined.1.1 joined.2;
            journal = record { file = server.journal.file; crash = server.journal.crash };
            rules = server.rules ∙ sym rules;
            sessions = (λ i. with_session (server.sessions i) m (session_after_third session third datagram kept.Queued)) ∙ sym sessions;
          },
        );
  }

-- ---- rules and SAs

module _ {D G R : Type 0} (d : DiskGhosts D) (g : SignerGhosts G) (draws : DrawGhosts R) (old : View D G R) where
  pub rule_added : (rule : Rule) (number : ℕ) (new : View D G R) → number ≡ length old.rules + 1 → new ≡ record old { rules = old.rules ++ rule ∷ [] }
      → Serves d g draws (AddRule rule) (RuleNumber number) old new
  rule_added rule number new counts is = subst (λ new. Serves d g draws (AddRule rule) (RuleNumber number) old new) (sym is)
      (quietly d g draws (AddRule rule) (RuleNumber number) old (record old { rules = old.rules ++ rule ∷ [] }) (record { signer = refl; blocks = λ k. refl })
      (λ host server.
      let plain : IsPlain (RuleNumber number) = record { no_fault = refl; not_opened = refl } in
      record {
        plain = plain;
        next = with_rules host (host.rules ++ rule ∷ []);
        answered = inl (record {
          answers = ap RuleNumber (counts ∙ ap (λ rules. length rules + 1) (sym server.rules));
          beside = plain_beside d draws old host (RuleNumber number) server plain;
          now = refl;
        });
        disk = refl;
        server = record {
          disk = server.disk;
          head = server.head;
          stands = server.stands;
          journal = record { file = server.journal.file; crash = server.journal.crash };
          rules = ap (λ rules. rules ++ rule ∷ []) server.rules;
          sessions = server.sessions;
        };
      }))

  pub no_rule : (rule : Rule) (new : View D G R) → new ≡ old → Serves d g draws (AddRule rule) (Refused NoMemory) old new
  no_rule rule new is = subst (λ new. Serves d g draws (AddRule rule) (Refused NoMemory) old new) (sym is)
      (quietly d g draws (AddRule rule) (Refused NoMemory) old old (goes_on_still d draws old) (λ host server. record {
        plain = plain_memory (Refused NoMemory) refl;
        next = host;
        answered = inr (says d draws (Refused NoMemory) (Refused NoMemory) old host server (plain_memory (Refused NoMemory) refl) refl);
        disk = refl;
        server = server;
      }))

  plain_introduced : (result : Result (Unit {0}) SessionRefusal) → IsPlain (answer_introduced result)
  plain_introduced (Ok done) = record { no_fault = refl; not_opened = refl }
  plain_introduced (Err why) = plain_refusal why

  pub introduced : (phase : Phase1) (result : Result (Unit {0}) SessionRefusal) (new : View D G R) → PhaseFits phase
      → IsIntroduction old.sessions phase result new.sessions → new.core ≡ old.core → new.rules ≡ old.rules
      → Serves d g draws (Introduce phase) (answer_introduced result) old new
  introduced phase result new fits introduces core rules =
      quietly d g draws (Introduce phase) (answer_introduced result) old new (goes_on_beside d draws old new core) (λ host server. record {
        plain = plain_introduced result;
        next = with_sessions host new.sessions;
        answered = record {
          fits = fits;
          result = result;
          sessions = new.sessions;
          introduces = subst (λ sessions. IsIntroduction sessions phase result new.sessions) (sym server.sessions) introduces;
          answers = refl;
          beside = plain_beside d draws old host (answer_introduced result) server (plain_introduced result);
          now = refl;
        };
        disk = refl;
        server = server_beside d draws old new host new.sessions server core rules refl;
      })
