-- The replies of a batch say what they have to, and each is the fourth message of a session.
use Rattle.std.proofs.Common.{◌≡◌, ◌∙◌, ◌||◌, ℕ, Bool, true, false, List, [], ◌∷◌, ◌++◌, length, map, get_or, refl, sym, ap, subst}
use Rattle.std.specs.List.{All, list_any}
use Rattle.std.proofs.lemmas.List.{length-map}
use Rattle.std.proofs.lemmas.List.Elements.{All-cons, All-head, All-nil, All-tail}
use Rattle.std.proofs.lemmas.Slice.Eq.{bytes_eq-Decides}
use Rattle.group_terms.specs.Changes.{joiners}
use Rattle.group_terms.specs.Names.{Name, same_name}
use Rattle.group_terms.specs.declared.changes.Change.{Change}
use Rattle.group_terms.specs.declared.keys.KeyName.TheVariants.{Traffic}
use Rattle.group_terms.specs.declared.paths.Keyed.{Keyed}
use Rattle.group_values.specs.Values.{Made, batches_made}
use Rattle.group_keys.specs.Replies.{IsKeyedOf}
use Rattle.group_model.specs.Replies.{replies_to, reply_at, says_of}
use Rattle.group_model.specs.declared.entries.SentReply.{SentReply}
use Rattle.group_model.specs.declared.entries.SymReply.{SymReply}
use Rattle.pull_sessions.specs.Sessions.{is_queued, is_queued_of}
use Rattle.pull_sessions.specs.declared.answers.Step.{Step}
use Rattle.pull_sessions.specs.declared.answers.Step.TheVariants as steps
use Rattle.pull_sessions.specs.declared.sas.Sa.{Sa}
use Rattle.server_steps.specs.Fourths.{IsFourthReply}
use Rattle.server_steps.specs.Joining.{JoinsHaveSessions}
use Rattle.server_steps.specs.Private.Told.{AreRepliesTo, IsDatagramTo, IsReplyTo, says_told}
use Rattle.server_steps.proofs.SessionLemmas.{queued_session}

-- ---- who is told something

abbrev pub Told : Type 0
Told = List (Name × Keyed)

-- each reply names whom it tells something
pub names_told_to : (sas : List Sa) (told : Told) (replies : List SentReply) → AreRepliesTo sas told replies
    → map (λ (reply : Name × Keyed). reply.0) told ≡ map (λ (reply : SentReply). reply.says.member) replies
names_told_to sas [] replies are = ap (map (λ (reply : SentReply). reply.says.member)) (sym are)
names_told_to sas (one ∷ told) replies are =
    let first = ap (λ (says : SymReply). says.member) (sym are.3.says) in
    let rest = names_told_to sas told are.1 are.4 in
    (λ i. first i ∷ rest i) ∙ ap (map (λ (reply : SentReply). reply.says.member)) (sym are.2)

-- one reply more
pub replies_more : (sas : List Sa) (told : Told) (one : Name × Keyed) (replies : List SentReply) (reply : SentReply) → AreRepliesTo sas told replies
    → IsReplyTo sas one reply → AreRepliesTo sas (told ++ one ∷ []) (replies ++ reply ∷ [])
replies_more sas [] one replies reply are is = (reply, [], ap (λ replies. replies ++ reply ∷ []) are, is, refl)
replies_more sas (first ∷ told) one replies reply are is = (
  are.0,
  are.1 ++ reply ∷ [],
  ap (λ replies. replies ++ reply ∷ []) are.2,
  are.3,
  replies_more sas told one are.1 reply are.4 is,
)

-- each name of a list is in it
each_named : (names : List Name) → All (λ m. list_any (same_name m) names ≡ true) names
each_named [] = All-nil _
each_named (name ∷ names) =
    All-cons (λ m. list_any (same_name m) (name ∷ names) ≡ true) name names
    (ap (λ b. b || list_any (same_name name) names) ((bytes_eq-Decides name name).1 refl))
    (λ k d less. or_later (same_name _ name) _ (each_named names k d less))
  where
    or_later : (one two : Bool) → two ≡ true → (one || two) ≡ true
    or_later true two is = refl
    or_later false two is = is

-- a session that awaits a batch
step_queued : (step : Step) → is_queued step ≡ true → step ≡ steps.Queued
step_queued steps.AwaitsThird is = absurd (cc is)
step_queued steps.Queued is = refl
step_queued steps.Done is = absurd (cc is)

-- ---- what the last of some batches tells

module _ (depth : ℕ) (spi : List ℕ) (list : List Made) where
  abbrev AreKeyed : Told → Type 0
  AreKeyed told = All (λ (reply : Name × Keyed). IsKeyedOf depth spi list reply.0 reply.1) told

  pub says_one : (m : Name) (keyed : Keyed) → IsKeyedOf depth spi list m keyed → says_told (m, keyed) ≡ reply_at depth (batches_made list) (length list) m
  says_one m keyed is = λ i. record {
    member = m;
    keyed_epoch = is.epoch i;
    sequence = is.sequence i;
    names = is.names i ++ Traffic (is.epoch i) ∷ [];
  }

  says_each : (sas : List Sa) (told : Told) (replies : List SentReply) → AreRepliesTo sas told replies → AreKeyed told
      → says_of replies ≡ map (reply_at depth (batches_made list) (length list)) (map (λ (reply : Name × Keyed). reply.0) told)
  says_each sas [] replies are all = ap says_of are
  says_each sas (one ∷ told) replies are all =
      let first = are.3.says ∙ says_one one.0 one.1 (All-head (λ (reply : Name × Keyed). IsKeyedOf depth spi list reply.0 reply.1) one told all) in
      let rest = says_each sas told are.1 are.4 (All-tail (λ (reply : Name × Keyed). IsKeyedOf depth spi list reply.0 reply.1) one told all) in
      ap says_of are.2 ∙ (λ i. first i ∷ rest i)

  -- the replies to those who come in say what they have to
  pub replies_say : (sas : List Sa) (told : Told) (replies : List SentReply) (changes : List Change) → AreRepliesTo sas told replies
      → map (λ (reply : Name × Keyed). reply.0) told ≡ joiners changes → AreKeyed told → says_of replies ≡ replies_to depth (batches_made list) changes
  replies_say sas told replies changes are joiners_are all =
      says_each sas told replies are all
      ∙ ap (map (reply_at depth (batches_made list) (length list))) joiners_are
      ∙ ap (λ epoch. map (reply_at depth (batches_made list) epoch) (joiners changes)) (sym (length-map list (λ (made : Made). made.changes)))

  -- ---- their datagrams

  -- one is the fourth message of the session that awaits the batch
  reply_made : (sas : List Sa) (reply : SentReply) (keyed : Keyed) → is_queued_of sas reply.says.member ≡ true
      → IsKeyedOf depth spi list reply.says.member keyed → IsDatagramTo sas (reply.says.member, keyed) reply.datagram → IsFourthReply depth spi list sas reply
  reply_made sas reply keyed is keys sends =
      let awaits = queued_session sas reply.says.member is in
      record {
        sa = awaits.0;
        session = awaits.1;
        has = awaits.2;
        awaits = step_queued awaits.1.step awaits.3;
        keyed = keyed;
        keys = keys;
        is_text = sends.fourth awaits.0 awaits.1 awaits.2 awaits.3;
      }

  -- and so are all
  each_made : (sas : List Sa) (told : Told) (replies : List SentReply) → AreRepliesTo sas told replies
      → All (λ m. is_queued_of sas m ≡ true) (map (λ (reply : Name × Keyed). reply.0) told) → AreKeyed told → All (IsFourthReply depth spi list sas) replies
  each_made sas [] replies are awaits all = subst (All (IsFourthReply depth spi list sas)) (sym are) (All-nil _)
  each_made sas (one ∷ told) replies are awaits all =
      let same = ap (λ (says : SymReply). says.member) (sym are.3.says) in
      let names : List Name = map (λ (reply : Name × Keyed). reply.0) told in
      let keys = All-head (λ (reply : Name × Keyed). IsKeyedOf depth spi list reply.0 reply.1) one told all in
      let waits = All-head (λ m. is_queued_of sas m ≡ true) one.0 names awaits in
      let first = reply_made sas are.0 one.1 (subst (λ m. is_queued_of sas m ≡ true) same waits) (subst (λ m. IsKeyedOf depth spi list m one.1) same keys)
      (subst (λ m. IsDatagramTo sas (m, one.1) are.0.datagram) same are.3.sends) in
      let rest = each_made sas told are.1 are.4 (All-tail (λ m. is_queued_of sas m ≡ true) one.0 names awaits)
      (All-tail (λ (reply : Name × Keyed). IsKeyedOf depth spi list reply.0 reply.1) one told all) in
      subst (All (IsFourthReply depth spi list sas)) (sym are.2) (All-cons (IsFourthReply depth spi list sas) are.0 are.1 first rest)

  -- each of those who come in has a session that awaits the batch
  pub replies_made : (sas : List Sa) (told : Told) (replies : List SentReply) (changes : List Change) → AreRepliesTo sas told replies
      → map (λ (reply : Name × Keyed). reply.0) told ≡ joiners changes → JoinsHaveSessions changes sas → AreKeyed told
      → All (IsFourthReply depth spi list sas) replies
  replies_made sas told replies changes are joiners_are joins all =
      each_made sas told replies are
      (subst (All (λ m. is_queued_of sas m ≡ true)) (sym joiners_are)
      (λ k d less. joins (get_or (joiners changes) k d) ∙ each_named (joiners changes) k d less))
      all
