-- A group grows by what the steps of its run send and tell.
-- What an answer adds has no state in it: what it sends, and whom it tells what. An induction over entries needs no more.
use Rattle.std.proofs.Common.{◌≡◌, ◌∙◌, ◌⊎◌, ◌&&◌, ℕ, ◌≤◌, Bool, true, false, cond, List, [], ◌∷◌, ◌++◌, Option, None, Some, length}
use Rattle.std.proofs.Common.{sym, refl, ap, subst, arith, inl, inr}
use Rattle.std.specs.Prelude.{Contains, MatchBool}
use Rattle.std.specs.Option.{unwrap_or}
use Rattle.std.proofs.lemmas.Bool.{false≢true}
use Rattle.std.proofs.lemmas.List.{length-append}
use Rattle.gd_edges.specs.declared.signers.Signer.{Ghosts as SignerGhosts}
use Rattle.group_terms.specs.declared.keys.KeyName.TheVariants.{Node, Traffic}
use Rattle.group_values.specs.Values.{Made, batches_made}
use Rattle.group_model.specs.Answers.{BeginsWithOpening, found_by, is_open, opens}
use Rattle.group_model.specs.Derivations.{pairs_resent, replies_in, wraps_in}
use Rattle.group_model.specs.Growth.{Adds, AddsAll, Begins, IsReplyOf, Leaves, Makes, Stays}
use Rattle.group_model.specs.Laws.{Laws}
use Rattle.group_model.specs.Stayed.{stayed_at}
use Rattle.group_model.specs.Wraps.{node_wraps, wraps_at}
use Rattle.group_model.specs.declared.entries.Answer.{Answer}
use Rattle.group_model.specs.declared.entries.Asked.{Asked}
use Rattle.group_model.specs.declared.entries.Asked.TheVariants.{Create, Begin}
use Rattle.group_model.specs.declared.entries.Entry.{Entry}
use Rattle.group_model.specs.declared.entries.Outside.{Outside}
use Rattle.group_model.specs.declared.entries.PushPair.{PushPair}
use Rattle.group_model.specs.declared.entries.SymReply.{SymReply}
use Rattle.group_pushes.specs.Pairs.{IsPairIfStayed, IsPairOf}
use Rattle.server_steps.specs.Batches.{IsStored, made_next}
use Rattle.server_steps.specs.Hosts.{Host}
use Rattle.server_steps.specs.Messages.{MessagesAreOfTheGroup}
use Rattle.server_steps.specs.Openings.{FindsGroup, Found}
use Rattle.group_steps.specs.Devices.{Devices, Keying}
use Rattle.group_steps.specs.Kinds.{IsQuiet}
use Rattle.group_steps.specs.Laws.{asks_again}
use Rattle.group_steps.specs.Runs.{Outset, Run, no_run, with_members}
use Rattle.group_steps.specs.Steps.{AreRunSteps, IsAnswered, IsRunStep}
use Rattle.group_steps.specs.TrueSteps.{AreTrueSteps, ReadsTrue, TrueStepsGrow, batches_in}
use Rattle.group_steps.proofs.HostLemmas.{host_by}
use Rattle.group_steps.proofs.KindLemmas.{each_kind, says_nothing}
use Rattle.group_steps.proofs.SoundLemmas.{IsInOrder, batches_more, batches_of, length_made}
use Rattle.group_steps.proofs.SoundLemmas.{new_opened, new_order, order_all}

-- the pair that is sent again is that of the last batch
resent_are : {G : Type 0} (g : SignerGhosts G) (signer : G) (depth : ℕ) (spi : List ℕ) (list : List Made) (resent : Option PushPair)
    → IsPairIfStayed g signer depth spi list resent → pairs_resent resent ≡ wraps_at depth (batches_made list) (length list)
unfolding wraps_at
resent_are g signer depth spi list resent = by (stayed_at depth (batches_made list) (length list)) refl
  where
    by : (stayed : Bool) → stayed_at depth (batches_made list) (length list) ≡ stayed
        → MatchBool stayed ((pair : PushPair) × (resent ≡ Some pair) × IsPairOf g signer depth spi list pair) (resent ≡ None)
        → pairs_resent resent ≡ wraps_at depth (batches_made list) (length list)
    by true is pair = ap pairs_resent pair.1 ∙ pair.2.wraps
    by false is none =
        ap pairs_resent none
        ∙ sym (ap (λ b.
        cond b (node_wraps depth (batches_made list) (length list) ++ record { by = Node 1 (length list); gives = Traffic (length list) } ∷ []) []) is)

-- ---- one step

module _ {D G V : Type 0} (laws : Laws) (on : Devices D G V) (by : Keying G) (messages : MessagesAreOfTheGroup on.disks on.signers by.signer by.block) where
  -- a server in order since some epoch, whose tree is as deep as the head of its journal says
  record IsReady (first : ℕ) (host : Host D) : Type 0 where
    order : IsInOrder (on.signers.kind_of by.signer) first host
    at : host.head.depth ≡ host.server.depth

  -- what is sent for all to see, and what stays
  record Grows (host : Host D) (answer : Answer) (next : Host D) : Type 0 where
    grows : Stays host.server.depth (batches_of host) (batches_of next) answer ⊎ Makes host.server.depth (batches_of host) (batches_of next) answer
    depth : next.server.depth ≡ host.server.depth
    at : next.head.depth ≡ next.server.depth
    longer : length host.server.list ≤ length next.server.list

  record GoesOn (first : ℕ) (host : Host D) (answer : Answer) (next : Host D) : Type 0 where
    adds : Adds host.server.depth first (batches_of host) (batches_of next) answer
    depth : next.server.depth ≡ host.server.depth
    ready : IsReady first next

  module _ (host : Host D) (at : host.head.depth ≡ host.server.depth) (answer : Answer) (outside : Outside) (next : Host D) where
    grows_quiet : IsQuiet host answer next → Grows host answer next
    grows_quiet quiet = record {
      grows = inl (ap batches_made quiet.list, inl (says_nothing answer quiet.silent).0);
      depth = quiet.depth;
      at = ap (λ head. head.depth) quiet.head ∙ at ∙ sym quiet.depth;
      longer = omega (arith, ap length quiet.list);
    }

    grows_stored : IsStored on.disks on.signers by.signer by.block host answer outside next → Grows host answer next
    grows_stored stored =
        let made = made_next on.disks on.signers by.signer by.block host in
        let list : next.server.list ≡ host.server.list ++ made ∷ [] = ap (λ (given : Host D). given.server.list) stored.now in
        let depth = ap (λ (given : Host D). given.server.depth) stored.now in
        record {
          grows = inr (
            host.server.queue,
            ap batches_made list ∙ batches_more host.server.list made,
            ap wraps_in stored.answers ∙ stored.puts_out.says.wraps
                ∙ ap (λ batches. wraps_at host.server.depth batches (length batches)) (sym (ap batches_made list)),
          );
          depth = depth;
          at = ap (λ (given : Host D). given.head.depth) stored.now ∙ at ∙ sym depth;
          longer = omega (arith, ap length list, length-append host.server.list (made ∷ []));
        }

    -- what an opening sends again, and what it tells
    sends_again : (found : Found) → FindsGroup on.disks on.signers by.signer host found answer outside next
        → wraps_in answer ≡ wraps_at next.server.depth (batches_of next) (length (batches_of next))
    sends_again found finds =
        ap wraps_in finds.answers ∙ resent_are on.signers by.signer found.head.depth found.head.spi found.list finds.resent finds.pair
        ∙ ap (wraps_at found.head.depth (batches_made found.list)) (sym (length_made found.list))
        ∙ ap (λ (given : Host D). wraps_at given.server.depth (batches_of given) (length (batches_of given))) (sym finds.now)

    at_found : (found : Found) → FindsGroup on.disks on.signers by.signer host found answer outside next → next.head.depth ≡ next.server.depth
    at_found found finds = subst (λ (given : Host D). given.head.depth ≡ given.server.depth) (sym finds.now) refl

    grows_again : (found : Found) → FindsGroup on.disks on.signers by.signer host found answer outside next → (next.head ≡ host.head)
        → (next.server.list ≡ host.server.list) ⊎ ((made : Made) × (next.server.list ≡ host.server.list ++ made ∷ [])) → Grows host answer next
    grows_again found finds head list =
        let there = at_found found finds in
        let depth : next.server.depth ≡ host.server.depth = sym there ∙ ap (λ head. head.depth) head ∙ at in
        let sends : wraps_in answer ≡ wraps_at host.server.depth (batches_of next) (length (batches_of next)) =
        sends_again found finds ∙ ap (λ depth. wraps_at depth (batches_of next) (length (batches_of next))) depth in
        record {
          grows = elim list [
            | inl same ↦ inl (ap batches_made same, inr sends)
            | inr one ↦ inr (one.0.changes, ap batches_made one.1 ∙ batches_more host.server.list one.0, sends)
          ];
          depth = depth;
          at = there;
          longer = elim list [
            | inl same ↦ omega (arith, ap length same)
            | inr one ↦ omega (arith, ap length one.1, length-append host.server.list (one.0 ∷ []))
          ];
        }

  and_both : (a b : Bool) → a ≡ true → b ≡ true → (a && b) ≡ true
  and_both true b is also = also
  and_both false b is also = absurd (false≢true is)

  -- each request after the first, where an opening again found the group that there was
  grows_on : (opening : Entry) (before : List Entry) (run : Run D) (entry : Entry) (next : Run D) → run.host.head.depth ≡ run.host.server.depth
      → IsRunStep on by (opening ∷ before) run entry next → ReadsTrue run entry next → Grows run.host entry.answer next.host
  grows_on opening before run entry next at step reads = elim (each_kind laws on by opening before run entry next step) [
    | inl quiet ↦ grows_quiet run.host at entry.answer entry.outside next.host quiet
    | inr (inl stored) ↦ grows_stored run.host at entry.answer entry.outside next.host stored
    | inr (inr found) ↦ (
        let same = reads (and_both (asks_again entry.asked) (is_open entry.answer) found.1 (ap is_open found.2.answers)) in
        grows_again run.host at entry.answer entry.outside next.host found.0 found.2 same.head
        (elim same.batches [ inl is ↦ inl is | inr one ↦ inr (one.0, one.2) ])
        )
  ]

  -- whom it tells what, and whether the server is in order then
  record Tells (first : ℕ) (host : Host D) (answer : Answer) (next : Host D) : Type 0 where
    tells : (reply : SymReply) → Contains (replies_in answer) reply → IsReplyOf next.server.depth first (batches_of next) reply
    order : first ≤ length next.server.list → IsInOrder (on.signers.kind_of by.signer) first next

  tells_on : (first : ℕ) (opening : Entry) (before : List Entry) (run : Run D) (entry : Entry) (next : Run D)
      → IsInOrder (on.signers.kind_of by.signer) first run.host → IsRunStep on by (opening ∷ before) run entry next
      → Tells first run.host entry.answer next.host
  tells_on first opening before run entry next order step = elim (host_by on by opening before run entry next step) [
    | inl served ↦ (
        let goes = messages first run.host entry next.host order.sound order.late order.kept served in
        record { tells = goes.3.tells; order = λ late. record { sound = goes.0; late = late; kept = goes.1 } }
        )
    | inr stays ↦ record {
      tells = λ reply c. absurd (omega (arith, c.1, ap length stays.1.1));
      order = λ late. subst (IsInOrder (on.signers.kind_of by.signer) first) (sym stays.0) order;
    }
  ]

  goes_on : (first : ℕ) (opening : Entry) (before : List Entry) (run : Run D) (entry : Entry) (next : Run D) → IsReady first run.host
      → IsRunStep on by (opening ∷ before) run entry next → ReadsTrue run entry next → GoesOn first run.host entry.answer next.host
  goes_on first opening before run entry next ready step reads =
      let grown = grows_on opening before run entry next ready.at step reads in
      let told = tells_on first opening before run entry next ready.order step in
      record {
        adds = record {
          grows = grown.grows;
          tells = λ reply c. subst (λ depth. IsReplyOf depth first (batches_of next.host) reply) grown.depth (told.tells reply c);
        };
        depth = grown.depth;
        ready = record { order = told.order (omega (arith, ready.order.late, grown.longer)); at = grown.at };
      }

  adds_all : (first depth : ℕ) (opening : Entry) (before : List Entry) (run : Run D) (entries : List Entry) (after : Run D)
      → IsReady first run.host → run.host.server.depth ≡ depth → AreTrueSteps on by (opening ∷ before) run entries after
      → AddsAll depth first (batches_in run) entries (batches_in after) × (after.host.server.depth ≡ depth)
  adds_all first depth opening before run [] after ready same steps = (ap batches_in steps, ap (λ (given : Run D). given.host.server.depth) steps ∙ same)
  adds_all first depth opening before run (entry ∷ entries) after ready same steps =
      let next = steps.0 in
      let goes = goes_on first opening before run entry next ready steps.1.0 steps.1.1 in
      let rest = adds_all first depth opening (before ++ entry ∷ []) next entries after goes.ready (goes.depth ∙ same) steps.2 in
      ((batches_in next, subst (λ depth. Adds depth first (batches_in run) (batches_in next) entry.answer) same goes.adds, rest.0), rest.1)

  -- ---- from an opening on

  -- a group is made or found
  record IsFirst (answer : Answer) (next : Host D) : Type 0 where
    at : next.head.depth ≡ next.server.depth
    begins : Begins next.server.depth (batches_of next) answer

  found_first : (start : Host D) (found : Found) (answer : Answer) (outside : Outside) (next : Host D)
      → FindsGroup on.disks on.signers by.signer start found answer outside next → IsFirst answer next
  found_first start found answer outside next finds = record {
    at = subst (λ (given : Host D). given.head.depth ≡ given.server.depth) (sym finds.now) refl;
    begins = record {
      found = ap (λ answer. unwrap_or (found_by answer) 0) finds.answers ∙ ap (λ (given : Host D). length (batches_of given)) (sym finds.now);
      sends = inl (ap wraps_in finds.answers ∙ resent_are on.signers by.signer found.head.depth found.head.spi found.list finds.resent finds.pair
          ∙ ap (wraps_at found.head.depth (batches_made found.list)) (sym (length_made found.list))
          ∙ ap (λ (given : Host D). wraps_at given.server.depth (batches_of given) (length (batches_of given))) (sym finds.now));
      none_told = ap replies_in finds.answers;
    };
  }

  first_step : (start : Run D) (asked : Asked) (answer : Answer) (outside : Outside) (next : Run D) → opens asked ≡ true → is_open answer ≡ true
      → IsAnswered on by [] asked start answer outside next → IsFirst answer next.host
  first_step start (Create depth) answer outside next first opened step = elim step.opens.ends [
    | inl makes ↦
        subst (IsFirst answer) (sym makes.now) (record {
          at = refl;
          begins = subst (Begins depth []) (sym makes.answers) (record { found = refl; sends = inr (refl, refl); none_told = refl });
        })
    | inr fails ↦ absurd (false≢true (sym (ap is_open fails.answers) ∙ opened))
  ]
  first_step start Begin answer outside next first opened step = elim step.opens.ends [
    | inl begins ↦ found_first start.host begins.found answer outside next.host begins.finds
    | inr fails ↦ absurd (false≢true (sym (ap is_open fails.answers) ∙ opened))
  ]
  first_step start asked answer outside next first opened step = absurd (false≢true first)

  late_at : (next : Run D) → length (batches_in next) ≤ length next.host.server.list
  late_at next = omega (arith, length_made next.host.server.list)

  -- an opening that is granted after the first request
  again_step : (first : Entry) (before : List Entry) (run : Run D) (entry : Entry) (next : Run D) → is_open entry.answer ≡ true
      → IsInOrder (on.signers.kind_of by.signer) 0 run.host → IsRunStep on by (first ∷ before) run entry next
      → IsReady (length (batches_in next)) next.host × Begins next.host.server.depth (batches_in next) entry.answer
  again_step first before run entry next granted order step =
      let is_first : IsFirst entry.answer next.host = elim (each_kind laws on by first before run entry next step) [
        | inl quiet ↦ absurd (false≢true (sym (says_nothing entry.answer quiet.silent).1 ∙ granted))
        | inr (inl stored) ↦ absurd (false≢true (sym (ap is_open stored.answers) ∙ granted))
        | inr (inr found) ↦ found_first run.host found.0 entry.answer entry.outside next.host found.2
      ] in
      let ready : IsInOrder (on.signers.kind_of by.signer) (length (batches_in next)) next.host = elim (host_by on by first before run entry next step) [
        | inl served ↦ (
            let goes = messages 0 run.host entry next.host order.sound order.late order.kept served in
            record { sound = goes.0; late = late_at next; kept = goes.2 granted (length (batches_in next)) }
            )
        | inr stays ↦ absurd (false≢true (sym (says_nothing entry.answer stays.1.0).1 ∙ granted))
      ] in
      (record { order = ready; at = is_first.at }, is_first.begins)

  -- from an opening on, whatever it found
  since_of : (opening first : Entry) (before : List Entry) (next : Run D) (entries : List Entry) (after : Run D)
      → IsReady (length (batches_in next)) next.host → Begins next.host.server.depth (batches_in next) opening.answer
      → AreTrueSteps on by (first ∷ before) next entries after
      → Leaves after.host.server.depth (opening ∷ entries) (batches_in after)
  since_of opening first before next entries after ready begins steps =
      let all = adds_all (length (batches_in next)) next.host.server.depth first before next entries after ready refl steps in
      subst (λ depth. Leaves depth (opening ∷ entries) (batches_in after)) (sym all.1) (batches_in next, begins, all.0)

  none_left : (front later : List Entry) (entry : Entry) → front ++ entry ∷ later ≡ [] → ⊥
  none_left [] later entry none = absurd (cc (none))
  none_left (first ∷ front) later entry none = absurd (cc (none))

  grow_from : (outset : Outset D) (before : List Entry) (opening : Entry) (later : List Entry) (run next mid : Run D)
      → BeginsWithOpening (before ++ opening ∷ later) → AreRunSteps on by [] (no_run outset) before run
      → IsRunStep on by before run opening next → is_open opening.answer ≡ true
      → AreTrueSteps on by (before ++ opening ∷ []) next later mid → Leaves mid.host.server.depth (opening ∷ later) (batches_in mid)
  grow_from outset [] opening later run next mid begins so_far step granted goes_on =
      let none : run.host.sessions.sas ≡ [] = ap (λ (given : Run D). given.host.sessions.sas) so_far in
      let answered = step.answered.answered in
      let start = with_members run step.acted in
      let is_first = first_step start opening.asked opening.answer opening.outside next begins.0 granted answered in
      let new = new_opened laws on by start opening.asked opening.answer opening.outside next none begins.0 granted answered in
      since_of opening opening [] next later mid
      (record { order = new_order (on.signers.kind_of by.signer) (length (batches_in next)) next.host new (late_at next); at = is_first.at })
      is_first.begins goes_on
  grow_from outset (first ∷ before) opening later run next mid begins so_far step granted goes_on =
      let opened : is_open first.answer ≡ true = elim begins.1 [ inl none ↦ absurd (none_left before later opening none) | inr is ↦ is ] in
      let start = with_members (no_run outset) so_far.1.acted in
      let new = new_opened laws on by start first.asked first.answer first.outside so_far.0 refl begins.0 opened so_far.1.answered.answered in
      let order = order_all laws on by messages first [] so_far.0 before run (new_order (on.signers.kind_of by.signer) 0 so_far.0.host new (omega arith))
      so_far.2 in
      let again = again_step first before run opening next granted order step in
      since_of opening first (before ++ opening ∷ []) next later mid again.0 again.1 goes_on

  pub grow : TrueStepsGrow on by
  grow outset opening later mid true_since =
      grow_from outset true_since.before opening later true_since.run true_since.next mid
      true_since.begins true_since.so_far true_since.step true_since.granted true_since.goes_on
