-- Each push that was sent is one of an epoch of the group.
use Rattle.std.proofs.Common.{◌≡◌, ◌⊎◌, ℕ, zero, suc, ◌+◌, true, false, Bool, List, [], ◌∷◌, ◌++◌, Option, None, Some, length, reverse}
use Rattle.std.proofs.Common.{arith, refl, sym, subst, inl, inr}
use Rattle.std.specs.Prelude.{◌==◌, if◌then◌else◌}
use Rattle.std.specs.List.{All, find}
use Rattle.std.specs.Option.{option_map}
use Rattle.std.proofs.lemmas.Bool.{eqb-true}
use Rattle.std.proofs.lemmas.Grind.{flat_map-append, reverse_onto}
use Rattle.std.proofs.lemmas.List.Elements.{All-append, All-cons, All-head, All-nil, All-push, All-tail}
use Rattle.std.proofs.lemmas.Option.{none-some}
use Rattle.gd_edges.specs.declared.signers.Signer.{Ghosts as SignerGhosts}
use Rattle.group_values.specs.Values.{Made}
use Rattle.group_model.specs.Stayed.{sequence_at}
use Rattle.group_model.specs.declared.entries.Answer.{Answer}
use Rattle.group_model.specs.declared.entries.Entry.{Entry}
use Rattle.group_model.specs.declared.entries.PushPair.{PushPair}
use Rattle.law_member_roots.specs.Groups.{IsPairAt}
use Rattle.server_steps.specs.Hosts.{Host}
use Rattle.server_steps.specs.Sent.{SentPush, last_push, pair_by, pushes_by, pushes_in, pushes_sent}
use Rattle.law_store_steps.proofs.FrontLemmas.{pair_early}
use Rattle.law_store_steps.proofs.GrowLemmas.{Grows, moved}
use Rattle.law_store_steps.proofs.PushLemmas.{IsLast, Sends}

-- ---- what holds of each element

module _ {X : Type 0} (P : X → Type 0) where
  -- it holds of the one that is found, which passes the test
  found_by : (test : X → Bool) (x : X) (others : Option X) (passes : Bool) → test x ≡ passes → P x
      → ((y : X) → others ≡ Some y → P y × (test y ≡ true)) → (y : X) → (if passes then Some x else others) ≡ Some y → P y × (test y ≡ true)
  found_by test x others true passes holds later y is =
      let same : x ≡ y = cc (is) in subst (λ y. P y × (test y ≡ true)) same (holds, passes)
  found_by test x others false passes holds later y is = later y is

  All-found : (test : X → Bool) (xs : List X) → All P xs → (y : X) → find test xs ≡ Some y → P y × (test y ≡ true)
  All-found test [] all y is = absurd (none-some y is)
  All-found test (x ∷ xs) all y is =
      found_by test x (find test xs) (test x) refl (All-head P x xs all) (All-found test xs (All-tail P x xs all)) y is

  All-reverse : (xs : List X) → All P xs → All P (reverse xs)
  All-reverse [] all = all
  All-reverse (x ∷ xs) all =
      subst (All P) (sym (reverse_onto xs x [])) (All-push P (reverse xs) x (All-reverse xs (All-tail P x xs all)) (All-head P x xs all))

-- ---- pushes

-- the datagram of a push, if there is one
abbrev pub datagram_in : Option SentPush → Option (List ℕ)
datagram_in push = option_map (λ (push : SentPush). push.datagram) push

module _ {G : Type 0} (g : SignerGhosts G) (signer : G) (depth : ℕ) (spi : List ℕ) (list : List Made) where
  -- it is the membership push or the traffic push of an epoch, with its number
  pub record IsPushAt (push : SentPush) : Type 0 where
    pub sent : ℕ
    pub pair : PushPair
    pub at : IsPairAt g signer depth spi list (sent + 1) pair
    pub is : ((push.number ≡ pair.first) × (push.datagram ≡ pair.membership))
        ⊎ ((push.number ≡ pair.first + 1) × (push.datagram ≡ pair.traffic))

  -- no push belongs to epoch 0, at which the number of the last push is 0
  push_at : (epoch : ℕ) (pair : PushPair) → IsPairAt g signer depth spi list epoch pair → (sent : ℕ) × (epoch ≡ sent + 1)
  unfolding sequence_at
  push_at zero pair at = let number : pair.first + 1 ≡ 0 = at.is_pair.first in absurd (omega (arith, number))
  push_at (suc sent) pair at = (sent, omega arith)

  pushes_at : (epoch : ℕ) (pair : PushPair) → IsPairAt g signer depth spi list epoch pair → All IsPushAt (pushes_in (Some pair))
  pushes_at epoch pair at =
      let sent = push_at epoch pair at in
      let at_sent = subst (λ epoch. IsPairAt g signer depth spi list epoch pair) sent.1 at in
      let second : SentPush = record { number = pair.first + 1; datagram = pair.traffic } in
      All-cons IsPushAt (record { number = pair.first; datagram = pair.membership }) (second ∷ [])
      (record { sent = sent.0; pair = pair; at = at_sent; is = inl (refl, refl) })
      (All-cons IsPushAt second [] (record { sent = sent.0; pair = pair; at = at_sent; is = inr (refl, refl) }) (All-nil IsPushAt))

  pushes_if : (sent : Option PushPair)
      → ((pair : PushPair) → sent ≡ Some pair → (epoch : ℕ) × IsPairAt g signer depth spi list epoch pair) → All IsPushAt (pushes_in sent)
  pushes_if None at = All-nil IsPushAt
  pushes_if (Some pair) at = let given = at pair refl in pushes_at given.0 pair given.1

  -- one more entry was made
  pub sent_more : (before : List Entry) (entry : Entry) → All IsPushAt (pushes_sent before) → All IsPushAt (pushes_by entry.answer)
      → All IsPushAt (pushes_sent (before ++ entry ∷ []))
  sent_more before entry all new =
      subst (All IsPushAt) (sym (flat_map-append (λ (entry : Entry). pushes_by entry.answer) before (entry ∷ [])))
      (All-append IsPushAt (pushes_sent before) _ all (All-append IsPushAt (pushes_by entry.answer) [] new (All-nil IsPushAt)))

  pub last_at : (before : List Entry) (number : ℕ) (push : SentPush) → All IsPushAt (pushes_sent before) → last_push before number ≡ Some push
      → IsPushAt push × (push.number ≡ number)
  last_at before number push all is =
      let found =
      All-found IsPushAt (λ (push : SentPush). push.number == number) (reverse (pushes_sent before)) (All-reverse IsPushAt _ all) push is
      in (found.0, eqb-true push.number number found.1)

-- all that these entries sent are pushes of the group that a host has
abbrev pub AreSent : {D G : Type 0} → SignerGhosts G → G → Host D → List Entry → Type 0
AreSent g signer after entries = All (IsPushAt g signer after.server.depth after.head.spi after.server.list) (pushes_sent entries)

module _ {D G : Type 0} (g : SignerGhosts G) (signer : G) (next after : Host D) (grows : Grows next after) where
  -- the pair of the last batch of a host that grew
  last_pair : (pair : PushPair) → IsLast g signer next pair
      → IsPairAt g signer after.server.depth after.head.spi after.server.list (length next.server.list) pair
  last_pair pair last =
      moved (λ depth spi list. IsPairAt g signer depth spi list (length next.server.list) pair) next after grows
      (pair_early next.server.depth next.server.list grows.later g signer next.head.spi pair last.stayed last.is_pair)

  pub sent_by : (answer : Answer) → Sends g signer answer next
      → All (IsPushAt g signer after.server.depth after.head.spi after.server.list) (pushes_by answer)
  sent_by answer sends =
      pushes_if g signer after.server.depth after.head.spi after.server.list (pair_by answer)
      (λ pair is. (length next.server.list, last_pair pair (sends pair is)))
