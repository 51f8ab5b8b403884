-- What the definitions of members' steps give where another order of the blocks, a loss that stays due, or that nobody can take back, or a datagram that is
-- lost where another one overtakes it, would give something else.
use Rattle.std.proofs.Common.{◌≡◌, ◌∙◌, arith, true, false, inl, inr, ℕ, List, [], ◌∷◌, length, ap, refl, sym}
use Rattle.std.specs.Prelude.{if◌then◌else◌}
use Rattle.std.proofs.lemmas.Bool.{cases_Bool, cond-true, cond-false}
use Rattle.std.proofs.lemmas.List.{length-append}
use Rattle.group_model.specs.declared.entries.Answer.{Answer}
use Rattle.group_peers.specs.declared.members.Peer.{Peer}
use Rattle.group_peers.specs.Peers.{is_named, with_loss}
use Rattle.group_terms.specs.Names.{Name}
use Rattle.member_steps.specs.Drawn.{message_drawn, nonce_drawn, phase_drawn}
use Rattle.member_steps.specs.Acts.{ChangesLoss, Overtakes}
use Rattle.member_steps.specs.Members.{Mail, Members, with_all, with_mail_left}
use Rattle.member_steps.specs.Steps.{GoesMissing}

-- draws whose blocks have their place alone
abbrev block : ℕ → List ℕ
block place = place ∷ []

sa_of_five_blocks : (m : Name)
    → phase_drawn block 0 m ≡ record { member = m; cookies = 0 ∷ []; skeyid_a = 1 ∷ 2 ∷ []; key = 3 ∷ []; last = 4 ∷ [] }
sa_of_five_blocks m = refl

message_id_of_the_first_block : message_drawn block 0 ≡ 128 ∷ []
message_id_of_the_first_block = refl

nonce_of_the_second_block : nonce_drawn block 0 ≡ 1 ∷ []
nonce_of_the_second_block = refl

loss_is_over : (m : Name) (members next : Members) (answer : Answer) → GoesMissing m members answer next → next.all ≡ with_loss members.all m false
loss_is_over m members next answer missing = ap (λ (it : Members). it.all) missing.now

-- a datagram that was to go missing comes after all
abbrev comes_to : Name → Peer → Peer
comes_to m peer = if is_named m peer then record peer { loses = false } else peer

counts_last : (m : Name) (peer : Peer) → comes_to m (if is_named m peer then record peer { loses = true } else peer) ≡ comes_to m peer
counts_last m peer =
    let lost = record peer { loses = true } in
    let kept = record peer { loses = false } in
    elim (cases_Bool (is_named m peer)) [
      | inl here ↦ ap (comes_to m) (cond-true (is_named m peer) lost peer here) ∙ cond-true (is_named m peer) kept lost here
          ∙ sym (cond-true (is_named m peer) kept peer here)
      | inr other ↦ ap (comes_to m) (cond-false (is_named m peer) lost peer other)
    ]

last_loss_counts : (m : Name) (peers : List Peer) → with_loss (with_loss peers m true) m false ≡ with_loss peers m false
last_loss_counts m [] = refl
last_loss_counts m (peer ∷ peers) = λ i. counts_last m peer i ∷ last_loss_counts m peers i

comes_after_all : (m : Name) (members : Members)
    → ChangesLoss (with_all members (with_loss members.all m true)) (with_all members (with_loss members.all m false))
comes_after_all m members = record { m = m; loses = false; now = ap (with_all members) (sym (last_loss_counts m members.all)) }

-- of three datagrams the last one may come first; then the others come as they were sent
last_overtakes : (a b c : Mail) (members : Members) → members.mail ≡ a ∷ b ∷ c ∷ [] → Overtakes members (with_mail_left members (c ∷ a ∷ b ∷ []))
last_overtakes a b c members were = record { passed = a ∷ b ∷ []; mail = c; later = []; were = were; now = refl }

none_is_lost_by_that : (old new : Members) → Overtakes old new → length new.mail ≡ length old.mail
none_is_lost_by_that old new overtakes = omega (
  arith,
  ap (λ (members : Members). length members.mail) overtakes.now,
  ap length overtakes.were,
  length-append overtakes.passed overtakes.later,
  length-append overtakes.passed (overtakes.mail ∷ overtakes.later),
)
