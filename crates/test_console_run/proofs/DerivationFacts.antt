-- What the definitions of derivations give where a wrong rule would give something else: pairs under no key that is held, a reply to somebody else, a key that is
-- told under itself, a coalition of two, keys in a second message, a fourth message that is told to nobody.
use Rattle.std.proofs.Common.{◌≡◌, ◌<◌, ◌⊎◌, ℕ, List, [], ◌∷◌, ◌++◌, None, Some, arith, inl, inr, refl}
use Rattle.std.specs.Prelude.{Contains}
use Rattle.group_terms.specs.Names.{Name}
use Rattle.group_terms.specs.declared.keys.KeyName.{KeyName}
use Rattle.group_terms.specs.declared.keys.KeyName.TheVariants.{Phase}
use Rattle.group_terms.specs.declared.keys.Wrap.{Wrap}
use Rattle.group_model.specs.Derivations.{CanDerive, IsDerivation, held_names, names_to, pairs_in, replies_in, told_pairs}
use Rattle.group_model.specs.declared.entries.Answer.TheVariants.{Datagram, Queued}
use Rattle.group_model.specs.declared.entries.SymReply.{SymReply}

no_item : {X : Type 0} (x : X) → Contains [] x → ⊥
no_item x c = omega (arith, c.1)

no_derivation : (pairs : List Wrap) (goal : KeyName) (names : List KeyName) → IsDerivation [] pairs names → Contains names goal → ⊥
no_derivation pairs goal [] at_hand there = no_item goal there
no_derivation pairs goal (name ∷ names) at_hand there = elim at_hand.0 [
  | inl held ↦ no_item name held
  | inr pair ↦ no_item pair.0.by pair.2
]

who_holds_nothing_derives_nothing : (pairs : List Wrap) (goal : KeyName) → CanDerive [] pairs goal → ⊥
who_holds_nothing_derives_nothing pairs goal can = no_derivation pairs goal can.0 can.1 can.2

key_told_to_a_member : (m : Name) (name : KeyName) → told_pairs m (name ∷ []) ≡ record { by = Phase m; gives = name } ∷ []
key_told_to_a_member m name = refl

reply_to_nobody : (reply : SymReply) → names_to [] reply ≡ []
reply_to_nobody reply = refl

reply_to_somebody_else : (reply : SymReply) → names_to ((98 ∷ []) ∷ []) (record reply { member = 97 ∷ [] }) ≡ []
reply_to_somebody_else reply = refl

reply_to_one_of_them : (reply : SymReply) → names_to ((98 ∷ []) ∷ (97 ∷ []) ∷ []) (record reply { member = 97 ∷ [] }) ≡ reply.names
reply_to_one_of_them reply = refl

both_hold : (a b : Name) → held_names [] (a ∷ b ∷ []) ≡ Phase a ∷ Phase b ∷ []
both_hold a b = refl

no_key_in_a_second_message : (octets : List ℕ) → pairs_in (Datagram octets None) ≡ []
no_key_in_a_second_message octets = refl

fourth_message_is_a_reply : (octets : List ℕ) (reply : SymReply) → replies_in (Datagram octets (Some reply)) ≡ reply ∷ []
fourth_message_is_a_reply octets reply = refl

fourth_message_is_told_to_its_member : (octets : List ℕ) (reply : SymReply) (name : KeyName)
    → pairs_in (Datagram octets (Some (record reply { names = name ∷ [] }))) ≡ record { by = Phase reply.member; gives = name } ∷ []
fourth_message_is_told_to_its_member octets reply name = refl

who_waits_is_told_nothing : pairs_in Queued ≡ []
who_waits_is_told_nothing = refl
