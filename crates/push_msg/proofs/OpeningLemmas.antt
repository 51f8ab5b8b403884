-- The header and the opened text of a datagram are found once.
use Rattle.std.proofs.Common.{◌≡◌, ◌≤◌, ◌∙◌, ◌-◌, ℕ, List, length, take, drop, Result, Ok, Err, ap, sym, subst, arith}
use Rattle.std.proofs.lemmas.List.{take_rest}
use Rattle.gd_cipher.specs.Chains.{IsOpened}
use Rattle.gd_wire.specs.declared.chains.Part.{Part}
use Rattle.gd_wire.specs.declared.headers.Header.{Header}
use Rattle.group_terms.specs.declared.pushes.PushRefusal.{PushRefusal}
use Rattle.push_msg.specs.declared.bodies.OpenPush.{OpenPush}

abbrev head_in : Header → Result Header PushRefusal → Header
head_in other (Ok head) = head
head_in other (Err refusal) = other

pub same_head : (result : Result Header PushRefusal) (one other : Header) → result ≡ Ok one → result ≡ Ok other → one ≡ other
same_head result one other first second = ap (head_in one) (sym first ∙ second)

abbrev refusal_in : {A : Type 0} → PushRefusal → Result A PushRefusal → PushRefusal
refusal_in other (Ok value) = other
refusal_in other (Err refusal) = refusal

-- a refusal that is handed on
pub same_refusal : (result : Result (OpenPush × Part) PushRefusal) (one other : PushRefusal) → result ≡ Err one → result ≡ Err other → one ≡ other
same_refusal result one other first second = ap (refusal_in one) (sym first ∙ second)

abbrev value_in : (OpenPush × Part) → Result (OpenPush × Part) PushRefusal → OpenPush × Part
value_in other (Ok value) = value
value_in other (Err refusal) = other

pub same_value : (result : Result (OpenPush × Part) PushRefusal) (one other : OpenPush × Part) → result ≡ Ok one → result ≡ Ok other → one ≡ other
same_value result one other first second = ap (value_in one) (sym first ∙ second)

-- the text that was opened is the one that every opened text of the datagram is
pub same_text : (key iv datagram one other : List ℕ)
    → ((key iv sealed one other : List ℕ) → IsOpened key iv sealed one → IsOpened key iv sealed other → one ≡ other)
    → IsOpened key iv (take (length datagram - 28) (drop 28 datagram)) one → IsOpened key iv (drop 28 datagram) other → one ≡ other
same_text key iv datagram one other once first second =
    once key iv (drop 28 datagram) one other (subst (λ sealed. IsOpened key iv sealed one) (take_rest datagram 28) first) second

-- the same, of all octets after the header
pub opened_rest : (key iv datagram text : List ℕ) → IsOpened key iv (take (length datagram - 28) (drop 28 datagram)) text → IsOpened key iv (drop 28 datagram) text
opened_rest key iv datagram text = subst (λ sealed. IsOpened key iv sealed text) (take_rest datagram 28)
