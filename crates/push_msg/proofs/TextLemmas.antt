-- A text that was opened is kept with what it was opened from.
use Rattle.std.proofs.Common.{◌≡◌, ℕ, Bool, true, false, ◌&&◌, List, [], refl, sym, subst, subst₂, arith}
use Rattle.gd_cipher.specs.Chains.{IsOpened}

-- no octets are opened from none
pub nothing_opened : (key iv sealed text : List ℕ) → sealed ≡ [] → text ≡ [] → IsOpened key iv sealed text
nothing_opened key iv sealed text none nothing =
    subst₂ (IsOpened key iv) (sym none) (sym nothing) (record { whole = refl; len = refl; blocks = λ i within. absurd (omega arith) })

pub both_hold : (one other : Bool) → true ≡ one && other → (true ≡ one) × (true ≡ other)
both_hold true true holds = (refl, refl)
both_hold true false holds = absurd (cc)
both_hold false other holds = absurd (cc)

-- the same text, opened from the same octets under the same key
pub opened_alike : (key iv sealed other_key other_iv other text : List ℕ) → key ≡ other_key → iv ≡ other_iv → sealed ≡ other
    → IsOpened key iv sealed text → IsOpened other_key other_iv other text
opened_alike key iv sealed other_key other_iv other text keys ivs octets is =
    subst (λ k. IsOpened k other_iv other text) keys (subst (λ v. IsOpened key v other text) ivs (subst (λ of. IsOpened key iv of text) octets is))
