-- The text of a datagram, opened in place.
use Rattle.std.proofs.Common.{◌≡◌, ◌∙◌, ◌-◌, ◌++◌, ℕ, List, length, take, drop, sym, subst}
use Rattle.std.proofs.lemmas.List.{take_at, take_rest}
use Rattle.gd_cipher.specs.Chains.{IsOpened}

pub opened_in_place : (key iv datagram copy opened : List ℕ) → copy ≡ take (length datagram - 28) (drop 28 datagram)
    → IsOpened key iv copy opened
    → IsOpened key iv (drop 28 datagram) (take (length copy) (opened ++ drop (length opened) copy))
opened_in_place key iv datagram copy opened is opens =
    let same : take (length copy) (opened ++ drop (length opened) copy) ≡ opened = take_at opened (drop (length opened) copy) (length copy) opens.len in
    subst (IsOpened key iv (drop 28 datagram)) (sym same) (subst (λ sealed. IsOpened key iv sealed opened) (is ∙ take_rest datagram 28) opens)
