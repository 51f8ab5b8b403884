-- Derivations that go on, and what no derivation reaches.
use Rattle.std.proofs.Common.{◌≡◌, ℕ, ◌+◌, ◌<◌, List, [], ◌∷◌, ◌++◌, length, take, drop, get_or, sym, refl, ap, ◌∙◌, subst, inl, inr}
use Rattle.std.specs.Prelude.{Contains}
use Rattle.std.proofs.lemmas.List.{append_assoc, append-nil, take_more, take-append-drop}
use Rattle.std.proofs.lemmas.List.Elements.{Contains-append_left, Contains-append_right, Contains-append_cases, Contains-push}
use Rattle.std.proofs.lemmas.List.Elements.{Contains-push_cases}
use Rattle.group_terms.specs.declared.keys.KeyName.{KeyName}
use Rattle.group_terms.specs.declared.keys.Wrap.{Wrap}
use Rattle.group_model.specs.Derivations.{IsAtHand, AreAtHand, IsDerivation, CanDerive}
use Rattle.sym_closure.specs.Firsts.{AreAmong}
use Rattle.sym_closure.specs.Private.Closed.{IsClosed}
use Rattle.sym_closure.proofs.FirstLemmas.{no_item, only_item, Contains-first}

module _ (have : List KeyName) (pairs : List Wrap) where
  pub AreAtHand-then : (earlier a b : List KeyName) → AreAtHand have pairs earlier a → AreAtHand have pairs (earlier ++ a) b → AreAtHand have pairs earlier (a ++ b)
  AreAtHand-then earlier [] b h k = subst (λ front. AreAtHand have pairs front b) (append-nil earlier) k
  AreAtHand-then earlier (name ∷ a) b h k = (h.0, AreAtHand-then (earlier ++ name ∷ []) a b h.1 (subst (λ front. AreAtHand have pairs front b) (sym (append_assoc earlier (name ∷ []) a)) k))

  pub AreAtHand-behind : (earlier a b : List KeyName) → AreAtHand have pairs earlier (a ++ b) → AreAtHand have pairs (earlier ++ a) b
  AreAtHand-behind earlier [] b h = subst (λ front. AreAtHand have pairs front b) (sym (append-nil earlier)) h
  AreAtHand-behind earlier (name ∷ a) b h = subst (λ front. AreAtHand have pairs front b) (append_assoc earlier (name ∷ []) a) (AreAtHand-behind (earlier ++ name ∷ []) a b h.1)

  -- what is at hand if nothing is held is so if something is
  pub AreAtHand-held : (earlier names : List KeyName) → AreAtHand [] pairs earlier names → AreAtHand have pairs earlier names
  AreAtHand-held earlier [] h = tt
  AreAtHand-held earlier (name ∷ names) h = (
    elim h.0 [
      | inl held ↦ absurd (no_item name held)
      | inr given ↦ inr given
    ],
    AreAtHand-held (earlier ++ name ∷ []) names h.1,
  )

  -- what is at hand stays so when others come
  IsAtHand-later : (earlier : List KeyName) (more name : KeyName) → IsAtHand have pairs earlier name
      → IsAtHand have pairs (earlier ++ more ∷ []) name
  IsAtHand-later earlier more name h = elim h [
    | inl held ↦ inl held
    | inr given ↦ inr (given.0, given.1, Contains-append_left earlier (more ∷ []) given.0.by given.2, given.3)
  ]

  -- keys of which each is at hand
  pub AreAtHand-each : (earlier names : List KeyName) → ((name : KeyName) → Contains names name → IsAtHand have pairs earlier name)
      → AreAtHand have pairs earlier names
  AreAtHand-each earlier [] each = tt
  AreAtHand-each earlier (name ∷ names) each = (
    each name (Contains-first name names),
    AreAtHand-each (earlier ++ name ∷ []) names (λ one c. IsAtHand-later earlier name one
        (each one (Contains-append_right (name ∷ []) names one c))),
  )

  pub CanDerive-held : (name : KeyName) → Contains have name → CanDerive have pairs name
  CanDerive-held name c = (name ∷ [], (inl c, tt), Contains-first name [])

  pub CanDerive-by : (pair : Wrap) → Contains pairs pair → CanDerive have pairs pair.by → CanDerive have pairs pair.gives
  CanDerive-by pair c h = (
    h.0 ++ pair.gives ∷ [],
    AreAtHand-then [] h.0 (pair.gives ∷ []) h.1 (inr (pair, c, h.2, refl), tt),
    Contains-push h.0 pair.gives,
  )

-- what holds of all keys that are held, and passes over each pair, holds of all that are derived
module _ (have : List KeyName) (pairs : List Wrap) (P : KeyName → Type 0) (held : (name : KeyName) → Contains have name → P name)
    (passes : (pair : Wrap) → Contains pairs pair → P pair.by → P pair.gives) where
  keeps : (earlier names : List KeyName) → ((name : KeyName) → Contains earlier name → P name) → AreAtHand have pairs earlier names
      → (name : KeyName) → Contains names name → P name
  keeps earlier [] before h name c = absurd (no_item name c)
  keeps earlier (first ∷ names) before h name c =
      let reached : P first = elim h.0 [
        | inl known ↦ held first known
        | inr given ↦ subst P given.3 (passes given.0 given.1 (before given.0.by given.2))
      ] in
      elim (Contains-append_cases (first ∷ []) names name c) [
        | inl here ↦ subst P (only_item first name here) reached
        | inr later ↦ keeps (earlier ++ first ∷ []) names (λ one k. elim (Contains-push_cases earlier first one k) [
          | inl old ↦ before one old
          | inr same ↦ subst P same reached
        ]) h.1 name later
      ]

  pub IsDerivation-keeps : (names : List KeyName) → IsDerivation have pairs names → (name : KeyName) → Contains names name → P name
  IsDerivation-keeps names h = keeps [] names (λ name c. absurd (no_item name c)) h

  pub CanDerive-keeps : (goal : KeyName) → CanDerive have pairs goal → P goal
  CanDerive-keeps goal h = IsDerivation-keeps h.0 h.1 goal h.2

-- whatever is derived is in a list that has what is held and is closed
pub CanDerive-there : (have : List KeyName) (pairs : List Wrap) (there : List KeyName) (goal : KeyName) → AreAmong have there
    → IsClosed pairs there → CanDerive have pairs goal → Contains there goal
CanDerive-there have pairs there goal held closed h = CanDerive-keeps have pairs (Contains there) held closed goal h

-- from more keys and pairs no less can be derived
AreAtHand-among : (have more : List KeyName) (pairs all : List Wrap) → AreAmong have more → AreAmong pairs all → (earlier names : List KeyName) → AreAtHand have pairs earlier names → AreAtHand more all earlier names
AreAtHand-among have more pairs all held sent earlier [] h = tt
AreAtHand-among have more pairs all held sent earlier (name ∷ names) h = (
  elim h.0 [
    | inl here ↦ inl (held name here)
    | inr given ↦ inr (given.0, sent given.0 given.1, given.2, given.3)
  ],
  AreAtHand-among have more pairs all held sent (earlier ++ name ∷ []) names h.1,
)

pub CanDerive-among : (have more : List KeyName) (pairs all : List Wrap) (goal : KeyName) → AreAmong have more → AreAmong pairs all → CanDerive have pairs goal → CanDerive more all goal
CanDerive-among have more pairs all goal held sent h = (h.0, AreAtHand-among have more pairs all held sent [] h.0 h.1, h.2)

pub IsDerivation-among : (have more : List KeyName) (pairs all : List Wrap) (names : List KeyName) → AreAmong have more → AreAmong pairs all
    → IsDerivation have pairs names → IsDerivation more all names
IsDerivation-among have more pairs all names held sent h = AreAtHand-among have more pairs all held sent [] names h

-- keys up to a place
module _ (have : List KeyName) (pairs : List Wrap) (names : List KeyName) (place : ℕ) (name : KeyName) (within : place < length names) (is : name ≡ get_or names place name) where
  front : take (place + 1) names ≡ take place names ++ name ∷ []
  front = take_more names place name within ∙ ap (λ one. take place names ++ one ∷ []) (sym is)

  pub IsDerivation-more : AreAtHand have pairs [] (take place names) → IsAtHand have pairs (take place names) name → AreAtHand have pairs [] (take (place + 1) names)
  IsDerivation-more before at_hand = subst (AreAtHand have pairs []) (sym front) (AreAtHand-then have pairs [] (take place names) (name ∷ []) before (at_hand, tt))

  pub IsDerivation-at : IsDerivation have pairs names → IsAtHand have pairs (take place names) name
  IsDerivation-at h =
      let rest = drop (place + 1) names in
      let whole : names ≡ take place names ++ name ∷ rest =
      sym (take-append-drop (place + 1) names) ∙ ap (λ before. before ++ rest) front ∙ append_assoc (take place names) (name ∷ []) rest in
      (AreAtHand-behind have pairs [] (take place names) (name ∷ rest) (subst (IsDerivation have pairs) whole h)).0
