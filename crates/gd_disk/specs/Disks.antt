-- What the calls of a disk do to its octets, and what a crash may leave of them.
use Rattle.std.specs.Prelude.{◌≡◌, ◌⊎◌, ℕ, ◌+◌, ◌-◌, ◌≤◌, min, max, Bool, if◌then◌else◌, List, ◌++◌, length, take, drop, Option, Some, None}

-- the octets that a read gives, where the disk is honest and exposes them
abbrev pub known : {D : Type 0} → (D → Bool) → (D → Option (List ℕ)) → D → Option (List ℕ)
known honest image disk = if honest disk then image disk else None

-- what is known, if anything is, has this property
abbrev pub Knows : Option (List ℕ) → (List ℕ → Type 0) → Type 0
Knows octets P = (file : List ℕ) → octets ≡ Some file → P file

-- a read gave the octets from a place on, as many as are there and fit
pub record IsRead (file : List ℕ) (at room n : ℕ) (into : List ℕ) : Type 0 where
  pub count : n ≡ min room (length file - at)
  pub octets : take n into ≡ take n (drop at file)

-- a file with these octets written over it at a place
abbrev pub written : List ℕ → ℕ → List ℕ → List ℕ
written file at octets = take at file ++ (octets ++ drop (at + length octets) file)

-- a write of n octets that a crash or a failure cut short: any octets in its range and past the old end, and elsewhere the old ones
pub record Torn (at n : ℕ) (old new : List ℕ) : Type 0 where
  pub before : take (min at (length old)) new ≡ take at old
  pub after : drop (at + n) (take (length old) new) ≡ drop (at + n) old
  pub no_shorter : length old ≤ length new
  pub no_longer : length new ≤ max (length old) (at + n)

-- a cut that a crash or a failure may have stopped: some length between, and the old octets at the front
pub record Cut (to : ℕ) (old new : List ℕ) : Type 0 where
  pub same : take (length old) new ≡ take (length new) old
  pub no_shorter : min (length old) to ≤ length new
  pub no_longer : length new ≤ max (length old) to

-- what was known, if anything was, made this step to what is known now
abbrev pub Steps : (List ℕ → List ℕ → Type 0) → Option (List ℕ) → Option (List ℕ) → Type 0
Steps step old new = Knows old (λ file. (changed : List ℕ) × (new ≡ Some changed) × step file changed)

-- each image that a crash may leave now is an image that it might have left before, after this step
abbrev pub Follows : (List ℕ → List ℕ → Type 0) → (List ℕ → Type 0) → (List ℕ → Type 0) → Type 0
Follows step old new = (c : List ℕ) → new c → (d : List ℕ) × old d × step d c

-- each image that a crash may leave now is one that it might have left before
abbrev pub Narrows : (List ℕ → Type 0) → (List ℕ → Type 0) → Type 0
Narrows old new = (c : List ℕ) → new c → old c

-- a crash leaves this file and nothing else
abbrev pub Only : List ℕ → (List ℕ → Type 0) → Type 0
Only file may_leave = (c : List ℕ) → may_leave c → c ≡ file

-- time goes on: a crash since some moment might have left what it might have left before, or what it may leave now
pub record Elapses (before now : ℕ) (past since : ℕ → List ℕ → Type 0) (may_leave : List ℕ → Type 0) : Type 0 where
  pub later : before ≤ now
  pub nothing_else : (t : ℕ) (c : List ℕ) → t ≤ before → since t c → past t c ⊎ may_leave c
  pub keeps : (t : ℕ) (c : List ℕ) → t ≤ before → past t c → since t c
