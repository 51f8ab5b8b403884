-- Laws of what a crash may leave of a disk in memory.
use Rattle.std.specs.Prelude.{◌≡◌, ℕ, List, [], ◌∷◌, length, Option, Some, None}
use Rattle.std.proofs.Common.{inl, inr, refl, ap, subst}
use Rattle.std.proofs.Math.Nat.{not-suc-le_self}
use Rattle.gd_disk.specs.declared.events.Event.{Event}
use Rattle.gd_disk.specs.Media.{MayLeave, LeftBefore, LeftSince}

-- the octets are one of the images that a crash may leave
pub image_stays : (image : List ℕ) (events : List Event) → MayLeave image events image
image_stays image [] = refl
image_stays image (event ∷ earlier) = inl refl

-- the octets that are known, or none
octets_of : Option (List ℕ) → List ℕ
octets_of None = []
octets_of (Some octets) = octets

-- what a read gives is one of the images that a crash may leave
pub read_stays : (image : List ℕ) (events : List Event) (file : List ℕ) → Some image ≡ Some file → MayLeave image events file
unfolding octets_of
read_stays image events file is = subst (λ c. MayLeave image events c) (ap octets_of is) (image_stays image events)

-- before the last event there is no moment that is as late as now
none_before : (image : List ℕ) (events : List Event) (c : List ℕ) → LeftBefore image events (length events) c → ⊥
none_before image [] c left = left
none_before image (event ∷ earlier) c left = not-suc-le_self (length earlier) left.0

-- since this moment a crash leaves what it may leave now
pub only_now_in : (image : List ℕ) (events : List Event) (c : List ℕ) → LeftSince image events (length events) c → MayLeave image events c
only_now_in image events c (inl now) = now
only_now_in image events c (inr left) = absurd (none_before image events c left)
