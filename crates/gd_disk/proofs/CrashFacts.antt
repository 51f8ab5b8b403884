-- What the definitions of a disk distinguish: octets that were synced or not, a write that took place and one that was forgotten, and a write that
-- ends at the farthest place and one that goes past it.
use Rattle.std.proofs.Common.{◌≡◌, ℕ, ◌+◌, ◌-◌, ◌^◌, ◌≤◌, List, [], ◌∷◌, ◌++◌, length, take, drop, get_or, inl, inr, ap, sym, ◌∙◌, refl, arith, length-take}
use Rattle.std.proofs.lemmas.List.{take_at, drop_at}
use Rattle.gd_disk.specs.Disks.{written, Only}
use Rattle.gd_disk.specs.Media.{MayLeave, LeftSince}
use Rattle.gd_disk.specs.MediaLaws.{only_now_in}
use Rattle.gd_disk.specs.Private.Bounds.{Reaches}
use Rattle.gd_disk.specs.declared.events.Event.{Event}
use Rattle.gd_disk.specs.declared.events.Event.TheVariants.{Wrote, Synced}
use Rattle.gd_disk.proofs.TornLemmas.{Torn-same}

-- after a sync a crash leaves what a read gives and nothing else, whatever was done before
synced_octets_stay : (image : List ℕ) (earlier : List Event) → Only image (MayLeave image (Synced ∷ earlier))
synced_octets_stay image earlier c (inl is) = is
synced_octets_stay image earlier c (inr none) = absurd none

-- nor might one that came since have left anything else
synced_octets_stay_since : (image : List ℕ) (earlier : List Event) → Only image (LeftSince image (Synced ∷ earlier) (length (Synced ∷ earlier)))
synced_octets_stay_since image earlier c left = synced_octets_stay image earlier c (only_now_in image (Synced ∷ earlier) c left)

-- an octet that was written over another one
one_write : List Event
one_write = Wrote 0 (5 ∷ []) (1 ∷ []) ∷ []

-- before the sync the other one may come back, and after it no more
old_octet_may_come_back : MayLeave (5 ∷ []) one_write (1 ∷ [])
unfolding one_write
old_octet_may_come_back = inr (1 ∷ [], refl, Torn-same 0 1 (1 ∷ []))

old_octet_is_gone : MayLeave (5 ∷ []) (Synced ∷ one_write) (1 ∷ []) → ⊥
old_octet_is_gone left =
    let first : 1 ≡ 5 = ap (λ octets. get_or octets 0 0) (synced_octets_stay (5 ∷ []) one_write (1 ∷ []) left) in
    absurd (omega (arith, first))

-- a file stays as it was only if the octets that were written were there before
forgotten_write_had_the_same_octets : (file : List ℕ) (at : ℕ) (octets : List ℕ) → at ≤ length file → written file at octets ≡ file
    → take (length octets) (drop at file) ≡ octets
forgotten_write_had_the_same_octets file at octets within same =
    let rest : List ℕ = drop (at + length octets) file in
    let long : length (take at file) ≡ at = omega (arith, length-take at file) in
    let there : drop at (written file at octets) ≡ octets ++ rest = drop_at (take at file) (octets ++ rest) at long in
    ap (λ (all : List ℕ). take (length octets) (drop at all)) (sym same)
    ∙ ap (λ (left : List ℕ). take (length octets) left) there
    ∙ take_at octets rest (length octets) refl

octets_past_the_end : written (1 ∷ 2 ∷ []) 1 (7 ∷ 8 ∷ []) ≡ 1 ∷ 7 ∷ 8 ∷ []
octets_past_the_end = refl

-- the last octet within the farthest place may be written, and the next one not
last_octet : Reaches (Wrote (2 ^ 62 - 1) (7 ∷ []) [])
last_octet = omega arith

octet_past_the_farthest_place : Reaches (Wrote (2 ^ 62) (7 ∷ []) []) → ⊥
octet_past_the_farthest_place within = absurd (omega (arith, within))
