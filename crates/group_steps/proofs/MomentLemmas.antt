-- Each moment of a history is the end of one.
use Rattle.std.proofs.Common.{◌≡◌, ◌⊎◌, List, [], ◌∷◌, ◌++◌, refl, subst, inl, inr}
use Rattle.group_model.specs.Answers.{BeginsWithOpening}
use Rattle.group_model.specs.declared.entries.Entry.{Entry}
use Rattle.group_steps.specs.Devices.{Devices, Keying}
use Rattle.group_steps.specs.Moments.{MomentsEndHistories}

none_before : (front later : List Entry) → front ++ later ≡ [] → front ≡ []
none_before [] later none = refl
none_before (entry ∷ front) later none = absurd (cc (none))

nothing_or : (P : Type 0) (front later : List Entry) → (front ++ later ≡ []) ⊎ P → (front ≡ []) ⊎ P
nothing_or P front later (inl none) = inl (none_before front later none)
nothing_or P front later (inr is) = inr is

begins_front : (front later : List Entry) → BeginsWithOpening (front ++ later) → BeginsWithOpening front
begins_front [] later is = tt
begins_front (first ∷ front) later is = (is.0, nothing_or _ front later is.1)

module _ {D G V : Type 0} (on : Devices D G V) (by : Keying G) where
  pub moments_end : MomentsEndHistories on by
  moments_end start entries after front mid history moment = record {
    begins = begins_front front moment.later (subst BeginsWithOpening moment.is history.begins);
    steps = moment.so_far;
  }
