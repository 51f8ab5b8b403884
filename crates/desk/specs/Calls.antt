-- What passes know of their own turns.
use Rattle.std.specs.Prelude.{◌≡◌, ℕ, ◌<◌, ◌==◌, List, length, slice_get, Some, All, AllPairs, sum_by, count_by}
use Rattle.desk.specs.declared.calls.Call.{Call}

module _ {E : Type 0} where
  -- what the history got since the making has the entry of a call at the place of the call
  abbrev pub StandsIn : List E → Call E → Type 0
  StandsIn news call = slice_get news call.place ≡ Some call.entry

  -- each call has a higher place than the calls before it
  abbrev pub IsRising : List (Call E) → Type 0
  IsRising calls = AllPairs (λ one later. one.place < later.place) calls

  -- how many of the calls have this place
  abbrev pub times : ℕ → List (Call E) → ℕ
  times place calls = count_by (λ call. call.place == place) calls

  -- The calls of all passes, a list for each pass, are just what the history got since the making: each call's entry is there at its place,
  -- each place is that of just one call, and each pass has its calls by rising place.
  pub record AreCallsOf (news : List E) (calls : List (List (Call E))) : Type 0 where
    pub stand : All (λ mine. All (StandsIn news) mine) calls
    pub once : (place : ℕ) → place < length news → sum_by (times place) calls ≡ 1
    pub rising : All IsRising calls
