-- What the calls of a desk promise.
use Rattle.std.specs.Prelude.{◌≡◌, ◌+◌, List, [], ◌∷◌, ◌++◌, length, map, All}
use Rattle.std.specs.List.{range_with_len}
use Rattle.desk.specs.declared.calls.Call.{Call}
use Rattle.desk.specs.declared.views.Terms.{Terms}
use Rattle.desk.specs.Calls.{AreCallsOf}
use Rattle.desk.specs.Views.{DeskId, Holder, StartsWith}

module _ {E G V A : Type 0} (relates : List E → V → E → A → Type 0) where
  -- One turn: `before` is the history as the turn found it, which begins with what the pass had seen. The turn put one entry at its end, to
  -- which event and answer belong, and the pass has seen all of it. The call is the pass's last one, and its place is the number of entries
  -- since the making that were there before.
  pub record IsTurn (start : List E) (event : V) (answer : A) (old new : Holder E G) : Type 0 where
    pub before : List E
    pub call : Call E
    pub goes_on : StartsWith before old.seen
    pub seen : new.seen ≡ before ++ call.entry ∷ []
    pub related : relates before event call.entry answer
    pub mine : new.mine ≡ old.mine ++ call ∷ []
    pub placed : length before ≡ length start + call.place

module _ {E G : Type 0} where
  -- As many passes as the terms say, by their numbers from 1, all of this desk. Each has seen the history as it was at the making, and none
  -- has made a turn.
  abbrev pub new_passes : DeskId E G → Terms E G → List (Holder E G)
  new_passes desk terms =
      map (λ number. record { desk = desk; number = number; seen = terms.start; mine = [] }) (range_with_len 1 terms.passes)

  -- what is known when all passes came back: the history is that of the making and what it got since, which is just the calls of the
  -- passes; it begins with all that a pass has seen
  pub record IsWhole (terms : Terms E G) (passes : List (Holder E G)) (history : List E) : Type 0 where
    pub news : List E
    pub history_is : history ≡ terms.start ++ news
    pub calls : AreCallsOf news (map (λ pass. pass.mine) passes)
    pub seen : All (λ pass. StartsWith history pass.seen) passes
