use Rattle.std.proofs.Common.{◌≡◌, ℕ, List, [], ◌∷◌, ◌++◌, true, false, Result, Ok, Err, sym, ◌∙◌}
use Rattle.std.specs.Prelude.{OnOk, is_err}
use Rattle.std.proofs.lemmas.Bool.{true≢false}
use Rattle.std.proofs.lemmas.List.Elements.{All-push, All-same}
use Rattle.desk.specs.declared.passes.Pass.{Pass}
use Rattle.test_terms_and_desks.specs.declared.sums.Sums.{Sums}
use Rattle.test_terms_and_desks.proofs.desks.comes_back.Goals as goal

-- what holds where a call was well
well : {A E : Type 0} (answer : Result A E) (P : Type 0) → is_err answer ≡ false → OnOk answer P → P
well (Ok done) P fine is = is
well (Err why) P fine is = absurd (true≢false fine)

pub closed-requires : goal.closed-requires
closed-requires c =
    let Own : Pass Sums ℕ ℕ ℕ ℕ → Type 0 = λ pass. pass.desk ≡ c.args.open.desk.id in
    let all = All-push Own c.args.open.passes c.args.away c.requires.passes c.requires.away in
    All-same Own c.push.new.self (c.args.open.passes ++ c.args.away ∷ [])
    (well c.push.result (c.push.new.self ≡ c.args.open.passes ++ c.args.away ∷ []) (sym c.is_err.ensures.value ∙ c.if-is_err.false) c.push.ensures.ok) all
