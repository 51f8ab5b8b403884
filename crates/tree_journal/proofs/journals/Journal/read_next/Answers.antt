use Rattle.std.proofs.Common.{◌≡◌, ◌∙◌, ℕ, ◌+◌, List, [], ◌∷◌, length, Ok, ap, arith}
use Rattle.tree_journal.specs.Records.{bodies_from, with_front}
use Rattle.tree_journal.specs.Views.{View}
use Rattle.tree_journal.proofs.FrontLemmas.{found_read}
use Rattle.tree_journal.proofs.journals.Journal.read_next.Goals as goal

pub returns-clause-ahead : goal.returns-clause-ahead
returns-clause-ahead g c said file is =
    let at = c.args.self.now.at in
    let body : List ℕ = c.peek.new.body in
    let peeked = c.in_ok-peek.ensures in
    let passed : c.pass.new.self.at ≡ c.peek.new.self.at + 5 + length c.as_slice.result.now = ap (λ (journal : View g.row.D.Denot). journal.at) c.pass.ensures.moved in
    let place : at + (5 + length body) ≡ c.pass.new.self.at = omega (arith, passed, peeked.place, ap length c.as_slice.ensures) in
    found_read file at body (peeked.whole (λ i. Ok (c.if-not-branch.false i)) file is)
    ∙ ap (λ (k : ℕ). with_front (body ∷ []) (bodies_from file k)) place
