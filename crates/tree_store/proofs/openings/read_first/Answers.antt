use Rattle.std.proofs.Common.{◌≡◌, ◌∙◌, inr, ℕ, ◌+◌, List, [], length, refl, sym, ap, subst, Ok}
use Rattle.gd_disk.specs.MomentLaws.{leaves_now}
use Rattle.tree_journal.specs.Records.{IsRecordAt}
use Rattle.tree_journal.specs.Views.{View}
use Rattle.tree_store.proofs.openings.read_first.Goals as goal

pub returns-in-Some-clause-read : goal.returns-in-Some-clause-read
returns-in-Some-clause-read g c file is =
    let body = c.as_slice.result.now in
    let read = c.in_ok-read_next.ensures in
    let nine : c.args.journal.now.at ≡ 9 = ap (λ (journal : View g.row.D.Denot). journal.at) c.requires.began in
    let goes = ap (λ (journal : View g.row.D.Denot). journal.closed) c.requires.began in
    let there = subst (λ (k : ℕ). IsRecordAt file k body) nine
    (subst (λ (b : List ℕ). IsRecordAt file c.args.journal.now.at b) (sym c.as_slice.ensures) (read.whole (λ i. Ok (c.if-not-branch.false i)) file is)) in
    let moved : c.read_next.new.self.at ≡ 14 + length body =
    read.moved (λ i. Ok (c.if-not-branch.false i)) ∙ (λ i. nine i + 5 + length (sym c.as_slice.ensures i)) in
    (body, [], c.prove_at_rest.ensures.begins goes file is, (there, sym moved), c.in-Some.ensures.read, refl)

pub returns-in-None-clause-broken : goal.returns-in-None-clause-broken
returns-in-None-clause-broken g c place said =
    let body = c.as_slice.result.now in
    let nine : c.args.journal.now.at ≡ 9 = ap (λ (journal : View g.row.D.Denot). journal.at) c.requires.began in
    let goes = ap (λ (journal : View g.row.D.Denot). journal.closed) c.requires.began in
    let there : (file : List ℕ) → _ → IsRecordAt file 9 body = λ file is.
    subst (λ (k : ℕ). IsRecordAt file k body) nine
    (subst (λ (b : List ℕ). IsRecordAt file c.args.journal.now.at b) (sym c.as_slice.ensures)
    (c.in_ok-read_next.ensures.whole (λ i. Ok (c.if-not-branch.false i)) file is)) in
    let here : place ≡ 9 = cc (said, c.place-at.ensures, nine) in
    (here, λ file is. inr (inr (body, c.prove_at_rest.ensures.named goes file is, there file is, c.in-None.ensures.none)))

pub returns-in_err-read_next-clause-only : goal.returns-in_err-read_next-clause-only
returns-in_err-read_next-clause-only g c file is =
    let left = c.read_next.new.self.disk in
    let goes = ap (λ (journal : View g.row.D.Denot). journal.closed) c.requires.began in
    leaves_now g.D.Disk c.args.journal.now.disk left (λ k. k ≡ file) (g.met.D.Disk.counts_now left) (c.read_next.ensures.any_moment goes file is)

pub returns-then-not-branch-clause-only : goal.returns-then-not-branch-clause-only
returns-then-not-branch-clause-only g c file is =
    let left = c.read_next.new.self.disk in
    let goes = ap (λ (journal : View g.row.D.Denot). journal.closed) c.requires.began in
    leaves_now g.D.Disk c.args.journal.now.disk left (λ k. k ≡ file) (g.met.D.Disk.counts_now left) (c.read_next.ensures.any_moment goes file is)

pub returns-in-Some-clause-only : goal.returns-in-Some-clause-only
returns-in-Some-clause-only g c file is =
    let left = c.read_next.new.self.disk in
    let goes = ap (λ (journal : View g.row.D.Denot). journal.closed) c.requires.began in
    leaves_now g.D.Disk c.args.journal.now.disk left (λ k. k ≡ file) (g.met.D.Disk.counts_now left) (c.read_next.ensures.any_moment goes file is)

pub returns-in-None-clause-only : goal.returns-in-None-clause-only
returns-in-None-clause-only g c file is =
    let left = c.read_next.new.self.disk in
    let goes = ap (λ (journal : View g.row.D.Denot). journal.closed) c.requires.began in
    leaves_now g.D.Disk c.args.journal.now.disk left (λ k. k ≡ file) (g.met.D.Disk.counts_now left) (c.read_next.ensures.any_moment goes file is)
