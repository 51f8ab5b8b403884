use Rattle.std.proofs.Common.{◌≡◌, ◌∙◌, List, ℕ, ap, refl, arith}
use Rattle.gd_cipher.specs.Fields.{substitute}
use Rattle.gd_cipher.specs.Blocks.{sub_bytes, shift_rows}
use Rattle.gd_cipher.specs.Ciphers.{add_round_key, encrypted}
use Rattle.gd_cipher.specs.Words.{bytes_of}
use Rattle.gd_cipher.proofs.EquivalentLemmas.{mix_by_one}
use Rattle.gd_cipher.proofs.RunLemmas.{one_round, last_round}
use Rattle.gd_cipher.proofs.blocks.encrypt.Goals as goal

pub loop-round-init : goal.loop-round-init
loop-round-init c =
    one_round (bytes_of c.args.words.now) 1 (bytes_of c.args.state) (bytes_of c.with_key-first.result) (bytes_of c.forward-state.result) (omega arith) c.with_key-first.ensures
    (c.forward-state.ensures substitute 2 3 1 1 c.mixed.ensures)

pub loop-round-preserved : goal.loop-round-preserved
loop-round-preserved c =
    one_round (bytes_of c.args.words.now) c.loop-round.round (bytes_of c.args.state) (bytes_of c.loop-round.state) (bytes_of c.forward-next.result) (omega arith) c.loop-round.invariant
    (c.forward-next.ensures substitute 2 3 1 1 c.mixed-in-loop-round.ensures)

pub returns : goal.returns
returns c key are =
    let keys : List ℕ = bytes_of c.args.words.now in
    let last : c.loop-round.round ≡ c.args.rounds = omega arith in
    c.forward.ensures substitute 1 0 0 0 c.substituted.ensures
    ∙ ap (add_round_key keys c.args.rounds) (mix_by_one (shift_rows (sub_bytes (bytes_of c.loop-round.state))) refl)
    ∙ last_round keys c.loop-round.round c.args.rounds (bytes_of c.args.state) (bytes_of c.loop-round.state) last c.loop-round.invariant
    ∙ (λ i. encrypted (are.are i) (are.rounds_are i) (bytes_of c.args.state))
