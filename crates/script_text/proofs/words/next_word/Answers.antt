use Rattle.std.proofs.Common.{◌≡◌, ◌<◌, length, drop, arith}
use Rattle.std.proofs.lemmas.Grind.{common_steps}
use Rattle.std.specs.List.{prefix_len}
use Rattle.script_text.specs.Words.{is_space}
use Rattle.script_text.proofs.WordLemmas.{words_of-only_spaces, words_of-next}
use Rattle.script_text.proofs.words.next_word.Goals as goal

pub returns-then-is_empty : goal.returns-then-is_empty
returns-then-is_empty c =
    let none : length c.split_at.result.1.now ≡ 0 = grind (arith, common_steps) in
    words_of-only_spaces c.args.text.now c.split_at.result.1.now (cc) none

pub returns : goal.returns
returns c =
    let some : 0 < length c.split_at.result.1.now = grind (arith, common_steps) in
    let rest : c.split_at.result.1.now ≡ drop (prefix_len is_space c.args.text.now) c.args.text.now = cc in
    rw (c.split_at-2.ensures.front, c.split_at-2.ensures.back, c.octets_of_word.ensures.value)
    (words_of-next c.args.text.now c.split_at.result.1.now rest some)
