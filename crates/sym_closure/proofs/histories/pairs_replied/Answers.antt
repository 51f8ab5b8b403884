use Rattle.std.proofs.Common.{◌≡◌, [], ◌++◌, sym, ap, ◌∙◌}
use Rattle.std.specs.List.{flat_map}
use Rattle.std.proofs.lemmas.List.{append-nil}
use Rattle.group_model.specs.Derivations.{reply_in, reply_pairs, told_pairs}
use Rattle.sym_closure.proofs.histories.pairs_replied.Goals as goal

pub returns-in_ok-add_keys-in-Some : goal.returns-in_ok-add_keys-in-Some
returns-in_ok-add_keys-in-Some c =
    let reply = c.in-Some.reply in
    let none : c.new-pairs.result ≡ [] = c.new-pairs.ensures in
    let names : c.as_slice.result.now ≡ reply.names = c.as_slice.ensures in
    let told : c.new-pairs.result ++ told_pairs reply.member c.as_slice.result.now ≡ reply_pairs reply = λ i. none i ++ told_pairs reply.member (names i) in
    c.in_ok-add_keys-in-Some.ensures ∙ told ∙ sym (append-nil (reply_pairs reply)) ∙ ap (λ replied. flat_map reply_pairs (reply_in replied)) (sym c.in-Some.is)
