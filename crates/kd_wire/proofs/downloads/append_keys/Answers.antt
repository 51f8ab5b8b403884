use Rattle.std.proofs.Common.{◌≡◌, ◌+◌, ◌*◌, ◌++◌, ℕ, List, [], ◌∷◌, length, take, append-nil, length-append, arith, ap, sym, ◌∙◌}
use Rattle.std.proofs.lemmas.List.{take_more}
use Rattle.std.proofs.lemmas.List.Concat.{flat_map-append}
use Rattle.group_terms.specs.declared.paths.PathKey.{PathKey}
use Rattle.kd_wire.proofs.TextLemmas.{one_more}
use Rattle.kd_wire.specs.Texts.{key_text, data_of, path_text}
use Rattle.kd_wire.specs.Widths.{lkh_key_octets}
use Rattle.kd_wire.proofs.downloads.append_keys.Goals as goal

pub loop-key-preserved : goal.loop-key-preserved
loop-key-preserved c =
    let path : List PathKey = c.args.keys.now in
    let place : ℕ = c.loop-key.key-index in
    let key : PathKey = c.key-item.result in
    let text : PathKey → List ℕ = λ one. key_text one.id one.made (data_of one.value) in
    let before : List PathKey = take place path in
    let written : List ℕ = path_text before in
    let so_far = c.loop-key.invariant.text in
    let one = one_more c.args.out.now written c.loop-key.out (text key) c.append_key.new.out so_far c.in_ok-append_key.ensures.ok in
    let front : before ++ key ∷ [] ≡ take (place + 1) path =
    ap (λ one. before ++ one ∷ []) c.key-item.is ∙ sym (take_more path place key c.loop-key-test.true) in
    let both : written ++ text key ≡ path_text (take (place + 1) path) =
    ap (λ octets. written ++ octets) (sym (append-nil (text key))) ∙ sym (flat_map-append text before (key ∷ [])) ∙ ap path_text front in
    let size : length (path_text (take (place + 1) path)) ≡ lkh_key_octets * (place + 1) =
    sym (ap length both) ∙ length-append written (text key) ∙ omega (arith, c.loop-key.invariant.size, c.in_ok-append_key.ensures.size) in
    record { text = one ∙ ap (λ octets. c.args.out.now ++ octets) both; size = size }
