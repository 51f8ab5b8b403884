use Rattle.std.proofs.Common.{[], ◌++◌, ap, refl, sym, ◌∙◌}
use Rattle.std.proofs.lemmas.List.{append-nil, append_assoc}
use Rattle.hex.specs.Hex.{encode_lower, encode_with, lower_digits}
use Rattle.script_text.proofs.HexLemmas.{encode_with-append}
use Rattle.script_text.proofs.pushes.append_hex.Goals as goal

pub loop-rest-init : goal.loop-rest-init
unfolding encode_with
loop-rest-init c = ([], refl, sym (append-nil c.args.out.now))

pub loop-rest-preserved : goal.loop-rest-preserved
loop-rest-preserved c =
    let piece = c.split_at.result.0.now in
    let so_far = c.loop-rest.invariant in (
      so_far.0 ++ piece,
      so_far.1 ∙ ap (λ rest. so_far.0 ++ rest) c.split_at.ensures.by_index.0 ∙ sym (append_assoc so_far.0 piece c.split_at.result.1.now),
      c.in_ok-append_piece.ensures ∙ ap (λ text. text ++ encode_lower piece) so_far.2
          ∙ append_assoc c.args.out.now (encode_lower so_far.0) (encode_lower piece)
          ∙ ap (λ text. c.args.out.now ++ text) (sym (encode_with-append lower_digits so_far.0 piece)),
    )
