use Rattle.std.proofs.Common.{◌≡◌, ◌∙◌, ◌+◌, ◌∷◌, All, drop, get_or, set, sym, ap, subst, arith}
use Rattle.std.specs.List.{fold}
use Rattle.std.proofs.Math.Seq.{map-set_same}
use Rattle.std.proofs.lemmas.List.{drop-set-lt}
use Rattle.std.proofs.lemmas.List.Elements.{All-rest}
use Rattle.register_workers.specs.Lines.{IsReady}
use Rattle.register_workers.specs.declared.lines.BlockLine.{BlockLine}
use Rattle.group_run.specs.Private.Lendings.{all_with}
use Rattle.group_run.proofs.LendLemmas.{left_at}
use Rattle.group_run.proofs.lending.take_back_all.Goals as goal

pub loop-line-preserved : goal.loop-line-preserved
loop-line-preserved c =
    let was = c.loop-line.invariant in
    let lines = c.loop-line.lines in
    let i = c.loop-line.line-index in
    let line = get_or lines i c.line-item.result in
    let new = c.take_back_one.new.line in
    let left : drop i lines ≡ line ∷ drop (i + 1) lines = left_at lines i c.line-item.result (omega arith) in
    let after : drop (i + 1) (set lines i new) ≡ drop (i + 1) lines = drop-set-lt (i + 1) lines i new (omega arith) in
    record {
      ready = subst (All IsReady) (sym after) (All-rest IsReady line (drop (i + 1) lines) (drop i lines) left was.ready);
      all = ap (fold all_with c.take_back_one.new.members.all) after ∙ ap (λ all. fold all_with all (drop (i + 1) lines)) c.take_back_one.ensures.all
          ∙ sym (ap (fold all_with c.loop-line.members.all) left) ∙ was.all;
      place = c.take_back_one.ensures.place ∙ was.place;
      seen = map-set_same (λ (line : BlockLine). line.seen) lines i new c.line-item.result c.take_back_one.ensures.seen ∙ was.seen;
    }
