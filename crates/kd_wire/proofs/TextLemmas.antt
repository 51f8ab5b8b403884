-- Texts by their pieces.
use Rattle.std.proofs.Common.{◌≡◌, List, ◌++◌, ap, ◌∙◌, append_assoc}

-- one more piece that was appended
pub one_more : {A : Type 0} (before text now piece next : List A) → now ≡ before ++ text → next ≡ now ++ piece → next ≡ before ++ (text ++ piece)
one_more before text now piece next e f = f ∙ ap (λ all. all ++ piece) e ∙ append_assoc before text piece
