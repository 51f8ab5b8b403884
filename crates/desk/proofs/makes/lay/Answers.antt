use Rattle.std.proofs.Common.{◌*◌, ◌≤◌, [], ◌∷◌, ap, subst, sym}
use Rattle.atomic_table.specs.Table.{opening}
use Rattle.desk.specs.declared.views.Terms.{Terms}
use Rattle.desk.specs.Opened.{terms_of}
use Rattle.desk.specs.Turns.{Stands, maker}
use Rattle.desk.proofs.Meetings.{starts}
use Rattle.desk.proofs.makes.lay.Goals as goal

pub new-requires : goal.new-requires
new-requires g c =
    let terms : Terms g.row.K-Entry.Denot g.row.K-Tag.Denot = terms_of g.K.Kept.listed g.K.Kept.tag (record { kept = c.of.result; passes = c.from.result; turns = c.args.turns }) in
    subst (λ slots. Stands g.K.Kept.listed g.K.Kept.spare g.K.Kept.tag terms (opening (0 ∷ 0 ∷ 0 ∷ []) slots (maker terms))) (sym c.in_ok-slots.ensures.ok)
    (starts g.K.Kept.listed g.K.Kept.spare g.K.Kept.tag terms c.args.kept (ap g.K.Kept.listed (sym c.of.ensures)) (ap g.K.Kept.tag (sym c.of.ensures))
    (subst (λ n. n * c.args.turns ≤ g.K.Kept.spare c.args.kept) (sym c.from.ensures) c.requires))
