use Rattle.kind.proofs.statements.forms_stand.Goals as goal

pub returns : goal.returns
returns g c = record { back = g.K.Kind.laws.read_back; others = λ bs none f e. none f (g.K.Kind.laws.no_other bs f e) }
