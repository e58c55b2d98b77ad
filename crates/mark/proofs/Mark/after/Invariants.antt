use Rattle.mark.proofs.Mark.after.Given as goal

abbrev pub ghost-chosen : goal.ghost-chosen
ghost-chosen g a = g.v
