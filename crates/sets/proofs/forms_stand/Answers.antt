use Rattle.sets.proofs.Forms.{forms_stay, one_form, sides_make}
use Rattle.sets.proofs.Lengths.{few_made}
use Rattle.sets.proofs.forms_stand.Goals as goal

pub returns : goal.returns
returns c = record { stay = forms_stay; one = one_form; sides = sides_make; few = few_made }
