use Rattle.zulfringa.proofs.Meaning.{sessions_check}
use Rattle.zulfringa.proofs.sessions_stand.Goals as goal

pub returns : goal.returns
returns c = sessions_check
