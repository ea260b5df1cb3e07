use Rattle.theory.proofs.Setting.{assigned_less, assigned_more, setting_canonical}
use Rattle.theory.proofs.setting_stands.Goals as goal

pub returns : goal.returns
returns c = record { same = λ l s c. (assigned_less l s c, assigned_more l s c); canonical = setting_canonical }
