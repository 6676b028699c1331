use Rattle.std.proofs.Common.{reverse}
use Rattle.lola_regular.proofs.Clean.{all_clean, all_written}
use Rattle.lola_values.proofs.Wide.{assigned_wide}
use Rattle.lola_values.proofs.laws.values_have_widths.Goals as goal

pub returns : goal.returns
returns c = λ S m name place e at equals sized written there said. assigned_wide c.what_numbers_elements.ensures (reverse S.modules) (all_clean S sized) (all_written S written) m there name place e at equals said
