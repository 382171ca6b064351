-- `lowercase_m_list::table::empty_table` meets its contract.
use mathlib.Core.Path.{refl}
use Rattle.lowercase_m_list.specs.Table.{empty_table}
use Rattle.lowercase_m_list.proofs.table.empty_table.Goals as goal

pub returns : goal.returns
unfolding empty_table
returns c = refl
