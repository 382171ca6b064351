-- `lowercase_m_list::table::load` meets its contract: the front of the table is that of the list.
use Rattle.lowercase_m_list.specs.Table.{copied}
use Rattle.lowercase_m_list.proofs.table.load.Goals as goal

pub returns : goal.returns
unfolding copied
returns c = cc (c.copy_from_slice.ensures.after, c.min-n.ensures, c.empty_table-table.ensures)
