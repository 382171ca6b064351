-- `lowercase_m_list::table::store` meets its contract: the front of the list is that of the table.
use Rattle.lowercase_m_list.specs.Table.{copied}
use Rattle.lowercase_m_list.proofs.table.store.Goals as goal

pub returns : goal.returns
unfolding copied
returns c = cc (c.copy_from_slice.ensures.after)
