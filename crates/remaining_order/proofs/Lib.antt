-- `Stems`, remaining edges behind the stem pass; `Guard`, the guard behind remaining edges; the laws on order by subject: `Stores`, what a store of Latin's
-- leaves; `Found`, the done edges
-- around an edge; `Visits`, one visit, and all of them; `Goes`, what Latin's visits leave as it was; `Rising`, numbers; then `Latin` and `Cjk`, the theorems;
-- `Worked`, tables worked out by hand.
pub mod Stems
pub mod Guard
pub mod Stores
pub mod Found
pub mod Visits
pub mod Goes
pub mod Rising
pub mod Latin
pub mod Cjk
pub mod Worked
