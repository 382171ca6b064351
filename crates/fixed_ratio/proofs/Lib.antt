-- Laws on multiply-divide: `Products`, from halves and by signs; `Ratios`, how large it is; `Worked`, the values worked out by hand.
pub mod Products
pub mod Ratios
pub mod Worked
