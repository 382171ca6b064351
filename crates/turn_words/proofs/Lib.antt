-- `Lending`, the call by its tests and its passes; `Kept`, which words it can change; `Turns`, the passes.
pub mod Turns
pub mod Lending
pub mod Kept
