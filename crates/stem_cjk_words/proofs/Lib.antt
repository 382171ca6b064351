-- `Lending`, the call by what the test of its edges tells; `Kept`, which words it can change; and laws of its step.
pub mod Stems
pub mod Lending
pub mod Kept
