-- That every exported function determines its outcome.
pub mod Determined
