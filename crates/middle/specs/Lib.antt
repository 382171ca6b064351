-- Document 01, module 1: the middle of two coordinates and half their difference.
pub mod Middle
