-- What contracts say of jobs.
pub mod Limits
