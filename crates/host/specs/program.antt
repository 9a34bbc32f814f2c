-- The command line: its arguments, its texts, its verdicts, its failures. This project's own.
pub mod Arguments
pub mod Texts
pub mod Judging
pub mod Shapes
pub mod Failure
pub mod Statuses
pub mod Decimal
