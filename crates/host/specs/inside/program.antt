-- The command line: its arguments, its texts, its verdicts, its failures. This project's own.
pub mod Outcomes
pub mod Judgements
pub mod MapFields
pub mod Rewriting
pub mod Asked
pub mod Frames
