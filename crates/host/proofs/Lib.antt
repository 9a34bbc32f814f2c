pub mod Results
mod Digits
mod Rewriting
mod OtherFailures
mod HexRefusals
mod MapArguments
mod KnownInputs
mod Judgements
mod MapLists
mod Vectors
