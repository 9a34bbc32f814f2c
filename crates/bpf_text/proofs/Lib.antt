pub mod Faults
pub mod HexLines
pub mod HexLaw
pub mod LabelLines
pub mod Printing
pub mod Assembling
pub mod OneFault
pub mod TextLaws
pub mod ProgramBytes
mod Vectors
