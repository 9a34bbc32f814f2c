pub mod program
pub mod inside
-- what public contracts cite of crates below
pub use Rattle.host_core.specs.Stream
pub use Rattle.host_core.specs.States
pub use Rattle.host_core.specs.Served
pub use Rattle.host_core.specs.Handled
pub use Rattle.host_core.specs.Laws
pub use Rattle.host_core.specs.Frame
pub use Rattle.host_core.specs.Alone
pub use Rattle.host_core.specs.State
